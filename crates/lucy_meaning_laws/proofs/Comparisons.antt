-- A difference stands to 0 as its sides stand to one another.
use Rattle.std.proofs.Common.{◌≡◌, ℤ, pos, ◌-ℤ◌, Bool, true, false, not, refl, sym, ap, arith}
use Rattle.std.specs.Ordering.{int_eq}
use Rattle.std.proofs.lemmas.Int.{ints}
use Rattle.std.proofs.lemmas.Bool.Decides.{Decides-int_eq}
use Rattle.lucy_model.specs.Conditions.{stands}
use Rattle.lucy_tree.specs.declared.terms.Relation.{Relation}
use Rattle.lucy_tree.specs.declared.terms.Relation.TheVariants as relation
use Rattle.lucy_gather.specs.Conditions.{op_of}
use Rattle.lucy_meaning_laws.specs.Meanings.{related}

-- two tests that pass together
same_tests : (a b : Bool) → (a ≡ true → b ≡ true) → (b ≡ true → a ≡ true) → a ≡ b
same_tests true b f g = sym (f refl)
same_tests false true f g = g refl
same_tests false false f g = refl

equal : (x y : ℤ) → int_eq (x -ℤ y) (pos 0) ≡ int_eq x y
equal x y =
    let zero = Decides-int_eq (x -ℤ y) (pos 0) in
    let same = Decides-int_eq x y in
    same_tests (int_eq (x -ℤ y) (pos 0)) (int_eq x y) (λ e. same.1 (let d : x -ℤ y ≡ pos 0 = zero.0 e in omega (arith, ints, d))) (λ e. zero.1 (let d : x ≡ y = same.0 e in omega (arith, ints, d)))

pub stands_as : (r : Relation) (x y : ℤ) → stands (op_of r) (x -ℤ y) ≡ related r x y
stands_as relation.LessEqual x y = same_tests _ _ (λ e. grind (arith, ints, e)) (λ e. grind (arith, ints, e))
stands_as relation.Less x y = same_tests _ _ (λ e. grind (arith, ints, e)) (λ e. grind (arith, ints, e))
stands_as relation.GreaterEqual x y = same_tests _ _ (λ e. grind (arith, ints, e)) (λ e. grind (arith, ints, e))
stands_as relation.Greater x y = same_tests _ _ (λ e. grind (arith, ints, e)) (λ e. grind (arith, ints, e))
stands_as relation.Equal x y = equal x y
stands_as relation.NotEqual x y = ap not (equal x y)
