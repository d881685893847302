-- Inequalities are the same exactly where they are equal: the laws of `==`.
use Rattle.std.proofs.Common.{◌≡◌, Bool, true, false, ◌==◌, ◌&&◌, ◌↔◌, IsTrue, eqb-true, ℤ, ℕ, List, [], ◌∷◌, ap, sym, ◌∙◌, refl, arith}
use Rattle.std.specs.Bool.{Decides}
use Rattle.std.specs.Cmp.{IsEquivalence, IsPartialEquivalence, partial_equiv_from_equiv, both_ways}
use Rattle.std.specs.Ordering.{int_eq}
use Rattle.std.proofs.lemmas.Bool.Decides.{nat_tests, Decides-int_eq}
use Rattle.lucy_clauses.specs.declared.parts.Part.{Part}
use Rattle.lucy_clauses.specs.Sums.{Form, form}
use Rattle.lucy_clauses.specs.Equality.{same_part, same_parts, same_form, EqualAtoms}

two_tests : (a b : Bool) → (a && b) ≡ true → (a ≡ true) × (b ≡ true)
two_tests true b h = (refl, h)
two_tests false b h = (h, absurd (cc))

both_tests : (a b : Bool) → a ≡ true → b ≡ true → (a && b) ≡ true
both_tests a b p q = ap (λ (x : Bool). x && b) p ∙ q

part : ℕ → ℤ → Part
part v x = record { variable = v; by = x }

one_number : (m n : ℕ) → m ≡ n → (m == n) ≡ true
one_number m n e = grind (arith, nat_tests, e)

part_is : (p q : Part) → same_part p q ≡ true → p ≡ q
unfolding part
part_is p q h =
    let t = two_tests (p.variable == q.variable) (int_eq p.by q.by) h in
    ap (λ (v : ℕ). part v p.by) (eqb-true p.variable q.variable t.0) ∙ ap (λ (x : ℤ). part q.variable x) ((Decides-int_eq p.by q.by).0 t.1)

part_itself : (p : Part) → same_part p p ≡ true
part_itself p = both_tests (p.variable == p.variable) (int_eq p.by p.by) (one_number p.variable p.variable refl) ((Decides-int_eq p.by p.by).1 refl)

parts_are : (ps qs : List Part) → same_parts ps qs ≡ true → ps ≡ qs
parts_are [] [] h = refl
parts_are [] (q ∷ qs) h = absurd (cc)
parts_are (p ∷ ps) [] h = absurd (cc)
parts_are (p ∷ ps) (q ∷ qs) h =
    let t = two_tests (same_part p q) (same_parts ps qs) h in
    ap (λ (r : Part). r ∷ ps) (part_is p q t.0) ∙ ap (λ (rs : List Part). q ∷ rs) (parts_are ps qs t.1)

parts_themselves : (ps : List Part) → same_parts ps ps ≡ true
parts_themselves [] = refl
parts_themselves (p ∷ ps) = both_tests (same_part p p) (same_parts ps ps) (part_itself p) (parts_themselves ps)

form_is : (t u : Form) → same_form t u ≡ true → t ≡ u
form_is t u h =
    let s = two_tests (same_parts t.parts u.parts) (int_eq t.bound u.bound) h in
    ap (λ (ps : List Part). form ps t.bound) (parts_are t.parts u.parts s.0) ∙ ap (λ (b : ℤ). form u.parts b) ((Decides-int_eq t.bound u.bound).0 s.1)

form_itself : (t : Form) → same_form t t ≡ true
form_itself t = both_tests (same_parts t.parts t.parts) (int_eq t.bound t.bound) (parts_themselves t.parts) ((Decides-int_eq t.bound t.bound).1 refl)

equal_gives : (t u : Form) → t ≡ u → same_form t u ≡ true
equal_gives t u e = ap (λ (v : Form). same_form t v) (sym e) ∙ form_itself t

pub form_decides : (t u : Form) → Decides (same_form t u) (t ≡ u)
form_decides t u = (form_is t u, equal_gives t u)

pub equal_atoms : EqualAtoms
equal_atoms t u = (form_is t u, equal_gives t u)

pub form_equivalence : IsEquivalence same_form
form_equivalence = record {
  refl = form_itself;
  symm = λ t u. both_ways (same_form t u) (same_form u t) (λ e. equal_gives u t (sym (form_is t u e))) (λ e. equal_gives t u (sym (form_is u t e)));
  congr = λ t u v e. ap (λ (w : Form). same_form w v) (form_is t u e);
}

pub form_partial_equivalence : IsPartialEquivalence same_form
form_partial_equivalence = partial_equiv_from_equiv form_equivalence

-- an answer that says whether two inequalities are equal is that of the test
pub is_same_form : (b : Bool) (t u : Form) → (IsTrue b ↔ (t ≡ u)) → b ≡ same_form t u
is_same_form b t u h = both_ways b (same_form t u) (λ e. equal_gives t u (h.0 e)) (λ e. h.1 (form_is t u e))
