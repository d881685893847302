-- A merge place by place, and its laws.
use Rattle.std.proofs.Common.{◌≡◌, ℕ, ◌+◌, ◌<◌, Bool, true, false, cond, ◌&&◌, ℤ, pos, List, [], ◌∷◌, ◌++◌, length, get_or, drop, refl, ap, ◌∙◌, arith, add-one, drop-cons, append_assoc}
use Rattle.std.specs.Prelude.{int_lt}
use Rattle.std.proofs.lemmas.Int.{ints, int_max_is, int_min_is}
use Rattle.lucy_model.specs.Merging.{merged, merged_number}
use Rattle.lucy_model.specs.Ranges.{allows, all_allowed}
use Rattle.lucy_model.specs.Laws.{MergeCommutes, MergeAssociates, MergeIsIdempotent, MergeStaysInRange}
use Rattle.lucy_model.specs.declared.leaves.Kind.{Kind}
use Rattle.lucy_model.specs.declared.leaves.Kind.TheVariants.{Max, Min}
use Rattle.lucy_model.specs.declared.leaves.Leaf.{Leaf}

-- what is left to merge begins with the number at the place
merged-drop : (ls : List Leaf) (xs ys : List ℤ) (i : ℕ) (d : Leaf) → i < length ls → i < length xs → i < length ys → merged (drop i ls) (drop i xs) (drop i ys) ≡ merged_number (get_or ls i d).kind (get_or xs i (pos 0)) (get_or ys i (pos 0)) ∷ merged (drop (i + 1) ls) (drop (i + 1) xs) (drop (i + 1) ys)
merged-drop ls xs ys i d p q r = rw (add-one, drop-cons ls i d p, drop-cons xs i (pos 0) q, drop-cons ys i (pos 0) r) refl

pub merged_pushed : (ls : List Leaf) (xs ys ns ms : List ℤ) (i : ℕ) (d : Leaf) (n : ℤ) → i < length ls → length xs ≡ length ls → length ys ≡ length ls → d ≡ get_or ls i d → n ≡ merged_number d.kind (get_or xs i (pos 0)) (get_or ys i (pos 0)) → ns ++ merged (drop i ls) (drop i xs) (drop i ys) ≡ ms → (ns ++ n ∷ []) ++ merged (drop (i + 1) ls) (drop (i + 1) xs) (drop (i + 1) ys) ≡ ms
merged_pushed ls xs ys ns ms i d n below p q is here before =
    let next = merged-drop ls xs ys i d below (omega arith) (omega arith) in
    let kind = here ∙ ap (λ (l : Leaf). merged_number l.kind (get_or xs i (pos 0)) (get_or ys i (pos 0))) is in
    rw (append_assoc, kind, ← next) before

-- the laws of one number
one_of_both : (P : ℤ → Type 0) (kind : Kind) (x y : ℤ) → P x → P y → P (merged_number kind x y)
one_of_both P Max x y p q = elim (int_lt y x) as (λ b. P (cond b x y)) [ true ↦ p | false ↦ q ]
one_of_both P Min x y p q = elim (int_lt y x) as (λ b. P (cond b y x)) [ true ↦ q | false ↦ p ]

merged_number-comm : (kind : Kind) (x y : ℤ) → merged_number kind x y ≡ merged_number kind y x
merged_number-comm Max x y = grind (arith, ints, int_max_is)
merged_number-comm Min x y = grind (arith, ints, int_min_is)

merged_number-assoc : (kind : Kind) (x y z : ℤ) → merged_number kind (merged_number kind x y) z ≡ merged_number kind x (merged_number kind y z)
merged_number-assoc Max x y z = grind (arith, ints, int_max_is)
merged_number-assoc Min x y z = grind (arith, ints, int_min_is)

-- the laws of whole states
pub merged-comm : MergeCommutes
merged-comm [] xs ys = refl
merged-comm (leaf ∷ leaves) [] [] = refl
merged-comm (leaf ∷ leaves) [] (y ∷ ys) = refl
merged-comm (leaf ∷ leaves) (x ∷ xs) [] = refl
merged-comm (leaf ∷ leaves) (x ∷ xs) (y ∷ ys) = rw (merged_number-comm leaf.kind x y, merged-comm leaves xs ys) refl

pub merged-assoc : MergeAssociates
merged-assoc [] xs ys zs = refl
merged-assoc (leaf ∷ leaves) [] [] zs = refl
merged-assoc (leaf ∷ leaves) [] (y ∷ ys) [] = refl
merged-assoc (leaf ∷ leaves) [] (y ∷ ys) (z ∷ zs) = refl
merged-assoc (leaf ∷ leaves) (x ∷ xs) [] zs = refl
merged-assoc (leaf ∷ leaves) (x ∷ xs) (y ∷ ys) [] = refl
merged-assoc (leaf ∷ leaves) (x ∷ xs) (y ∷ ys) (z ∷ zs) = rw (merged_number-assoc leaf.kind x y z, merged-assoc leaves xs ys zs) refl

pub merged-idem : MergeIsIdempotent
merged-idem [] [] h = refl
merged-idem [] (x ∷ xs) h = absurd (omega arith)
merged-idem (leaf ∷ leaves) [] h = absurd (omega arith)
merged-idem (leaf ∷ leaves) (x ∷ xs) h =
    ap (λ (n : ℤ). n ∷ merged leaves xs xs) (one_of_both (λ n. n ≡ x) leaf.kind x x refl refl) ∙ ap (λ (ns : List ℤ). x ∷ ns) (merged-idem leaves xs (omega arith))

both : (a b : Bool) → (a && b) ≡ true → (a ≡ true) × (b ≡ true)
both true b h = (refl, h)
both false b h = absurd (grind (arith, h))

joined : (a b : Bool) → a ≡ true → b ≡ true → (a && b) ≡ true
joined a b p q = rw (p, q) refl

pub merged_allowed : MergeStaysInRange
merged_allowed [] xs ys p q = refl
merged_allowed (leaf ∷ leaves) [] ys p q = p
merged_allowed (leaf ∷ leaves) (x ∷ xs) [] p q = q
merged_allowed (leaf ∷ leaves) (x ∷ xs) (y ∷ ys) p q =
    let left = both (allows leaf x) (all_allowed leaves xs) p in
    let right = both (allows leaf y) (all_allowed leaves ys) q in
    joined (allows leaf (merged_number leaf.kind x y)) (all_allowed leaves (merged leaves xs ys)) (one_of_both (λ n. allows leaf n ≡ true) leaf.kind x y left.0 right.0) (merged_allowed leaves xs ys left.1 right.1)
