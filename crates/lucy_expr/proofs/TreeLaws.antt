-- The laws of expressions.
use Rattle.std.proofs.Common.{◌≡◌, ℕ, zero, suc, ◌+◌, ◌<◌, ◌≤◌, ◌==◌, max, ◌⊎◌, inl, inr, ⊎_elim, Bool, true, false, if◌then◌else◌, List, [], ◌∷◌, ◌++◌, length, get_or, refl, ap, sym, ◌∙◌, nat_le, arith}
use Rattle.std.specs.Prelude.{Contains}
use Rattle.std.proofs.lemmas.Bool.{eqb-true, leb-true}
use Rattle.std.proofs.lemmas.Bool.Decides.{nat_tests}
use Rattle.std.proofs.lemmas.List.Elements.{Contains-append_left, Contains-append_right, Contains-append_cases}
use Rattle.lucy_expr.specs.Trees.{Tree, Start, Apply, Merge, spine, nodes, ids, reach}
use Rattle.lucy_expr.specs.Laws.{SpineBeginsWithItself, SpineEndsWithStart, SpineIsInTree, MergeKeepsIds, ReachCoversIds, ReachIsReached, ClosedSegmentHoldsValues, ClosedWholeHoldsValues}
use Rattle.lucy_expr.specs.declared.ids.Id.{Id}

-- ---- elements of a list with a first element
here_or_later_at : {X : Type 0} (x y : X) (xs : List X) (k : ℕ) → k < length (x ∷ xs) → get_or (x ∷ xs) k y ≡ y → (x ≡ y) ⊎ Contains xs y
here_or_later_at x y xs zero below e = inl e
here_or_later_at x y xs (suc k) below e = inr (k, omega arith, e)

here_or_later : {X : Type 0} (x y : X) (xs : List X) → Contains (x ∷ xs) y → (x ≡ y) ⊎ Contains xs y
here_or_later x y xs h = here_or_later_at x y xs h.0 h.1 h.2

later : {X : Type 0} (x y : X) (xs : List X) → Contains xs y → Contains (x ∷ xs) y
later x y xs h = Contains-append_right (x ∷ []) xs y h

here : {X : Type 0} (x y : X) (xs : List X) → x ≡ y → Contains (x ∷ xs) y
here x y xs e = (0, omega arith, e)

none_in_nil : {X : Type 0} (x : X) → Contains [] x → ⊥
none_in_nil x h = let below = h.1 in omega arith

-- ---- spines
pub spine_begins : SpineBeginsWithItself
spine_begins Start = ([], refl)
spine_begins (Apply id call inner) = (spine inner, refl)
spine_begins (Merge left right) = (spine left, refl)

pub spine_ends : SpineEndsWithStart
spine_ends Start = ([], refl)
spine_ends (Apply id call inner) =
    let rest = spine_ends inner in (Apply id call inner ∷ rest.0, ap (λ (trees : List Tree). Apply id call inner ∷ trees) rest.1)
spine_ends (Merge left right) =
    let rest = spine_ends left in (Merge left right ∷ rest.0, ap (λ (trees : List Tree). Merge left right ∷ trees) rest.1)

pub spine_in_tree : SpineIsInTree
spine_in_tree Start node h = h
spine_in_tree (Apply id call inner) node h =
    ⊎_elim (λ e. here (Apply id call inner) node (nodes inner) e) (λ c. later (Apply id call inner) node (nodes inner) (spine_in_tree inner node c))
    (here_or_later (Apply id call inner) node (spine inner) h)
spine_in_tree (Merge left right) node h =
    ⊎_elim (λ e. here (Merge left right) node (nodes left ++ nodes right) e)
    (λ c. later (Merge left right) node (nodes left ++ nodes right) (Contains-append_left (nodes left) (nodes right) node (spine_in_tree left node c)))
    (here_or_later (Merge left right) node (spine left) h)

-- ---- ids
pub merge_ids : MergeKeepsIds
merge_ids left right id = (
  λ h. Contains-append_cases (ids left) (ids right) id h,
  λ h. ⊎_elim (λ c. Contains-append_left (ids left) (ids right) id c) (λ c. Contains-append_right (ids left) (ids right) id c) h,
)

own_reach : (id : Id) → (if id.replica == id.replica then id.count + 1 else 0) ≡ id.count + 1
own_reach id = grind arith

pub reach_covers : ReachCoversIds
reach_covers Start id h = absurd (none_in_nil id h)
reach_covers (Apply made call inner) id h =
    ⊎_elim
    (λ e. let own = own_reach id in
    let same = ap (λ (i : Id). if i.replica == id.replica then i.count + 1 else 0) e in
    omega (arith, own, same))
    (λ c. let below = reach_covers inner id c in omega (arith, below))
    (here_or_later made id (ids inner) h)
reach_covers (Merge left right) id h =
    ⊎_elim
    (λ c. let below = reach_covers left id c in omega (arith, below))
    (λ c. let below = reach_covers right id c in omega (arith, below))
    (Contains-append_cases (ids left) (ids right) id h)

-- ---- closed segments
pub segment_holds : ClosedSegmentHoldsValues
segment_holds plan segment opening Start closed h = h
segment_holds plan segment opening (Apply id call inner) closed h = h.3
segment_holds plan segment opening (Merge left right) closed h =
    closed _ _ (segment_holds plan segment opening left closed h.0) (segment_holds plan segment opening right closed h.1)

pub whole_holds : ClosedWholeHoldsValues
whole_holds plan Start closed h = h
whole_holds plan (Apply id call inner) closed h = h.2
whole_holds plan (Merge left right) closed h = closed _ _ (whole_holds plan left closed h.0) (whole_holds plan right closed h.1)

-- ---- reaches that are reached
-- one of two numbers is the greater
max_at : (m n : ℕ) (b : Bool) → nat_le n m ≡ b → (max m n ≡ m) ⊎ (max m n ≡ n)
max_at m n true e = inl (let below : n ≤ m = leb-true n m e in omega arith)
max_at m n false e = inr (let below : m ≤ n = grind (arith, nat_tests, e) in omega arith)

max_is : (m n : ℕ) → (max m n ≡ m) ⊎ (max m n ≡ n)
max_is m n = max_at m n (nat_le n m) refl

-- an id whose reach is asked for counts
own_counts : (id : Id) (replica : ℕ) (b : Bool) → (id.replica == replica) ≡ b → 0 < (if b then id.count + 1 else 0) → (id.replica ≡ replica) × (id.count + 1 ≡ (if b then id.count + 1 else 0))
own_counts id replica true e h = (eqb-true id.replica replica e, refl)
own_counts id replica false e h = absurd (omega (arith, h))

pub reach_reached : ReachIsReached
reach_reached Start replica h = absurd (omega (arith, h))
reach_reached (Apply made call inner) replica h =
    ⊎_elim
    (λ e. let own = own_counts made replica (made.replica == replica) refl (omega (arith, e, h)) in
    (made, here made made (ids inner) refl, own.0, own.1 ∙ sym e))
    (λ e. let found = reach_reached inner replica (omega (arith, e, h)) in
    (found.0, later made found.0 (ids inner) found.1, found.2, found.3 ∙ sym e))
    (max_is (if made.replica == replica then made.count + 1 else 0) (reach replica inner))
reach_reached (Merge left right) replica h =
    ⊎_elim
    (λ e. let found = reach_reached left replica (omega (arith, e, h)) in
    (found.0, Contains-append_left (ids left) (ids right) found.0 found.1, found.2, found.3 ∙ sym e))
    (λ e. let found = reach_reached right replica (omega (arith, e, h)) in
    (found.0, Contains-append_right (ids left) (ids right) found.0 found.1, found.2, found.3 ∙ sym e))
    (max_is (reach replica left) (reach replica right))
