-- The entries of a pool.
use Rattle.std.proofs.Common.{◌≡◌, ℕ, ◌+◌, ◌≤◌, nat_le, Bool, true, ◌&&◌, ℤ, List, [], ◌∷◌, length, refl, ap, sym, subst, ◌∙◌, arith}
use Rattle.std.specs.Prelude.{IsTrue, Some}
use Rattle.std.proofs.lemmas.Bool.{and_parts}
use Rattle.std.proofs.lemmas.Bool.Decides.{nat_tests}
use Rattle.lucy_model.specs.declared.leaves.Leaf.{Leaf}
use Rattle.lucy_model.specs.Merging.{merged}
use Rattle.lucy_model.specs.Ranges.{allows, all_allowed}
use Rattle.lucy_plan.specs.Segments.{IsWhole}
use Rattle.lucy_plan.specs.declared.parts.PlanParts.{PlanParts}
use Rattle.lucy_expr.specs.Trees.{Tree, Merge, value}
use Rattle.lucy_expr.specs.Reachability.{IsReached}
use Rattle.lucy_walks.specs.Sketches.{size, are_seated}
use Rattle.lucy_walks.specs.declared.entries.Entry.{Entry}
use Rattle.lucy_walks.specs.Entries.{tree_in, IsEntry, Offers}

-- a merge has as many numbers as both states
pub merged_length : (object : List Leaf) (xs ys : List ℤ) → length xs ≡ length object → length ys ≡ length object → length (merged object xs ys) ≡ length object
merged_length [] xs ys h g = refl
merged_length (leaf ∷ leaves) [] ys h g = cc
merged_length (leaf ∷ leaves) (x ∷ xs) [] h g = cc
merged_length (leaf ∷ leaves) (x ∷ xs) (y ∷ ys) h g =
    let rest = merged_length leaves xs ys (omega (arith, h)) (omega (arith, g)) in omega (arith, rest)

allowed_length : (object : List Leaf) (xs : List ℤ) → all_allowed object xs ≡ true → length xs ≡ length object
allowed_length [] [] h = refl
allowed_length [] (x ∷ xs) h = absurd (cc)
allowed_length (leaf ∷ leaves) [] h = absurd (cc)
allowed_length (leaf ∷ leaves) (x ∷ xs) h = omega (arith, allowed_length leaves xs (and_parts (allows leaf x) (all_allowed leaves xs) h).1)

-- a state that satisfies the invariant has a number for each leaf
pub whole_length : (plan : PlanParts) (state : List ℤ) → IsWhole plan state → length state ≡ length plan.object
whole_length plan state h = allowed_length plan.object state (and_parts (all_allowed plan.object state) _ h).0

both : (a b : Bool) → a ≡ true → b ≡ true → (a && b) ≡ true
both a b p q = cc

small : (n : ℕ) → n ≤ 1000 → (nat_le n 1000 && true) ≡ true
small n h = grind (arith, nat_tests)

-- the merge of two entries is one, if it is small enough
pub merged_offer : (plan : PlanParts) (object : List Leaf) (left right entry : Entry) → IsEntry plan left → IsEntry plan right → object ≡ plan.object
    → tree_in entry ≡ Merge (tree_in left) (tree_in right) → entry.state ≡ merged object left.state right.state → entry.nodes ≡ left.nodes + right.nodes + 1 → entry.nodes ≤ 1000
    → Offers plan (Merge (tree_in left) (tree_in right)) (Some entry)
merged_offer plan object left right entry l r same tree state nodes few =
    let counted : entry.nodes ≡ size (tree_in left) + size (tree_in right) + 1 = omega (arith, nodes, l.nodes_is, r.nodes_is) in
    let most : size (tree_in left) + size (tree_in right) + 1 ≤ 1000 = omega (arith, few, counted) in
    let here : entry.state ≡ merged plan.object left.state right.state = subst (λ (o : List Leaf). entry.state ≡ merged o left.state right.state) same state in
    let values : entry.state ≡ merged plan.object (value plan plan.start (tree_in left)) (value plan plan.start (tree_in right)) =
    here
    ∙ ap (λ (x : List ℤ). merged plan.object x right.state) l.state_is
    ∙ ap (merged plan.object (value plan plan.start (tree_in left))) r.state_is in (
      small (size (tree_in left) + size (tree_in right) + 1) most,
      tree,
      record {
        reached = subst (IsReached plan) (sym tree) (l.reached, r.reached);
        state_is = subst (λ (t : Tree). entry.state ≡ value plan plan.start t) (sym tree) values;
        nodes_is = subst (λ (t : Tree). entry.nodes ≡ size t) (sym tree) counted;
        few = subst (λ (t : Tree). size t ≤ 1000) (sym tree) most;
        seated = subst (λ (t : Tree). IsTrue (are_seated t)) (sym tree) (both (are_seated (tree_in left)) (are_seated (tree_in right)) l.seated r.seated);
        even = ap length here ∙ merged_length plan.object left.state right.state l.even r.even;
      },
    )
