-- The states of parts, and their merge.
use Rattle.std.proofs.Common.{◌≡◌, ◌+◌, ◌<◌, ℕ, ℤ, Bool, true, false, if◌then◌else◌, List, [], ◌∷◌, length, map, drop, get_or, refl, sym, ap, ◌∙◌, subst, arith}
use Rattle.std.specs.Prelude.{IsTrue, fold, Some, unwrap_or}
use Rattle.std.proofs.lemmas.List.{drop_more}
use Rattle.std.proofs.lemmas.Bool.{and_parts}
use Rattle.lucy_model.specs.declared.leaves.Leaf.{Leaf}
use Rattle.lucy_model.specs.Merging.{merged, merged_all}
use Rattle.lucy_model.specs.Ranges.{allows, all_allowed}
use Rattle.lucy_plan.specs.declared.parts.PlanParts.{PlanParts}
use Rattle.lucy_plan.specs.Laws.{SegmentIsWhole}
use Rattle.lucy_plan.specs.Segments.{IsWhole, is_whole, first_segment}
use Rattle.lucy_plan.specs.declared.parts.Call.{Call}
use Rattle.lucy_expr.specs.Trees.{Tree, Start, Apply, Merge, value}
use Rattle.lucy_expr.specs.Reachability.{IsReachable}
use Rattle.lucy_epochs.specs.declared.causes.By.{By}
use Rattle.lucy_epochs.specs.Records.{Record, next_opening, next_record}
use Rattle.lucy_epochs.specs.Rulings.{Ruling, opens}
use Rattle.lucy_epochs.specs.Contributions.{Contribution, AreFrom, AreOfOne, AreMade, AreEven, trees_of}

-- a merge has as many numbers as both states
pub merged_length : (object : List Leaf) (xs ys : List ℤ) → length xs ≡ length object → length ys ≡ length object → length (merged object xs ys) ≡ length object
merged_length [] xs ys h g = refl
merged_length (leaf ∷ leaves) [] ys h g = cc
merged_length (leaf ∷ leaves) (x ∷ xs) [] h g = cc
merged_length (leaf ∷ leaves) (x ∷ xs) (y ∷ ys) h g =
    let rest = merged_length leaves xs ys (omega (arith, h)) (omega (arith, g)) in omega (arith, rest)

allowed_length : (object : List Leaf) (xs : List ℤ) → IsTrue (all_allowed object xs) → length xs ≡ length object
allowed_length [] [] h = refl
allowed_length [] (x ∷ xs) h = cc
allowed_length (leaf ∷ leaves) [] h = cc
allowed_length (leaf ∷ leaves) (x ∷ xs) h =
    let rest = allowed_length leaves xs (and_parts (allows leaf x) (all_allowed leaves xs) h).1 in omega (arith, rest)

-- a state that satisfies the invariant has a number for each leaf
pub whole_length : (plan : PlanParts) (state : List ℤ) → IsWhole plan state → length state ≡ length plan.object
whole_length plan state h = allowed_length plan.object state (and_parts (all_allowed plan.object state) _ h).0

-- so has what is reachable
pub value_length : (plan : PlanParts) (segment : ℕ) (opening : List ℤ) (tree : Tree) → SegmentIsWhole → IsReachable plan segment opening tree
    → length (value plan opening tree) ≡ length plan.object
value_length plan segment opening Start whole h = whole_length plan opening (whole plan segment opening h)
value_length plan segment opening (Apply id call inner) whole h =
    whole_length plan (value plan opening (Apply id call inner)) (whole plan segment (value plan opening (Apply id call inner)) h.3)
value_length plan segment opening (Merge left right) whole h =
    merged_length plan.object (value plan opening left) (value plan opening right) (value_length plan segment opening left whole h.0) (value_length plan segment opening right whole h.1)

-- parts of one record have a number for each leaf of its plan
pub parts_even : (from : ℕ) (epoch : Record) (parts : List Contribution) → SegmentIsWhole → AreFrom from epoch parts → AreMade parts → AreEven epoch.plan.object parts
parts_even from epoch [] whole are made = tt
parts_even from epoch (part ∷ parts) whole are made =
    let even : length part.state ≡ length part.epoch.plan.object =
    ap length made.0.state_is ∙ value_length part.epoch.plan part.epoch.segment part.epoch.opening part.expression.tree whole made.0.reachable in
    (even ∙ ap (λ (e : Record). length e.plan.object) are.1, parts_even (from + 1) epoch parts whole are.2 made.1)

-- and their states are what their expressions give
pub parts_have_values : (from : ℕ) (epoch : Record) (parts : List Contribution) → AreFrom from epoch parts → AreMade parts
    → map (λ part. part.state) parts ≡ map (value epoch.plan epoch.opening) (trees_of parts)
parts_have_values from epoch [] are made = refl
parts_have_values from epoch (part ∷ parts) are made =
    let here : part.state ≡ value epoch.plan epoch.opening part.expression.tree =
    made.0.state_is ∙ ap (λ (e : Record). value e.plan e.opening part.expression.tree) are.1 in
    ap (λ (state : List ℤ). state ∷ map (λ part. part.state) parts) here
    ∙ ap (λ (states : List (List ℤ)). value epoch.plan epoch.opening part.expression.tree ∷ states) (parts_have_values (from + 1) epoch parts are.2 made.1)

-- the parts before a place are merged onto the first state
pub record IsMergedTo (object : List Leaf) (rest : List Contribution) (first : List ℤ) (place : ℕ) (state : List ℤ) : Type 0 where
  pub even : length state ≡ length object
  pub rest_even : AreEven object (drop place rest)
  pub same : fold (merged object) state (map (λ part. part.state) (drop place rest)) ≡ fold (merged object) first (map (λ part. part.state) rest)

pub merged_more : (object : List Leaf) (rest : List Contribution) (first : List ℤ) (place : ℕ) (part : Contribution) (state next : List ℤ)
    → place < length rest → part ≡ get_or rest place part → IsMergedTo object rest first place state → next ≡ merged object state part.state
    → IsMergedTo object rest first (place + 1) next
merged_more object rest first place part state next below at to is =
    let split : drop place rest ≡ part ∷ drop (place + 1) rest =
    drop_more rest place part below ∙ ap (λ (p : Contribution). p ∷ drop (place + 1) rest) (sym at) in
    let even = subst (AreEven object) split to.rest_even in
    let same = subst (λ (parts : List Contribution). fold (merged object) state (map (λ part. part.state) parts) ≡ fold (merged object) first (map (λ part. part.state) rest)) split to.same in
    record {
      even = ap length is ∙ merged_length object state part.state to.even even.0;
      rest_even = even.1;
      same = ap (λ (s : List ℤ). fold (merged object) s (map (λ part. part.state) (drop (place + 1) rest))) is ∙ same;
    }

-- what a call makes of the merge of parts, all of one record
pub merged_opening : (epoch : Record) (parts : List Contribution) → AreFrom 0 epoch parts → AreMade parts
    → merged_all epoch.plan.object (map (λ part. part.state) parts) ≡ merged_all epoch.plan.object (map (value epoch.plan epoch.opening) (trees_of parts))
merged_opening epoch parts are made = ap (merged_all epoch.plan.object) (parts_have_values 0 epoch parts are made)

-- parts of one record are of one
pub are_of_one : (epoch : Record) (parts : List Contribution) → AreFrom 0 epoch parts → AreOfOne parts
are_of_one epoch [] are = tt
are_of_one epoch (part ∷ parts) are = subst (λ (e : Record). AreFrom 0 e (part ∷ parts)) (sym are.1) are

-- the test of what a call makes of parts, computed from what is known to be the same
pub opens_is : (epoch given : Record) (parts taken : List Contribution) (call : Call) (raw : List ℤ) (plan : PlanParts) (test : Bool)
    → given ≡ epoch → taken ≡ parts → plan ≡ epoch.plan → raw ≡ next_opening given (trees_of taken) call → test ≡ is_whole plan raw → opens epoch parts call ≡ test
opens_is epoch given parts taken call raw plan test same_epoch same_parts same_plan is tested =
    let value : raw ≡ next_opening epoch (trees_of parts) call = rw (sym same_epoch, sym same_parts) is in
    let whole : test ≡ is_whole epoch.plan (next_opening epoch (trees_of parts) call) = rw (sym value, sym same_plan) tested in
    sym whole

-- the record after another, computed from what is known to be the same
pub next_is : (epoch given : Record) (parts taken : List Contribution) (call : Call) (by : By) (raw : List ℤ) (next : Record)
    → given ≡ epoch → taken ≡ parts → raw ≡ next_opening given (trees_of taken) call
    → next ≡ record { number = given.number + 1; segment = unwrap_or (first_segment given.plan raw) 0; opening = raw; plan = given.plan; by = Some by }
    → next ≡ next_record epoch (trees_of parts) call by
next_is epoch given parts taken call by raw next same_epoch same_parts is made =
    let value : raw ≡ next_opening epoch (trees_of parts) call = rw (sym same_epoch, sym same_parts) is in
    let from : Record → List ℤ → Record = λ e r. record { number = e.number + 1; segment = unwrap_or (first_segment e.plan r) 0; opening = r; plan = e.plan; by = Some by } in
    made ∙ ap (λ (e : Record). from e raw) same_epoch ∙ ap (from epoch) value

-- a choice that is known
pub first_chosen : (test : Bool) (x y z : Ruling) → test ≡ true → z ≡ x → z ≡ (if test then x else y)
first_chosen true x y z known same = same
first_chosen false x y z known same = cc

pub second_chosen : (test : Bool) (x y z : Ruling) → test ≡ false → z ≡ y → z ≡ (if test then x else y)
second_chosen true x y z known same = cc
second_chosen false x y z known same = same
