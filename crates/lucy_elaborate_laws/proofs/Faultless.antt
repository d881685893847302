-- In parts that are in range there is no fault.
use Rattle.std.proofs.Common.{◌≡◌, ℕ, ◌+◌, ◌<◌, ◌≤◌, ◌^◌, ◌&&◌, nat_le, nat_lt, ◌==◌, min, ℤ, unsigned_abs, List, [], ◌∷◌, length, map, Bool, true, cond as if_then, Option, Some, None, refl, sym, ap, subst, ◌∙◌, arith}
use Rattle.std.specs.List.{list_all}
use Rattle.std.specs.Option.{option_or}
use Rattle.std.proofs.lemmas.Bool.{and_parts}
use Rattle.std.proofs.lemmas.Bool.Decides.{nat_tests}
use Rattle.std.proofs.Math.Nat.{min-le_left}
use Rattle.lucy_model.specs.Ranges.{allows, all_allowed}
use Rattle.lucy_model.specs.Terms.{are_shares, is_term, most_factor, most_constant}
use Rattle.lucy_model.specs.Conditions.{is_condition, range_step}
use Rattle.lucy_model.specs.declared.leaves.Leaf.{Leaf}
use Rattle.lucy_model.specs.declared.terms.Share.{Share}
use Rattle.lucy_model.specs.declared.terms.Term.{Term}
use Rattle.lucy_model.specs.declared.conditions.Condition.{Condition, map-Condition}
use Rattle.lucy_model.specs.declared.conditions.Condition.TheOpen.{Condition-F}
use Rattle.lucy_model.specs.declared.conditions.Condition.TheFolds.{fold-roll-Condition, ind-Condition}
use Rattle.lucy_plan.specs.declared.parts.Set.{Set}
use Rattle.lucy_plan.specs.declared.parts.Branch.{Branch}
use Rattle.lucy_plan.specs.declared.parts.Txn.{Txn}
use Rattle.lucy_plan.specs.declared.parts.Segment.{Segment}
use Rattle.lucy_plan.specs.declared.parts.PlanParts.{PlanParts}
use Rattle.lucy_plan.specs.declared.refusal.What.{What}
use Rattle.lucy_plan.specs.declared.refusal.What.TheVariants as what
use Rattle.lucy_plan.specs.declared.refusal.PlanError.{PlanError}
use Rattle.lucy_plan.specs.declared.refusal.PlanError.TheVariants.{Limit, BadStart, BadIndex}
use Rattle.lucy_plan.specs.Counts.{most_told, plan_nodes, plan_points}
use Rattle.lucy_plan.specs.Faults.{first_of, limit, factor_fault, slot_fault, order_fault, term_fault, place_fault, fault_step, condition_fault, set_fault, branch_fault, txn_fault, segment_fault, rule_fault, params_fault, range_fault, length_fault, start_fault, twice_fault, points_fault, size_fault, count_fault, index_fault, fault_of}
use Rattle.lucy_plan.specs.Plans.{is_set, is_branch, is_txn, is_segment, IsPlan}
use Rattle.lucy_elaborate_laws.proofs.Keeping.{no_fault}
use Rattle.lucy_elaborate_laws.proofs.Terms.{share_parts}

-- ---- one after another

neither : (o p : Option PlanError) → o ≡ no_fault → p ≡ no_fault → option_or o p ≡ no_fault
neither o p h k = ap (λ (x : Option PlanError). option_or x p) h ∙ k

chosen : (b : Bool) (o : Option PlanError) (e : PlanError) → b ≡ true → o ≡ no_fault → if_then b o (Some e) ≡ no_fault
chosen b o e h k = ap (λ t. if_then t o (Some e)) h ∙ k

limit_none : (w : What) (least most count : ℕ) → least ≤ count → count ≤ most → limit w least most count ≡ no_fault
limit_none w least most count h k = chosen (nat_le least count && nat_le count most) no_fault (Limit w count) (inside least most count h k) refl
  where
    inside : (least most count : ℕ) → least ≤ count → count ≤ most → (nat_le least count && nat_le count most) ≡ true
    inside least most count h k = grind (arith, nat_tests)

-- where each passes a test that rules a fault out, there is none
each_none : {X : Type 0} (test : X → Bool) (fault : X → Option PlanError) → ((x : X) → test x ≡ true → fault x ≡ no_fault) → (xs : List X) → list_all test xs ≡ true → first_of (map fault xs) ≡ no_fault
each_none test fault at [] h = refl
each_none test fault at (x ∷ xs) h =
    let parts = and_parts (test x) (list_all test xs) h in
    neither (fault x) (first_of (map fault xs)) (at x parts.0) (each_none test fault at xs parts.1)

-- ---- terms

record AreFine (from end : ℕ) (shares : List Share) : Type 0 where
  factors : factor_fault shares ≡ no_fault
  slots : slot_fault end shares ≡ no_fault
  orders : order_fault from shares ≡ no_fault

shares_fine : (from end : ℕ) (shares : List Share) → are_shares from end shares ≡ true → AreFine from end shares
shares_fine from end [] h = record { factors = refl; slots = refl; orders = refl }
shares_fine from end (x ∷ xs) h =
    let (a, b, c, d) = share_parts from end x.slot (unsigned_abs x.by) (are_shares (x.slot + 1) end xs) h in
    let rest = shares_fine (x.slot + 1) end xs d in
    record {
      factors = neither (limit what.Coefficient 0 most_factor (unsigned_abs x.by)) (factor_fault xs) (limit_none what.Coefficient 0 most_factor (unsigned_abs x.by) (omega arith) c) rest.factors;
      slots = chosen (nat_lt x.slot end) (slot_fault end xs) (BadIndex x.slot) (below x.slot end b) rest.slots;
      orders = chosen (nat_le from x.slot) (order_fault (x.slot + 1) xs) (BadIndex x.slot) (up from x.slot a) rest.orders;
    }
  where
    below : (n m : ℕ) → n < m → nat_lt n m ≡ true
    below n m h = grind (arith, nat_tests)

    up : (n m : ℕ) → n ≤ m → nat_le n m ≡ true
    up n m h = grind (arith, nat_tests)

term_parts : (a b : Bool) (n : ℕ) → (a && b && nat_le n most_constant) ≡ true → (a ≡ true) × (b ≡ true) × (n ≤ 2 ^ 62)
term_parts a b n h = grind (arith, nat_tests)

-- whatever the rule is that is asked
term_none : (rule : _) (leaves arguments : ℕ) (term : Term) → is_term leaves arguments term ≡ true → term_fault rule leaves arguments term ≡ no_fault
term_none rule leaves arguments term h =
    let parts = term_parts (are_shares 0 leaves term.leaves) (are_shares 0 arguments term.arguments) (unsigned_abs term.constant) h in
    let l = shares_fine 0 leaves term.leaves parts.0 in
    let a = shares_fine 0 arguments term.arguments parts.1 in
    let factors = neither (factor_fault term.leaves) (factor_fault term.arguments) l.factors a.factors in
    let constants = limit_none what.Constant 0 most_constant (unsigned_abs term.constant) (omega arith) parts.2 in
    let slots = neither (slot_fault leaves term.leaves) (slot_fault arguments term.arguments) l.slots a.slots in
    let orders = neither (order_fault 0 term.leaves) (order_fault 0 term.arguments) l.orders a.orders in
    grind (arith, factors, constants, slots, orders)

place_none : (rule : _) (end place : ℕ) → nat_lt place end ≡ true → place_fault rule end place ≡ no_fault
place_none rule end place h = let below = chosen (nat_lt place end) no_fault (BadIndex place) h refl in grind (arith, below)

-- ---- conditions

record IsFree (test : Condition → Bool) (fault : Condition → Option PlanError) (condition : Condition) : Type 0 where
  is : test condition ≡ true → fault condition ≡ no_fault

parts_none : (test : Condition → Bool) (fault : Condition → Option PlanError) (ys : List ((c : Condition) × IsFree test fault c))
    → list_all (λ (b : Bool). b) (map test (map (λ (e : ((c : Condition) × IsFree test fault c)). e.0) ys)) ≡ true
    → first_of (map fault (map (λ (e : ((c : Condition) × IsFree test fault c)). e.0) ys)) ≡ no_fault
parts_none test fault [] h = refl
parts_none test fault (y ∷ ys) h =
    let both = and_parts (test y.0) (list_all (λ (b : Bool). b) (map test (map (λ (e : ((c : Condition) × IsFree test fault c)). e.0) ys))) h in
    neither (fault y.0) (first_of (map fault (map (λ (e : ((c : Condition) × IsFree test fault c)). e.0) ys))) (y.1.is both.0) (parts_none test fault ys both.1)

layer_none : (rule : _) (leaves arguments : ℕ) (y : Condition-F ((c : Condition) × IsFree (is_condition leaves arguments) (condition_fault rule leaves arguments) c))
    → range_step leaves arguments (map-Condition Condition Bool (is_condition leaves arguments) (map-Condition ((c : Condition) × IsFree (is_condition leaves arguments) (condition_fault rule leaves arguments) c) Condition (λ e. e.0) y)) ≡ true
    → fault_step rule leaves arguments (map-Condition Condition (Option PlanError) (condition_fault rule leaves arguments) (map-Condition ((c : Condition) × IsFree (is_condition leaves arguments) (condition_fault rule leaves arguments) c) Condition (λ e. e.0) y)) ≡ no_fault
layer_none rule leaves arguments Condition-F.True h = refl
layer_none rule leaves arguments Condition-F.False h = refl
layer_none rule leaves arguments (Condition-F.Compare term op) h = term_none rule leaves arguments term h
layer_none rule leaves arguments (Condition-F.Is leaf) h = place_none rule leaves leaf h
layer_none rule leaves arguments (Condition-F.Not y) h = y.1.is h
layer_none rule leaves arguments (Condition-F.And ys) h = parts_none (is_condition leaves arguments) (condition_fault rule leaves arguments) ys h
layer_none rule leaves arguments (Condition-F.Or ys) h = parts_none (is_condition leaves arguments) (condition_fault rule leaves arguments) ys h
layer_none rule leaves arguments (Condition-F.Implies y z) h =
    let both = and_parts (is_condition leaves arguments y.0) (is_condition leaves arguments z.0) h in
    neither (condition_fault rule leaves arguments y.0) (condition_fault rule leaves arguments z.0) (y.1.is both.0) (z.1.is both.1)

is_free : (rule : _) (leaves arguments : ℕ) (condition : Condition) → IsFree (is_condition leaves arguments) (condition_fault rule leaves arguments) condition
is_free rule leaves arguments = ind-Condition (λ (c : Condition). IsFree (is_condition leaves arguments) (condition_fault rule leaves arguments) c) (λ x y e. record {
  is = λ h. fold-roll-Condition (Option PlanError) (fault_step rule leaves arguments) x
      ∙ subst (λ (z : Condition-F Condition). range_step leaves arguments (map-Condition Condition Bool (is_condition leaves arguments) z) ≡ true
      → fault_step rule leaves arguments (map-Condition Condition (Option PlanError) (condition_fault rule leaves arguments) z) ≡ no_fault) e (layer_none rule leaves arguments y)
      (sym (fold-roll-Condition Bool (range_step leaves arguments) x) ∙ h);
})

condition_none : (rule : _) (leaves arguments : ℕ) (condition : Condition) → is_condition leaves arguments condition ≡ true → condition_fault rule leaves arguments condition ≡ no_fault
condition_none rule leaves arguments condition h = (is_free rule leaves arguments condition).is h

-- ---- transactions and segments

set_none : (rule : _) (leaves arguments : ℕ) (change : Set) → is_set leaves arguments change ≡ true → set_fault rule leaves arguments change ≡ no_fault
set_none rule leaves arguments change h =
    let parts = and_parts (nat_lt change.leaf leaves) (is_term leaves arguments change.to) h in
    neither (place_fault rule leaves change.leaf) (term_fault rule leaves arguments change.to) (place_none rule leaves change.leaf parts.0) (term_none rule leaves arguments change.to parts.1)

branch_none : (rule : _) (leaves arguments : ℕ) (branch : Branch) → is_branch leaves arguments branch ≡ true → branch_fault rule leaves arguments branch ≡ no_fault
branch_none rule leaves arguments branch h =
    let parts = and_parts (is_condition leaves arguments branch.when) (list_all (is_set leaves arguments) branch.sets) h in
    neither (condition_fault rule leaves arguments branch.when) (first_of (map (set_fault rule leaves arguments) branch.sets)) (condition_none rule leaves arguments branch.when parts.0)
    (each_none (is_set leaves arguments) (set_fault rule leaves arguments) (set_none rule leaves arguments) branch.sets parts.1)

txn_none : (rule : _) (leaves : ℕ) (txn : Txn) → is_txn leaves txn ≡ true → txn_fault rule leaves txn ≡ no_fault
txn_none rule leaves txn h =
    let parts = and_parts (nat_le (length txn.params) 4) (list_all (is_branch leaves (length txn.params)) txn.branches) h in
    each_none (is_branch leaves (length txn.params)) (branch_fault rule leaves (length txn.params)) (branch_none rule leaves (length txn.params)) txn.branches parts.1

segment_none : (rule : _) (leaves txns : ℕ) (segment : Segment) → is_segment leaves txns segment ≡ true → segment_fault rule leaves txns segment ≡ no_fault
segment_none rule leaves txns segment h =
    let parts = and_parts (is_condition leaves 0 segment.condition) (list_all (λ txn. nat_lt txn txns) segment.txns) h in
    neither (condition_fault rule leaves 0 segment.condition) (first_of (map (place_fault rule txns) segment.txns)) (condition_none rule leaves 0 segment.condition parts.0)
    (each_none (λ txn. nat_lt txn txns) (place_fault rule txns) (place_none rule txns) segment.txns parts.1)

params_none : (leaves : ℕ) (txn : Txn) → is_txn leaves txn ≡ true → params_fault txn ≡ no_fault
params_none leaves txn h =
    let parts = and_parts (nat_le (length txn.params) 4) (list_all (is_branch leaves (length txn.params)) txn.branches) h in
    limit_none what.Arguments 0 4 (length txn.params) (omega arith) (few (length txn.params) parts.0)
  where
    few : (n : ℕ) → nat_le n 4 ≡ true → n ≤ 4
    few n h = grind (arith, nat_tests)

points_none : (from : ℕ) (object : List Leaf) (segments : List Segment) → list_all (λ segment. list_all (all_allowed object) segment.excepts) segments ≡ true → points_fault from object segments ≡ no_fault
points_none from object [] h = refl
points_none from object (segment ∷ segments) h =
    let parts = and_parts (list_all (all_allowed object) segment.excepts) (list_all (λ (s : Segment). list_all (all_allowed object) s.excepts) segments) h in
    chosen (list_all (all_allowed object) segment.excepts) (points_fault (from + 1) object segments) (BadIndex from) parts.0 (points_none (from + 1) object segments parts.1)

-- ---- the start

range_none : (from : ℕ) (object : List Leaf) (xs : List ℤ) → all_allowed object xs ≡ true → range_fault from object xs ≡ no_fault
range_none from [] [] h = refl
range_none from [] (x ∷ xs) h = refl
range_none from (leaf ∷ leaves) [] h = refl
range_none from (leaf ∷ leaves) (x ∷ xs) h =
    let parts = and_parts (allows leaf x) (all_allowed leaves xs) h in
    chosen (allows leaf x) (range_fault (from + 1) leaves xs) (BadStart from) parts.0 (range_none (from + 1) leaves xs parts.1)

even : (object : List Leaf) (xs : List ℤ) → all_allowed object xs ≡ true → length object ≡ length xs
even [] [] h = refl
even [] (x ∷ xs) h = absurd cc
even (leaf ∷ leaves) [] h = absurd cc
even (leaf ∷ leaves) (x ∷ xs) h = omega (arith, even leaves xs (and_parts (allows leaf x) (all_allowed leaves xs) h).1)

start_none : (plan : PlanParts) → all_allowed plan.object plan.start ≡ true → start_fault plan ≡ no_fault
start_none plan h =
    neither (range_fault 0 plan.object plan.start) (length_fault (length plan.object) (length plan.start)) (range_none 0 plan.object plan.start h)
    (same (length plan.object) (length plan.start) (even plan.object plan.start h))
  where
    equal : (n m : ℕ) → n ≡ m → (n == m) ≡ true
    equal n m e = grind (arith, nat_tests)

    same : (n m : ℕ) → n ≡ m → length_fault n m ≡ no_fault
    same n m e = chosen (n == m) no_fault (BadStart (min n m)) (equal n m e) refl

-- ---- the whole

rule_none : (plan : PlanParts) → IsPlan plan → (rule : _) → rule_fault rule plan ≡ no_fault
rule_none plan h rule =
    let leaves = length plan.object in
    let txns = length plan.txns in
    let in_txns = first_of (map (txn_fault rule leaves) plan.txns) in
    let in_segments = first_of (map (segment_fault rule leaves txns) plan.segments) in
    neither (condition_fault rule leaves 0 plan.invariant) (option_or in_txns in_segments) (condition_none rule leaves 0 plan.invariant h.invariant)
    (neither in_txns in_segments (each_none (is_txn leaves) (txn_fault rule leaves) (txn_none rule leaves) plan.txns h.txns)
    (each_none (is_segment leaves txns) (segment_fault rule leaves txns) (segment_none rule leaves txns) plan.segments h.segments))

-- the sums of a plan are within their limits, and no branch sets a leaf twice
pub record IsCounted (plan : PlanParts) : Type 0 where
  pub nodes : plan_nodes plan ≤ 4096
  pub points : plan_points plan ≤ 256
  pub once : first_of (map twice_fault plan.txns) ≡ no_fault

least_of : (n most : ℕ) → n ≤ most → min n most_told ≤ most
least_of n most h = omega (arith, min-le_left n most_told, h)

size_none : (plan : PlanParts) → IsPlan plan → IsCounted plan → size_fault plan ≡ no_fault
size_none plan h k =
    let leaves = limit_none what.Leaves 1 64 (length plan.object) h.leaves_some h.leaves_few in
    let nodes = limit_none what.Conditions 0 4096 (min (plan_nodes plan) most_told) (omega arith) (least_of (plan_nodes plan) 4096 k.nodes) in
    let rules = rule_none plan h in
    search (neither, leaves, rules, nodes)

count_none : (plan : PlanParts) → IsPlan plan → IsCounted plan → count_fault plan ≡ no_fault
count_none plan h k =
    let txns = limit_none what.Transactions 0 64 (length plan.txns) (omega arith) h.txns_few in
    let params = each_none (is_txn (length plan.object)) params_fault (params_none (length plan.object)) plan.txns h.txns in
    let segments = limit_none what.Segments 1 16 (length plan.segments) h.segments_some h.segments_few in
    let points = limit_none what.Points 0 256 (min (plan_points plan) most_told) (omega arith) (least_of (plan_points plan) 256 k.points) in
    let depth = limit_none what.Depth 16 2048 plan.depth h.depth_least h.depth_most in
    search (neither, txns, params, segments, points, depth)

index_none : (plan : PlanParts) → IsPlan plan → IsCounted plan → index_fault plan ≡ no_fault
index_none plan h k =
    let rules = rule_none plan h in
    let points = points_none 0 plan.object plan.segments h.points in
    search (neither, rules, k.once, points)

pub faultless : (plan : PlanParts) → IsPlan plan → IsCounted plan → fault_of plan ≡ None
faultless plan h k = search (neither, size_none plan h k, count_none plan h k, start_none plan h.start, index_none plan h k)
