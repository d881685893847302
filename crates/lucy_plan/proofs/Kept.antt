-- What is known of parts in which there is no fault.
use Rattle.std.proofs.Common.{◌≡◌, ℕ, ◌+◌, ◌≤◌, nat_le, nat_lt, ◌==◌, min, Bool, true, false, ◌&&◌, if◌then◌else◌, ℤ, unsigned_abs, List, [], ◌∷◌, map, length, Option, None, Some, is_none, refl, sym, ◌∙◌, arith}
use Rattle.std.specs.List.{list_all}
use Rattle.std.specs.Option.{option_or}
use Rattle.std.proofs.lemmas.Bool.Decides.{nat_tests}
use Rattle.std.proofs.Math.Path.{subst}
use Rattle.lucy_model.specs.Ranges.{allows, all_allowed}
use Rattle.lucy_model.specs.Terms.{are_shares, is_term, most_factor, most_constant}
use Rattle.lucy_model.specs.Conditions.{is_condition, range_step}
use Rattle.lucy_model.specs.declared.leaves.Leaf.{Leaf}
use Rattle.lucy_model.specs.declared.terms.Share.{Share}
use Rattle.lucy_model.specs.declared.terms.Term.{Term}
use Rattle.lucy_model.specs.declared.conditions.Condition.{Condition}
use Rattle.lucy_model.specs.declared.conditions.Condition.TheOpen.{Condition-F}
use Rattle.lucy_model.specs.declared.conditions.Condition.TheFolds.{fold-roll-Condition, ind-Condition, map-Condition}
use Rattle.lucy_plan.specs.declared.parts.Set.{Set}
use Rattle.lucy_plan.specs.declared.parts.Branch.{Branch}
use Rattle.lucy_plan.specs.declared.parts.Txn.{Txn}
use Rattle.lucy_plan.specs.declared.parts.Segment.{Segment}
use Rattle.lucy_plan.specs.declared.parts.PlanParts.{PlanParts}
use Rattle.lucy_plan.specs.declared.refusal.What.{What}
use Rattle.lucy_plan.specs.declared.refusal.What.TheVariants as what
use Rattle.lucy_plan.specs.declared.refusal.PlanError.{PlanError}
use Rattle.lucy_plan.specs.declared.refusal.PlanError.TheVariants.{Limit, BadStart, BadIndex}
use Rattle.lucy_plan.specs.declared.rules.Rule.{Rule}
use Rattle.lucy_plan.specs.declared.rules.Rule.TheVariants.{Factors, Constants, Slots, Orders}
use Rattle.lucy_plan.specs.Counts.{most_told, plan_nodes, plan_points}
use Rattle.lucy_plan.specs.Faults.{first_of, limit, factor_fault, slot_fault, order_fault, term_fault, place_fault, fault_step, condition_fault, set_fault, branch_fault, txn_fault, segment_fault, rule_fault, params_fault, range_fault, length_fault, start_fault, twice_fault, points_fault, size_fault, count_fault, index_fault, fault_of}
use Rattle.lucy_plan.specs.Plans.{is_plan, is_set, is_branch, is_txn, is_segment, IsPlan}

-- one fault after another

pub none_both : (o p : Option PlanError) → option_or o p ≡ None → (o ≡ None) × (p ≡ None)
none_both None p h = (refl, h)
none_both (Some e) p h = absurd (cc)

passed : (b : Bool) (o : Option PlanError) (e : PlanError) → (if b then o else Some e) ≡ None → (b ≡ true) × (o ≡ None)
passed true o e h = (refl, h)
passed false o e h = absurd (cc)

both_true : (a b : Bool) → a ≡ true → b ≡ true → (a && b) ≡ true
both_true a b p q = grind (arith, nat_tests)

within : (what : What) (least most count : ℕ) → limit what least most count ≡ None → (least ≤ count) × (count ≤ most)
within what least most count h =
    let both = (passed (nat_le least count && nat_le count most) None (Limit what count) h).0 in
    (omega (arith, split.0 both), omega (arith, split.1 both))
  where
    split : ((nat_le least count && nat_le count most) ≡ true → least ≤ count) × ((nat_le least count && nat_le count most) ≡ true → count ≤ most)
    split = (λ e. grind (arith, nat_tests), λ e. grind (arith, nat_tests))

-- terms

shares_kept : (from end : ℕ) (shares : List Share) → factor_fault shares ≡ None → slot_fault end shares ≡ None → order_fault from shares ≡ None → are_shares from end shares ≡ true
shares_kept from end [] f s o = refl
shares_kept from end (share ∷ shares) f s o =
    let factor = none_both (limit what.Coefficient 0 most_factor (unsigned_abs share.by)) (factor_fault shares) f in
    let small = within what.Coefficient 0 most_factor (unsigned_abs share.by) factor.0 in
    let slot = passed (nat_lt share.slot end) (slot_fault end shares) (BadIndex share.slot) s in
    let order = passed (nat_le from share.slot) (order_fault (share.slot + 1) shares) (BadIndex share.slot) o in
    four (nat_le from share.slot) (nat_lt share.slot end) (unsigned_abs share.by) (are_shares (share.slot + 1) end shares) order.0 slot.0 small.1 (shares_kept (share.slot + 1) end shares factor.1 slot.1 order.1)
  where
    four : (a b : Bool) (n : ℕ) (d : Bool) → a ≡ true → b ≡ true → n ≤ most_factor → d ≡ true → (a && b && nat_le n most_factor && d) ≡ true
    four a b n d p q r t = grind (arith, nat_tests)

term_kept : (leaves arguments : ℕ) (term : Term) → ((rule : Rule) → term_fault rule leaves arguments term ≡ None) → is_term leaves arguments term ≡ true
term_kept leaves arguments term h =
    let factors = none_both (factor_fault term.leaves) (factor_fault term.arguments) (h Factors) in
    let constant = within what.Constant 0 most_constant (unsigned_abs term.constant) (h Constants) in
    let slots = none_both (slot_fault leaves term.leaves) (slot_fault arguments term.arguments) (h Slots) in
    let orders = none_both (order_fault 0 term.leaves) (order_fault 0 term.arguments) (h Orders) in
    three (are_shares 0 leaves term.leaves) (are_shares 0 arguments term.arguments) (unsigned_abs term.constant) (shares_kept 0 leaves term.leaves factors.0 slots.0 orders.0) (shares_kept 0 arguments term.arguments factors.1 slots.1 orders.1) constant.1
  where
    three : (a b : Bool) (n : ℕ) → a ≡ true → b ≡ true → n ≤ most_constant → (a && b && nat_le n most_constant) ≡ true
    three a b n p q r = grind (arith, nat_tests)

place_kept : (end place : ℕ) → place_fault Slots end place ≡ None → nat_lt place end ≡ true
place_kept end place h = (passed (nat_lt place end) None (BadIndex place) h).0

-- conditions

record IsKept (leaves arguments : ℕ) (condition : Condition) : Type 0 where
  is : ((rule : Rule) → condition_fault rule leaves arguments condition ≡ None) → is_condition leaves arguments condition ≡ true

parts_kept : (leaves arguments : ℕ) (ys : List ((c : Condition) × IsKept leaves arguments c)) →
    ((rule : Rule) → first_of (map (condition_fault rule leaves arguments) (map (λ (e : ((c : Condition) × IsKept leaves arguments c)). e.0) ys)) ≡ None) →
    list_all (λ (b : Bool). b) (map (is_condition leaves arguments) (map (λ (e : ((c : Condition) × IsKept leaves arguments c)). e.0) ys)) ≡ true
parts_kept leaves arguments [] h = refl
parts_kept leaves arguments (y ∷ ys) h =
    both_true (is_condition leaves arguments y.0) (list_all (λ (b : Bool). b) (map (is_condition leaves arguments) (map (λ (e : ((c : Condition) × IsKept leaves arguments c)). e.0) ys)))
    (y.1.is (λ rule. (none_both (condition_fault rule leaves arguments y.0) (first_of (map (condition_fault rule leaves arguments) (map (λ (e : ((c : Condition) × IsKept leaves arguments c)). e.0) ys))) (h rule)).0))
    (parts_kept leaves arguments ys (λ rule. (none_both (condition_fault rule leaves arguments y.0) (first_of (map (condition_fault rule leaves arguments) (map (λ (e : ((c : Condition) × IsKept leaves arguments c)). e.0) ys))) (h rule)).1))

layer_kept : (leaves arguments : ℕ) (y : Condition-F ((c : Condition) × IsKept leaves arguments c)) →
    ((rule : Rule) → fault_step rule leaves arguments (map-Condition Condition (Option PlanError) (condition_fault rule leaves arguments) (map-Condition ((c : Condition) × IsKept leaves arguments c) Condition (λ e. e.0) y)) ≡ None) →
    range_step leaves arguments (map-Condition Condition Bool (is_condition leaves arguments) (map-Condition ((c : Condition) × IsKept leaves arguments c) Condition (λ e. e.0) y)) ≡ true
layer_kept leaves arguments Condition-F.True h = refl
layer_kept leaves arguments Condition-F.False h = refl
layer_kept leaves arguments (Condition-F.Compare term op) h = term_kept leaves arguments term h
layer_kept leaves arguments (Condition-F.Is leaf) h = place_kept leaves leaf (h Slots)
layer_kept leaves arguments (Condition-F.Not y) h = y.1.is h
layer_kept leaves arguments (Condition-F.And ys) h = parts_kept leaves arguments ys h
layer_kept leaves arguments (Condition-F.Or ys) h = parts_kept leaves arguments ys h
layer_kept leaves arguments (Condition-F.Implies y z) h =
    both_true (is_condition leaves arguments y.0) (is_condition leaves arguments z.0)
    (y.1.is (λ rule. (none_both (condition_fault rule leaves arguments y.0) (condition_fault rule leaves arguments z.0) (h rule)).0))
    (z.1.is (λ rule. (none_both (condition_fault rule leaves arguments y.0) (condition_fault rule leaves arguments z.0) (h rule)).1))

kept : (leaves arguments : ℕ) (condition : Condition) → IsKept leaves arguments condition
kept leaves arguments = ind-Condition (λ (c : Condition). IsKept leaves arguments c) (λ x y e.
    record {
      is = λ h. fold-roll-Condition Bool (range_step leaves arguments) x
          ∙ subst (λ (z : Condition-F Condition). ((rule : Rule) → fault_step rule leaves arguments (map-Condition Condition (Option PlanError) (condition_fault rule leaves arguments) z) ≡ None) → range_step leaves arguments (map-Condition Condition Bool (is_condition leaves arguments) z) ≡ true)
          e (layer_kept leaves arguments y) (λ rule. sym (fold-roll-Condition (Option PlanError) (fault_step rule leaves arguments) x) ∙ h rule);
    })

condition_kept : (leaves arguments : ℕ) (condition : Condition) → ((rule : Rule) → condition_fault rule leaves arguments condition ≡ None) → is_condition leaves arguments condition ≡ true
condition_kept leaves arguments condition h = (kept leaves arguments condition).is h

-- lists of parts

each_kept : {X : Type 0} (fault : Rule → X → Option PlanError) (test : X → Bool) → ((x : X) → ((rule : Rule) → fault rule x ≡ None) → test x ≡ true) → (xs : List X) → ((rule : Rule) → first_of (map (fault rule) xs) ≡ None) → list_all test xs ≡ true
each_kept fault test at [] h = refl
each_kept fault test at (x ∷ xs) h =
    both_true (test x) (list_all test xs)
    (at x (λ rule. (none_both (fault rule x) (first_of (map (fault rule) xs)) (h rule)).0))
    (each_kept fault test at xs (λ rule. (none_both (fault rule x) (first_of (map (fault rule) xs)) (h rule)).1))

set_kept : (leaves arguments : ℕ) (change : Set) → ((rule : Rule) → set_fault rule leaves arguments change ≡ None) → is_set leaves arguments change ≡ true
set_kept leaves arguments change h =
    both_true (nat_lt change.leaf leaves) (is_term leaves arguments change.to)
    (place_kept leaves change.leaf (none_both (place_fault Slots leaves change.leaf) (term_fault Slots leaves arguments change.to) (h Slots)).0)
    (term_kept leaves arguments change.to (λ rule. (none_both (place_fault rule leaves change.leaf) (term_fault rule leaves arguments change.to) (h rule)).1))

branch_kept : (leaves arguments : ℕ) (branch : Branch) → ((rule : Rule) → branch_fault rule leaves arguments branch ≡ None) → is_branch leaves arguments branch ≡ true
branch_kept leaves arguments branch h =
    both_true (is_condition leaves arguments branch.when) (list_all (is_set leaves arguments) branch.sets)
    (condition_kept leaves arguments branch.when (λ rule. (none_both (condition_fault rule leaves arguments branch.when) (first_of (map (set_fault rule leaves arguments) branch.sets)) (h rule)).0))
    (each_kept (λ rule. set_fault rule leaves arguments) (is_set leaves arguments) (set_kept leaves arguments) branch.sets
    (λ rule. (none_both (condition_fault rule leaves arguments branch.when) (first_of (map (set_fault rule leaves arguments) branch.sets)) (h rule)).1))

txns_kept : (leaves : ℕ) (txns : List Txn) → first_of (map params_fault txns) ≡ None → ((rule : Rule) → first_of (map (txn_fault rule leaves) txns) ≡ None) → list_all (is_txn leaves) txns ≡ true
txns_kept leaves [] p h = refl
txns_kept leaves (txn ∷ txns) p h =
    let params = none_both (params_fault txn) (first_of (map params_fault txns)) p in
    let few = within what.Arguments 0 4 (length txn.params) params.0 in
    let branches = each_kept (λ rule. branch_fault rule leaves (length txn.params)) (is_branch leaves (length txn.params)) (branch_kept leaves (length txn.params)) txn.branches
    (λ rule. (none_both (txn_fault rule leaves txn) (first_of (map (txn_fault rule leaves) txns)) (h rule)).0) in
    both (length txn.params) (list_all (is_branch leaves (length txn.params)) txn.branches) (list_all (is_txn leaves) txns) few.1 branches
    (txns_kept leaves txns params.1 (λ rule. (none_both (txn_fault rule leaves txn) (first_of (map (txn_fault rule leaves) txns)) (h rule)).1))
  where
    both : (n : ℕ) (b c : Bool) → n ≤ 4 → b ≡ true → c ≡ true → (nat_le n 4 && b && c) ≡ true
    both n b c p q r = grind (arith, nat_tests)

segment_kept : (leaves txns : ℕ) (segment : Segment) → ((rule : Rule) → segment_fault rule leaves txns segment ≡ None) → is_segment leaves txns segment ≡ true
segment_kept leaves txns segment h =
    both_true (is_condition leaves 0 segment.condition) (list_all (λ txn. nat_lt txn txns) segment.txns)
    (condition_kept leaves 0 segment.condition (λ rule. (none_both (condition_fault rule leaves 0 segment.condition) (first_of (map (place_fault rule txns) segment.txns)) (h rule)).0))
    (places (segment.txns) (none_both (condition_fault Slots leaves 0 segment.condition) (first_of (map (place_fault Slots txns) segment.txns)) (h Slots)).1)
  where
    places : (xs : List ℕ) → first_of (map (place_fault Slots txns) xs) ≡ None → list_all (λ txn. nat_lt txn txns) xs ≡ true
    places [] p = refl
    places (x ∷ xs) p =
        let parts = none_both (place_fault Slots txns x) (first_of (map (place_fault Slots txns) xs)) p in
        both_true (nat_lt x txns) (list_all (λ txn. nat_lt txn txns) xs) (place_kept txns x parts.0) (places xs parts.1)

points_kept : (from : ℕ) (object : List Leaf) (segments : List Segment) → points_fault from object segments ≡ None → list_all (λ segment. list_all (all_allowed object) segment.excepts) segments ≡ true
points_kept from object [] h = refl
points_kept from object (segment ∷ segments) h =
    let parts = passed (list_all (all_allowed object) segment.excepts) (points_fault (from + 1) object segments) (BadIndex from) h in
    both_true (list_all (all_allowed object) segment.excepts) (list_all (λ segment. list_all (all_allowed object) segment.excepts) segments) parts.0 (points_kept (from + 1) object segments parts.1)

start_kept : (from : ℕ) (object : List Leaf) (xs : List ℤ) → length object ≡ length xs → range_fault from object xs ≡ None → all_allowed object xs ≡ true
start_kept from [] [] e h = refl
start_kept from [] (x ∷ xs) e h = absurd (omega (arith, e))
start_kept from (leaf ∷ leaves) [] e h = absurd (omega (arith, e))
start_kept from (leaf ∷ leaves) (x ∷ xs) e h =
    let parts = passed (allows leaf x) (range_fault (from + 1) leaves xs) (BadStart from) h in
    both_true (allows leaf x) (all_allowed leaves xs) parts.0 (start_kept (from + 1) leaves xs (omega (arith, e)) parts.1)

same_length : (m n : ℕ) → length_fault m n ≡ None → m ≡ n
same_length m n h = equal (passed (m == n) None (BadStart (min m n)) h).0
  where
    equal : (m == n) ≡ true → m ≡ n
    equal e = grind (arith, nat_tests)

-- the whole

is_none_true : (o : Option PlanError) → is_none o ≡ true → o ≡ None
is_none_true None h = refl
is_none_true (Some e) h = absurd (cc)

by_rule : (faults : Rule → Option PlanError) → faults Factors ≡ None → faults Constants ≡ None → faults Slots ≡ None → faults Orders ≡ None → (rule : Rule) → faults rule ≡ None
by_rule faults f c s o Factors = f
by_rule faults f c s o Constants = c
by_rule faults f c s o Slots = s
by_rule faults f c s o Orders = o

record IsFaultless (plan : PlanParts) : Type 0 where
  leaves : limit what.Leaves 1 64 (length plan.object) ≡ None
  txns : limit what.Transactions 0 64 (length plan.txns) ≡ None
  params : first_of (map params_fault plan.txns) ≡ None
  segments : limit what.Segments 1 16 (length plan.segments) ≡ None
  depth : limit what.Depth 16 2048 plan.depth ≡ None
  start : start_fault plan ≡ None
  twice : first_of (map twice_fault plan.txns) ≡ None
  points : points_fault 0 plan.object plan.segments ≡ None
  rules : (rule : Rule) → rule_fault rule plan ≡ None

faultless : (plan : PlanParts) → fault_of plan ≡ None → IsFaultless plan
faultless plan h =
    let leaves = limit what.Leaves 1 64 (length plan.object) in
    let conditions = limit what.Conditions 0 4096 (min (plan_nodes plan) most_told) in
    let txns = limit what.Transactions 0 64 (length plan.txns) in
    let params = first_of (map params_fault plan.txns) in
    let segments = limit what.Segments 1 16 (length plan.segments) in
    let points = limit what.Points 0 256 (min (plan_points plan) most_told) in
    let depth = limit what.Depth 16 2048 plan.depth in
    let twice = first_of (map twice_fault plan.txns) in
    let places = points_fault 0 plan.object plan.segments in
    let a = none_both (size_fault plan) (first_of (count_fault plan ∷ start_fault plan ∷ index_fault plan ∷ [])) h in
    let b = none_both (count_fault plan) (first_of (start_fault plan ∷ index_fault plan ∷ [])) a.1 in
    let c = none_both (start_fault plan) (first_of (index_fault plan ∷ [])) b.1 in
    let d = none_both (index_fault plan) None c.1 in
    let s1 = none_both leaves (first_of (rule_fault Factors plan ∷ rule_fault Constants plan ∷ conditions ∷ [])) a.0 in
    let s2 = none_both (rule_fault Factors plan) (first_of (rule_fault Constants plan ∷ conditions ∷ [])) s1.1 in
    let s3 = none_both (rule_fault Constants plan) (first_of (conditions ∷ [])) s2.1 in
    let t1 = none_both txns (first_of (params ∷ segments ∷ points ∷ depth ∷ [])) b.0 in
    let t2 = none_both params (first_of (segments ∷ points ∷ depth ∷ [])) t1.1 in
    let t3 = none_both segments (first_of (points ∷ depth ∷ [])) t2.1 in
    let t4 = none_both points (first_of (depth ∷ [])) t3.1 in
    let t5 = none_both depth None t4.1 in
    let i1 = none_both (rule_fault Slots plan) (first_of (rule_fault Orders plan ∷ twice ∷ places ∷ [])) d.0 in
    let i2 = none_both (rule_fault Orders plan) (first_of (twice ∷ places ∷ [])) i1.1 in
    let i3 = none_both twice (first_of (places ∷ [])) i2.1 in
    let i4 = none_both places None i3.1 in
    record {
      leaves = s1.0;
      txns = t1.0;
      params = t2.0;
      segments = t3.0;
      depth = t5.0;
      start = c.0;
      twice = i3.0;
      points = i4.0;
      rules = by_rule (λ rule. rule_fault rule plan) s2.0 s3.0 i1.0 i2.0;
    }

pub plan_kept : (plan : PlanParts) → is_plan plan ≡ true → IsPlan plan
plan_kept plan h =
    let n = length plan.object in
    let f = faultless plan (is_none_true (fault_of plan) h) in
    let leaves = within what.Leaves 1 64 n f.leaves in
    let txns = within what.Transactions 0 64 (length plan.txns) f.txns in
    let segments = within what.Segments 1 16 (length plan.segments) f.segments in
    let depth = within what.Depth 16 2048 plan.depth f.depth in
    let start = none_both (range_fault 0 plan.object plan.start) (length_fault n (length plan.start)) f.start in
    let txn_faults : Rule → Option PlanError = λ rule. first_of (map (txn_fault rule n) plan.txns) in
    let segment_faults : Rule → Option PlanError = λ rule. first_of (map (segment_fault rule n (length plan.txns)) plan.segments) in
    let outer : (rule : Rule) → (condition_fault rule n 0 plan.invariant ≡ None) × (option_or (txn_faults rule) (segment_faults rule) ≡ None) =
    λ rule. none_both (condition_fault rule n 0 plan.invariant) (option_or (txn_faults rule) (segment_faults rule)) (f.rules rule) in
    let inner : (rule : Rule) → (txn_faults rule ≡ None) × (segment_faults rule ≡ None) = λ rule. none_both (txn_faults rule) (segment_faults rule) (outer rule).1 in
    record {
      leaves_some = leaves.0;
      leaves_few = leaves.1;
      start = start_kept 0 plan.object plan.start (same_length n (length plan.start) start.1) start.0;
      invariant = condition_kept n 0 plan.invariant (λ rule. (outer rule).0);
      txns_few = txns.1;
      txns = txns_kept n plan.txns f.params (λ rule. (inner rule).0);
      segments_some = segments.0;
      segments_few = segments.1;
      segments = each_kept (λ rule. segment_fault rule n (length plan.txns)) (is_segment n (length plan.txns)) (segment_kept n (length plan.txns)) plan.segments (λ rule. (inner rule).1);
      points = points_kept 0 plan.object plan.segments f.points;
      depth_least = depth.0;
      depth_most = depth.1;
    }

-- no branch of a plan sets a leaf twice
pub sets_once : (plan : PlanParts) → is_plan plan ≡ true → first_of (map twice_fault plan.txns) ≡ None
sets_once plan h = (faultless plan (is_none_true (fault_of plan) h)).twice
