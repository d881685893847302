-- The parts of a tree are a plan.
use Rattle.std.proofs.Common.{◌≡◌, ℕ, ◌+◌, ◌<◌, ◌≤◌, ◌&&◌, nat_le, nat_lt, ℤ, List, [], ◌∷◌, ◌++◌, length, map, Bool, true, false, cond as if_then, Option, Some, None, Result, Ok, Err, refl, sym, ap, subst, ◌∙◌, length-append, arith}
use Rattle.std.specs.Prelude.{sum_by}
use Rattle.std.specs.List.{list_all}
use Rattle.std.proofs.lemmas.Bool.Decides.{nat_tests}
use Rattle.std.proofs.lemmas.List.Sums.{sum_by-append}
use Rattle.lucy_model.specs.declared.conditions.Condition.{Condition}
use Rattle.lucy_model.specs.Conditions.{is_condition}
use Rattle.lucy_model.specs.Ranges.{all_allowed}
use Rattle.lucy_plan.specs.declared.parts.Txn.{Txn}
use Rattle.lucy_plan.specs.declared.parts.Segment.{Segment}
use Rattle.lucy_plan.specs.declared.parts.PlanParts.{PlanParts}
use Rattle.lucy_plan.specs.Counts.{nodes_of, txn_nodes}
use Rattle.lucy_plan.specs.Faults.{first_of, twice_fault, fault_of}
use Rattle.lucy_plan.specs.Plans.{is_txn, is_segment}
use Rattle.lucy_names.specs.declared.names.Names.{Names}
use Rattle.lucy_names.specs.Plans.{segment_names, txn_names}
use Rattle.lucy_names.specs.Tables.{differ}
use Rattle.lucy_tree.specs.declared.marks.Name.{Name}
use Rattle.lucy_tree.specs.declared.plans.Depth.{Depth}
use Rattle.lucy_tree.specs.declared.plans.Txn as tree
use Rattle.lucy_tree.specs.declared.plans.Segment as tree_segment
use Rattle.lucy_tree.specs.declared.plans.Tree.{Tree}
use Rattle.lucy_gather.specs.declared.error.ElabError.{ElabError}
use Rattle.lucy_gather.specs.declared.error.ElabError.TheVariants as error
use Rattle.lucy_gather.specs.declared.scopes.Scope.{Scope}
use Rattle.lucy_gather.specs.Steps.{then_of, Goes}
use Rattle.lucy_gather.specs.Conditions.{condition_of}
use Rattle.lucy_elaborate.specs.declared.txns.Found.{Found}
use Rattle.lucy_elaborate.specs.declared.plans.Rules.{Rules}
use Rattle.lucy_elaborate.specs.Txns.{txn_of, text_of, found_by, room_for_txn, is_txn_named, new_txn, with_txn, txn_in}
use Rattle.lucy_elaborate.specs.Segments.{points_of, listed, room_for_segment, is_segment_named, new_segment, with_segment, segment_by, segment_in, segments_in}
use Rattle.lucy_elaborate.specs.Plans.{some_segment, lists_in, rules_in, rules_of, depth_of, parts_by, parts_of, accepted_by, accepted, names_of, named, elaborated}
use Rattle.lucy_elaborate_laws.specs.Meanings.{AllMean}
use Rattle.lucy_elaborate_laws.proofs.Keeping.{done, ok_is, only, only_is, goes_bind, goes_pure, goes_lifted, goes_each, goes_beside, all_push, no_fault, none_push, both}
use Rattle.lucy_elaborate_laws.proofs.Names.{lifted_is, refuted, affirmed, counting_goes, pointing_goes, from_is, names_differ, made_of}
use Rattle.lucy_elaborate_laws.proofs.Conditions.{conditions_in_range}
use Rattle.lucy_elaborate_laws.proofs.Objects.{object_sound}
use Rattle.lucy_elaborate_laws.proofs.Txns.{txn_in_range}
use Rattle.lucy_elaborate_laws.proofs.Segments.{points_steps, listed_below}
use Rattle.lucy_elaborate_laws.proofs.Starts.{starts_allowed}
use Rattle.lucy_elaborate_laws.proofs.Faultless.{faultless}

abbrev segment_nodes : Segment → ℕ
segment_nodes segment = nodes_of segment.condition

abbrev segment_points : Segment → ℕ
segment_points segment = length segment.excepts

below : (n m : ℕ) → nat_lt n m ≡ true → n < m
below n m h = grind (arith, nat_tests)

module _ (scope : Scope) (fields : AllMean (length scope.leaves) 0 scope.entries) where
  abbrev l : ℕ
  l = length scope.leaves

  abbrev states : Segment → Bool
  states segment = list_all (all_allowed scope.leaves) segment.excepts

  -- what was found is in range, and what was counted is what it has, beside so many nodes and points of what is not yet among it
  record Counted (nodes_beside points_beside : ℕ) (f : Found) : Type 0 where
    nodes : f.conditions ≡ nodes_beside + sum_by txn_nodes f.txns + sum_by segment_nodes f.segments
    nodes_few : f.conditions ≤ 4096
    points : f.points ≡ points_beside + sum_by segment_points f.segments
    points_few : f.points ≤ 256
    txns_few : length f.txns ≤ 64
    txns : list_all (is_txn l) f.txns ≡ true
    once : first_of (map twice_fault f.txns) ≡ no_fault
    segments : list_all (is_segment l (length f.txns)) f.segments ≡ true
    points_fine : list_all states f.segments ≡ true

  -- more nodes were counted, and more points
  more_counted : (k l p q : ℕ) (f : Found) (n m : ℕ) → n + k ≡ f.conditions + l → n ≤ 4096 → m + p ≡ f.points + q → m ≤ 256 → Counted k p f → Counted l q (found_by f.txns f.segments n m)
  more_counted k l p q f n m nodes nodes_few points points_few h = record {
    nodes = omega (arith, nodes, h.nodes);
    nodes_few = nodes_few;
    points = omega (arith, points, h.points);
    points_few = points_few;
    txns_few = h.txns_few;
    txns = h.txns;
    once = h.once;
    segments = h.segments;
    points_fine = h.points_fine;
  }

  more_nodes : (k j p : ℕ) (f : Found) (n : ℕ) → n ≡ f.conditions + j → n ≤ 4096 → Counted k p f → Counted (k + j) p (found_by f.txns f.segments n f.points)
  more_nodes k j p f n e few h = more_counted k (k + j) p p f n f.points (omega (arith, e)) few refl h.points_few h

  more_points : (k p j : ℕ) (f : Found) (n : ℕ) → n ≡ f.points + j → n ≤ 256 → Counted k p f → Counted k (p + j) (found_by f.txns f.segments f.conditions n)
  more_points k p j f n e few h = more_counted k k p (p + j) f f.conditions n refl h.nodes_few (omega (arith, e)) few h

  -- ---- transactions

  -- no segment is found yet
  record Early (k : ℕ) (f : Found) : Type 0 where
    counted : Counted k 0 f
    none : f.segments ≡ []

  record NewTxn (k : ℕ) (made : Txn) (f : Found) : Type 0 where
    early : Early (k + txn_nodes made) f
    room : length f.txns < 64
    range : is_txn l made ≡ true
    once : twice_fault made ≡ no_fault

  with_txn_goes : (k : ℕ) (made : Txn) → Goes (NewTxn k made) (with_txn made) (λ _. Early k)
  unfolding with_txn
  with_txn_goes k made = record {
    goes = λ s t a before e.
        let h = before.early.counted in
        let longer : length (s.txns ++ made ∷ []) ≡ length s.txns + 1 = length-append s.txns (made ∷ []) in
        subst (Early k) (ap (λ p. p.1) (ok_is e)) (record {
          counted = record {
            nodes = omega (arith, h.nodes, sum_by-append txn_nodes s.txns (made ∷ []));
            nodes_few = h.nodes_few;
            points = h.points;
            points_few = h.points_few;
            txns_few = omega (arith, longer, before.room);
            txns = all_push (is_txn l) s.txns made h.txns before.range;
            once = none_push twice_fault s.txns made h.once before.once;
            segments = subst (λ (ss : List Segment). list_all (is_segment l (length (s.txns ++ made ∷ []))) ss ≡ true) (sym before.early.none) refl;
            points_fine = h.points_fine;
          };
          none = before.early.none;
        });
  }

  counted_txn : (k : ℕ) (txn : tree.Txn) (f : Found) (made : Txn) (n : ℕ) → Early k f → nat_lt (length f.txns) 64 ≡ true → txn_of scope txn f.conditions ≡ Ok (made, n)
      → NewTxn k made (found_by f.txns f.segments n f.points)
  counted_txn k txn f made n before room gave =
      let (count, few, range, once) = txn_in_range scope txn f.conditions n made fields gave in
      record {
        early = record { counted = more_nodes k (txn_nodes made) 0 f n count (few before.counted.nodes_few) before.counted; none = before.none };
        room = below (length f.txns) 64 room;
        range = range;
        once = once;
      }

  txn_goes : (k : ℕ) (txn : tree.Txn) → Goes (Early k) (txn_in scope txn) (λ _. Early k)
  unfolding txn_in room_for_txn new_txn
  txn_goes k txn =
      goes_bind (affirmed (λ (f : Found). nat_lt (length f.txns) 64) _) (λ _.
      goes_bind (refuted (λ (f : Found). is_txn_named txn.name.text f.txns) _) (λ _.
      goes_bind {Q = NewTxn k} (counting_goes (txn_of scope txn) (λ f made n before gave. counted_txn k txn f made n before.0.0 before.0.1 gave)) (λ made.
      with_txn_goes k made)))

  -- ---- segments

  -- so many segments were found
  record Late (k p count : ℕ) (f : Found) : Type 0 where
    counted : Counted k p f
    many : length f.segments ≡ count
    few : count ≤ 16

  record NewSegment (k p count : ℕ) (f : Found) : Type 0 where
    late : Late k p count f
    room : count < 16

  with_condition : (k count : ℕ) (segment : tree_segment.Segment) (f : Found) (made : Condition) (n : ℕ) → NewSegment k 0 count f → condition_of scope [] segment.cond f.conditions ≡ Ok (made, n)
      → NewSegment (k + nodes_of made) 0 count (found_by f.txns f.segments n f.points) × (is_condition l 0 made ≡ true)
  with_condition k count segment f made n before gave =
      let (nodes, few, range) = conditions_in_range scope [] fields tt segment.cond f.conditions n made gave in (
        record {
          late = record { counted = more_nodes k (nodes_of made) 0 f n nodes (few before.late.counted.nodes_few) before.late.counted; many = before.late.many; few = before.late.few };
          room = before.room;
        },
        range,
      )

  with_excepts : (k count : ℕ) (segment : tree_segment.Segment) (f : Found) (made : List (List ℤ)) (n : ℕ) → NewSegment k 0 count f → points_of scope.leaves segment.except f.points ≡ Ok (made, n)
      → NewSegment k (0 + length made) count (found_by f.txns f.segments f.conditions n) × (list_all (all_allowed scope.leaves) made ≡ true)
  with_excepts k count segment f made n before gave =
      let points = points_steps scope.leaves segment.except f.points n made gave in (
        record {
          late = record { counted = more_points k 0 (length made) f n points.count (points.few before.late.counted.points_few) before.late.counted; many = before.late.many; few = before.late.few };
          room = before.room;
        },
        points.fine,
      )

  module _ (k count : ℕ) (name : List ℕ) (condition : Condition) (excepts : List (List ℤ)) where
    one_more : (s : Found) (places : List ℕ) → NewSegment (k + nodes_of condition) (0 + length excepts) count s → is_condition l 0 condition ≡ true → list_all (all_allowed scope.leaves) excepts ≡ true
        → list_all (λ place. nat_lt place (length s.txns)) places ≡ true → Late k 0 (count + 1) (found_by s.txns (s.segments ++ segment_by name condition excepts places ∷ []) s.conditions s.points)
    one_more s places before range fine there =
        let h = before.late.counted in
        let made = segment_by name condition excepts places in
        record {
          counted = record {
            nodes = omega (arith, h.nodes, sum_by-append segment_nodes s.segments (made ∷ []));
            nodes_few = h.nodes_few;
            points = omega (arith, h.points, sum_by-append segment_points s.segments (made ∷ []));
            points_few = h.points_few;
            txns_few = h.txns_few;
            txns = h.txns;
            once = h.once;
            segments = all_push (is_segment l (length s.txns)) s.segments made h.segments (both (is_condition l 0 condition) (list_all (λ place. nat_lt place (length s.txns)) places) range there);
            points_fine = all_push states s.segments made h.points_fine fine;
          };
          many = length-append s.segments (made ∷ []) ∙ ap (λ n. n + 1) before.late.many;
          few = omega (arith, before.room);
        }

    with_segment_goes : (names : List Name)
        → Goes (λ f. NewSegment (k + nodes_of condition) (0 + length excepts) count f × (is_condition l 0 condition ≡ true) × (list_all (all_allowed scope.leaves) excepts ≡ true))
        (with_segment name condition excepts names) (λ _. Late k 0 (count + 1))
    unfolding with_segment
    with_segment_goes names = record { goes = λ s t a before e. by s t a before (listed s.txns names) (λ places f. listed_below s.txns names places f) e }
      where
        by : (s t : Found) (a : Unit {0}) → NewSegment (k + nodes_of condition) (0 + length excepts) count s × (is_condition l 0 condition ≡ true) × (list_all (all_allowed scope.leaves) excepts ≡ true)
            → (r : Result (List ℕ) ElabError) → ((places : List ℕ) → r ≡ only places → list_all (λ place. nat_lt place (length s.txns)) places ≡ true)
            → then_of r (λ places. done (tt {0}, found_by s.txns (s.segments ++ segment_by name condition excepts places ∷ []) s.conditions s.points)) ≡ done (a, t) → Late k 0 (count + 1) t
        by s t a before (Ok places) there e = subst (Late k 0 (count + 1)) (ap (λ p. p.1) (ok_is e)) (one_more s places before.0 before.1 before.2 (there places refl))
        by s t a before (Err d) there e = absurd cc

  room_is : (k count : ℕ) (f : Found) → Late k 0 count f → nat_lt (length f.segments) 16 ≡ true → NewSegment k 0 count f
  room_is k count f before room = record { late = before; room = omega (arith, before.many, below (length f.segments) 16 room) }

  segment_goes : (k count : ℕ) (segment : tree_segment.Segment) → Goes (Late k 0 count) (segment_in scope segment) (λ _. Late k 0 (count + 1))
  unfolding segment_in room_for_segment new_segment
  segment_goes k count segment =
      goes_bind (affirmed (λ (f : Found). nat_lt (length f.segments) 16) _) (λ _.
      goes_bind (refuted (λ (f : Found). is_segment_named segment.name.text f.segments) _) (λ _.
      goes_bind (goes_lifted (text_of segment.name)) (λ name.
      goes_bind {Q = λ condition f. NewSegment (k + nodes_of condition) 0 count f × (is_condition l 0 condition ≡ true)} (counting_goes (condition_of scope [] segment.cond) (λ f made n before gave.
      with_condition k count segment f made n (room_is k count f before.0.0 before.0.1) gave)) (λ condition.
      goes_bind {Q = λ excepts f. NewSegment (k + nodes_of condition) (0 + length excepts) count f × (is_condition l 0 condition ≡ true) × (list_all (all_allowed scope.leaves) excepts ≡ true)}
      (pointing_goes (points_of scope.leaves segment.except) (λ f made n before gave.
      let points = with_excepts (k + nodes_of condition) count segment f made n before.0 gave in (points.0, before.1, points.1))) (λ excepts.
      with_segment_goes k count name condition excepts segment.txns)))))

  segments_goes : (k count : ℕ) (given : List tree_segment.Segment) → Goes (Late k 0 count) (segments_in scope given) (λ _. Late k 0 (count + length given))
  segments_goes k count [] = goes_pure tt (λ s h. subst (λ n. Late k 0 n s) (omega arith) h)
  segments_goes k count (segment ∷ given) =
      goes_bind (segment_goes k count segment) (λ _. subst (λ n. Goes (Late k 0 (count + 1)) (segments_in scope given) (λ _. Late k 0 n)) (omega arith) (segments_goes k (count + 1) given))

  -- ---- the whole

  with_invariant : (tree : Tree) (f : Found) (made : Condition) (n : ℕ) → Early 0 f → condition_of scope [] tree.invariant.cond f.conditions ≡ Ok (made, n)
      → Early (nodes_of made) (found_by f.txns f.segments n f.points) × (is_condition l 0 made ≡ true)
  with_invariant tree f made n before gave =
      let (nodes, few, range) = conditions_in_range scope [] fields tt tree.invariant.cond f.conditions n made gave in
      let none_before : 0 + nodes_of made ≡ nodes_of made = omega arith in (
        record {
          counted = subst (λ k. Counted k 0 (found_by f.txns f.segments n f.points)) none_before (more_nodes 0 (nodes_of made) 0 f n nodes (few before.counted.nodes_few) before.counted);
          none = before.none;
        },
        range,
      )

  late_of : (k : ℕ) (f : Found) → Early k f → Late k 0 0 f
  late_of k f h = record { counted = h.counted; many = ap (λ (ss : List Segment). length ss) h.none; few = omega arith }

  all_segments_go : (k : ℕ) (given : List tree_segment.Segment) → Goes (Early k) (segments_in scope given) (λ _. Late k 0 (length given))
  all_segments_go k given = record {
    goes = λ s t a before e.
        let none_before : 0 + length given ≡ length given = omega arith in
        subst (λ n. Late k 0 n t) none_before ((segments_goes k 0 given).goes s t a (late_of k s before) e);
  }

  some_is : (given : List tree_segment.Segment) (u : Unit {0}) → some_segment given ≡ only u → 1 ≤ length given
  unfolding some_segment
  some_is given u e = by (nat_lt 0 (length given)) refl _ e
    where
      by : (b : Bool) → nat_lt 0 (length given) ≡ b → (d : ElabError) → if_then b (only (tt {0})) (Err d) ≡ only u → 1 ≤ length given
      by true f d g = grind (arith, nat_tests, f)
      by false f d g = absurd cc

  record Ruled (tree : Tree) (made : Condition) (f : Found) : Type 0 where
    late : Late (nodes_of made) 0 (length tree.segments) f
    some : 1 ≤ length tree.segments
    invariant : is_condition l 0 made ≡ true

  lists_go : (tree : Tree) (invariant : Condition) → Goes (λ f. Early (nodes_of invariant) f × (is_condition l 0 invariant ≡ true)) (lists_in scope tree) (λ u f. Ruled tree invariant f)
  unfolding lists_in
  lists_go tree invariant =
      goes_bind (goes_beside (λ _. goes_each (txn_in scope) (txn_goes (nodes_of invariant)) tree.txns)) (λ _.
      goes_bind (lifted_is {R = λ u. 1 ≤ length tree.segments} (some_segment tree.segments) (λ u e. some_is tree.segments u e)) (λ _.
      record {
        goes = λ s t a before e.
            record { late = (all_segments_go (nodes_of invariant) tree.segments).goes s t a before.0.0 e; some = before.1; invariant = before.0.1 };
      }))

  rules_goes : (tree : Tree) → Goes (Early 0) (rules_in scope tree) (Ruled tree)
  unfolding rules_in
  rules_goes tree =
      goes_bind {Q = λ invariant f. Early (nodes_of invariant) f × (is_condition l 0 invariant ≡ true)} (counting_goes (condition_of scope [] tree.invariant.cond) (with_invariant tree)) (λ invariant.
      goes_bind {Q = λ u f. Ruled tree invariant f} (lists_go tree invariant) (λ _.
      goes_pure invariant (λ s h. h)))

  rules_ruled : (tree : Tree) (rules : Rules) → rules_of scope tree ≡ only rules → Ruled tree rules.invariant rules.found
  unfolding rules_of
  rules_ruled tree rules e =
      (rules_goes tree).goes (found_by [] [] 0 0) rules.found rules.invariant
      (record {
        counted = record { nodes = refl; nodes_few = omega arith; points = refl; points_few = omega arith; txns_few = omega arith; txns = refl; once = refl; segments = refl; points_fine = refl };
        none = refl;
      })
      (from_is (rules_in scope tree (found_by [] [] 0 0)) rules e)

depth_within : (given : Option Depth) (depth : ℕ) → depth_of given ≡ only depth → (16 ≤ depth) × (depth ≤ 2048)
unfolding depth_of
depth_within None depth e = subst (λ n. (16 ≤ n) × (n ≤ 2048)) (only_is e) (omega arith, omega arith)
depth_within (Some d) depth e = by (nat_le 16 d.number.value && nat_le d.number.value 2048) refl _ e
  where
    inside : (n : ℕ) → (nat_le 16 n && nat_le n 2048) ≡ true → (16 ≤ n) × (n ≤ 2048)
    inside n h = grind (arith, nat_tests)

    by : (b : Bool) → (nat_le 16 d.number.value && nat_le d.number.value 2048) ≡ b → (r : ElabError) → if_then b (only d.number.value) (Err r) ≡ only depth → (16 ≤ depth) × (depth ≤ 2048)
    by true f r g = subst (λ n. (16 ≤ n) × (n ≤ 2048)) (only_is g) (inside d.number.value f)
    by false f r g = absurd cc

pub parts_plan : (tree : Tree) (parts : PlanParts) → parts_of tree ≡ only parts → fault_of parts ≡ None
parts_plan tree parts e =
    let made = made_of tree parts e in
    let (leaves_some, leaves_few, mean) = object_sound tree.object.fields made.scope made.of_object in
    let ruled = rules_ruled made.scope mean tree made.rules made.of_rules in
    let within = depth_within tree.depth made.depth made.of_depth in
    let h = ruled.late.counted in
    subst (λ (p : PlanParts). fault_of p ≡ None) made.are
    (faultless (parts_by made.scope.leaves made.start made.rules made.depth)
    (record {
      leaves_some = leaves_some;
      leaves_few = leaves_few;
      start = starts_allowed tree.object.fields tree.start.settings made.scope made.start made.of_object made.of_start;
      invariant = ruled.invariant;
      txns_few = h.txns_few;
      txns = h.txns;
      segments_some = omega (arith, ruled.some, ruled.late.many);
      segments_few = omega (arith, ruled.late.few, ruled.late.many);
      segments = h.segments;
      points = h.points_fine;
      depth_least = within.0;
      depth_most = within.1;
    })
    (record { nodes = omega (arith, h.nodes, h.nodes_few); points = omega (arith, h.points, h.points_few); once = h.once }))

-- ---- what is elaborated

accepted_is : (at : ℕ) (parts : PlanParts) → fault_of parts ≡ None → accepted at parts ≡ only parts
unfolding accepted
accepted_is at parts h = ap (accepted_by at parts) h

named_is : (at : ℕ) (plan : PlanParts) → differ (segment_names plan) ≡ true → differ (txn_names plan) ≡ true → named at plan ≡ only (names_of plan)
unfolding named
named_is at plan h k = ap (λ b. if_then b (only (names_of plan)) (Err (error.Twice at))) (both (differ (segment_names plan)) (differ (txn_names plan)) h k)

abbrev with_names : PlanParts → Names → Result (PlanParts × Names) ElabError
with_names plan names = Ok (plan, names)

pub elaborated_is : (tree : Tree) → elaborated tree ≡ then_of (parts_of tree) (λ parts. Ok (parts, names_of parts))
unfolding elaborated
elaborated_is tree = by (parts_of tree) (λ parts e. parts_plan tree parts e) (λ parts e. names_differ tree parts e)
  where
    by : (r : Result PlanParts ElabError) → ((parts : PlanParts) → r ≡ only parts → fault_of parts ≡ None)
        → ((parts : PlanParts) → r ≡ only parts → (differ (segment_names parts) ≡ true) × (differ (txn_names parts) ≡ true))
        → then_of r (λ parts. then_of (accepted tree.end_word.start parts) (λ plan. then_of (named tree.end_word.start plan) (with_names plan))) ≡ then_of r (λ parts. with_names parts (names_of parts))
    by (Ok parts) free apart =
        let names = apart parts refl in
        ap (λ (x : Result PlanParts ElabError). then_of x (λ plan. then_of (named tree.end_word.start plan) (with_names plan))) (accepted_is tree.end_word.start parts (free parts refl))
        ∙ ap (λ (x : Result Names ElabError). then_of x (with_names parts)) (named_is tree.end_word.start parts names.0 names.1)
    by (Err d) free apart = refl
