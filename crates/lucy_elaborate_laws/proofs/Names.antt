-- The names of a plan differ.
use Rattle.std.proofs.Common.{◌≡◌, ℕ, ◌&&◌, not, List, [], ◌∷◌, ◌++◌, length, map, Bool, true, false, cond as if_then, Result, Ok, Err, refl, sym, ap, subst, ◌∙◌, nat_lt}
use Rattle.std.specs.Prelude.{bytes_eq}
use Rattle.std.specs.List.{list_any}
use Rattle.std.proofs.lemmas.List.{map-append}
use Rattle.std.proofs.lemmas.Slice.Eq.{bytes_eq-Decides}
use Rattle.lucy_model.specs.declared.conditions.Condition.{Condition}
use Rattle.lucy_plan.specs.declared.parts.PlanParts.{PlanParts}
use Rattle.lucy_plan.specs.declared.parts.Txn.{Txn}
use Rattle.lucy_plan.specs.declared.parts.Segment.{Segment}
use Rattle.lucy_names.specs.Plans.{segment_names, txn_names}
use Rattle.lucy_names.specs.Tables.{is_among, differ}
use Rattle.lucy_names.proofs.Differing.{differ_push}
use Rattle.lucy_tree.specs.declared.marks.Name.{Name}
use Rattle.lucy_tree.specs.declared.plans.Txn as tree
use Rattle.lucy_tree.specs.declared.plans.Segment as tree_segment
use Rattle.lucy_tree.specs.declared.plans.Tree.{Tree}
use Rattle.lucy_gather.specs.declared.error.ElabError.{ElabError}
use Rattle.lucy_gather.specs.declared.error.ElabError.TheVariants as error
use Rattle.lucy_gather.specs.declared.scopes.Scope.{Scope}
use Rattle.lucy_gather.specs.Steps.{Outcome, Step, lifted, then_of, Goes}
use Rattle.lucy_gather.specs.Conditions.{condition_of}
use Rattle.lucy_elaborate.specs.declared.txns.Found.{Found}
use Rattle.std.specs.Str.{is_utf8}
use Rattle.std.specs.Prelude.{ℤ}
use Rattle.lucy_elaborate.specs.declared.plans.Rules.{Rules}
use Rattle.lucy_elaborate.specs.Plans.{known_version, some_segment, lists_in, rules_in, rules_by, rules_from, rules_of, depth_of, parts_by, parts_of}
use Rattle.lucy_elaborate.specs.Objects.{object_of}
use Rattle.lucy_elaborate.specs.Starts.{start_of}
use Rattle.lucy_elaborate.specs.Changes.{branches_of}
use Rattle.lucy_elaborate.specs.Txns.{head_of, txn_by, text_of, txn_of, found_by, counting, with_conditions, room_for_txn, is_txn_named, new_txn, with_txn, txn_in}
use Rattle.lucy_elaborate.specs.Segments.{points_of, listed, pointing, with_points, room_for_segment, is_segment_named, new_segment, with_segment, segment_by, segment_in}
use Rattle.lucy_elaborate_laws.proofs.Keeping.{done, ok_is, only, only_is, then_passed, goes_bind, goes_pure, goes_err, goes_lifted, goes_each}

same_by : (a b : Bool) → (a ≡ true → b ≡ true) → (b ≡ true → a ≡ true) → a ≡ b
same_by true b h k = sym (h refl)
same_by false true h k = k refl
same_by false false h k = refl

same_either_way : (a b : List ℕ) → bytes_eq a b ≡ bytes_eq b a
same_either_way a b = same_by (bytes_eq a b) (bytes_eq b a)
    (λ e. (bytes_eq-Decides b a).1 (sym ((bytes_eq-Decides a b).0 e)))
    (λ e. (bytes_eq-Decides a b).1 (sym ((bytes_eq-Decides b a).0 e)))

among : {X : Type 0} (name_of : X → List ℕ) (name : List ℕ) (xs : List X) → list_any (λ x. bytes_eq (name_of x) name) xs ≡ is_among (map name_of xs) name
among name_of name [] = refl
among name_of name (x ∷ xs) = rw (same_either_way (name_of x) name, among name_of name xs) refl

-- one more name, which is not there yet
one_more_differs : {X : Type 0} (name_of : X → List ℕ) (xs : List X) (x : X) → differ (map name_of xs) ≡ true → list_any (λ y. bytes_eq (name_of y) (name_of x)) xs ≡ false
    → differ (map name_of (xs ++ x ∷ [])) ≡ true
one_more_differs name_of xs x all new =
    ap differ (map-append name_of xs (x ∷ []))
    ∙ differ_push [] (map name_of xs) (name_of x)
    ∙ ap (λ b. b && not (is_among (map name_of xs) (name_of x))) all
    ∙ ap not (sym (among name_of (name_of x) xs) ∙ new)

abbrev txn_name : Txn → List ℕ
txn_name txn = txn.name

abbrev segment_name : Segment → List ℕ
segment_name segment = segment.name

pub record Differ (found : Found) : Type 0 where
  pub txns : differ (map txn_name found.txns) ≡ true
  pub segments : differ (map segment_name found.segments) ≡ true

goes_given : {S A : Type 0} {P P' : S → Type 0} {Q : A → S → Type 0} {p : Step S A} → ((s : S) → P' s → P s × Goes P p Q) → Goes P' p Q
goes_given h = record { goes = λ s t a before e. let k = h s before in k.1.goes s t a k.0 e }

pub lifted_is : {S A : Type 0} {P : S → Type 0} {R : A → Type 0} (r : Result A ElabError) → ((a : A) → r ≡ only a → R a) → Goes P (lifted r) (λ a s. P s × R a)
lifted_is (Ok a) h = goes_pure a (λ s k. (k, h a refl))
lifted_is (Err d) h = goes_err d

text_is : (name : Name) (text : List ℕ) → text_of name ≡ only text → text ≡ name.text
unfolding text_of
text_is name text e = by (is_utf8 name.text) e
  where
    by : (b : Bool) → if_then b (only name.text) (Err (error.UnknownName name.span.start)) ≡ only text → text ≡ name.text
    by true e = sym (only_is e)
    by false e = absurd cc

-- ---- a test leaves the state as it is

abbrev pub nil : Unit {0}
nil = tt

abbrev pub choose : {X : Type 0} → Bool → X → X → X
choose b p q = if_then b p q

tested : {S : Type 0} {P : S → Type 0} (test : S → Bool) (d : ElabError) → Goes P (λ s. choose (test s) (done (nil, s)) (Err d)) (λ _. P)
tested {S} {P} test d = record { goes = λ s t a before e. by s t a (test s) before e }
  where
    by : (s t : S) (a : Unit {0}) (b : Bool) → P s → choose b (done (nil, s)) (Err d) ≡ done (a, t) → P t
    by s t a true before e = subst P (ap (λ p. p.1) (ok_is e)) before
    by s t a false before e = absurd cc

pub refuted : {S : Type 0} {P : S → Type 0} (test : S → Bool) (d : ElabError) → Goes P (λ s. choose (test s) (Err d) (done (nil, s))) (λ _ s. P s × (test s ≡ false))
refuted {S} {P} test d = record { goes = λ s t a before e. by s t a (test s) refl before e }
  where
    by : (s t : S) (a : Unit {0}) (b : Bool) → test s ≡ b → P s → choose b (Err d) (done (nil, s)) ≡ done (a, t) → P t × (test t ≡ false)
    by s t a true f before e = absurd cc
    by s t a false f before e = subst (λ (u : S). P u × (test u ≡ false)) (ap (λ p. p.1) (ok_is e)) (before, f)

-- the state passed the test
pub affirmed : {S : Type 0} {P : S → Type 0} (test : S → Bool) (d : ElabError) → Goes P (λ s. choose (test s) (done (nil, s)) (Err d)) (λ _ s. P s × (test s ≡ true))
affirmed {S} {P} test d = record { goes = λ s t a before e. by s t a (test s) refl before e }
  where
    by : (s t : S) (a : Unit {0}) (b : Bool) → test s ≡ b → P s → choose b (done (nil, s)) (Err d) ≡ done (a, t) → P t × (test t ≡ true)
    by s t a true f before e = subst (λ (u : S). P u × (test u ≡ true)) (ap (λ p. p.1) (ok_is e)) (before, f)
    by s t a false f before e = absurd cc

-- ---- counts are no names

counting_by : {A : Type 0} (Q : A → Found → Type 0) (f g : Found) (a : A) (r : Outcome ℕ A) → ((b : A) (n : ℕ) → r ≡ Ok (b, n) → Q b (found_by f.txns f.segments n f.points))
    → with_conditions f r ≡ done (a, g) → Q a g
counting_by {A} Q f g a (Ok p) h e = let K : A × Found → Type 0 = λ q. Q q.0 q.1 in subst K (ok_is e) (h p.0 p.1 refl)
counting_by Q f g a (Err d) h e = absurd cc

pub counting_goes : {A : Type 0} {P : Found → Type 0} {Q : A → Found → Type 0} (p : Step ℕ A)
    → ((f : Found) (b : A) (n : ℕ) → P f → p f.conditions ≡ Ok (b, n) → Q b (found_by f.txns f.segments n f.points)) → Goes P (counting p) Q
counting_goes {A} {P} {Q} p h = record { goes = λ f g a before e. counting_by Q f g a (p f.conditions) (λ b n gave. h f b n before gave) e }

pointing_by : {A : Type 0} (Q : A → Found → Type 0) (f g : Found) (a : A) (r : Outcome ℕ A) → ((b : A) (n : ℕ) → r ≡ Ok (b, n) → Q b (found_by f.txns f.segments f.conditions n))
    → with_points f r ≡ done (a, g) → Q a g
pointing_by {A} Q f g a (Ok p) h e = let K : A × Found → Type 0 = λ q. Q q.0 q.1 in subst K (ok_is e) (h p.0 p.1 refl)
pointing_by Q f g a (Err d) h e = absurd cc

pub pointing_goes : {A : Type 0} {P : Found → Type 0} {Q : A → Found → Type 0} (p : Step ℕ A)
    → ((f : Found) (b : A) (n : ℕ) → P f → p f.points ≡ Ok (b, n) → Q b (found_by f.txns f.segments f.conditions n)) → Goes P (pointing p) Q
pointing_goes {A} {P} {Q} p h = record { goes = λ f g a before e. pointing_by Q f g a (p f.points) (λ b n gave. h f b n before gave) e }

-- what does not speak of the state stays
goes_any : {S A : Type 0} {P : Type 0} (p : Step S A) → Goes (λ (s : S). P) p (λ (a : A) (s : S). P)
goes_any p = record { goes = λ s t a before e. before }

txn_steps : (scope : Scope) (txn : tree.Txn) → Goes (λ (n : ℕ). Unit {0}) (txn_of scope txn) (λ (t : Txn) (n : ℕ). t.name ≡ txn.name.text)
unfolding txn_of
txn_steps scope txn =
    goes_bind (lifted_is {R = λ text. text ≡ txn.name.text} (text_of txn.name) (text_is txn.name)) (λ name.
    goes_bind {Q = λ head s. Unit {0} × (name ≡ txn.name.text)} (goes_any (lifted (head_of scope txn.params))) (λ head.
    goes_bind {Q = λ branches s. Unit {0} × (name ≡ txn.name.text)} (goes_any (branches_of scope head.params txn.branches [])) (λ branches.
    goes_pure (txn_by name head.limits branches) (λ s k. k.1))))

abbrev NewTxn : Name → Found → Type 0
NewTxn name f = Differ f × (is_txn_named name.text f.txns ≡ false)

with_txn_goes : (name : Name) (made : Txn) → Goes (λ f. NewTxn name f × (made.name ≡ name.text)) (with_txn made) (λ _. Differ)
unfolding with_txn
with_txn_goes name made = record {
  goes = λ s t a before e. subst Differ (ap (λ p. p.1) (ok_is e)) (record {
    txns = one_more_differs txn_name s.txns made before.0.0.txns (ap (λ (text : List ℕ). is_txn_named text s.txns) before.1 ∙ before.0.1);
    segments = before.0.0.segments;
  });
}

txn_goes : (scope : Scope) (txn : tree.Txn) → Goes Differ (txn_in scope txn) (λ _. Differ)
unfolding txn_in room_for_txn new_txn
txn_goes scope txn =
    goes_bind (tested (λ (f : Found). nat_lt (length f.txns) 64) _) (λ _.
    goes_bind (refuted (λ (f : Found). is_txn_named txn.name.text f.txns) _) (λ _.
    goes_bind {Q = λ made f. NewTxn txn.name f × (made.name ≡ txn.name.text)}
    (counting_goes {P = NewTxn txn.name} (txn_of scope txn) (λ f made n before gave.
    ((record { txns = before.0.txns; segments = before.0.segments }, before.1), (txn_steps scope txn).goes f.conditions n made tt gave))) (λ made.
    with_txn_goes txn.name made)))

-- ---- segments

abbrev NewSegment : Name → Found → Type 0
NewSegment name f = Differ f × (is_segment_named name.text f.segments ≡ false)

placed_by : (s t : Found) (a : Unit {0}) (name : List ℕ) (condition : Condition) (excepts : List (List ℤ)) (r : Result (List ℕ) ElabError)
    → differ (map txn_name s.txns) ≡ true → ((places : List ℕ) → differ (map segment_name (s.segments ++ segment_by name condition excepts places ∷ [])) ≡ true)
    → then_of r (λ places. done (tt, found_by s.txns (s.segments ++ segment_by name condition excepts places ∷ []) s.conditions s.points)) ≡ done (a, t) → Differ t
placed_by s t a name condition excepts (Ok places) txns all e = subst Differ (ap (λ p. p.1) (ok_is e)) (record { txns = txns; segments = all places })
placed_by s t a name condition excepts (Err d) txns all e = absurd cc

with_segment_goes : (given : Name) (name : List ℕ) (condition : Condition) (excepts : List (List ℤ)) (names : List Name)
    → Goes (λ f. NewSegment given f × (name ≡ given.text)) (with_segment name condition excepts names) (λ _. Differ)
unfolding with_segment
with_segment_goes given name condition excepts names = record {
  goes = λ s t a before e.
      placed_by s t a name condition excepts (listed s.txns names) before.0.0.txns
      (λ places. one_more_differs segment_name s.segments (segment_by name condition excepts places) before.0.0.segments
      (ap (λ (text : List ℕ). is_segment_named text s.segments) before.1 ∙ before.0.1)) e;
}

segment_goes : (scope : Scope) (segment : tree_segment.Segment) → Goes Differ (segment_in scope segment) (λ _. Differ)
unfolding segment_in room_for_segment new_segment
segment_goes scope segment =
    goes_bind (tested (λ (f : Found). nat_lt (length f.segments) 16) _) (λ _.
    goes_bind (refuted (λ (f : Found). is_segment_named segment.name.text f.segments) _) (λ _.
    goes_bind (lifted_is {R = λ text. text ≡ segment.name.text} (text_of segment.name) (text_is segment.name)) (λ name.
    goes_bind {Q = λ condition f. NewSegment segment.name f × (name ≡ segment.name.text)}
    (counting_goes (condition_of scope [] segment.cond) (λ f b n before gave. ((record { txns = before.0.0.txns; segments = before.0.0.segments }, before.0.1), before.1))) (λ condition.
    goes_bind {Q = λ excepts f. NewSegment segment.name f × (name ≡ segment.name.text)}
    (pointing_goes (points_of scope.leaves segment.except) (λ f b n before gave. ((record { txns = before.0.0.txns; segments = before.0.0.segments }, before.0.1), before.1))) (λ excepts.
    with_segment_goes segment.name name condition excepts segment.txns)))))

-- ---- the whole

lists_go : (scope : Scope) (tree : Tree) → Goes Differ (lists_in scope tree) (λ _. Differ)
unfolding lists_in
lists_go scope tree =
    goes_bind (goes_each (txn_in scope) (txn_goes scope) tree.txns) (λ _.
    goes_bind (goes_lifted (some_segment tree.segments)) (λ _.
    goes_each (segment_in scope) (segment_goes scope) tree.segments))

rules_goes : (scope : Scope) (tree : Tree) → Goes Differ (rules_in scope tree) (λ _. Differ)
unfolding rules_in
rules_goes scope tree =
    goes_bind {Q = λ invariant. Differ} (counting_goes (condition_of scope [] tree.invariant.cond) (λ f b n before gave. record { txns = before.txns; segments = before.segments })) (λ invariant.
    goes_bind (lists_go scope tree) (λ _.
    goes_pure invariant (λ s k. k)))

pub from_is : (r : Outcome Found Condition) (rules : Rules) → rules_from r ≡ only rules → r ≡ done (rules.invariant, rules.found)
from_is (Ok p) rules e = ap (λ (u : Rules). done (u.invariant, u.found)) (only_is {u = rules_by p.0 p.1} {v = rules} e)
from_is (Err d) rules e = absurd cc

rules_differ : (scope : Scope) (tree : Tree) (rules : Rules) → rules_of scope tree ≡ only rules → Differ rules.found
unfolding rules_of
rules_differ scope tree rules e =
    (rules_goes scope tree).goes (found_by [] [] 0 0) rules.found rules.invariant (record { txns = refl; segments = refl }) (from_is (rules_in scope tree (found_by [] [] 0 0)) rules e)

-- what the parts that a tree gives are made of
pub record Made (tree : Tree) (parts : PlanParts) : Type 0 where
  pub scope : Scope
  pub start : List ℤ
  pub rules : Rules
  pub depth : ℕ
  pub of_object : object_of tree.object.fields ≡ only scope
  pub of_start : start_of scope tree.start.settings ≡ only start
  pub of_rules : rules_of scope tree ≡ only rules
  pub of_depth : depth_of tree.depth ≡ only depth
  pub are : parts_by scope.leaves start rules depth ≡ parts

pub made_of : (tree : Tree) (parts : PlanParts) → parts_of tree ≡ only parts → Made tree parts
unfolding parts_of
made_of tree parts e =
    let (v, e1, r1) = then_passed (known_version tree.version) _ parts e in
    let (scope, e2, r2) = then_passed (object_of tree.object.fields) _ parts r1 in
    let (start, e3, r3) = then_passed (start_of scope tree.start.settings) _ parts r2 in
    let (rules, e4, r4) = then_passed (rules_of scope tree) _ parts r3 in
    let (depth, e5, r5) = then_passed (depth_of tree.depth) _ parts r4 in
    record {
      scope = scope;
      start = start;
      rules = rules;
      depth = depth;
      of_object = e2;
      of_start = e3;
      of_rules = e4;
      of_depth = e5;
      are = only_is {u = parts_by scope.leaves start rules depth} {v = parts} r5;
    }

pub names_differ : (tree : Tree) (parts : PlanParts) → parts_of tree ≡ only parts → (differ (segment_names parts) ≡ true) × (differ (txn_names parts) ≡ true)
names_differ tree parts e =
    let made = made_of tree parts e in
    let differ_all = rules_differ made.scope tree made.rules made.of_rules in
    subst (λ (p : PlanParts). (differ (segment_names p) ≡ true) × (differ (txn_names p) ≡ true)) made.are (differ_all.segments, differ_all.txns)
