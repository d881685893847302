-- What keeps a session right.
use Rattle.std.proofs.Common.{◌≡◌, ℕ, zero, suc, ◌+◌, ◌*◌, ◌<◌, ◌≤◌, nat_lt, nat_eq, ◌==◌, ◌&&◌, Bool, true, false, not, if◌then◌else◌, ℤ, List, [], ◌∷◌, ◌++◌, length, get_or, refl, ap, sym, subst, ◌∙◌, arith, length-append}
use Rattle.std.specs.Prelude.{Option, Some, None, Result, All, Ok, Err, IsTrue, IfOk, IfSome, is_some, replicate}
use Rattle.std.specs.Option.{option_map}
use Rattle.std.specs.Cmp.{unsigned_Decides}
use Rattle.std.specs.Cmp.Rules.{signed_items}
use Rattle.std.specs.List.{list_all}
use Rattle.std.specs.Ordering.{int_eq}
use Rattle.std.specs.Cmp.Lexicographic.{pointwise}
use Rattle.std.proofs.lemmas.Bool.{and_parts, and_from}
use Rattle.std.proofs.lemmas.List.Folds.{list_all-append}
use Rattle.std.proofs.lemmas.List.Elements.{All-append}
use Rattle.lucy_model.specs.Merging.{merged}
use Rattle.lucy_names.specs.declared.names.Names.{Names}
use Rattle.lucy_names.specs.Plans.{AreNamesOf}
use Rattle.lucy_plan.specs.Segments.{IsWhole, is_whole, is_among}
use Rattle.lucy_plan.specs.Plans.{IsPlan}
use Rattle.lucy_plan.specs.declared.parts.PlanParts.{PlanParts}
use Rattle.lucy_expr.specs.Trees.{Tree, Start, Merge, value}
use Rattle.lucy_expr.specs.Expressions.{Expression}
use Rattle.lucy_expr.specs.Reachability.{IsReached}
use Rattle.lucy_walks.specs.Sketches.{size, named, most_replicas}
use Rattle.lucy_walks.specs.Laws.{Meets}
use Rattle.lucy_walks.proofs.EntryLemmas.{whole_length}
use Rattle.lucy_walks.proofs.NamingLemmas.{value-named, size-named, reached-named}
use Rattle.lucy_closure.specs.Points.{are_points}
use Rattle.lucy_closure.specs.Meanings.{IsEscape, is_whole_off}
use Rattle.lucy_closure.proofs.Closures.{whole_says}
use Rattle.lucy_session.specs.declared.answers.Next.{Next}
use Rattle.lucy_session.specs.declared.reached.Reached.{Reached}
use Rattle.lucy_session.specs.declared.reached.Pair.{Pair}
use Rattle.lucy_session.specs.declared.labels.Side.{Side}
use Rattle.lucy_session.specs.declared.labels.Side.TheVariants.{Left, Right}
use Rattle.lucy_session.specs.Labels.{all_fit}
use Rattle.lucy_session.specs.Evaluation.{evaluated}
use Rattle.lucy_session.specs.Sessions.{Dialogue, roomy, entry_at, listed, entries_of, expr_of, answer_by, answer_of, state_on, found_beside, found_for, found_of, searched, IsShown, IsDrawn, Follows, Means, Searches}
use Rattle.lucy_session.specs.Keeping.{Reaches, IsKept}
use Rattle.lucy_session.proofs.EvaluationLemmas.{evaluated_reached}
use Rattle.lucy_session.proofs.ConfluenceLemmas.{closed_is_confluent}

-- ---- entries

-- an expression that was read and evaluated reaches its value, its calls named
pub label_reaches : (plan : PlanParts) (tree : Tree) (state : List ℤ) (p : List ℤ × ℕ) (entry : Reached) → IsWhole plan plan.start → IsTrue (all_fit plan tree) → size tree ≤ 10000
    → evaluated plan tree 0 ≡ Ok p → p.0 ≡ state → entry.state ≡ state → entry.expr.tree ≡ named tree → Reaches plan entry
label_reaches plan tree state p entry start fit few e same here tree_is =
    let counts = replicate most_replicas 0 in
    let is = evaluated_reached plan tree 0 p start fit e in
    record {
      reached = subst (IsReached plan) (sym tree_is) (reached-named plan counts tree is.0);
      value_is = ap (value plan plan.start) tree_is ∙ value-named plan plan.start counts tree ∙ sym is.1 ∙ same ∙ sym here;
      few = subst (λ n. n ≤ 10000) (sym (ap size tree_is ∙ size-named counts tree)) few;
    }

-- what a walk meets reaches its goal
pub met_reaches : (plan : PlanParts) (goal : List ℤ) (entry : Reached) → Meets plan goal entry.expr.tree → entry.state ≡ goal → Reaches plan entry
met_reaches plan goal entry met e = record { reached = met.reached; value_is = met.value_is ∙ sym e; few = omega (arith, met.few) }

-- the start reaches itself
pub start_reaches : (plan : PlanParts) (entry : Reached) → IsWhole plan plan.start → entry.state ≡ plan.start → entry.expr.tree ≡ Start → Reaches plan entry
start_reaches plan entry start state tree =
    record {
      reached = subst (IsReached plan) (sym tree) start;
      value_is = ap (value plan plan.start) tree ∙ sym state;
      few = subst (λ (t : Tree). size t ≤ 10000) (sym tree) (omega arith);
    }

-- ---- lists of entries

pub one : {A : Type 0} (P : A → Type 0) (x : A) → P x → All P (x ∷ [])
one P x h zero d k = h
one P x h (suc n) d k = absurd (omega (arith, k))

abbrev inside : Expression → Option Expression → Expression
inside e None = e
inside e (Some f) = f

-- an entry is the one of a state, or the rest is looked at
picked_reaches : (plan : PlanParts) (entry : Reached) (state : List ℤ) (e : Expression) (rest : Option Expression) (b : Bool) → pointwise int_eq entry.state state ≡ b → Reaches plan entry
    → (rest ≡ Some e → IsReached plan e.tree × (value plan plan.start e.tree ≡ state)) → (if b then Some entry.expr else rest) ≡ Some e
    → IsReached plan e.tree × (value plan plan.start e.tree ≡ state)
picked_reaches plan entry state e rest true same here others g =
    let f : entry.expr ≡ e = ap (inside e) g in
    subst (λ (x : Expression). IsReached plan x.tree × (value plan plan.start x.tree ≡ state)) f (here.reached, here.value_is ∙ (signed_items entry.state state).0 same)
picked_reaches plan entry state e rest false same here others g = others g

-- the expression of a state is reached, and has the state as its value
found_reaches : (plan : PlanParts) (reached : List Reached) (state : List ℤ) (e : Expression) → All (Reaches plan) reached → expr_of reached state ≡ Some e
    → IsReached plan e.tree × (value plan plan.start e.tree ≡ state)
found_reaches plan [] state e all found = absurd (cc)
found_reaches plan (entry ∷ reached) state e all found =
    picked_reaches plan entry state e (expr_of reached state) (pointwise int_eq entry.state state) refl (all 0 entry (omega arith))
    (found_reaches plan reached state e (λ i d k. all (suc i) d (omega (arith, k)))) found

pub entries_reach : (plan : PlanParts) (state : List ℤ) (found : Option Expression) → IfSome found (λ (e : Expression). Reaches plan (entry_at state e))
    → All (Reaches plan) (listed (option_map (entry_at state) found))
entries_reach plan state None h = λ i d k. absurd (omega (arith, k))
entries_reach plan state (Some e) h = one (Reaches plan) (entry_at state e) h

pub entries_are : (state : List ℤ) (found : Option Tree) → listed (option_map (entry_at state) (option_map roomy found)) ≡ entries_of state found
entries_are state None = refl
entries_are state (Some tree) = refl

-- ---- walks

-- what a walk answers is the expression of the tree that it meets
pub met_is : (plan : PlanParts) (goal : List ℤ) (found : Option Expression) (met : Option Tree) → option_map (λ (e : Expression). e.tree) found ≡ met
    → IfSome found (λ (e : Expression). (e.room ≡ most_replicas) × Meets plan goal e.tree) → found ≡ option_map roomy met
met_is plan goal None met e h = ap (option_map roomy) e
met_is plan goal (Some x) met e h = ap (λ (n : ℕ). Some (record { tree = x.tree; room = n })) h.0 ∙ ap (option_map roomy) e

pub met_reach : (plan : PlanParts) (goal : List ℤ) (found : Option Expression) → IfSome found (λ (e : Expression). (e.room ≡ most_replicas) × Meets plan goal e.tree)
    → IfSome found (λ (e : Expression). Reaches plan (entry_at goal e))
met_reach plan goal None h = tt
met_reach plan goal (Some x) h = met_reaches plan goal (entry_at goal x) h.1 refl

-- ---- answers

ends : (plan : PlanParts) (points : List (List ℤ)) (reached : List Reached) (p : Pair) (l r : Option Expression) → expr_of reached p.left ≡ l → expr_of reached p.right ≡ r
    → All (Reaches plan) reached → IsShown plan points p → Means plan points (answer_by p l r)
ends plan points reached p (Some e) (Some f) el er all shown =
    let left = found_reaches plan reached p.left e all el in
    let right = found_reaches plan reached p.right f all er in (
      left.0,
      right.0,
      ap (λ (x : List ℤ). is_whole plan (merged plan.object x (value plan plan.start f.tree))) left.1
          ∙ ap (λ (x : List ℤ). is_whole plan (merged plan.object p.left x)) right.1
          ∙ shown.merge,
    )
ends plan points reached p (Some e) None el er all shown = shown
ends plan points reached p None (Some f) el er all shown = shown
ends plan points reached p None None el er all shown = shown

-- an answer means what it says
pub means_of : (plan : PlanParts) (points : List (List ℤ)) (reached : List Reached) (pair : Option Pair) → IsPlan plan → are_points (length plan.object) points ≡ true
    → All (Reaches plan) reached → IsDrawn plan points pair → Means plan points (answer_of reached pair)
means_of plan points reached None is are all none = closed_is_confluent plan points ((whole_says plan points is are).0 none)
means_of plan points reached (Some p) is are all shown = ends plan points reached p (expr_of reached p.left) (expr_of reached p.right) refl refl all shown

-- ---- sessions

pub kept_as : (d e : Dialogue) → e ≡ d → IsKept d → IsKept e
kept_as d e same h = subst IsKept (sym same) h

pub drawn_if_some : (d : Dialogue) (pair : Option Pair) → IsKept d → d.pair ≡ pair → is_some pair ≡ true → IsDrawn d.plan d.points pair
drawn_if_some d None h e some = absurd (cc)
drawn_if_some d (Some p) h e some = h.shown p e

pub follows_some : (plan : PlanParts) (points : List (List ℤ)) (pair : Option Pair) → is_some pair ≡ true → Follows plan points pair pair
follows_some plan points None some = absurd (cc)
follows_some plan points (Some p) some = refl

pub follows_none : (plan : PlanParts) (points : List (List ℤ)) (pair after : Option Pair) → is_some pair ≡ false → IsDrawn plan points after → Follows plan points pair after
follows_none plan points None after none drawn = drawn
follows_none plan points (Some p) after none drawn = absurd (cc)

pub paired_kept : (d : Dialogue) (pair : Option Pair) → IsKept d → IsDrawn d.plan d.points pair → IsKept (record d { pair = pair })
paired_kept d pair h drawn =
    record {
      names = h.names;
      start = h.start;
      few = h.few;
      points = h.points;
      reached = h.reached;
      shown = λ p e. subst (IsDrawn d.plan d.points) e drawn;
    }

point_more : (leaves : ℕ) (points : List (List ℤ)) (state : List ℤ) → are_points leaves points ≡ true → length state ≡ leaves → are_points leaves (points ++ state ∷ []) ≡ true
point_more leaves points state h e =
    let test : List ℤ → Bool = λ point. length point == leaves in
    let last : list_all test (state ∷ []) ≡ true = and_from (length state == leaves) true ((unsigned_Decides (length state) leaves).1 e) refl in
    list_all-append test points (state ∷ []) ∙ and_from (list_all test points) (list_all test (state ∷ [])) h last

pub excluded_kept : (d : Dialogue) (state : List ℤ) → IsKept d → length state ≡ length d.plan.object → length d.points < 256
    → IsKept (record d { points = d.points ++ state ∷ []; pair = None })
excluded_kept d state h even few =
    record {
      names = h.names;
      start = h.start;
      few = omega (arith, few, length-append d.points (state ∷ []));
      points = point_more (length d.plan.object) d.points state h.points even;
      reached = h.reached;
      shown = λ p e. absurd (cc);
    }

pub reached_kept : (d : Dialogue) (more : List Reached) → IsKept d → All (Reaches d.plan) more → IsKept (record d { reached = d.reached ++ more })
reached_kept d more h all =
    record {
      names = h.names;
      start = h.start;
      few = h.few;
      points = h.points;
      reached = All-append (Reaches d.plan) d.reached more h.reached all;
      shown = h.shown;
    }

pub opening_kept : (plan : PlanParts) (names : Names) (reached : List Reached) → AreNamesOf plan names → IsWhole plan plan.start → All (Reaches plan) reached
    → IsKept (record { plan = plan; names = names; points = []; reached = reached; pair = None })
opening_kept plan names reached are start all =
    record { names = are; start = start; few = omega arith; points = refl; reached = all; shown = λ p e. absurd (cc) }

-- a state of the pair that is shown has a number for each leaf
pub even_on : (d : Dialogue) (p : Pair) (side : Side) → IsKept d → d.pair ≡ Some p → length (state_on side p) ≡ length d.plan.object
even_on d p Left h e =
    let shown = h.shown p e in
    whole_length d.plan p.left (and_parts (is_whole d.plan p.left) (not (is_among d.points p.left)) shown.first).0
even_on d p Right h e =
    let shown = h.shown p e in
    whole_length d.plan p.right (and_parts (is_whole d.plan p.right) (not (is_among d.points p.right)) shown.second).0

-- one entry more
pub entry_put : (d : Dialogue) (rs : List Reached) (entry : Reached) → IsKept d → rs ≡ d.reached ++ entry ∷ [] → Reaches d.plan entry → IsKept (record d { reached = rs })
entry_put d rs entry h same reaches =
    subst (λ (es : List Reached). IsKept (record d { reached = es })) (sym same) (reached_kept d (entry ∷ []) h (one (Reaches d.plan) entry reaches))

-- two entries more, or those that are there
pub entries_put : (d : Dialogue) (rs : List Reached) (first second : Option Reached) → IsKept d → rs ≡ d.reached ++ listed first ++ listed second
    → All (Reaches d.plan) (listed first) → All (Reaches d.plan) (listed second) → IsKept (record d { reached = rs })
entries_put d rs first second h same left right =
    subst (λ (es : List Reached). IsKept (record d { reached = es })) (sym same)
    (reached_kept (record d { reached = d.reached ++ listed first }) (listed second) (reached_kept d (listed first) h left) right)

-- what was found for a state reaches it
pub entry_reaches : (plan q : PlanParts) (state : List ℤ) (found : Option Expression) (first : Option Reached) → q ≡ plan → IfSome found (λ (e : Expression). Reaches q (entry_at state e))
    → first ≡ option_map (entry_at state) found → All (Reaches plan) (listed first)
entry_reaches plan q state found first same h e =
    subst (λ (o : Option Reached). All (Reaches plan) (listed o)) (sym e) (subst (λ (x : PlanParts). All (Reaches x) (listed (option_map (entry_at state) found))) same (entries_reach q state found h))

not_false : (b : Bool) → not b ≡ false → b ≡ true
not_false true e = refl
not_false false e = absurd (cc)

-- states that do not differ are the same
pub same_if : (xs ys : List ℤ) (b : Bool) → b ≡ not (pointwise int_eq xs ys) → b ≡ false → xs ≡ ys
same_if xs ys b e f = (signed_items xs ys).0 (not_false (pointwise int_eq xs ys) (sym e ∙ f))

pub if_ok : {A E : Type 0} (r : Result A E) (P Q : A → Type 0) → ((x : A) → P x → Q x) → IfOk r P → IfOk r Q
if_ok (Ok x) P Q f h = f x h
if_ok (Err e) P Q f h = tt

-- what an answer means, of the parts of a session
pub means_at : (d e : Dialogue) (q plan : PlanParts) (points : List (List ℤ)) (reached : List Reached) (pair : Option Pair) (next : Next) → IsKept d → d ≡ e → q ≡ d.plan → IsPlan q
    → plan ≡ d.plan → points ≡ d.points → reached ≡ d.reached → IsDrawn plan points pair → next ≡ answer_of reached pair → Means e.plan e.points next
means_at d e q plan points reached pair next h same qs is ps os rs drawn ns =
    let there : IsDrawn d.plan d.points pair = subst (λ (x : List (List ℤ)). IsDrawn d.plan x pair) os (subst (λ (x : PlanParts). IsDrawn x points pair) ps drawn) in
    let said : Means d.plan d.points (answer_of d.reached pair) = means_of d.plan d.points d.reached pair (subst IsPlan qs is) h.points h.reached there in
    let here : next ≡ answer_of d.reached pair = ns ∙ ap (λ (x : List Reached). answer_of x pair) rs in
    subst (λ (x : Dialogue). Means x.plan x.points next) same (subst (Means d.plan d.points) (sym here) said)

abbrev two : Option Expression → Option Expression → Option Expression × Option Expression
two a b = (a, b)

found_is : (d : Dialogue) (seed rounds : ℕ) (q : PlanParts) (reached : List Reached) (state : List ℤ) (found : Option Expression) → q ≡ d.plan → reached ≡ d.reached
    → found ≡ option_map roomy (found_beside q reached seed rounds state) → found ≡ option_map roomy (found_for d seed rounds state)
found_is d seed rounds q reached state found qs rs e =
    e ∙ ap (λ (x : PlanParts). option_map roomy (found_beside x reached seed rounds state)) qs ∙ ap (λ (x : List Reached). option_map roomy (found_beside d.plan x seed rounds state)) rs

listed_is : (d : Dialogue) (seed rounds : ℕ) (state : List ℤ) (found : Option Expression) (entry : Option Reached) → found ≡ option_map roomy (found_for d seed rounds state)
    → entry ≡ option_map (entry_at state) found → listed entry ≡ entries_of state (found_for d seed rounds state)
listed_is d seed rounds state found entry is e =
    ap listed e ∙ ap (λ (o : Option Expression). listed (option_map (entry_at state) o)) is ∙ entries_are state (found_for d seed rounds state)

-- a search, of the parts of a session
pub searches_at : (d e : Dialogue) (seed rounds : ℕ) (p : Pair) (left right : Option Expression) (first second : Option Reached) (q r : PlanParts) (reached rs : List Reached)
    → d ≡ e → d.pair ≡ Some p → q ≡ d.plan → r ≡ d.plan → reached ≡ d.reached
    → left ≡ option_map roomy (found_beside q reached seed rounds p.left) → right ≡ option_map roomy (found_beside r reached seed rounds p.right)
    → first ≡ option_map (entry_at p.left) left → second ≡ option_map (entry_at p.right) right → rs ≡ d.reached ++ listed first ++ listed second
    → Searches e seed rounds e.pair (left, right) (record d { reached = rs })
searches_at d e seed rounds p left right first second q r reached rs same shown qs ks es el er ef eg put =
    let l = found_is d seed rounds q reached p.left left qs es el in
    let m = found_is d seed rounds r reached p.right right ks es er in
    let f = listed_is d seed rounds p.left left first l ef in
    let g = listed_is d seed rounds p.right right second m eg in
    let found : two left right ≡ found_of d seed rounds p = ap (λ (a : Option Expression). two a right) l ∙ ap (two (option_map roomy (found_for d seed rounds p.left))) m in
    let items : rs ≡ d.reached ++ entries_of p.left (found_for d seed rounds p.left) ++ entries_of p.right (found_for d seed rounds p.right) =
    put
    ∙ ap (λ (a : List Reached). d.reached ++ a ++ listed second) f
    ∙ ap (λ (a : List Reached). d.reached ++ entries_of p.left (found_for d seed rounds p.left) ++ a) g in
    let after : record d { reached = rs } ≡ searched d seed rounds p = ap (λ (x : List Reached). record d { reached = x }) items in
    let here : Searches d seed rounds (Some p) (left, right) (record d { reached = rs }) = (found, after) in
    subst (λ (x : Dialogue). Searches x seed rounds x.pair (left, right) (record d { reached = rs })) same
    (subst (λ (o : Option Pair). Searches d seed rounds o (left, right) (record d { reached = rs })) (sym shown) here)
