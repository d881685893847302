-- A label that is taken.
use Rattle.std.proofs.Common.{◌≡◌, ◌≢◌, ℕ, ◌+◌, ◌-◌, Bool, true, false, List, [], ◌∷◌, ◌++◌, length, Option, Some, None, Ok, Err, refl, sym, ap, subst, ◌∙◌, arith, inl, inr, eqb}
use Rattle.std.specs.Prelude.{is_some, if◌then◌else◌}
use Rattle.std.specs.Io.KnownBytes.{Appends}
use Rattle.std.proofs.KnownBytes.{Appends-nil}
use Rattle.std.specs.Ordering.{int_eq}
use Rattle.std.specs.Prelude.{ℤ, IsSome, nat_lt}
use Rattle.std.specs.Cmp.Lexicographic.{pointwise}
use Rattle.std.proofs.lemmas.Bool.{ne_eqb, eq-eqb}
use Rattle.std.proofs.lemmas.List.{length-append}
use Rattle.lucy_io.specs.Outcomes.{Outcome, ◌>>=◌}
use Rattle.lucy_expr.specs.Trees.{Tree}
use Rattle.lucy_session.specs.Evaluation.{evaluated}
use Rattle.lucy_session.specs.Labels.{Label, Claim, Unreach, Reach, label_of}
use Rattle.lucy_session.specs.Sessions.{Dialogue, expr_of, labelled, labelled_by, claimed, given, state_on, most_points}
use Rattle.lucy_session.specs.declared.answers.LabelError.{LabelError}
use Rattle.lucy_session.specs.declared.answers.LabelError.TheVariants.{AlreadyReachable, TooMany, OtherState}
use Rattle.lucy_session.specs.declared.reached.Reached.{Reached}
use Rattle.lucy_session.specs.declared.reached.Pair.{Pair}
use Rattle.lucy_top.specs.Conversing.{or_same, answer_text, TakesLabel}

-- a label that is taken excludes a state, and then no pair stands, or leaves the states that are excluded
abbrev Stands : Dialogue → Dialogue → Type 0
Stands d e = is_some e.pair ≡ eqb (length e.points) (length d.points)

excluded_so : (d e : Dialogue) (state : List ℤ) (b : Bool)
    → (if b then Ok (record d { points = d.points ++ state ∷ []; pair = None }) else Err TooMany) ≡ Ok e → Stands d e
excluded_so d e state true is =
    let e-is : record d { points = d.points ++ state ∷ []; pair = None } ≡ e = cc in
    let other : length (d.points ++ state ∷ []) ≢ length d.points = λ same. omega (arith, same, length-append d.points (state ∷ [])) in
    subst (Stands d) e-is (sym (ne_eqb (length (d.points ++ state ∷ [])) (length d.points) other))
excluded_so d e state false is = absurd cc

given_so : (d e : Dialogue) (entries : List Reached) (b : Bool) → is_some d.pair ≡ true → (if b then Ok (record d { reached = entries }) else Err OtherState) ≡ Ok e → Stands d e
given_so d e entries true some is =
    let e-is : record d { reached = entries } ≡ e = cc in
    subst (Stands d) e-is (some ∙ sym (eq-eqb (length d.points) (length d.points) refl))
given_so d e entries false some is = absurd cc

reach_so : (d e : Dialogue) (state : List ℤ) (tree : Tree) (o : Outcome LabelError (List ℤ × ℕ)) → is_some d.pair ≡ true → (o >>= λ found. given d state tree found.0) ≡ Ok e → Stands d e
reach_so d e state tree (Ok found) some is = given_so d e _ (pointwise int_eq found.0 state) some is
reach_so d e state tree (Err x) some is = absurd cc

claimed_so : (d e : Dialogue) (state : List ℤ) (claim : Claim) → is_some d.pair ≡ true → claimed d state claim ≡ Ok e → Stands d e
claimed_so d e state Unreach some is = excluded_so d e state (nat_lt (length d.points) most_points) is
claimed_so d e state (Reach tree) some is = reach_so d e state tree (evaluated d.plan tree 0) some is

asked_by : (d e : Dialogue) (state : List ℤ) (claim : Claim) (b : Bool) → is_some d.pair ≡ true → (if b then Err AlreadyReachable else claimed d state claim) ≡ Ok e → Stands d e
asked_by d e state claim true some is = absurd cc
asked_by d e state claim false some is = claimed_so d e state claim some is

label_so : (d e : Dialogue) (pair : Option Pair) (o : Outcome LabelError Label) → IsSome pair → d.pair ≡ pair → (o >>= labelled_by d pair) ≡ Ok e → Stands d e
label_so d e None o some at is = absurd (let lost : false ≡ true = some in cc)
label_so d e (Some p) (Err x) some at is = absurd cc
label_so d e (Some p) (Ok label) some at is =
    asked_by d e (state_on label.side p) label.claim (is_some (expr_of d.reached (state_on label.side p))) (ap is_some at) is

labelled_stands : (d e : Dialogue) (line : List ℕ) → IsSome d.pair → labelled d line ≡ Ok e → Stands d e
unfolding labelled
labelled_stands d e line some is = label_so d e d.pair (label_of d.plan line) some refl is

pub accepted : (d e : Dialogue) (line : List ℕ) (stands : Bool) (h0 h1 : Option (List ℕ)) (f0 f1 : ℕ) → IsSome d.pair → labelled d line ≡ Ok e → stands ≡ eqb (length e.points) (length d.points)
    → h1 ≡ h0 → TakesLabel d line e h0 h1 f0 f1 (Ok stands)
accepted d e line stands h0 h1 f0 f1 some is same kept =
    (same ∙ sym (labelled_stands d e line some is), sym (ap (or_same d) is), subst (Appends h0 h1) (sym (ap answer_text is)) (subst (λ (h : Option (List ℕ)). Appends h0 h []) (sym kept) (Appends-nil h0)))
