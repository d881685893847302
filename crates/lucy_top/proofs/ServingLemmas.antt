-- A whole call, by what its words ask for.
use Rattle.std.proofs.Common.{◌≡◌, ◌≢◌, ◌⊎◌, ℕ, zero, suc, true, false, List, [], ◌∷◌, ◌++◌, Option, Some, None, Result, Ok, Err, refl, sym, ap, subst, ◌∙◌, inl, inr, arith}
use Rattle.std.specs.Prelude.{◌↔◌, IsTrue, IfSome}
use Rattle.std.specs.Option.{is_some}
use Rattle.std.proofs.lemmas.List.{append-nil}
use Rattle.std.proofs.lemmas.Option.{same_Some}
use Rattle.lucy_core.specs.declared.outcome.Outcome.{Outcome}
use Rattle.lucy_io.specs.Inputs.{Entry, Told}
use Rattle.lucy_io.specs.Outcomes as read
use Rattle.lucy_plan.specs.declared.parts.PlanParts.{PlanParts}
use Rattle.lucy_report.specs.FaultLines as lines
use Rattle.lucy_top.specs.Commands.{script_meant, script_asked, script_meant_asked, names_asked, asks_plan}
use Rattle.lucy_top.specs.Conversing.{Walk}
use Rattle.lucy_top.specs.Ends.{Follows, Ends}
use Rattle.lucy_top.specs.Labelling.{Labels, session_by, session_in}
use Rattle.lucy_top.specs.Outcomes.{Choice, kept, asks_run}
use Rattle.lucy_top.specs.Script.{Script}
use Rattle.lucy_top.specs.Serving.{Scripted, Serves}
use Rattle.lucy_top.specs.Stops.{StopsWith}
use Rattle.lucy_top.specs.Writing.{Finishes}
use Rattle.lucy_top.specs.declared.said.Said.{Said}
use Rattle.lucy_top.specs.declared.said.Stop.{Stop}
use Rattle.lucy_top.specs.declared.said.Stop.TheVariants as stops
use Rattle.lucy_top.proofs.EndLemmas.{ends_so}
use Rattle.lucy_top.proofs.KeptLemmas.{outcome_exact, kept_exact}
use Rattle.lucy_top.proofs.LabellingLemmas.{HasCauses, script_causes, labels_causes}
use Rattle.lucy_top.proofs.ScriptLemmas.{asks_meant}
use Rattle.lucy_words.specs.Commands.{command_of}
use Rattle.lucy_words.specs.declared.asked.Command.{Command}
use Rattle.lucy_words.specs.declared.asked.Command.TheVariants as command
use Rattle.lucy_words.specs.declared.error.WordsError.{WordsError}
use Rattle.lucy_words.specs.declared.error.WordsError.TheVariants.{BadWords, OutOfMemory}

-- ---- how it comes to that

some_none : (session : List ℕ × Walk) → Some session ≡ None → ⊥
some_none session is = cc

wanting_ends : (script : Script) (told : Option Told) (old : List Entry) (h : Option (List ℕ)) (f : ℕ) → Ends script told old old h h f f 7
wanting_ends script told old h f = record { added = []; journal = sym (append-nil old); way = inr (inr (record { status_is = refl; ran = tt; unwritten = refl })) }

-- words in no form end a call
words_end : (at : ℕ) (e : Stop) (told : Option Told) (old : List Entry) → StopsWith 2 (lines.bad_words at) e → Follows (script_asked (Err (BadWords at))) told old old (Err e)
words_end at stops.OutOfMemory told old said = record { added = []; journal = sym (append-nil old); answer = tt }
words_end at (stops.Ended s) told old said = record { added = []; journal = sym (append-nil old); answer = said }

module _ {S : Type 0} (suits : Choice → Option Outcome → Type 0) (asked : read.Outcome WordsError Command) (slot : Option Outcome) (told : Option Told) (old : List Entry) (l0 l1 h0 h1 : Option (List ℕ))
    (sf0 sf1 kf0 kf1 status : ℕ) where
  pub label_serves : (plan : List ℕ) (walk : Walk) (new : List Entry) (s0 s1 : S) → asked ≡ Ok (command.Label plan walk) → slot ≡ None
      → Labels plan walk told old new l0 l1 h0 h1 sf0 sf1 kf0 kf1 status → Serves suits asked slot told old new s0 s1 l0 l1 h0 h1 sf0 sf1 kf0 kf1 status
  label_serves plan walk new s0 s1 is none labels =
      let session : session_in asked ≡ Some (plan, walk) = ap session_in is in
      record {
        scripted = λ other. absurd (some_none (plan, walk) (sym session ∙ other));
        labelled = λ p w same. (subst (λ (t : List ℕ × Walk). Labels t.0 t.1 told old new l0 l1 h0 h1 sf0 sf1 kf0 kf1 status) (same_Some (plan, walk) (p, w) (sym session ∙ same)) labels, none);
      }

  pub command_serves : (c : Command) (new : List Entry) (said : Result Said Stop) (s : S) → asked ≡ Ok c → session_by c ≡ None
      → ((choice : Choice) → suits choice slot → Follows (script_meant choice c) told old new said) → IfSome slot (λ outcome. asks_run (Ok c) ≡ true)
      → Finishes said h0 h1 kf0 kf1 status → Serves suits asked slot told old new s s l0 l1 h0 h1 sf0 sf1 kf0 kf1 status
  command_serves c new said s is none follows only finishes =
      let scripted : Scripted suits (Ok c) slot told old new s s h0 h1 kf0 kf1 status = record {
        ends = λ choice suited. ends_so (script_meant choice c) told old new said h0 h1 kf0 kf1 status (follows choice suited) finishes;
        only = only;
        still = refl;
      } in
      record {
        scripted = λ other. subst (λ (a : read.Outcome WordsError Command). Scripted suits a slot told old new s s h0 h1 kf0 kf1 status) (sym is) scripted;
        labelled = λ p w same. absurd (some_none (p, w) (sym same ∙ ap session_in is ∙ none));
      }

  pub words_serve : (at : ℕ) (e : Stop) (s : S) → asked ≡ Err (BadWords at) → slot ≡ None → StopsWith 2 (lines.bad_words at) e → Finishes (Err e) h0 h1 kf0 kf1 status
      → Serves suits asked slot told old old s s l0 l1 h0 h1 sf0 sf1 kf0 kf1 status
  words_serve at e s is none stops finishes =
      let ended = ends_so (script_asked (Err (BadWords at))) told old old (Err e) h0 h1 kf0 kf1 status (words_end at e told old stops) finishes in
      let scripted : Scripted suits (Err (BadWords at)) None told old old s s h0 h1 kf0 kf1 status = record { ends = λ choice suited. ended; only = tt; still = refl } in
      record {
        scripted = λ other. rw (is, none) scripted;
        labelled = λ p w same. absurd (some_none (p, w) (sym same ∙ ap session_in is));
      }

pub wanting_serves : {S : Type 0} (suits : Choice → Option Outcome → Type 0) (asked : read.Outcome WordsError Command) (slot : Option Outcome) (told : Option Told) (old : List Entry) (s : S)
    (l h : Option (List ℕ)) (sf kf : ℕ) → slot ≡ None → Serves suits asked slot told old old s s l l h h sf sf kf kf 7
wanting_serves suits asked slot told old s l h sf kf none = record {
  scripted = λ is. record { ends = λ choice suited. wanting_ends (script_meant_asked choice asked) told old h kf; only = rw none tt; still = refl };
  labelled = λ plan walk is. (inl (record { ends = λ next. wanting_ends (asks_plan plan next) told old h kf; untaken = refl; still = refl }), none);
}

-- ---- what words ask for

session_name : (asked : read.Outcome WordsError Command) (plan : List ℕ) (walk : Walk) → session_in asked ≡ Some (plan, walk) → names_asked asked ≡ plan ∷ []
session_name (Ok (command.Label name which)) plan walk is = ap (λ (s : List ℕ × Walk). s.0 ∷ []) (same_Some (name, which) (plan, walk) is)
session_name (Ok _) plan walk is = absurd cc
session_name (Err e) plan walk is = absurd cc

session_no_run : (asked : read.Outcome WordsError Command) (session : List ℕ × Walk) → session_in asked ≡ Some session → asks_run asked ≡ true → ⊥
session_no_run (Ok (command.Label plan walk)) session is run = let lost : false ≡ true = run in cc
session_no_run (Ok _) session is run = absurd cc
session_no_run (Err e) session is run = absurd cc

-- ---- what follows of it

given_none : (slot given : Option Outcome) (status : ℕ) → slot ≡ None → (status ≡ 0 → given ≡ slot) → ((¬ (status ≡ 0)) → given ≡ None) → given ≡ None
given_none slot given zero none whole other = whole refl ∙ none
given_none slot given (suc n) none whole other = other (λ is. omega (arith, is))

none_some : (given : Option Outcome) → given ≡ None → IsTrue (is_some given) → ⊥
none_some given none some = let lost : false ≡ true = sym (ap is_some none) ∙ some in cc

-- what was kept may be meant, which is the argument `own`
module _ {S : Type 0} {suits : Choice → Option Outcome → Type 0} {slot : Option Outcome} {told : Option Told} {old new : List Entry} {s0 s1 : S} {l0 l1 h0 h1 : Option (List ℕ)} {sf0 sf1 kf0 kf1 status : ℕ}
    (words : List (List ℕ)) (serves : Serves suits (command_of words) slot told old new s0 s1 l0 l1 h0 h1 sf0 sf1 kf0 kf1 status) (own : suits (kept slot) slot) where
  causes_by : (session : Option (List ℕ × Walk)) → session_in (command_of words) ≡ session → HasCauses (names_asked (command_of words)) old new sf0 sf1 kf0 kf1 status
  causes_by None is =
      script_causes (names_asked (command_of words)) (script_meant_asked (kept slot) (command_of words)) told old new h0 h1 sf0 sf1 kf0 kf1 status (asks_meant (kept slot) (command_of words))
      ((serves.scripted is).ends (kept slot) own)
  causes_by (Some (plan, walk)) is = subst (λ (names : List (List ℕ)). HasCauses names old new sf0 sf1 kf0 kf1 status) (sym (session_name (command_of words) plan walk is))
      (labels_causes plan walk told old new l0 l1 h0 h1 sf0 sf1 kf0 kf1 status (serves.labelled plan walk is).0)

  pub causes_so : HasCauses (names_asked (command_of words)) old new sf0 sf1 kf0 kf1 status
  causes_so = causes_by (session_in (command_of words)) refl

  module _ (given : Option Outcome) (whole : status ≡ 0 → given ≡ slot) where
    outcome_by : (session : Option (List ℕ × Walk)) → session_in (command_of words) ≡ session → ((¬ (status ≡ 0)) → given ≡ None) → IsTrue (is_some given) ↔ ((asks_run (command_of words) ≡ true) × (status ≡ 0))
    outcome_by None is other = outcome_exact words told old new h0 h1 kf0 kf1 slot given status whole other (serves.scripted is).only ((serves.scripted is).ends (kept slot) own)
    outcome_by (Some (plan, walk)) is other =
        (λ some. absurd (none_some given (given_none slot given status (serves.labelled plan walk is).1 whole other) some), λ both. absurd (session_no_run (command_of words) (plan, walk) is both.0))

    pub outcome_so : ((¬ (status ≡ 0)) → given ≡ None) → IsTrue (is_some given) ↔ ((asks_run (command_of words) ≡ true) × (status ≡ 0))
    outcome_so other = outcome_by (session_in (command_of words)) refl other

    pub kept_so : session_in (command_of words) ≡ None → status ≡ 0 → Ends (script_meant_asked (kept given) (command_of words)) told old new h0 h1 kf0 kf1 status
    kept_so is zero_is = kept_exact words told old new h0 h1 kf0 kf1 slot given status whole ((serves.scripted is).ends (kept slot) own) zero_is
