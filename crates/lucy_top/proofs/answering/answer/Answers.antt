use Rattle.std.proofs.Common.{◌≡◌, false, map, string_bytes, refl}
use Rattle.lucy_top.specs.Outcomes.{alone}
use Rattle.lucy_top.proofs.EndLemmas.{complete_so}
use Rattle.lucy_top.proofs.KeptLemmas.{given_so}
use Rattle.lucy_top.proofs.ScriptLemmas.{alone_asked}
use Rattle.lucy_top.proofs.ServingLemmas.{causes_so, outcome_so, kept_so}
use Rattle.lucy_words.specs.Commands.{command_of}
use Rattle.lucy_top.proofs.answering.answer.Goals as goal

pub returns-clause-ends : goal.returns-clause-ends
returns-clause-ends g c = λ none.
    let scripted = (c.serve-status.ensures.serves (g.I.Inputs.told c.args.inputs.now) refl).scripted none in
    rw (alone_asked (command_of (map string_bytes c.args.words.now))) at (scripted.ends alone tt)

pub returns-clause-labels : goal.returns-clause-labels
returns-clause-labels g c = λ plan walk is. ((c.serve-status.ensures.serves (g.I.Inputs.told c.args.inputs.now) refl).labelled plan walk is).0

pub returns-clause-absent : goal.returns-clause-absent
returns-clause-absent g c = (causes_so (map string_bytes c.args.words.now) (c.serve-status.ensures.serves (g.I.Inputs.told c.args.inputs.now) refl) refl).absent

pub returns-clause-absent_only : goal.returns-clause-absent_only
returns-clause-absent_only g c = (causes_so (map string_bytes c.args.words.now) (c.serve-status.ensures.serves (g.I.Inputs.told c.args.inputs.now) refl) refl).absent_only

pub returns-clause-failed : goal.returns-clause-failed
returns-clause-failed g c = (causes_so (map string_bytes c.args.words.now) (c.serve-status.ensures.serves (g.I.Inputs.told c.args.inputs.now) refl) refl).failed

pub returns-clause-failed_only : goal.returns-clause-failed_only
returns-clause-failed_only g c = (causes_so (map string_bytes c.args.words.now) (c.serve-status.ensures.serves (g.I.Inputs.told c.args.inputs.now) refl) refl).failed_only

pub returns-clause-cut : goal.returns-clause-cut
returns-clause-cut g c = (causes_so (map string_bytes c.args.words.now) (c.serve-status.ensures.serves (g.I.Inputs.told c.args.inputs.now) refl) refl).cut

pub returns-clause-order : goal.returns-clause-order
returns-clause-order g c = (causes_so (map string_bytes c.args.words.now) (c.serve-status.ensures.serves (g.I.Inputs.told c.args.inputs.now) refl) refl).order

pub returns-clause-complete : goal.returns-clause-complete
returns-clause-complete g c = λ t verdict none known comes kept still. complete_so _ t verdict _ _ _ _ _ _ _ _ (returns-clause-ends g c none) known comes kept still

pub returns-clause-outcome : goal.returns-clause-outcome
returns-clause-outcome g c =
    outcome_so (map string_bytes c.args.words.now) (c.serve-status.ensures.serves (g.I.Inputs.told c.args.inputs.now) refl) refl c.kept_by.result c.kept_by.ensures.zero c.kept_by.ensures.other

pub returns-clause-kept : goal.returns-clause-kept
returns-clause-kept g c =
    kept_so (map string_bytes c.args.words.now) (c.serve-status.ensures.serves (g.I.Inputs.told c.args.inputs.now) refl) refl c.kept_by.result c.kept_by.ensures.zero

pub returns-clause-no_threads : goal.returns-clause-no_threads
returns-clause-no_threads g c = given_so (λ outcome. outcome.threads ≡ false) c.serve-status.new.slot c.kept_by.result c.serve-status.result c.kept_by.ensures.zero c.kept_by.ensures.other c.serve-status.ensures.no_threads

pub returns-clause-source : goal.returns-clause-source
returns-clause-source g c = λ none. ((c.serve-status.ensures.serves (g.I.Inputs.told c.args.inputs.now) refl).scripted none).still
