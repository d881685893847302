use Rattle.std.proofs.Common.{rules, refl, ap, ◌∙◌}
use Rattle.std.specs.Arc.{arc_value}
use Rattle.lucy_plan.specs.Soundness.{IsSound}
use Rattle.lucy_report.specs.OutcomeTexts.{outcome_text}
use Rattle.lucy_top.proofs.OutcomeLemmas.{legal_named}
use Rattle.lucy_top.proofs.ThreadLemmas.{kept_has_run}
use Rattle.lucy_top.proofs.threads.Crew.say.Goals as goal

pub outcome_text-requires : goal.outcome_text-requires
outcome_text-requires g c =
    legal_named (arc_value c.args.checked) c.args.work.now.lists _ c.args.names.now c.in_ok-outcome.ensures.legal c.requires.names

pub returns-clause-says : goal.returns-clause-says
returns-clause-says g c = λ choice suits.
    let sound : IsSound (arc_value c.args.checked) = search rules in
    kept_has_run choice _ (arc_value c.args.checked) c.args.work.now.lists c.in_ok-outcome.outcome _ suits refl
    c.in_ok-outcome.ensures.legal sound
    (c.in_ok-text.ensures ∙ ap (λ names. outcome_text names c.in_ok-outcome.outcome) c.requires.names.segments)
