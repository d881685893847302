use Rattle.std.proofs.Common.{rules, refl, ap, ◌∙◌}
use Rattle.std.specs.Arc.{arc_value}
use Rattle.lucy_plan.specs.Soundness.{IsSound}
use Rattle.lucy_report.specs.OutcomeTexts.{replicas_in, outcome_text}
use Rattle.lucy_top.proofs.OutcomeLemmas.{legal_named, alone_has_run}
use Rattle.lucy_top.proofs.alone_runs.say_alone.Goals as goal

pub outcome_text-requires : goal.outcome_text-requires
outcome_text-requires c =
    legal_named (arc_value c.args.checked) c.args.work.now.lists (replicas_in c.in_ok-outcome.outcome) c.args.names.now c.in_ok-outcome.ensures.legal c.requires.names

pub returns-clause-says : goal.returns-clause-says
returns-clause-says c = λ choice suits.
    let sound : IsSound (arc_value c.args.checked) = search rules in
    alone_has_run choice _ (arc_value c.args.checked) c.args.work.now.lists c.in_ok-outcome.outcome _ suits refl
    (record { no_threads = c.in_ok-outcome.ensures.threads; replicas = c.in_ok-outcome.ensures.lives }) c.in_ok-outcome.ensures.legal sound
    (c.in_ok-text.ensures ∙ ap (λ names. outcome_text names c.in_ok-outcome.outcome) c.requires.names.segments)
