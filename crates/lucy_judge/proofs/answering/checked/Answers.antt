use Rattle.std.proofs.Common.{rules}
use Rattle.std.specs.Arc.{arc_value}
use Rattle.lucy_judge.proofs.Sound.{trial_sound}
use Rattle.lucy_judge.proofs.answering.checked.Goals as goal

pub of-requires : goal.of-requires
of-requires c =
    trial_sound c.refutes_exactly.ensures c.checkers_are_exact.ensures c.refuted_has_no_model.ensures c.escape_is_closure_model.ensures c.uncovered_is_cover_model.ensures
    (arc_value c.args.plan) c.args.trial.now (search (rules, c.is_plan.ensures)) c.requires.kept c.requires.accepted
