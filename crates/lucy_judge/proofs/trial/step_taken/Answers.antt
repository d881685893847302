use Rattle.std.proofs.Common.{Option}
use Rattle.std.proofs.Math.Path.{subst}
use Rattle.lucy_judge.specs.declared.trial.Present.{Present}
use Rattle.lucy_judge.specs.Keeping.{IsTrial}
use Rattle.lucy_judge.specs.Trials.{trial}
use Rattle.lucy_judge.proofs.Kept.{step_kept}
use Rattle.std.proofs.Common.{sym}
use Rattle.lucy_judge.proofs.trial.step_taken.Goals as goal

pub returns-clause-kept : goal.returns-clause-kept
returns-clause-kept c plan kept =
    subst (λ (o : Option Present). IsTrial plan (trial c.args.trial.due o c.args.trial.refusal)) (sym c.in_ok-present.ensures) (step_kept plan c.args.trial c.args.step.now kept)
