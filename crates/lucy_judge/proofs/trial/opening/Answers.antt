use Rattle.lucy_judge.proofs.Kept.{opening_kept}
use Rattle.lucy_judge.proofs.trial.opening.Goals as goal

pub returns-clause-kept : goal.returns-clause-kept
returns-clause-kept c = rw (c.in_ok-due.ensures, c.start_refusal.ensures) (opening_kept c.args.plan.now)
