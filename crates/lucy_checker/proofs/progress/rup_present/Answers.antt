use Rattle.lucy_checker.proofs.progress.rup_present.Goals as goal

pub returns : goal.returns
returns c = c.rup_step.ensures
