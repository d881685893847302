use Rattle.lucy_checker.proofs.testing.rup_behind.Goals as goal

pub returns : goal.returns
returns c = c.rup_step.ensures
