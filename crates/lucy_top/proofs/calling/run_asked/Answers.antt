use Rattle.std.proofs.Common.{◌≡◌, true, Ok, subst}
use Rattle.lucy_top.specs.Ends.{Follows}
use Rattle.lucy_top.specs.Outcomes.{alone, asks_run}
use Rattle.lucy_top.specs.Script.{Script}
use Rattle.lucy_top.proofs.ScriptLemmas.{meant_alike}
use Rattle.lucy_top.proofs.ThreadLemmas.{none_only, none_apart}
use Rattle.lucy_top.proofs.calling.run_asked.Goals as goal

pub returns : goal.returns
returns g c = record {
  scripted = c.requires.scripted;
  told = c.run-in_default.ensures.told;
  follows = λ told choice same suits.
      subst (λ (s : Script). Follows s told (g.I.Inputs.journal c.args.inputs.now) (g.I.Inputs.journal c.run-in_default.new.inputs) c.run-in_default.result)
      (meant_alike alone choice c.args.command c.in_default.not-Run) (c.run-in_default.ensures.follows told alone same tt);
  only = none_only (λ outcome. asks_run (Ok c.args.command) ≡ true) c.args.kept.now.outcome c.requires.empty;
  apart = none_apart c.args.kept.now.outcome c.args.kept.now.apart c.requires.empty c.requires.none;
}
