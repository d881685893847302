use Rattle.std.proofs.Common.{◌≡◌, drop}
use Rattle.lucy_gather.specs.Steps.{each}
use Rattle.lucy_elaborate.specs.Starts.{setting_in}
use Rattle.lucy_elaborate.proofs.starts.settings_in.Given as goal

abbrev pub invariant-loop-setting : goal.invariant-loop-setting
invariant-loop-setting l = each (setting_in l.scope) (drop l.setting-index l.settings) l.started ≡ each (setting_in l.scope) l.settings l.fn.started
