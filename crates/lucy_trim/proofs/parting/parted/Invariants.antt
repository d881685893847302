use Rattle.std.proofs.Common.{◌≡◌, ◌++◌, drop}
use Rattle.lucy_trim.specs.Steps.{still_used, used_up}
use Rattle.lucy_trim.proofs.parting.parted.Given as goal

abbrev pub invariant-loop-number : goal.invariant-loop-number
invariant-loop-number l = record {
  used : l.used ++ still_used l.uses.first l.uses.last l.steps (drop l.number-index l.numbers) ≡ still_used l.uses.first l.uses.last l.steps l.numbers;
  used_up : l.used_up ++ used_up l.uses.first l.uses.last l.steps (drop l.number-index l.numbers) ≡ used_up l.uses.first l.uses.last l.steps l.numbers;
}
