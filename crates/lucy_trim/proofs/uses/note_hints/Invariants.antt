use Rattle.std.proofs.Common.{◌≡◌, drop}
use Rattle.lucy_trim.specs.Uses.{noted}
use Rattle.lucy_trim.proofs.uses.note_hints.Given as goal

abbrev pub invariant-loop-hint : goal.invariant-loop-hint
invariant-loop-hint l = noted l.first l.steps l.last (drop l.hint-index l.hints) ≡ noted l.first l.steps l.initial.last l.hints
