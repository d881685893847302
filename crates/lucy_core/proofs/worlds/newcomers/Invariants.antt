use Rattle.std.proofs.Common.{◌≡◌, ◌++◌, drop, map, length}
use Rattle.std.specs.Arc.{arc_value}
use Rattle.lucy_core.specs.Worlds.{newcomers}
use Rattle.lucy_core.proofs.worlds.newcomers.Given as goal

abbrev pub invariant-loop-number : goal.invariant-loop-number
invariant-loop-number l =
    map (λ life. life.replica) l.lives.items ++ newcomers (arc_value l.first) (length l.work) l.number (drop l.number l.work) ≡ newcomers (arc_value l.first) (length l.work) 0 l.work
