use Rattle.std.proofs.Common.{◌≡◌, ◌+◌, ◌*◌, ◌≤◌, drop, map}
use Rattle.lucy_top.specs.Drills as drills
use Rattle.lucy_top.proofs.counting.over_all.Given as goal

abbrev pub invariant-loop-life : goal.invariant-loop-life
invariant-loop-life l = record {
  sum : l.count + drills.over_all l.kind (map (λ life. life.replica) (drop l.life-index l.lives)) ≡ drills.over_all l.kind (map (λ life. life.replica) l.lives);
  few : l.count ≤ 4096 * l.life-index;
}
