use Rattle.std.proofs.Common.{◌≡◌, ◌++◌, drop, map}
use Rattle.lucy_report.specs.WorldTexts.{replica_lines}
use Rattle.lucy_report.proofs.world_lines.write_replicas.Given as goal

abbrev pub invariant-loop-life : goal.invariant-loop-life
invariant-loop-life l = l.out.items ++ replica_lines (map (λ life. life.replica) (drop l.life-index l.lives)) ≡ l.fn.out.items ++ replica_lines (map (λ life. life.replica) l.lives)
