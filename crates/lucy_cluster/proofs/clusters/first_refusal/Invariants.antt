use Rattle.std.proofs.Common.{◌≡◌}
use Rattle.std.specs.Vec.Iter.{into_iter_items}
use Rattle.lucy_cluster.specs.Causes.{refusal_of}
use Rattle.lucy_cluster.proofs.clusters.first_refusal.Given as goal

-- the answers that are left have the refusal that all have
abbrev pub invariant-loop-answer : goal.invariant-loop-answer
invariant-loop-answer l = refusal_of (into_iter_items l.answer-iterator) ≡ refusal_of l.fn.answers.items
