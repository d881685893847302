use Rattle.std.proofs.Common.{◌≡◌, ◌++◌, map, length}
use Rattle.lucy_calls.specs.Fields.{words}
use Rattle.lucy_calls.proofs.fields.words.Given as goal

abbrev pub invariant-loop-piece : goal.invariant-loop-piece
invariant-loop-piece l = map (λ w. w.now) l.words.items ++ words l.rest ≡ words l.line

abbrev pub decreases-loop-piece : goal.decreases-loop-piece
decreases-loop-piece l = length l.rest
