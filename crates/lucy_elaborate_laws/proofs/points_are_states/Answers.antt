use Rattle.lucy_elaborate_laws.proofs.Segments.{points_steps}
use Rattle.lucy_elaborate_laws.proofs.points_are_states.Goals as goal

pub returns : goal.returns
returns c = λ leaves given n m points e. let made = points_steps leaves given n m points e in (made.count, made.few, made.fine)
