use Rattle.std.proofs.Common.{◌≡◌, ℕ, ◌+◌, length, subst, arith}
use Rattle.lucy_lexer.specs.Laws.{Ascends}
use Rattle.lucy_lexer.specs.Reading.{tokens_of}
use Rattle.lucy_lexer.proofs.Cuts.{ascending}
use Rattle.lucy_lexer.proofs.laws.spans_ascend.Goals as goal

pub returns : goal.returns
unfolding tokens_of
returns c = λ z ts e. let same : 0 + length z ≡ length z = omega arith in subst (λ (x : ℕ). Ascends 0 x ts) same (ascending 0 z ts e)
