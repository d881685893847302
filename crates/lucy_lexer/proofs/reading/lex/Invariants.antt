use Rattle.std.proofs.Common.{◌≡◌, ◌-◌, ◌≤◌, length, drop}
use Rattle.lucy_lexer.specs.Reading.{tokens_from}
use Rattle.lucy_lexer.proofs.ReadingLemmas.{with_front}
use Rattle.lucy_lexer.proofs.reading.lex.Given as goal

abbrev pub invariant-places : goal.invariant-places
invariant-places l = (with_front l.tokens.items (tokens_from l.at 0 (drop l.at l.text)) ≡ tokens_from 0 0 l.text) × (l.at ≤ length l.text)

abbrev pub decreases-places : goal.decreases-places
decreases-places l = length l.text - l.at
