use Rattle.std.proofs.Common.{◌≡◌, ◌==◌, ℕ, rules, tests}
use Rattle.std.proofs.lemmas.Iterator.{YieldsList-from_slice}
use Rattle.std.proofs.lemmas.Iterator.Search.{position_from_yields_List}
use Rattle.lucy_session.proofs.cursor.first_space.Goals as goal

pub returns-clause-value : goal.returns-clause-value
returns-clause-value c =
    position_from_yields_List (λ (byte : ℕ). byte == 32) _ _ c.position.result c.position.ensures.ran (YieldsList-from_slice _ c.iter.ensures.rest) (λ x b q k. search (rules, tests))
