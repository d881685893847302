use Rattle.std.proofs.Common.{◌≡◌, [], rules}
use Rattle.lucy_simplex.proofs.FirstLines.{no_line_yet}
use Rattle.lucy_simplex.proofs.first.first_lines.Goals as goal

pub returns-in-Ok-push_bounds-clause-read : goal.returns-in-Ok-push_bounds-clause-read
returns-in-Ok-push_bounds-clause-read c =
    let none : c.new-lines.result.items ≡ [] = search rules in
    c.in-Ok-push_bounds.ensures.appends _ (c.in-Ok.ensures.appends [] (no_line_yet _ none))
