use Rattle.std.proofs.Common.{◌≡◌, [], ◌∙◌}
use Rattle.lucy_solver.proofs.Denying.{refutes_denied}
use Rattle.lucy_solver.proofs.Halving.{whole_box}
use Rattle.lucy_solver.proofs.decision.searched.Goals as goal

pub search-requires-clause-bounds : goal.search-requires-clause-bounds
search-requires-clause-bounds c =
    rw (c.as_slice.ensures.value, c.new-decisions.ensures.items, c.as_slice-2.ensures.value, c.in_ok-bounds.ensures) (whole_box c.args.formula.now.ranges c.requires.few c.requires.ranges)

pub returns-clause-decided : goal.returns-clause-decided
returns-clause-decided c =
    let one = rw c.in-Clause.is at c.in_ok-found.ensures in
    let none : c.as_slice.result.now ≡ [] = c.as_slice.ensures.value ∙ c.new-decisions.ensures.items in
    let two = rw none at one.2 in
    rw c.from_vec.ensures (refutes_denied c.args.formula.now c.search.new.steps.items c.in-Clause.field-0 one.0 two, one.0.all_add)
