use Rattle.std.proofs.Common.{◌≡◌, ◌∙◌}
use Rattle.lucy_checker.proofs.HeldLemmas.{IsWithout, without_found, without_none, without_kept, without_is}
use Rattle.lucy_checker.proofs.held.Held.without.Goals as goal
use Rattle.lucy_checker.proofs.held.Held.without.Goals.{in-Some, in_default}

left : (c : goal.Joined-place) → IsWithout c.args.number c.self.inside.numbers c.self.inside.clauses c.match-place.numbers c.match-place.clauses
left c = elim c.match-place.branch [
  | in-Some w ↦ without_found c.self.inside.next c.self.inside.numbers c.as_slice.result.now c.match-place.numbers c.self.inside.clauses c.match-place.clauses w.in-Some.place c.args.number c.as_slice.ensures c.self.invariant w.in-Some.ensures (w.numbers-is ∙ w.remove-number.ensures.rest) (w.clauses-is ∙ w.remove-clause.ensures.rest)
  | in_default w ↦ without_none c.self.inside.numbers c.as_slice.result.now c.match-place.numbers c.self.inside.clauses c.match-place.clauses c.args.number c.as_slice.ensures w.in_default.ensures w.numbers-is w.clauses-is
]

pub invariant_of-result : goal.invariant_of-result
invariant_of-result c =
    without_kept c.self.inside.next c.args.number c.self.inside.numbers c.match-place.numbers c.self.inside.clauses c.match-place.clauses c.self.invariant (left c)

pub returns : goal.returns
returns c =
    without_is c.self.inside.next c.args.number c.self.inside.numbers c.match-place.numbers c.self.inside.clauses c.match-place.clauses c.args.self c.self.view_is (left c)
