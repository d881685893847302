use Rattle.std.proofs.Common.{◌≡◌, true}
use Rattle.lucy_solver.specs.Boxes.{all_single}
use Rattle.lucy_solver.specs.Finds.{clause_found}
use Rattle.lucy_solver.proofs.Denying.{denied_exactly, denied_on, finds_on}
use Rattle.lucy_solver.proofs.Halving.{all_fit_in}
use Rattle.lucy_solver.proofs.Pointing.{point_models}
use Rattle.lucy_solver.proofs.searching.+search.Goals as goal

pub halved-refuted_box-requires-clause-fit : goal.halved-refuted_box-requires-clause-fit
halved-refuted_box-requires-clause-fit t c =
    all_fit_in c.args.formula.now.ranges c.args.decisions.now c.args.bounds.now c.args.formula.now.clauses c.requires.bounds c.requires.narrow

pub halved-returns-in-Some : goal.halved-returns-in-Some
halved-returns-in-Some t c =
    let r = rw c.in-Some.is at c.in_ok-number.ensures in
    (r.0, r.1, denied_exactly c.args.formula.now c.refuted_box.new.steps.items c.in-Some.number c.args.decisions.now r.2)

pub halved-returns-in_default-open_bound : goal.halved-returns-in_default-open_bound
halved-returns-in_default-open_bound t c =
    let r = rw c.in_default.is at c.in_ok-number.ensures in
    let single : all_single c.args.bounds.now ≡ true = c.open_bound.ensures.single c.in_default-open_bound.is in
    let fits = all_fit_in c.args.formula.now.ranges c.args.decisions.now c.args.bounds.now c.args.formula.now.clauses c.requires.bounds c.requires.narrow in
    rw c.in_ok-point.ensures (point_models c.args.formula.now c.args.decisions.now c.args.bounds.now c.requires.bounds single fits r.1)

pub split-returns : goal.split-returns
split-returns t c =
    let one = rw c.in-Clause.is at c.in_ok-first.ensures in
    finds_on c.args.formula.now c.args.decisions.now c.args.steps.now.items c.search.new.steps.items c.other_half.new.steps.items c.in_ok-found.found one.1 c.in_ok-found.ensures

pub other_half-joined-requires-clause-left : goal.other_half-joined-requires-clause-left
other_half-joined-requires-clause-left t c =
    let two = rw c.in-Clause.is at c.in_ok-second.ensures in
    denied_on c.args.formula.now c.args.steps.now.items c.search.new.steps.items _ _ c.requires.left two.1

pub other_half-returns : goal.other_half-returns
other_half-returns t c =
    let two = rw c.in-Clause.is at c.in_ok-second.ensures in
    finds_on c.args.formula.now c.args.decisions.now c.args.steps.now.items c.search.new.steps.items c.joined.new.steps.items (clause_found c.in_ok-number.number) two.1 c.in_ok-number.ensures

pub proposed-returns-in-Done : goal.proposed-returns-in-Done
proposed-returns-in-Done t c =
    finds_on c.args.formula.now c.args.decisions.now c.args.steps.now.items c.loop.steps.items c.round.new.steps.items c.in-Done.found c.loop.invariant.1 (rw c.in-Done.is at c.in_ok-outcome.ensures)
