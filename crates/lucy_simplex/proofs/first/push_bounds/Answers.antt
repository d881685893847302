use Rattle.std.proofs.Common.{ℤ, ◌∙◌, List, length, ◌+◌, get_or, pos, subst, refl}
use Rattle.lucy_clauses.specs.declared.formulas.Range.{Range}
use Rattle.lucy_simplex.specs.Steps.{AreNumbers}
use Rattle.lucy_simplex.specs.Tableaus.{Equation}
use Rattle.lucy_simplex.specs.First.{bound_equations}
use Rattle.lucy_simplex.proofs.FirstLines.{Begun, begun, begun_more, begun_whole, read_one, bounds_left_at, no_bounds_left, get_again}
use Rattle.lucy_simplex.proofs.FirstNumbers.{bound_stops}
use Rattle.lucy_simplex.proofs.first.push_bounds.Goals as goal

pub loop-place-init : goal.loop-place-init
loop-place-init c = begun c.args.lines.now.items (bound_equations (length c.args.bounds.now) (length c.args.rows.now) 0 c.args.bounds.now)

pub loop-place-preserved : goal.loop-place-preserved
loop-place-preserved c =
    let n = length c.args.bounds.now in
    let m = length c.args.rows.now in
    let i = c.loop-place.place in
    let range = get_or c.args.bounds.now i (record { lo = pos 0; hi = pos 0 }) in
    let left = bounds_left_at n m i c.args.bounds.now range c.loop-place-test.true (get_again c.args.bounds.now i (record { lo = pos 0; hi = pos 0 }) c.loop-place-test.true) in
    begun_more c.args.lines.now.items c.loop-place.lines.items c.push_line.new.all.items (bound_equations n m 0 c.args.bounds.now) _ _ _
    (subst (λ (qs : List Equation). Begun c.args.lines.now.items c.loop-place.lines.items (bound_equations n m 0 c.args.bounds.now) qs) left c.loop-place.invariant)
    (read_one n (2 + n + m + i) _ _ refl (subst (λ (xs : List ℤ). AreNumbers 1 c.in-Ok.numbers.items xs) (c.as_slice.ensures.value ∙ c.in_ok-numbers.ensures) c.in-Ok.ensures.over)) c.in_ok-push_line-in-Ok.ensures

pub returns-clause-appends : goal.returns-clause-appends
returns-clause-appends c =
    let n = length c.args.bounds.now in
    let m = length c.args.rows.now in
    begun_whole c.args.lines.now.items c.loop-place.lines.items (bound_equations n m 0 c.args.bounds.now) _ c.loop-place.invariant (no_bounds_left n m c.loop-place.place c.args.bounds.now c.loop-place-test.false)

pub returns-in-Err-clause-wide : goal.returns-in-Err-clause-wide
returns-in-Err-clause-wide c =
    let bounds = c.args.bounds.now in
    let i = c.loop-place.place in
    let nil : Range = record { lo = pos 0; hi = pos 0 } in
    bound_stops c.args.rows.now bounds i _ (get_or bounds i nil) _ c.in-Err.stop c.loop-place-test.true (get_again bounds i nil c.loop-place-test.true) refl (c.as_slice.ensures.value ∙ c.in_ok-numbers.ensures) c.in-Err.ensures.wide
