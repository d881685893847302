use Rattle.std.proofs.Common.{ℤ, ◌∙◌, List, length, ◌+◌, sym, subst, refl}
use Rattle.lucy_simplex.specs.Tableaus.{Equation}
use Rattle.lucy_simplex.specs.Steps.{AreNumbers}
use Rattle.lucy_simplex.specs.Systems.{lows_of}
use Rattle.lucy_simplex.specs.First.{row_equations}
use Rattle.lucy_simplex.proofs.FirstLines.{Begun, begun, begun_more, begun_whole, read_one, rows_left_at, no_rows_left}
use Rattle.lucy_simplex.proofs.FirstNumbers.{row_stops}
use Rattle.lucy_simplex.proofs.first.push_rows.Goals as goal

pub loop-place-init : goal.loop-place-init
loop-place-init c = begun c.args.lines.now.items (row_equations (length c.args.bounds.now) (length c.args.rows.now) (lows_of c.args.bounds.now) 0 c.args.rows.now)

pub loop-place-preserved : goal.loop-place-preserved
loop-place-preserved c =
    let n = length c.args.bounds.now in
    let m = length c.args.rows.now in
    let los = lows_of c.args.bounds.now in
    let left = rows_left_at n m los c.loop-place.place c.args.rows.now c.index-rows-place.result c.loop-place-test.true (sym c.index-rows-place.is) in
    begun_more c.args.lines.now.items c.loop-place.lines.items c.push_line.new.all.items (row_equations n m los 0 c.args.rows.now) _ _ _
    (subst (λ (qs : List Equation). Begun c.args.lines.now.items c.loop-place.lines.items (row_equations n m los 0 c.args.rows.now) qs) left c.loop-place.invariant)
    (read_one n (2 + n + c.loop-place.place) _ _ refl (subst (λ (xs : List ℤ). AreNumbers 1 c.in-Ok.numbers.items xs) (c.as_slice.ensures.value ∙ c.in_ok-numbers.ensures) c.in-Ok.ensures.over)) c.in_ok-push_line-in-Ok.ensures

pub returns-clause-appends : goal.returns-clause-appends
returns-clause-appends c =
    let n = length c.args.bounds.now in
    let m = length c.args.rows.now in
    let los = lows_of c.args.bounds.now in
    begun_whole c.args.lines.now.items c.loop-place.lines.items (row_equations n m los 0 c.args.rows.now) _ c.loop-place.invariant (no_rows_left n m los c.loop-place.place c.args.rows.now c.loop-place-test.false)

pub returns-in-Err-clause-wide : goal.returns-in-Err-clause-wide
returns-in-Err-clause-wide c =
    row_stops c.args.rows.now c.args.bounds.now c.loop-place.place c.index-rows-place.result _ c.in-Err.stop c.loop-place-test.true (sym c.index-rows-place.is) (c.as_slice.ensures.value ∙ c.in_ok-numbers.ensures) c.in-Err.ensures.wide
