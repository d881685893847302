use Rattle.std.proofs.Common.{◌<◌, ℕ, [], pos, get_or, sym, subst, arith}
use Rattle.lucy_clauses.specs.declared.formulas.Range.{Range}
use Rattle.lucy_simplex.specs.Systems.{lows_of}
use Rattle.lucy_simplex.proofs.Farkas.{length-mapped}
use Rattle.lucy_simplex.proofs.FirstLines.{appends_one, appends_more, appends_whole}
use Rattle.lucy_simplex.proofs.PointLines.{low_there}
use Rattle.lucy_simplex.proofs.pointing.lows_point.Goals as goal

pub loop-range-preserved : goal.loop-range-preserved
loop-range-preserved c =
    let i = c.loop-range.range-index in
    let bounds = c.args.bounds.now in
    let nil : Range = record { lo = pos 0; hi = pos 0 } in
    let low = (get_or bounds i nil).lo in
    appends_more [] c.loop-range.point.items c.push_fraction.new.all.items (lows_of bounds) i low c.loop-range.invariant
    (appends_one c.loop-range.point.items c.push_fraction.new.all.items c.low_of.result low c.low_of.ensures c.in_ok-push_fraction.ensures)
    (subst (λ (k : ℕ). i < k) (sym (length-mapped (λ (b : Range). b.lo) bounds)) c.loop-range-test.true)
    (low_there bounds i nil c.loop-range-test.true)

pub returns : goal.returns
returns c =
    let bounds = c.args.bounds.now in
    appends_whole [] c.loop-range.point.items (lows_of bounds) c.loop-range.range-index c.loop-range.invariant (let same = length-mapped (λ (b : Range). b.lo) bounds in omega (arith, same)) [] tt
