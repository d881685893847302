use Rattle.std.proofs.Common.{arith, rules}
use Rattle.lucy_simplex.proofs.ReadQuotients.{read_below, read_not_below}
use Rattle.lucy_simplex.proofs.Running.{one_more, none_below}
use Rattle.lucy_simplex.proofs.runs.first_below.Goals as goal

pub returns-then-is_below_zero : goal.returns-then-is_below_zero
returns-then-is_below_zero c = λ q h. (
  omega arith,
  read_below c.loop-place.place q c.args.line.now c.index.result.now (search rules) (search rules) (c.is_below_zero.ensures.0 c.if-is_below_zero.true) h,
  c.loop-place.invariant q h,
)

pub loop-place-preserved : goal.loop-place-preserved
loop-place-preserved c = λ q h.
    one_more q c.loop-place.place (c.loop-place.invariant q h)
    (read_not_below c.loop-place.place q c.args.line.now c.index.result.now (search rules) (search rules) (λ k. (let t = c.is_below_zero.ensures.1 k in let f = c.if-is_below_zero.false in cc)) h)

pub returns : goal.returns
returns c = λ q h. none_below q c.args.line.now c.loop-place.place h (search rules) (c.loop-place.invariant q h)
