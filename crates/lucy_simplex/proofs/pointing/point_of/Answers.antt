use Rattle.std.proofs.Common.{ℤ, pos, ◌*ℤ◌, length, map, sym, arith}
use Rattle.lucy_simplex.specs.Systems.{lows_of}
use Rattle.lucy_simplex.proofs.PointLines.{moving_first, moving_more, moving_whole, scaled_lows}
use Rattle.lucy_simplex.proofs.PointStops.{unmoved_first, unmoved_more, move_stops}
use Rattle.lucy_simplex.proofs.pointing.point_of.Goals as goal

pub loop-i-init : goal.loop-i-init
loop-i-init c = (
  λ qs h s.
      moving_first (length c.args.bounds.now) s.common qs s.tops (map (λ (x : ℤ). pos s.common *ℤ x) (lows_of c.args.bounds.now)) _ (scaled_lows s.common _ (lows_of c.args.bounds.now) c.in_ok-point.ensures),
  unmoved_first c.args.lines.now c.args.bounds.now c.in_ok-point.point.items c.in_ok-point.ensures,
)

pub loop-i-preserved : goal.loop-i-preserved
loop-i-preserved c = (
  λ qs h s.
      moving_more (length c.args.bounds.now) s.common qs s.tops (map (λ (x : ℤ). pos s.common *ℤ x) (lows_of c.args.bounds.now)) c.loop-i.i c.args.lines.now c.index-lines-i.result c.loop-i.point.items c.move_by.new.point.items s.positive h s.are
      (omega arith) (sym c.index-lines-i.is) (c.loop-i.invariant.0 qs h s) c.in-Ok.ensures.moves,
  unmoved_more c.args.lines.now c.loop-i.i c.index-lines-i.result c.args.bounds.now c.loop-i.point.items c.move_by.new.point.items (omega arith) (sym c.index-lines-i.is) c.in-Ok.ensures.keeps c.loop-i.invariant.1,
)

pub returns-clause-point : goal.returns-clause-point
returns-clause-point c = λ qs h s.
    moving_whole (length c.args.bounds.now) s.common qs s.tops (map (λ (x : ℤ). pos s.common *ℤ x) (lows_of c.args.bounds.now)) c.loop-i.i c.args.lines.now c.loop-i.point.items h (omega arith) (c.loop-i.invariant.0 qs h s)

pub returns-in-Err-clause-wide : goal.returns-in-Err-clause-wide
returns-in-Err-clause-wide c = λ qs n h t none.
    move_stops n qs c.args.lines.now c.loop-i.i c.index-lines-i.result c.args.bounds.now c.loop-i.point.items c.in-Err.stop h t none (omega arith) (sym c.index-lines-i.is) c.loop-i.invariant.1 c.in-Err.ensures.wide
