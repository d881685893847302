use Rattle.std.proofs.Common.{inr, ◌<◌, List, length, drop, sym, ◌∙◌, ap, subst, rules}
use Rattle.lucy_fraction.specs.Rationals.{Ratio}
use Rattle.lucy_simplex.specs.Widths.{StopsFor}
use Rattle.lucy_simplex.specs.Multipliers.{HasMultipliers, AreCommonsWide}
use Rattle.lucy_simplex.proofs.Ending.{lengths_above, point_right, stuck_below, stuck_length, farkas_right, open_right, point_end, stuck_end}
use Rattle.lucy_simplex.proofs.EndStops.{multipliers_stop, point_stops}
use Rattle.lucy_simplex.proofs.solving.ended_answer.Goals as goal

pub point_of-requires-clause-lengths : goal.point_of-requires-clause-lengths
point_of-requires-clause-lengths c = lengths_above c.args.rows.now c.args.bounds.now c.args.turns c.args.ran.now.lines.items c.as_slice.result.now c.args.ran.now.look c.as_slice.ensures.value c.requires.ended

pub index-requires : goal.index-requires
index-requires c =
    let below : c.in-Stuck.place < length c.args.ran.now.lines.items = stuck_below c.args.rows.now c.args.bounds.now c.args.turns c.in-Stuck.place c.args.ran.now.lines.items c.args.ran.now.look c.requires.ended c.in-Stuck.is in
    search rules

pub multipliers_of-requires : goal.multipliers_of-requires
multipliers_of-requires c =
    let below = stuck_below c.args.rows.now c.args.bounds.now c.args.turns c.in-Stuck.place c.args.ran.now.lines.items c.args.ran.now.look c.requires.ended c.in-Stuck.is in
    ap length c.as_slice-numbers.ensures.value ∙ stuck_length c.args.rows.now c.args.bounds.now c.args.turns c.in-Stuck.place c.args.ran.now.lines.items c.args.ran.now.look c.index.result.now c.requires.ended below (sym c.index.ensures)

pub returns-in-Ok-clause-right : goal.returns-in-Ok-clause-right
returns-in-Ok-clause-right c = (
  point_right c.args.rows.now c.args.bounds.now c.args.turns c.args.ran.now.lines.items c.as_slice.result.now c.args.ran.now.look c.in-Ok.point.items c.requires.system c.as_slice.ensures.value c.requires.ended c.in-Point.is c.in-Ok.ensures.point,
  inr (point_end c.args.rows.now c.args.bounds.now c.args.turns c.args.ran.now.lines.items c.args.ran.now.look c.requires.ended c.in-Point.is),
)

pub returns-in-Ok-multipliers_of-clause-right : goal.returns-in-Ok-multipliers_of-clause-right
returns-in-Ok-multipliers_of-clause-right c =
    let below = stuck_below c.args.rows.now c.args.bounds.now c.args.turns c.in-Stuck.place c.args.ran.now.lines.items c.args.ran.now.look c.requires.ended c.in-Stuck.is in
    let found = c.in-Ok-multipliers_of.found in (
      farkas_right c.args.rows.now c.args.bounds.now c.args.turns c.in-Stuck.place c.args.ran.now.lines.items c.args.ran.now.look c.index.result.now found.lows.items found.rows.items found.highs.items
          c.requires.system c.requires.ended c.in-Stuck.is below (sym c.index.ensures)
          (subst (λ (ps : List Ratio). HasMultipliers (length c.args.bounds.now) (length c.args.rows.now) ps found.lows.items found.rows.items found.highs.items) c.as_slice-numbers.ensures.value c.in-Ok-multipliers_of.ensures.found),
      inr (stuck_end c.args.rows.now c.args.bounds.now c.args.turns c.in-Stuck.place c.args.ran.now.lines.items c.args.ran.now.look c.requires.ended c.in-Stuck.is),
    )

pub returns-in-Improves-clause-right : goal.returns-in-Improves-clause-right
returns-in-Improves-clause-right c =
    open_right c.args.rows.now c.args.bounds.now c.args.turns c.in-Improves.auxiliary c.in-Improves.entering c.args.ran.now.lines.items c.args.ran.now.look c.requires.turns c.requires.breaks c.requires.none_alone c.requires.ended c.in-Improves.is

pub returns-in-Err-clause-wide : goal.returns-in-Err-clause-wide
returns-in-Err-clause-wide c =
    point_stops c.args.rows.now c.args.bounds.now c.args.turns c.args.ran.now.lines.items c.as_slice.result.now c.args.ran.now.look c.in-Err.stop c.as_slice.ensures.value c.requires.ended c.in-Point.is c.in-Err.ensures.wide

pub returns-in-Err-multipliers_of-clause-wide : goal.returns-in-Err-multipliers_of-clause-wide
returns-in-Err-multipliers_of-clause-wide c =
    let below = stuck_below c.args.rows.now c.args.bounds.now c.args.turns c.in-Stuck.place c.args.ran.now.lines.items c.args.ran.now.look c.requires.ended c.in-Stuck.is in
    multipliers_stop c.args.rows.now c.args.bounds.now c.args.turns c.in-Stuck.place c.args.ran.now.lines.items c.args.ran.now.look c.index.result.now c.in-Err-multipliers_of.stop c.requires.ended c.in-Stuck.is below (sym c.index.ensures)
    (subst (λ (ps : List Ratio). StopsFor (AreCommonsWide (length c.args.bounds.now) (drop 2 ps)) c.in-Err-multipliers_of.stop) c.as_slice-numbers.ensures.value c.in-Err-multipliers_of.ensures.wide)
