use Rattle.std.proofs.Common.{List, sym, subst, arith}
use Rattle.lucy_simplex.specs.declared.lines.Line.{Line}
use Rattle.lucy_simplex.specs.Reading.{AreRead}
use Rattle.lucy_simplex.proofs.Running.{next_run, later_too_wide, ended, not_open}
use Rattle.lucy_simplex.proofs.runs.run_on.Goals as goal

pub returns-in_default-clause-ends : goal.returns-in_default-clause-ends
returns-in_default-clause-ends c = λ first h.
    ended first c.args.turns c.loop-made.made c.loop-made.lines.items c.as_slice.result.now c.looked_at-seen.result (omega arith) (omega arith) c.as_slice.ensures.value (c.loop-made.invariant.runs first h) c.looked_at-seen.ensures
    (λ o. absurd (not_open c.looked_at-seen.result c.in_default.not-Improves o))

pub returns-in-Err-clause-wide : goal.returns-in-Err-clause-wide
returns-in-Err-clause-wide c = λ first h.
    later_too_wide first c.loop-made.made c.args.turns c.loop-made.lines.items c.in-Err.stop (omega arith) (omega arith) (c.loop-made.invariant.runs first h)
    (λ qs r. c.in-Err.ensures.wide qs (subst (λ (xs : List Line). AreRead qs xs) (sym c.as_slice-in-loop-made.ensures.value) r))

pub loop-made-preserved : goal.loop-made-preserved
loop-made-preserved c = record {
  shape = c.in-Ok.ensures.shape;
  runs = λ first h. next_run first c.loop-made.made c.loop-made.lines.items c.in-Ok.next.items (omega arith) (c.loop-made.invariant.runs first h)
      (λ qs r. c.in-Ok.ensures.next qs (subst (λ (xs : List Line). AreRead qs xs) (sym c.as_slice-in-loop-made.ensures.value) r));
}

pub returns-clause-ends : goal.returns-clause-ends
returns-clause-ends c = λ first h.
    ended first c.args.turns c.loop-made.made c.loop-made.lines.items c.as_slice-2.result.now c.looked_at-seen-2.result (omega arith) (omega arith) c.as_slice-2.ensures.value (c.loop-made.invariant.runs first h) c.looked_at-seen-2.ensures (λ o. (omega arith))
