use Rattle.std.proofs.Common.{sym, arith}
use Rattle.lucy_simplex.proofs.Sweeping.{push_swept, whole_swept, length_pushed}
use Rattle.lucy_simplex.proofs.Stopping.{swept_too_wide}
use Rattle.lucy_simplex.proofs.pivoting.swept.Goals as goal

pub loop-i-preserved : goal.loop-i-preserved
loop-i-preserved c = record {
  count = length_pushed c.loop-i.all.items c.push_line.new.all.items c.in-Ok.next c.loop-i.i c.in_ok-push_line-in-Ok.ensures c.loop-i.invariant.count;
  reads = λ qs s h k. push_swept s c.args.entering qs c.args.lines.now c.loop-i.all.items c.push_line.new.all.items c.index-lines-i.result c.in-Ok.next c.loop-i.i
      (omega arith) (sym c.index-lines-i.is) h (c.loop-i.invariant.reads qs s h k) (λ q r. c.in-Ok.ensures.reads q s r k) c.in_ok-push_line-in-Ok.ensures;
}

pub returns-clause-reads : goal.returns-clause-reads
returns-clause-reads c = λ qs s h k. whole_swept s c.args.entering qs c.args.lines.now c.loop-i.all.items c.loop-i.i (omega arith) h (c.loop-i.invariant.reads qs s h k)

pub returns-in-Err-clause-wide : goal.returns-in-Err-clause-wide
returns-in-Err-clause-wide c = λ qs s h k.
    swept_too_wide s c.args.entering qs c.args.lines.now c.loop-i.i c.index-lines-i.result c.in-Err.stop h (omega arith) (sym c.index-lines-i.is) (λ q r. c.in-Err.ensures.wide q s r k)
