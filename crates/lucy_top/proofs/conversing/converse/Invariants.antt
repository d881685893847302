use Rattle.std.proofs.Common.{◌≡◌, ℕ}
use Rattle.std.specs.Prelude.{is_some, IfSome, ◌≤◌}
use Rattle.lucy_top.specs.Conversing.{Sofar, weight}
use Rattle.lucy_top.proofs.conversing.converse.Given as goal

abbrev pub invariant-loop-next : goal.invariant-loop-next
invariant-loop-next g l = record {
  sofar : Sofar l.walk l.fn.session (g.S.Source.left l.fn.source) (g.S.Source.left l.source) (g.K.Sink.held l.fn.sink) (g.K.Sink.held l.sink)
      (g.S.Source.faults l.fn.source) (g.S.Source.faults l.source) (g.K.Sink.faults l.fn.sink) (g.K.Sink.faults l.sink) l.session l.room;
  stands : l.stands ≡ is_some l.session.pair;
  walk : IfSome l.walk (λ w. w.1 ≤ 1000);
}

abbrev pub decreases-loop-next : goal.decreases-loop-next
decreases-loop-next g l = weight l.room l.stands
