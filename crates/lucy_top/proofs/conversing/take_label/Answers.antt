use Rattle.std.proofs.Common.{◌≡◌, length, refl, sym, ap, ◌∙◌}
use Rattle.lucy_top.proofs.LabelLemmas.{accepted}
use Rattle.lucy_top.proofs.conversing.take_label.Goals as goal

pub returns-in-Ok-clause-takes : goal.returns-in-Ok-clause-takes
returns-in-Ok-clause-takes g c = rw (c.points.ensures, c.points-before.ensures)
    (accepted c.args.session.now c.label.new.self c.args.line.now _ (g.K.Sink.held c.args.sink.now) (g.K.Sink.held c.args.sink.now) (g.K.Sink.faults c.args.sink.now) (g.K.Sink.faults c.args.sink.now)
    c.requires.stands c.in-Ok.ensures.label refl refl)
