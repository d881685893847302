use Rattle.std.proofs.Common.{true}
use Rattle.lucy_report.specs.FaultLines.{source_fault, long_input}
use Rattle.lucy_report.specs.LabelTexts.{undecided}
use Rattle.lucy_top.proofs.ConversingLemmas.{label_steps, over_steps, long_steps, fault_steps, part_steps}
use Rattle.lucy_top.proofs.conversing.hear_label.Goals as goal

pub returns-in-Line-clause-steps : goal.returns-in-Line-clause-steps
returns-in-Line-clause-steps g c = λ walk.
    let takes = rw (c.deref.ensures.value) at c.take_label.ensures.takes in
    label_steps walk c.args.session.now c.take_label.new.session (g.S.Source.left c.args.source.now) (g.S.Source.left c.hear.new.source) (g.K.Sink.held c.args.sink.now) (g.K.Sink.held c.take_label.new.sink)
    (g.S.Source.faults c.args.source.now) (g.S.Source.faults c.hear.new.source) (g.K.Sink.faults c.args.sink.now) (g.K.Sink.faults c.take_label.new.sink) c.args.room.now c.hear.new.room
    c.in-Line.bytes.items c.in-Line.over c.take_label.result c.requires.asked c.in-Line.ensures.hears c.in-Line.ensures.later c.take_label.ensures.later takes

pub returns-in-End-clause-steps : goal.returns-in-End-clause-steps
returns-in-End-clause-steps g c = λ walk. over_steps c.hear.new.room true c.requires.asked c.in-End.ensures.hears (c.say_last.ensures.tells undecided c.undecided_text.ensures)

pub returns-in-Long-clause-steps : goal.returns-in-Long-clause-steps
returns-in-Long-clause-steps g c = λ walk.
    long_steps c.hear.new.room true c.in-Long.count c.requires.asked c.in-Long.ensures.hears (c.say_last-in-Long.ensures.tells (long_input c.in-Long.count) c.long_text.ensures)

pub returns-in-Fault-clause-steps : goal.returns-in-Fault-clause-steps
returns-in-Fault-clause-steps g c = λ walk. fault_steps c.hear.new.room true c.requires.asked c.in-Fault.ensures.hears (c.say_last-in-Fault.ensures.tells source_fault c.fault_text.ensures)

pub returns-in-OutOfMemory-clause-steps : goal.returns-in-OutOfMemory-clause-steps
returns-in-OutOfMemory-clause-steps g c = λ walk. part_steps c.hear.new.room true c.in-OutOfMemory.ensures.hears
