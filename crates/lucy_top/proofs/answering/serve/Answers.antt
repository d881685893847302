use Rattle.std.proofs.Common.{map, string_bytes}
use Rattle.lucy_words.specs.Commands.{command_of}
use Rattle.lucy_top.specs.Outcomes.{Suits}
use Rattle.lucy_top.proofs.ServingLemmas.{label_serves, command_serves, words_serve, wanting_serves}
use Rattle.lucy_top.proofs.answering.serve.Goals as goal

pub returns-in-Ok-Label-clause-serves : goal.returns-in-Ok-Label-clause-serves
returns-in-Ok-Label-clause-serves g c = λ told same.
    let asked = rw c.in-Ok-Label.field-0-is at c.in-Ok-Label.ensures.asked in
    let labels = rw c.as_str.ensures at (c.label.ensures.labels told same) in
    label_serves Suits (command_of (map string_bytes c.args.words.now)) c.args.slot.now told (g.I.Inputs.journal c.args.inputs.now) _ _ _ _ _ _ _ _ _ c.in-Ok-Label.plan c.in-Ok-Label.walk _ _ _ asked c.requires labels

pub returns-in-Ok : goal.returns-in-Ok
returns-in-Ok g c = record {
  told = c.run-said.ensures.told;
  serves = λ told same. command_serves Suits (command_of (map string_bytes c.args.words.now)) c.run-said.new.slot told (g.I.Inputs.journal c.args.inputs.now) _ _ _ _ _ _ _ _ _ c.in-Ok.command _ c.run-said.result c.args.source.now
      c.in-Ok.ensures.asked c.run-said.ensures.scripted (λ choice suited. c.run-said.ensures.follows told choice same suited) c.run-said.ensures.only c.finish.ensures;
  no_threads = c.run-said.ensures.no_threads;
  faults = c.finish.ensures.later;
}

pub returns-in-Err-OutOfMemory-clause-serves : goal.returns-in-Err-OutOfMemory-clause-serves
returns-in-Err-OutOfMemory-clause-serves g c = λ told same. wanting_serves Suits (command_of (map string_bytes c.args.words.now)) c.args.slot.now told (g.I.Inputs.journal c.args.inputs.now) c.args.source.now
    (g.S.Source.left c.args.source.now) (g.K.Sink.held c.args.sink.now) (g.S.Source.faults c.args.source.now) (g.K.Sink.faults c.args.sink.now) c.requires

pub returns-in-Err-BadWords-clause-serves : goal.returns-in-Err-BadWords-clause-serves
returns-in-Err-BadWords-clause-serves g c = λ told same.
    let asked = rw c.in-Err-BadWords.field-0-is at c.in-Err-BadWords.ensures.asked in
    words_serve Suits (command_of (map string_bytes c.args.words.now)) c.args.slot.now told (g.I.Inputs.journal c.args.inputs.now) _ _ _ _ _ _ _ _ _ c.in-Err-BadWords.at c.stop_at_words.result c.args.source.now
    (asked (λ wanting. absurd cc)) c.requires c.stop_at_words.ensures c.finish-in-Err-BadWords.ensures
