use Rattle.std.proofs.Common.{◌≡◌}
use Rattle.lucy_epochs.specs.Collections.{parts_of}
use Rattle.lucy_epochs.specs.Rulings.{rule}
use Rattle.lucy_epochs.specs.Sharing.{ruling_of}
use Rattle.lucy_cluster.specs.declared.deciding.Decision.{Decision}
use Rattle.lucy_cluster.specs.Changes.{IsDecided}
use Rattle.lucy_cluster.proofs.Seats.{are_full, all_decided}
use Rattle.std.specs.Arc.{arc_value}
use Rattle.lucy_cluster.specs.Causes.{IsUndecided, IsCause}
use Rattle.lucy_cluster.proofs.Noting.{ok_map, err_map, undecided_cause}
use Rattle.lucy_cluster.proofs.clusters.decided.Goals as goal

pub decide-requires-clause-full : goal.decide-requires-clause-full
decide-requires-clause-full c = are_full c.args.replicas c.args.collect.now c.requires.collected

pub returns-clause-ok : goal.returns-clause-ok
returns-clause-ok c =
    let collected = c.args.collect.now in
    let given = c.args.given.now in
    let full = are_full c.args.replicas collected c.requires.collected in
    ok_map (λ (d : Decision). ruling_of d.ruling ≡ rule collected.epoch (parts_of collected.seats) given) (λ (d : Decision). IsDecided collected given (ruling_of d.ruling)) c.decide.result
    (λ d is. all_decided collected given (ruling_of d.ruling) full c.facts.ensures is) c.decide.ensures.ruling

pub returns-clause-err : goal.returns-clause-err
returns-clause-err c =
    let epoch = c.args.collect.now.epoch in
    let last = arc_value c.last-last.result.now in
    err_map (IsUndecided epoch last) (IsCause c.args.replicas) c.decide.result (undecided_cause epoch last c.args.replicas) (c.decide.ensures.cause last c.last-last.ensures)
