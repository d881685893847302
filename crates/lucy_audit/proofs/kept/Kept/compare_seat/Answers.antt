use Rattle.std.proofs.Common.{rules, ◌≢◌, get_or}
use Rattle.lucy_audit.proofs.Seating.{life_at}
use Rattle.lucy_audit.proofs.kept.Kept.compare_seat.Goals as goal

pub returns-clause-err : goal.returns-clause-err
returns-clause-err c =
    let kept = c.args.self.now in
    let life = c.index-self-place.result in
    let differ : c.replica-held.result ≢ c.args.place = search rules in
    record {
      replica = (get_or kept.lives.now c.args.place life).replica;
      at = life_at kept c.args.place life c.requires.within;
      held_is = c.replica-held.ensures;
      differ = differ;
    }
