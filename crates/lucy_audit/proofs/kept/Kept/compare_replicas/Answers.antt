use Rattle.std.proofs.Common.{rules, ◌≤◌, length, arith}
use Rattle.lucy_audit.specs.Checks.{left_of, IsFine}
use Rattle.lucy_audit.proofs.Places.{below_more}
use Rattle.lucy_audit.proofs.Seating.{lives_many}
use Rattle.lucy_audit.proofs.kept.Kept.compare_replicas.Goals as goal

pub loop-place-preserved : goal.loop-place-preserved
loop-place-preserved c = below_more (IsFine (left_of c.args.self.now)) c.loop-place.place c.loop-place.invariant c.in_ok-compare_replica.ensures.ok

pub returns-clause-ok : goal.returns-clause-ok
returns-clause-ok c =
    let many = lives_many c.args.self.now in
    let past : length c.args.self.now.lives.now ≤ c.loop-place.place = search rules in
    record {
      settled = c.facts.ensures;
      fine = λ place h. c.loop-place.invariant place (omega (arith, h, many, past));
    }
