use Rattle.std.proofs.Common.{rules, ◌≤◌, ◌<◌, length, get_or, subst, arith}
use Rattle.std.proofs.lemmas.Option.{slice_get_within}
use Rattle.lucy_replica.specs.Replicas.{Replica}
use Rattle.lucy_replica.specs.Facts.{IsSettled}
use Rattle.lucy_audit.specs.Differences.{IsAt}
use Rattle.lucy_audit.specs.Checks.{left_of}
use Rattle.lucy_audit.proofs.Places.{below_more, one_at}
use Rattle.lucy_audit.proofs.Seating.{life_at, lives_many}
use Rattle.lucy_audit.proofs.kept.Kept.facts.Goals as goal

pub loop-place-preserved : goal.loop-place-preserved
loop-place-preserved c =
    let kept = c.args.self.now in
    let left = left_of kept in
    let place = c.loop-place.place in
    let life = c.index-self-place.result in
    let within : place < length kept.lives.now = search rules in
    below_more (λ n. (replica : Replica) → IsAt left n replica → IsSettled replica) place c.loop-place.invariant
    (λ replica at. subst IsSettled (one_at left.replicas place (get_or kept.lives.now place life).replica replica (life_at kept place life within) at) c.facts.ensures)

pub returns : goal.returns
returns c place replica at =
    let within = slice_get_within (left_of c.args.self.now).replicas place replica at in
    let many = lives_many c.args.self.now in
    let past : length c.args.self.now.lives.now ≤ c.loop-place.place = search rules in
    c.loop-place.invariant place (omega (arith, within, many, past)) replica at
