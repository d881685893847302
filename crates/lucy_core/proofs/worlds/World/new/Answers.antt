use Rattle.std.proofs.Common.{rules, ◌≡◌, ◌≤◌, ◌∙◌, length, map, sym, ap, subst, arith}
use Rattle.std.proofs.lemmas.List.{length-map}
use Rattle.std.specs.Arc.{arc_value}
use Rattle.lucy_plan.specs.Soundness.{IsSound}
use Rattle.lucy_replica.specs.Replicas.{Seen}
use Rattle.lucy_core.specs.Worlds.{World, Idle, opening_world}
use Rattle.lucy_core.specs.Safety.{IsSafe, KeepsFacts}
use Rattle.lucy_core.proofs.Starting.{newcomers_many}
use Rattle.lucy_core.proofs.worlds.World.new.Goals as goal

pub invariant_of-result : goal.invariant_of-result
invariant_of-result c =
    let plan = arc_value c.args.checked in
    let sound : IsSound plan = search rules in
    let begins = c.opening_is_safe.ensures plan c.args.work.now.lists sound c.requires in
    let w : World = record { records = c.in_ok-table.table.records; packets = c.new-3.result.items; course = Idle; replicas = map (λ (life : Seen). life.replica) c.in_ok-lives.lives.items } in
    let is : opening_world plan c.args.work.now.lists ≡ w = search rules in
    let same : length c.as_slice.result.now ≡ length c.args.work.now.lists = search rules in
    let long =
    sym (length-map c.in_ok-lives.lives.items (λ (life : Seen). life.replica)) ∙ ap length c.in_ok-lives.ensures
    ∙ newcomers_many (arc_value c.in_ok-first-2.first) (length c.as_slice.result.now) 0 c.as_slice.result.now in
    let few : length c.in_ok-lives.lives.items ≤ 16 = omega (arith, c.requires.few_replicas, long, same) in
    record { safe = subst IsSafe is begins.0; facts = subst KeepsFacts is begins.1; fits = tt; few = few }

pub returns-clause-facts : goal.returns-clause-facts
returns-clause-facts c =
    let plan = arc_value c.args.checked in
    let sound : IsSound plan = search rules in
    let begins = c.opening_is_safe.ensures plan c.args.work.now.lists sound c.requires in
    let w : World = record { records = c.in_ok-table.table.records; packets = c.new-3.result.items; course = Idle; replicas = map (λ (life : Seen). life.replica) c.in_ok-lives.lives.items } in
    let is : opening_world plan c.args.work.now.lists ≡ w = search rules in
    subst KeepsFacts is begins.1
