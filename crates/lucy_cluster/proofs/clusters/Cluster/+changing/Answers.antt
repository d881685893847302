use Rattle.std.proofs.Common.{rules, ◌≡◌, ◌≤◌, ◌+◌, ◌++◌, if◌then◌else◌, ◌∷◌, [], nat_eq, sym, ap, ◌∙◌, subst, arith}
use Rattle.std.specs.Prelude.{Option, IfSome, slice_get}
use Rattle.lucy_plan.specs.Calls.{Fits}
use Rattle.lucy_plan.specs.Soundness.{IsSound}
use Rattle.lucy_plan.specs.declared.parts.Call.{Call}
use Rattle.lucy_epochs.specs.declared.causes.By.{By}
use Rattle.lucy_epochs.specs.Records.{Record}
use Rattle.lucy_epochs.specs.Collections.{Collected, with_part}
use Rattle.lucy_epochs.specs.Rulings.{Ruling}
use Rattle.lucy_epochs.specs.Sharing.{ruling_of}
use Rattle.lucy_replica.specs.Replicas.{Replica}
use Rattle.lucy_replica.specs.Changing.{contributed, wish_of}
use Rattle.lucy_replica.specs.Suiting.{Suits}
use Rattle.lucy_cluster.specs.declared.deciding.Decision.{Decision}
use Rattle.lucy_cluster.specs.Changes.{AreCollected, IsHandedUp, IsChanged}
use Rattle.lucy_cluster.proofs.Seats.{more_collected}
use Rattle.lucy_cluster.proofs.Suiting.{wanted_fits, decided_suits}
use Rattle.lucy_cluster.proofs.HandedUp.{grant_taken, own_wish, handed_up}
use Rattle.lucy_cluster.proofs.Noting.{ok_map}
use Rattle.lucy_cluster.proofs.clusters.Cluster.+changing.Goals as goal

pub descend-returns-clause-ok : goal.descend-returns-clause-ok
descend-returns-clause-ok g t c =
    let collected = c.args.collect in
    let number = c.args.number in
    let before = c.deref_mut-2.result.now.replica in
    let after = c.hold.new.life.replica in
    let below : c.args.number + 1 ≤ c.args.self.now = search rules in
    let free = c.requires.collected.free number (omega arith) (omega (arith, below)) in
    ok_map (λ (d : Decision). IsChanged collected number c.args.coordinator c.args.given before after d) (λ (d : Decision). IsHandedUp collected number c.args.coordinator c.args.given d) c.hold.result
    (λ d is. handed_up collected number c.args.coordinator c.args.given before after d free is) c.hold.ensures.ok

pub hold-overflow_add-number : goal.hold-overflow_add-number
hold-overflow_add-number g t c = omega (arith, c.requires.number, c.self.view_is, c.self.invariant.2)

pub hold-descend-requires : goal.hold-descend-requires
hold-descend-requires g t c κs within =
    let before = c.args.life.now.replica in
    let part = contributed before in
    let is : c.freeze.new.collect ≡ with_part c.args.collect part = c.in_ok-freeze.ensures.part in
    let epoch_is : c.freeze.new.collect.epoch ≡ c.args.collect.epoch = ap (λ (x : Collected). x.epoch) is in
    let same : before.epoch ≡ c.freeze.new.collect.epoch = c.in_ok-freeze.ensures.epoch ∙ sym epoch_is in
    let collected : AreCollected c.args.self.now (c.args.number + 1) c.freeze.new.collect =
    subst (AreCollected c.args.self.now (c.args.number + 1)) (sym is)
    (more_collected c.args.self.now c.args.number c.args.collect part c.requires.number c.in_ok-freeze.ensures.number c.requires.collected) in
    let sound : IsSound c.freeze.new.collect.epoch.plan = subst (λ (e : Record). IsSound e.plan) same c.facts.ensures.sound in
    let given : IfSome c.args.given (λ w. Fits c.freeze.new.collect.epoch.plan w.0) = subst (λ (e : Record). IfSome c.args.given (λ (w : Call × By). Fits e.plan w.0)) (sym epoch_is) c.requires.fits in
    let wish : c.in_ok-wanted.wanted ≡ (if nat_eq c.args.number c.args.coordinator then wish_of before else c.args.given) =
    c.in_ok-wanted.ensures ∙ ap (λ (r : Replica). let w : Option (Call × By) = if nat_eq c.args.number c.args.coordinator then wish_of r else c.args.given in w) c.freeze.ensures.replica in
    let fits : IfSome c.in_ok-wanted.wanted (λ w. Fits c.freeze.new.collect.epoch.plan w.0) =
    wanted_fits before c.freeze.new.collect.epoch c.args.given c.in_ok-wanted.wanted (nat_eq c.args.number c.args.coordinator) c.facts.ensures same given wish in
    search (rules, collected, sound, fits, within, c.requires.number)

pub hold-adopt-requires-clause-suits : goal.hold-adopt-requires-clause-suits
hold-adopt-requires-clause-suits g t c =
    let before = c.args.life.now.replica in
    let part = contributed before in
    let collected = c.args.collect in
    let number = c.args.number in
    let decision = c.in_ok-decision.decision in
    let ruling = ruling_of decision.ruling in
    let is : c.freeze.new.collect ≡ with_part collected part = c.in_ok-freeze.ensures.part in
    let up : IsHandedUp (with_part collected part) (number + 1) c.args.coordinator c.in_ok-wanted.wanted decision =
    subst (λ (x : Collected). IsHandedUp x (number + 1) c.args.coordinator c.in_ok-wanted.wanted decision) is c.in_ok-decision.ensures.ok in
    let wish : c.in_ok-wanted.wanted ≡ (if nat_eq number c.args.coordinator then wish_of before else c.args.given) =
    c.in_ok-wanted.ensures ∙ ap (λ (r : Replica). let w : Option (Call × By) = if nat_eq number c.args.coordinator then wish_of r else c.args.given in w) c.freeze.ensures.replica in
    let popped : decision.grants.items ≡ c.pop.new.self.items ++ c.in-Some.grant ∷ [] = search rules in
    let grant = (grant_taken number ruling c.in-Some.grant c.pop.new.self.items (sym popped ∙ up.grants_are)).1 in
    let free = c.requires.collected.free number (omega arith) c.requires.number in
    let suits : Suits ruling (nat_eq number c.args.coordinator) before =
    decided_suits c.next_record_is_in_segment.ensures before collected up.wanted ruling (nat_eq number c.args.coordinator) c.facts.ensures c.in_ok-freeze.ensures.epoch
    (ap (slice_get collected.seats) c.in_ok-freeze.ensures.number ∙ free) up.decided
    (own_wish collected number c.args.coordinator c.args.given c.in_ok-wanted.wanted before decision wish c.in_ok-freeze.ensures.number up) in
    subst (λ (r : Replica). Suits c.in-Some.grant (nat_eq number c.args.coordinator) r) (sym c.freeze.ensures.replica)
    (subst (λ (x : Ruling). Suits x (nat_eq number c.args.coordinator) before) (sym grant) suits)
