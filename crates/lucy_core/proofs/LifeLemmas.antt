-- Worlds whose replicas are lives.
use Rattle.std.proofs.Common.{◌≡◌, ◌<◌, ◌≤◌, ◌+◌, ◌==◌, ◌++◌, ℕ, Bool, true, false, if◌then◌else◌, List, [], ◌∷◌, length, map, replicate, get_or, refl, sym, ap, ◌∙◌, subst, arith}
use Rattle.std.specs.Prelude.{Option, Some, None, slice_get, slice_set, IfSome}
use Rattle.std.specs.Option.{is_some, is_none, option_map}
use Rattle.std.specs.List.{list_all}
use Rattle.std.proofs.lemmas.List.{map-set, length-map}
use Rattle.std.proofs.lemmas.Option.{slice_get-map, slice_get_read, slice_get_past, slice_get_within, same_Some}
use Rattle.lucy_plan.specs.Calls.{Fits}
use Rattle.lucy_plan.specs.declared.parts.Call.{Call}
use Rattle.lucy_expr.specs.Trees.{Tree}
use Rattle.lucy_epochs.specs.declared.causes.By.{By}
use Rattle.lucy_epochs.specs.Records.{Record}
use Rattle.lucy_epochs.specs.Contributions.{Contribution}
use Rattle.lucy_epochs.specs.Collections.{Collected, empty, with_part, parts_of}
use Rattle.lucy_epochs.specs.Rulings.{Ruling, IsCovered, rule}
use Rattle.lucy_calls.specs.declared.steps.Step.{Step}
use Rattle.lucy_replica.specs.declared.answers.Submitted.{Submitted}
use Rattle.lucy_replica.specs.declared.answers.Received.{Received}
use Rattle.lucy_replica.specs.declared.events.Event.{Event}
use Rattle.lucy_replica.specs.declared.events.Event.TheVariants.{Held, NoPacket, Sent}
use Rattle.lucy_replica.specs.declared.events.Event.TheVariants as event
use Rattle.lucy_replica.specs.declared.events.Stage.TheVariants as stage
use Rattle.lucy_replica.specs.Replicas.{Replica, Message, Seen}
use Rattle.lucy_replica.specs.Submitting.{next_call, submitted, published}
use Rattle.lucy_replica.specs.Receiving.{received}
use Rattle.lucy_replica.specs.Changing.{wish, wish_of, adopted}
use Rattle.lucy_replica.specs.declared.answers.Adoption.{Adoption}
use Rattle.lucy_replica.specs.Facts.{IsSettled}
use Rattle.lucy_replica.specs.Suiting.{Suits}
use Rattle.lucy_core.specs.declared.changes.Change.{Change}
use Rattle.lucy_core.specs.declared.changes.Change.TheVariants as change
use Rattle.lucy_core.specs.declared.worlds.World.TheInside.{Inside}
use Rattle.lucy_core.specs.Worlds.{World, Course, Freezing, Decided, is_frozen, lags, entry, IsAt}
use Rattle.lucy_core.specs.Worlds as course
use Rattle.lucy_core.specs.Steps.{submit_event, receive_event, submit_row, send_row, deliver_row, if_sent, begin_by, freeze_by, open_by, ruled_event, records_with, still, thaw_by, adopt_event, step_of}
use Rattle.lucy_core.specs.Safety.{IsSafe, KeepsFacts, FollowsCourse}
use Rattle.lucy_core.specs.Laws.{StepsKeepSafe}
use Rattle.lucy_core.specs.Holding.{HasParts, IsNextOf}
use Rattle.lucy_core.specs.Views.{course_of, world_of, FitsLives, IsWorld}
use Rattle.lucy_core.proofs.Places.{map-set_same, map_at}
use Rattle.lucy_core.proofs.Rows.{submitted_cases, received_cases}
use Rattle.lucy_core.proofs.Kept.{IsKept, length-set}
use Rattle.lucy_core.proofs.Beginning.{one_record}
use Rattle.lucy_core.proofs.Adopting.{suits}
use Rattle.lucy_core.proofs.Contents.{exists_at}
use Rattle.lucy_core.proofs.Meaning.{kept_from}
use Rattle.lucy_core.proofs.HoldingLemmas.{world_with, free_seat, parts_stay, grants_stay, rule_next, begun_step, unwanted_step, frozen_step, thawed_step, free_step, busy_step, opened_step}

abbrev replica_of : Seen → Replica
replica_of life = life.replica

-- ---- what a change holds
-- it fits the lives still where one of them, which is not frozen, is another of the same record
pub fits_stay : (lives : List Seen) (held : Change) (k : ℕ) (life after : Seen) → slice_get lives k ≡ Some life → after.replica.epoch ≡ life.replica.epoch → is_frozen (course_of held) k ≡ false
    → FitsLives lives held → FitsLives (slice_set lives k after) held
fits_stay lives change.Idle k life after at same free fits = tt
fits_stay lives (change.Freezing c collect) k life after at same free fits = parts_stay lives k life after at collect same free fits
fits_stay lives (change.Decided c ruling grants) k life after at same free fits = grants_stay lives k life after at _ grants.items free fits

-- ---- a life at a place
-- a world, the fields that keep it, and the life at a place
pub record HasLife (w : World) (inside : Inside) (k : ℕ) (life : Seen) : Type 0 where
  pub is : world_of inside ≡ w
  pub at : slice_get inside.lives.items k ≡ Some life

-- the life of a replica that there is
pub has_life : (w : World) (inside : Inside) (k : ℕ) (life : Seen) → world_of inside ≡ w → k < length w.replicas → life ≡ get_or inside.lives.items k life → HasLife w inside k life
has_life w inside k life is below read =
    let lives = inside.lives.items in
    let here = subst (λ (v : World). k < length v.replicas) (sym is) below in
    record { is = is; at = slice_get_read lives (length lives) k life refl (omega (arith, here, length-map lives replica_of)) read }

-- there are as many lives as replicas
pub lives_below : (w : World) (inside : Inside) (k : ℕ) → world_of inside ≡ w → k < length w.replicas → k < length inside.lives.items
lives_below w inside k is below =
    let here = subst (λ (v : World). k < length v.replicas) (sym is) below in
    omega (arith, here, length-map inside.lives.items replica_of)

-- the world with another life at a place
abbrev pub with_life : Inside → ℕ → Seen → World
with_life inside k after = world_with inside.table.records inside.packets.items (course_of inside.change) (slice_set inside.lives.items k after)

-- the world with other packets
abbrev pub with_packets : Inside → List Message → World
with_packets inside packets = world_with inside.table.records packets (course_of inside.change) inside.lives.items

-- the world at this point of its change
pub as_course : (w : World) (inside : Inside) (how : Course) → world_of inside ≡ w → course_of inside.change ≡ how → w ≡ world_with inside.table.records inside.packets.items how inside.lives.items
as_course w inside how is course_is = sym is ∙ ap (λ (e : Course). record (world_of inside) { course = e }) course_is

module _ {w : World} {inside : Inside} {k : ℕ} {life : Seen} (has : HasLife w inside k life) where
  replica_at : slice_get (world_of inside).replicas k ≡ Some life.replica
  replica_at = slice_get-map replica_of inside.lives.items k ∙ ap (option_map replica_of) has.at

  -- a life that is as it was
  pub unchanged : (after : Seen) → after.replica ≡ life.replica → with_life inside k after ≡ w
  unchanged after same =
      ap (λ (replicas : List Replica). record (world_of inside) { replicas = replicas }) (map-set_same replica_of inside.lives.items k life after has.at same) ∙ has.is

  -- the replicas, one of which is another
  changed : (after : Seen) (replica : Replica) → after.replica ≡ replica → slice_set (map replica_of inside.lives.items) k replica ≡ map replica_of (slice_set inside.lives.items k after)
  changed after replica is = sym (map-set replica_of inside.lives.items k after ∙ ap (slice_set (map replica_of inside.lives.items) k) is)

  -- what its change holds fits the replicas still where it is not frozen and keeps its record
  pub fits_still : (after : Seen) → after.replica.epoch ≡ life.replica.epoch → is_frozen w.course k ≡ false → FitsLives inside.lives.items inside.change → FitsLives (slice_set inside.lives.items k after) inside.change
  fits_still after same free fits = fits_stay inside.lives.items inside.change k life after has.at same (ap (λ (v : World). is_frozen v.course k) has.is ∙ free) fits

  pub few_still : (after : Seen) → length inside.lives.items ≤ 16 → length (slice_set inside.lives.items k after) ≤ 16
  few_still after few = subst (λ (n : ℕ). n ≤ 16) (sym (length-set inside.lives.items k after)) few

  -- at this point of a change, with a life that is as it was
  pub same_with : (how : Course) (after : Seen) → course_of inside.change ≡ how → after.replica ≡ life.replica → world_with inside.table.records inside.packets.items how (slice_set inside.lives.items k after) ≡ w
  same_with how after course_is same =
      ap (λ (e : Course). world_with inside.table.records inside.packets.items e (slice_set inside.lives.items k after)) (sym course_is) ∙ unchanged after same

  -- ---- what the code does is what the rows say
  pub submits : (after : Seen) (answer : Submitted) (event : Event)
      → (answer ≡ (submitted life.replica).0) × (after.replica ≡ (submitted life.replica).1) → event ≡ submit_event answer
      → submit_row w k (slice_get w.replicas k) ≡ (event, with_life inside k after)
  submits after answer event did is =
      let said : submit_event (submitted life.replica).0 ≡ event = ap submit_event (sym did.0) ∙ sym is in
      let grown = changed after (submitted life.replica).1 did.1 in
      ap (λ (v : World). submit_row v k (slice_get v.replicas k)) (sym has.is)
      ∙ ap (submit_row (world_of inside) k) replica_at
      ∙ (λ i. (said i, record (world_of inside) { replicas = grown i }))

  pub sends : (after : List Message) (message : Message) (number : ℕ)
      → message ≡ published life.replica → number ≡ length inside.packets.items → after ≡ inside.packets.items ++ message ∷ []
      → send_row w (slice_get w.replicas k) ≡ (Sent number, with_packets inside after)
  sends after message number did is more =
      let grown : inside.packets.items ++ published life.replica ∷ [] ≡ after = ap (λ (m : Message). inside.packets.items ++ m ∷ []) (sym did) ∙ sym more in
      ap (λ (v : World). send_row v (slice_get v.replicas k)) (sym has.is)
      ∙ ap (send_row (world_of inside)) replica_at
      ∙ (λ i. (Sent (sym is i), record (world_of inside) { packets = grown i }))

  pub delivers : (packet : ℕ) (message : Message) (after : Seen) (answer : Received) (event : Event)
      → is_frozen w.course k ≡ false
      → slice_get inside.packets.items packet ≡ Some message → (answer ≡ (received message life.replica).0) × (after.replica ≡ (received message life.replica).1)
      → event ≡ receive_event answer
      → if_sent w k (slice_get w.packets packet) ≡ (event, with_life inside k after)
  delivers packet message after answer event free which did is =
      let said : receive_event (received message life.replica).0 ≡ event = ap receive_event (sym did.0) ∙ sym is in
      let grown = changed after (received message life.replica).1 did.1 in
      let thawed : is_frozen (course_of inside.change) k ≡ false = ap (λ (v : World). is_frozen v.course k) has.is ∙ free in
      ap (λ (v : World). if_sent v k (slice_get v.packets packet)) (sym has.is)
      ∙ ap (if_sent (world_of inside) k) which
      ∙ ap (λ (frozen : Bool). let a : Event × World = if frozen then (Held, world_of inside) else deliver_row (world_of inside) k (slice_get (world_of inside).replicas k) message in a) thawed
      ∙ ap (λ (r : Option Replica). deliver_row (world_of inside) k r message) replica_at
      ∙ (λ i. (said i, record (world_of inside) { replicas = grown i }))

-- ---- the rows of a change
module _ {w : World} {inside : Inside} {k : ℕ} {life : Seen} (has : HasLife w inside k life) where
  pub begins : (collected : Collected) (epoch : Record) (n : ℕ) (point : Tree) → course_of inside.change ≡ course.Idle → collected ≡ empty epoch n → n ≡ length inside.lives.items → life.replica.wanted ≡ Some point
      → begin_by w k w.course ≡ (event.Begun, world_with inside.table.records inside.packets.items (Freezing k (map is_some collected.seats)) inside.lives.items)
  begins collected epoch n point course_is is many wanted =
      ap (λ (u : World). begin_by u k u.course) (as_course w inside course.Idle has.is course_is)
      ∙ begun_step inside.table.records inside.packets.items inside.lives.items k life has.at point epoch wanted
      ∙ ap (λ (c : Collected). let x : Event × World = (event.Begun, world_with inside.table.records inside.packets.items (Freezing k (map is_some c.seats)) inside.lives.items) in x)
      (sym (is ∙ ap (empty epoch) many))

  pub unwanted : course_of inside.change ≡ course.Idle → life.replica.wanted ≡ None → begin_by w k w.course ≡ (event.Nothing, w)
  unwanted course_is none =
      let here = as_course w inside course.Idle has.is course_is in
      ap (λ (u : World). begin_by u k u.course) here
      ∙ unwanted_step inside.table.records inside.packets.items inside.lives.items k life has.at none
      ∙ ap (λ (u : World). let x : Event × World = (event.Nothing, u) in x) (sym here)

  pub freezes : (c : ℕ) (collected more : Collected) (after : Seen) (part : Contribution) → course_of inside.change ≡ Freezing c (map is_some collected.seats)
      → after.replica ≡ life.replica → slice_get collected.seats k ≡ Some None → part.replica ≡ k → more ≡ with_part collected part
      → freeze_by w k w.course ≡ (event.Frozen, world_with inside.table.records inside.packets.items (Freezing c (map is_some more.seats)) (slice_set inside.lives.items k after))
  freezes c collected more after part course_is same free seat is =
      ap (λ (u : World). freeze_by u k u.course) (as_course w inside (Freezing c (map is_some collected.seats)) has.is course_is)
      ∙ frozen_step inside.table.records inside.packets.items inside.lives.items k life has.at c collected after part same free seat
      ∙ ap (λ (m : Collected). let x : Event × World = (event.Frozen, world_with inside.table.records inside.packets.items (Freezing c (map is_some m.seats)) (slice_set inside.lives.items k after)) in x) (sym is)

  pub thaws : (c : ℕ) (ruling grant : Ruling) (grants : List (Option Ruling)) (after : Seen) (answer : Adoption) (said : Event) (how : Course)
      → course_of inside.change ≡ Decided c ruling (map is_some grants) → slice_get grants k ≡ Some (Some grant) → grant ≡ ruling
      → adopted grant (k == c) life.replica ≡ (answer, after.replica) → said ≡ adopt_event answer → still c ruling (map is_some (slice_set grants k None)) ≡ how
      → thaw_by w k w.course ≡ (said, world_with inside.table.records inside.packets.items how (slice_set inside.lives.items k after))
  thaws c ruling grant grants after answer said how course_is waits same acts told ends =
      ap (λ (u : World). thaw_by u k u.course) (as_course w inside (Decided c ruling (map is_some grants)) has.is course_is)
      ∙ thawed_step inside.table.records inside.packets.items inside.lives.items k life has.at c ruling grant grants after answer said how waits same acts told ends

pub frees : (w : World) (inside : Inside) (k c : ℕ) (ruling : Ruling) (grants more : List (Option Ruling)) → world_of inside ≡ w → course_of inside.change ≡ Decided c ruling (map is_some grants)
    → slice_get grants k ≡ Some None → more ≡ grants
    → thaw_by w k w.course ≡ (event.Free, world_with inside.table.records inside.packets.items (Decided c ruling (map is_some more)) inside.lives.items)
frees w inside k c ruling grants more is course_is free same =
    ap (λ (u : World). thaw_by u k u.course) (as_course w inside (Decided c ruling (map is_some grants)) is course_is)
    ∙ free_step inside.table.records inside.packets.items inside.lives.items k c ruling grants free
    ∙ ap (λ (g : List (Option Ruling)). let x : Event × World = (event.Free, world_with inside.table.records inside.packets.items (Decided c ruling (map is_some g)) inside.lives.items) in x) (sym same)

pub waits_open : (w : World) (inside : Inside) (c : ℕ) (collected : Collected) → world_of inside ≡ w → course_of inside.change ≡ Freezing c (map is_some collected.seats)
    → list_all (λ (seat : Option Contribution). is_some seat) collected.seats ≡ false → open_by w w.course ≡ (event.Busy stage.Freezing, w)
waits_open w inside c collected is course_is some =
    let here = as_course w inside (Freezing c (map is_some collected.seats)) is course_is in
    ap (λ (u : World). open_by u u.course) here
    ∙ busy_step inside.table.records inside.packets.items inside.lives.items c collected some
    ∙ ap (λ (u : World). let x : Event × World = (event.Busy stage.Freezing, u) in x) (sym here)

pub opens : (w : World) (inside : Inside) (c : ℕ) (collected : Collected) (life : Seen) (ruling : Ruling) (wanted : Option (Call × By)) (n : ℕ) (said : Event) (more : List Record) (grants : List (Option Ruling))
    → world_of inside ≡ w → course_of inside.change ≡ Freezing c (map is_some collected.seats) → slice_get inside.lives.items c ≡ Some life → length collected.seats ≡ length inside.lives.items
    → n ≡ length inside.lives.items → list_all (λ (seat : Option Contribution). is_some seat) collected.seats ≡ true → HasParts inside.lives.items collected → wanted ≡ wish_of life.replica
    → ruling ≡ rule collected.epoch (parts_of collected.seats) wanted → said ≡ ruled_event ruling → more ≡ records_with inside.table.records ruling → grants ≡ replicate n (Some ruling)
    → open_by w w.course ≡ (said, world_with more inside.packets.items (Decided c ruling (map is_some grants)) inside.lives.items)
opens w inside c collected life ruling wanted n said more grants is course_is at long many all has wish ruled told noted given =
    ap (λ (u : World). open_by u u.course) (as_course w inside (Freezing c (map is_some collected.seats)) is course_is)
    ∙ opened_step inside.table.records inside.packets.items inside.lives.items c collected life ruling wanted n said more at long many all has wish ruled told noted
    ∙ ap (λ (g : List (Option Ruling)). let x : Event × World = (said, world_with more inside.packets.items (Decided c ruling (map is_some g)) inside.lives.items) in x) (sym given)

-- ---- where a replica wants a change
pub marked : {X : Type 0} (f : X → Tree) (o : Option X) (wanted : Option Tree) → option_map f o ≡ wanted → is_none o ≡ false → (point : Tree) × (wanted ≡ Some point)
marked f None wanted is h = absurd (let clash : ⊥ = cc in clash)
marked f (Some x) wanted is h = (f x, sym is)

pub unmarked : {X : Type 0} (f : X → Tree) (o : Option X) (wanted : Option Tree) → option_map f o ≡ wanted → is_none o ≡ true → wanted ≡ None
unmarked f None wanted is h = sym is
unmarked f (Some x) wanted is h = absurd (let clash : ⊥ = cc in clash)

-- ---- records stay
pub submitted_epoch : (replica : Replica) → (submitted replica).1.epoch ≡ replica.epoch
submitted_epoch replica = submitted_cases (λ (a : Submitted × Replica). a.1.epoch ≡ replica.epoch) replica refl refl (λ call next. refl) refl

pub received_epoch : (message : Message) (replica : Replica) → (received message replica).1.epoch ≡ replica.epoch
received_epoch message replica = received_cases (λ (a : Received × Replica). a.1.epoch ≡ replica.epoch) message replica refl refl (λ same. refl)

-- ---- packets
pub no_packet : (w : World) (to packet : ℕ) → length w.packets ≤ packet → if_sent w to (slice_get w.packets packet) ≡ (NoPacket, w)
no_packet w to packet past = ap (if_sent w to) (slice_get_past w.packets packet past)

pub held_packet : (w : World) (to packet : ℕ) → packet < length w.packets → is_frozen w.course to ≡ true → if_sent w to (slice_get w.packets packet) ≡ (Held, w)
held_packet w to packet below frozen =
    let sent = exists_at w.packets packet below in
    ap (if_sent w to) sent.1 ∙ ap (λ (b : Bool). let a : Event × World = if b then (Held, w) else deliver_row w to (slice_get w.replicas to) sent.0 in a) frozen

-- ---- what is safe
-- a world that is what it was
pub still_safe : {w after : World} (inside : Inside) → world_of inside ≡ w → IsWorld inside → after ≡ w → IsSafe after × KeepsFacts after
still_safe inside is world same =
    (subst IsSafe (is ∙ sym same) world.safe, subst KeepsFacts (is ∙ sym same) world.facts)

-- what comes of a step
pub taken_safe : StepsKeepSafe → (w after : World) (inside : Inside) (step : Step) (event : Event) → world_of inside ≡ w → IsWorld inside
    → step_of w step ≡ (event, after) → IsSafe after × KeepsFacts after
taken_safe keeps w after inside step event is world taken =
    subst (λ (answer : Event × World). IsSafe answer.1 × KeepsFacts answer.1) taken (keeps w step (subst IsSafe is world.safe) (subst KeepsFacts is world.facts))

-- what comes of the rows that a replica takes which is not frozen
pub free_safe : StepsKeepSafe → (w after : World) (inside : Inside) (k : ℕ) (step : Step) (row : Event × World) (event : Event) → world_of inside ≡ w → IsWorld inside
    → is_frozen w.course k ≡ false → step_of w step ≡ (if is_frozen w.course k then (Held, w) else row) → row ≡ (event, after) → IsSafe after × KeepsFacts after
free_safe keeps w after inside k step row event is world free guard taken =
    taken_safe keeps w after inside step event is world (guard ∙ ap (λ (frozen : Bool). if frozen then (Held, w) else row) free ∙ taken)

-- ---- a change, in a world that is kept
module _ (inside : Inside) (world : IsWorld inside) where
  kept : IsKept (world_of inside)
  kept = kept_from (world_of inside) world.safe world.facts

  life_at : (k : ℕ) (life : Seen) → slice_get inside.lives.items k ≡ Some life → IsAt (world_of inside) k life.replica
  life_at k life at = map_at replica_of inside.lives.items k life at

  -- each life's replica has its number
  pub seated : (k : ℕ) (life : Seen) → slice_get inside.lives.items k ≡ Some life → life.replica.number ≡ k
  seated k life at = world.facts.seated k life.replica (life_at k life at)

  -- where no change is on, all lives have one record
  pub parts_empty : (k : ℕ) (life : Seen) → course_of inside.change ≡ course.Idle → slice_get inside.lives.items k ≡ Some life
      → (number : ℕ) (other : Seen) → slice_get inside.lives.items number ≡ Some other → other.replica.epoch ≡ life.replica.epoch
  parts_empty k life idle at number other h =
      one_record (world_of inside) kept (λ m. ap (λ (how : Course). lags how m) idle) k number life.replica other.replica (life_at k life at) (life_at number other h)

  -- while replicas are being frozen, there is a seat for each, and the coordinator is one of them
  module _ (c : ℕ) (collected : Collected) (course_is : course_of inside.change ≡ Freezing c (map is_some collected.seats)) where
    follows : (length (map is_some collected.seats) ≡ length (world_of inside).replicas) × (c < length (world_of inside).replicas)
    follows = subst (FollowsCourse (world_of inside)) course_is world.facts.follows

    pub seats_many : length collected.seats ≡ length inside.lives.items
    seats_many = sym (length-map collected.seats is_some) ∙ follows.0 ∙ length-map inside.lives.items replica_of

    pub coordinator_below : c < length inside.lives.items
    coordinator_below = let long = length-map inside.lives.items replica_of in let below = follows.1 in omega arith

    -- a replica without a part has an empty seat
    pub seat_free : (k : ℕ) (life : Seen) → slice_get inside.lives.items k ≡ Some life → entry (map is_some collected.seats) k ≡ false → slice_get collected.seats k ≡ Some None
    seat_free k life at free =
        let many = seats_many in
        let below = slice_get_within inside.lives.items k life at in
        free_seat collected.seats k (omega arith) free

    module _ (has : HasParts inside.lives.items collected) (life : Seen) (at : slice_get inside.lives.items c ≡ Some life) where
      settled : IsSettled life.replica
      settled = world.facts.settled c life.replica (life_at c life at)

      epoch_is : life.replica.epoch ≡ collected.epoch
      epoch_is = has.of_one c life at

      pub seats_some : 1 ≤ length collected.seats
      seats_some = let many = seats_many in let below = coordinator_below in omega arith

      pub plan_covered : IsCovered collected.epoch.plan
      plan_covered = subst (λ (e : Record). IsCovered e.plan) epoch_is settled.sound.covered

      pub number_last : collected.epoch.number + 1 ≡ length inside.table.records
      number_last =
          ap (λ (e : Record). e.number + 1) (sym epoch_is) ∙ world.facts.at_last c life.replica (life_at c life at) (ap (λ (how : Course). lags how c) course_is)

      pub wish_fits : {X : Type 0} (f : X → Call × By) (wanted : Option X) → option_map f wanted ≡ wish_of life.replica → IfSome wanted (λ (w : X). Fits collected.epoch.plan (f w).0)
      wish_fits f None is = tt
      wish_fits f (Some w) is = by_wish life.replica.wanted (next_call life.replica) refl is
        where
          by_wish : (point : Option Tree) (next : Option Call) → next_call life.replica ≡ next → Some (f w) ≡ wish life.replica point next → Fits collected.epoch.plan (f w).0
          by_wish None None next is = absurd (let clash : ⊥ = cc in clash)
          by_wish None (Some call) next is = absurd (let clash : ⊥ = cc in clash)
          by_wish (Some point) None next is = absurd (let clash : ⊥ = cc in clash)
          by_wish (Some point) (Some call) next is =
              let same : call ≡ (f w).0 = ap (λ (p : Call × By). p.0) (sym (same_Some (f w) _ is)) in
              subst (λ (c : Call). Fits collected.epoch.plan c) same (subst (λ (e : Record). Fits e.plan call) epoch_is (settled.fits (length life.replica.replies) call next))

      pub ruling_next : (wanted : Option (Call × By)) → IsNextOf inside.table.records (rule collected.epoch (parts_of collected.seats) wanted)
      ruling_next wanted = rule_next inside.table.records collected.epoch (parts_of collected.seats) wanted number_last

  -- when the change was decided, there is an entry for each, and what a frozen replica gets suits it
  module _ (c : ℕ) (ruling : Ruling) (grants : List (Option Ruling)) (course_is : course_of inside.change ≡ Decided c ruling (map is_some grants)) where
    pub grants_many : length grants ≡ length inside.lives.items
    grants_many =
        sym (length-map grants is_some) ∙ (subst (FollowsCourse (world_of inside)) course_is world.facts.follows).0 ∙ length-map inside.lives.items replica_of

    pub grant_suits : (k : ℕ) (life : Seen) (grant : Ruling) → slice_get inside.lives.items k ≡ Some life → entry (map is_some grants) k ≡ true → grant ≡ ruling → Suits grant (k == c) life.replica
    grant_suits k life grant at waits same =
        subst (λ (r : Ruling). Suits r (k == c) life.replica) (sym same)
        (suits (world_of inside) k life.replica (life_at k life at) kept c (map is_some grants) waits ruling course_is)
