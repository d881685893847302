-- What a change holds, and what the rows of its steps make of it.
use Rattle.std.proofs.Common.{◌≡◌, ◌≤◌, ◌<◌, ◌+◌, ◌==◌, ◌||◌, ◌&&◌, ℕ, zero, suc, Bool, true, false, if◌then◌else◌, List, [], ◌∷◌, length, map, replicate, refl, sym, ap, ◌∙◌, subst, arith, ⊎_elim}
use Rattle.std.specs.Prelude.{Option, Some, None, slice_get, slice_set}
use Rattle.std.specs.List.{list_all, list_any}
use Rattle.std.specs.Option.{is_some}
use Rattle.std.proofs.lemmas.List.{map-set}
use Rattle.std.proofs.lemmas.Option.{same_Some, slice_get_within}
use Rattle.lucy_plan.specs.declared.parts.Call.{Call}
use Rattle.lucy_expr.specs.Trees.{Tree}
use Rattle.lucy_epochs.specs.declared.causes.By.{By}
use Rattle.lucy_epochs.specs.Records.{Record}
use Rattle.lucy_epochs.specs.Contributions.{Contribution}
use Rattle.lucy_epochs.specs.Collections.{Collected, empty, with_part, parts_of}
use Rattle.lucy_epochs.specs.Rulings.{Ruling, opens, rule}
use Rattle.lucy_replica.specs.Replicas.{Replica, Message, Seen}
use Rattle.lucy_replica.specs.Changing.{contributed, wish_of, adopted}
use Rattle.lucy_replica.specs.declared.answers.Adoption.{Adoption}
use Rattle.lucy_replica.specs.declared.events.Event.{Event}
use Rattle.lucy_replica.specs.declared.events.Event.TheVariants as event
use Rattle.lucy_replica.specs.declared.events.Stage.TheVariants as stage
use Rattle.lucy_core.specs.Worlds.{World, Course, Idle, Freezing, Decided, entry}
use Rattle.lucy_core.specs.Steps.{adopt_event, ruled_event, records_with, begin_row, wanted_by, begin_by, freeze_by, decided, ruling_of, open_row, open_by, still, thaw_row, thaw_by}
use Rattle.lucy_core.specs.Holding.{HasParts, HasGrants, IsNextOf}
use Rattle.lucy_core.proofs.Places.{set_cases_apart, set_at, set_other, map-set_same, map_at}
use Rattle.lucy_core.proofs.Rows.{if_cases}

-- ---- seats
pub entry_at : {X : Type 0} (seats : List (Option X)) (k : ℕ) (seat : Option X) → slice_get seats k ≡ Some seat → entry (map is_some seats) k ≡ is_some seat
entry_at [] k seat h = cc
entry_at (s ∷ seats) zero seat h = ap is_some (same_Some s seat h)
entry_at (s ∷ seats) (suc k) seat h = entry_at seats k seat h

-- a seat that is not taken is empty
pub free_seat : {X : Type 0} (seats : List (Option X)) (k : ℕ) → k < length seats → entry (map is_some seats) k ≡ false → slice_get seats k ≡ Some None
free_seat [] k below free = absurd (omega (arith, below))
free_seat (None ∷ seats) zero below free = refl
free_seat (Some x ∷ seats) zero below free = absurd (let no : ⊥ = cc in no)
free_seat (s ∷ seats) (suc k) below free = free_seat seats k (omega (arith, below)) free

-- what sits in a seat that is not taken is nothing
none_sits : {X : Type 0} (seats : List (Option X)) (k n : ℕ) (x : X) → entry (map is_some seats) k ≡ false → n ≡ k → slice_get seats n ≡ Some (Some x) → ⊥
none_sits seats k n x free own taken =
    let there : entry (map is_some seats) k ≡ true = ap (entry (map is_some seats)) (sym own) ∙ entry_at seats n (Some x) taken in
    cc

all_some : {X : Type 0} (seats : List (Option X)) → list_all (λ (seat : Option X). is_some seat) seats ≡ list_all (λ f. f) (map is_some seats)
all_some [] = refl
all_some (seat ∷ seats) = ap (λ (b : Bool). is_some seat && b) (all_some seats)

any_some : {X : Type 0} (seats : List (Option X)) → list_any (λ (seat : Option X). is_some seat) seats ≡ list_any (λ f. f) (map is_some seats)
any_some [] = refl
any_some (seat ∷ seats) = ap (λ (b : Bool). is_some seat || b) (any_some seats)

seat_full : {X : Type 0} (seats : List (Option X)) (k : ℕ) → list_all (λ (seat : Option X). is_some seat) seats ≡ true → k < length seats → (x : X) × (slice_get seats k ≡ Some (Some x))
seat_full [] k all below = absurd (omega (arith, below))
seat_full (None ∷ seats) k all below = absurd (let no : ⊥ = cc in no)
seat_full (Some x ∷ seats) zero all below = (x, refl)
seat_full (Some x ∷ seats) (suc k) all below = seat_full seats k all (omega (arith, below))

-- where all seats are taken, they are as so many grants
full_replicate : {X Y : Type 0} (seats : List (Option X)) (y : Y) → list_all (λ (seat : Option X). is_some seat) seats ≡ true → map is_some seats ≡ map is_some (replicate (length seats) (Some y))
full_replicate [] y all = refl
full_replicate (None ∷ seats) y all = absurd (let no : ⊥ = cc in no)
full_replicate (Some x ∷ seats) y all = ap (λ (bs : List Bool). true ∷ bs) (full_replicate seats y all)

-- a seat that is left as it was
pub set_same : {X : Type 0} (xs : List X) (k : ℕ) (x : X) → slice_get xs k ≡ Some x → slice_set xs k x ≡ xs
set_same [] k x h = cc
set_same {X} (y ∷ xs) zero x h = ap (λ (z : X). z ∷ xs) (sym (same_Some y x h))
set_same {X} (y ∷ xs) (suc k) x h = ap (λ (zs : List X). y ∷ zs) (set_same xs k x h)

-- so many empty seats
none_taken : (Y : Type 0) {X : Type 0} (xs : List X) → map is_some (replicate {A = Option Y} (length xs) None) ≡ map (λ (x : X). false) xs
none_taken Y [] = refl
none_taken Y (x ∷ xs) = ap (λ (bs : List Bool). false ∷ bs) (none_taken Y xs)

map_const : {X Y : Type 0} (f : X → Y) (xs : List X) → map (λ (y : Y). false) (map f xs) ≡ map (λ (x : X). false) xs
map_const f [] = refl
map_const f (x ∷ xs) = ap (λ (bs : List Bool). false ∷ bs) (map_const f xs)

empty_seat : {X : Type 0} (n k : ℕ) (x : X) → slice_get (replicate n None) k ≡ Some (Some x) → ⊥
empty_seat zero k x h = cc
empty_seat (suc n) zero x h = cc
empty_seat (suc n) (suc k) x h = empty_seat n k x h

grant_at : {X : Type 0} (n k : ℕ) (x y : X) → slice_get (replicate n (Some x)) k ≡ Some (Some y) → y ≡ x
grant_at zero k x y h = cc
grant_at (suc n) zero x y h = cc
grant_at (suc n) (suc k) x y h = grant_at n k x y h

-- ---- one replica changes, which is not frozen
module _ (lives : List Seen) (k : ℕ) (life after : Seen) (at : slice_get lives k ≡ Some life) where
  pub parts_stay : (collected : Collected) → after.replica.epoch ≡ life.replica.epoch → entry (map is_some collected.seats) k ≡ false → HasParts lives collected → HasParts (slice_set lives k after) collected
  parts_stay collected same free has = record {
    of_one = λ n other h. ⊎_elim
        (λ own. ap (λ (l : Seen). l.replica.epoch) own.1 ∙ same ∙ has.of_one k life at)
        (λ apart. has.of_one n other apart.1)
        (set_cases_apart lives k n after other h);
    parts = λ n other part h taken. ⊎_elim
        (λ own. absurd (none_sits collected.seats k n part free own.0 taken))
        (λ apart. has.parts n other part apart.1 taken)
        (set_cases_apart lives k n after other h);
    reserved = λ n other part h taken. ⊎_elim
        (λ own. absurd (none_sits collected.seats k n part free own.0 taken))
        (λ apart. has.reserved n other part apart.1 taken)
        (set_cases_apart lives k n after other h);
  }

  pub grants_stay : (ruling : Ruling) (grants : List (Option Ruling)) → entry (map is_some grants) k ≡ false → HasGrants lives ruling grants → HasGrants (slice_set lives k after) ruling grants
  grants_stay ruling grants free has = record {
    granted = has.granted;
    reserved = λ n other grant h taken. ⊎_elim
        (λ own. absurd (none_sits grants k n grant free own.0 taken))
        (λ apart. has.reserved n other grant apart.1 taken)
        (set_cases_apart lives k n after other h);
  }

  -- its part is collected
  parts_set : (collected : Collected) (part : Contribution) → after.replica ≡ life.replica → slice_get collected.seats k ≡ Some None → part ≡ contributed after.replica → 1 ≤ after.spare
      → HasParts lives collected → HasParts (slice_set lives k after) (record collected { seats = slice_set collected.seats k (Some part) })
  parts_set collected part same free is room has = record {
    of_one = λ n other h. ⊎_elim
        (λ own. ap (λ (l : Seen). l.replica.epoch) own.1 ∙ ap (λ (r : Replica). r.epoch) same ∙ has.of_one k life at)
        (λ apart. has.of_one n other apart.1)
        (set_cases_apart lives k n after other h);
    parts = λ n other given h taken. ⊎_elim
        (λ own.
        let sits : Some part ≡ Some given = same_Some (Some part) (Some given) (sym (set_at collected.seats k None (Some part) free) ∙ ap (slice_get (slice_set collected.seats k (Some part))) (sym own.0) ∙ taken) in
        sym (same_Some part given sits) ∙ is ∙ ap (λ (l : Seen). contributed l.replica) (sym own.1))
        (λ apart. has.parts n other given apart.1 (sym (set_other collected.seats k n (Some part) apart.0) ∙ taken))
        (set_cases_apart lives k n after other h);
    reserved = λ n other given h taken. ⊎_elim
        (λ own. subst (λ (l : Seen). 1 ≤ l.spare) (sym own.1) room)
        (λ apart. has.reserved n other given apart.1 (sym (set_other collected.seats k n (Some part) apart.0) ∙ taken))
        (set_cases_apart lives k n after other h);
  }

  pub parts_more : (collected : Collected) (part : Contribution) → after.replica ≡ life.replica → slice_get collected.seats k ≡ Some None → part ≡ contributed after.replica → part.replica ≡ k → 1 ≤ after.spare
      → HasParts lives collected → HasParts (slice_set lives k after) (with_part collected part)
  parts_more collected part same free is seat room has =
      subst (λ (n : ℕ). HasParts (slice_set lives k after) (record collected { seats = slice_set collected.seats n (Some part) })) (sym seat) (parts_set collected part same free is room has)

  -- it used its grant
  pub grants_less : (ruling : Ruling) (grants : List (Option Ruling)) → HasGrants lives ruling grants → HasGrants (slice_set lives k after) ruling (slice_set grants k None)
  grants_less ruling grants has = record {
    granted = λ n grant taken. ⊎_elim
        (λ own. absurd (let same : Some grant ≡ None = own.1 in cc))
        (λ apart. has.granted n grant apart.1)
        (set_cases_apart grants k n None (Some grant) taken);
    reserved = λ n other grant h taken. ⊎_elim
        (λ own. absurd (let same : Some grant ≡ None = own.1 in cc))
        (λ apart. ⊎_elim
        (λ own. absurd (apart.0 own.0))
        (λ past. has.reserved n other grant past.1 apart.1)
        (set_cases_apart lives k n after other h))
        (set_cases_apart grants k n None (Some grant) taken);
  }

-- ---- a change begins, and is decided
pub parts_begin : (lives : List Seen) (epoch : Record) (n : ℕ) → ((number : ℕ) (life : Seen) → slice_get lives number ≡ Some life → life.replica.epoch ≡ epoch) → HasParts lives (empty epoch n)
parts_begin lives epoch n same = record {
  of_one = same;
  parts = λ k life part h taken. absurd (empty_seat n k part taken);
  reserved = λ k life part h taken. absurd (empty_seat n k part taken);
}

pub grants_begin : (lives : List Seen) (collected : Collected) (ruling : Ruling) (n : ℕ) → length collected.seats ≡ length lives → list_all (λ (seat : Option Contribution). is_some seat) collected.seats ≡ true
    → HasParts lives collected → HasGrants lives ruling (replicate n (Some ruling))
grants_begin lives collected ruling n long all has = record {
  granted = λ k grant taken. grant_at n k ruling grant taken;
  reserved = λ k life grant h taken.
      let part = seat_full collected.seats k all (omega (arith, long, slice_get_within lives k life h)) in
      has.reserved k life part.0 h part.1;
}

-- where all parts were collected, they are what the replicas have
parts_all : (seats : List (Option Contribution)) (lives : List Seen) → length seats ≡ length lives → list_all (λ (seat : Option Contribution). is_some seat) seats ≡ true
    → ((k : ℕ) (life : Seen) (part : Contribution) → slice_get lives k ≡ Some life → slice_get seats k ≡ Some (Some part) → part ≡ contributed life.replica)
    → parts_of seats ≡ map contributed (map (λ (life : Seen). life.replica) lives)
parts_all [] [] long all is = refl
parts_all [] (life ∷ lives) long all is = absurd (omega (arith, long))
parts_all (None ∷ seats) lives long all is = absurd (let no : ⊥ = cc in no)
parts_all (Some part ∷ seats) [] long all is = absurd (omega (arith, long))
parts_all (Some part ∷ seats) (life ∷ lives) long all is =
    ap (λ (p : Contribution). p ∷ parts_of seats) (is 0 life part refl refl)
    ∙ ap (λ (ps : List Contribution). contributed life.replica ∷ ps) (parts_all seats lives (omega (arith, long)) all (λ k l p h taken. is (suc k) l p h taken))

-- a ruling on parts of the last record opens the next one
pub rule_next : (records : List Record) (epoch : Record) (parts : List Contribution) (wanted : Option (Call × By)) → epoch.number + 1 ≡ length records → IsNextOf records (rule epoch parts wanted)
rule_next records epoch parts None last = tt
rule_next records epoch parts (Some w) last = if_cases (IsNextOf records) (opens epoch parts w.0) _ _ (λ whole. last) (λ breaks. tt)

-- ---- the rows
-- the world of these records, packets and lives, with its change at this point
abbrev pub world_with : List Record → List Message → Course → List Seen → World
world_with records packets course lives = record { records = records; packets = packets; course = course; replicas = map (λ (life : Seen). life.replica) lives }

module _ (records : List Record) (packets : List Message) (lives : List Seen) (k : ℕ) (life : Seen) (at : slice_get lives k ≡ Some life) where
  replica_at : slice_get (map (λ (life : Seen). life.replica) lives) k ≡ Some life.replica
  replica_at = map_at (λ (life : Seen). life.replica) lives k life at

  pub begun_step : (point : Tree) (epoch : Record) → life.replica.wanted ≡ Some point
      → begin_by (world_with records packets Idle lives) k Idle ≡ (event.Begun, world_with records packets (Freezing k (map is_some (empty epoch (length lives)).seats)) lives)
  begun_step point epoch wanted =
      let v = world_with records packets Idle lives in
      ap (λ (o : Option Replica). begin_row v k (wanted_by o)) replica_at
      ∙ ap (begin_row v k) wanted
      ∙ ap (λ (f : List Bool). let x : Event × World = (event.Begun, record v { course = Freezing k f }) in x)
      (map_const (λ (life : Seen). life.replica) lives ∙ sym (none_taken Contribution lives))

  pub unwanted_step : life.replica.wanted ≡ None → begin_by (world_with records packets Idle lives) k Idle ≡ (event.Nothing, world_with records packets Idle lives)
  unwanted_step wanted =
      let v = world_with records packets Idle lives in
      ap (λ (o : Option Replica). begin_row v k (wanted_by o)) replica_at ∙ ap (begin_row v k) wanted

  pub frozen_step : (c : ℕ) (collected : Collected) (after : Seen) (part : Contribution) → after.replica ≡ life.replica → slice_get collected.seats k ≡ Some None → part.replica ≡ k
      → freeze_by (world_with records packets (Freezing c (map is_some collected.seats)) lives) k (Freezing c (map is_some collected.seats))
      ≡ (event.Frozen, world_with records packets (Freezing c (map is_some (with_part collected part).seats)) (slice_set lives k after))
  frozen_step c collected after part same free seat =
      let frozen = map is_some collected.seats in
      let v = world_with records packets (Freezing c frozen) lives in
      ap (λ (b : Bool). if b then (event.Held, v) else (event.Frozen, record v { course = Freezing c (slice_set frozen k true) })) (entry_at collected.seats k None free)
      ∙ ap (λ (f : List Bool). let a : Event × World = (event.Frozen, record v { course = Freezing c f }) in a)
      (sym (map-set is_some collected.seats k (Some part)) ∙ ap (λ (n : ℕ). map is_some (slice_set collected.seats n (Some part))) (sym seat))
      ∙ ap (λ (replicas : List Replica). let a : Event × World = (event.Frozen, record { records = records; packets = packets; course = Freezing c (map is_some (with_part collected part).seats); replicas = replicas }) in a)
      (sym (map-set_same (λ (life : Seen). life.replica) lives k life after at (ap (λ (r : Replica). r) same)))

  pub thawed_step : (c : ℕ) (ruling grant : Ruling) (grants : List (Option Ruling)) (after : Seen) (answer : Adoption) (said : Event) (course : Course)
      → slice_get grants k ≡ Some (Some grant) → grant ≡ ruling → adopted grant (k == c) life.replica ≡ (answer, after.replica) → said ≡ adopt_event answer
      → still c ruling (map is_some (slice_set grants k None)) ≡ course
      → thaw_by (world_with records packets (Decided c ruling (map is_some grants)) lives) k (Decided c ruling (map is_some grants)) ≡ (said, world_with records packets course (slice_set lives k after))
  thawed_step c ruling grant grants after answer said course waits same acts told ends =
      let frozen = map is_some grants in
      let v = world_with records packets (Decided c ruling frozen) lives in
      ap (λ (b : Bool). if b then thaw_row v k c ruling frozen (slice_get v.replicas k) else (event.Free, v)) (entry_at grants k (Some grant) waits)
      ∙ ap (thaw_row v k c ruling frozen) replica_at
      ∙ ap (λ (a : Adoption × Replica). let x : Event × World = (adopt_event a.0, record v { replicas = slice_set v.replicas k a.1; course = still c ruling (slice_set frozen k false) }) in x)
      (ap (λ (r : Ruling). adopted r (k == c) life.replica) (sym same) ∙ acts)
      ∙ ap (λ (f : List Bool). let x : Event × World = (adopt_event answer, record v { replicas = slice_set v.replicas k after.replica; course = still c ruling f }) in x) (sym (map-set is_some grants k None))
      ∙ ap (λ (e : Course). let x : Event × World = (adopt_event answer, record v { replicas = slice_set v.replicas k after.replica; course = e }) in x) ends
      ∙ (λ i. (sym told i, record { records = records; packets = packets; course = course; replicas = sym (map-set (λ (life : Seen). life.replica) lives k after) i }))

pub free_step : (records : List Record) (packets : List Message) (lives : List Seen) (k c : ℕ) (ruling : Ruling) (grants : List (Option Ruling)) → slice_get grants k ≡ Some None
    → thaw_by (world_with records packets (Decided c ruling (map is_some grants)) lives) k (Decided c ruling (map is_some grants)) ≡ (event.Free, world_with records packets (Decided c ruling (map is_some grants)) lives)
free_step records packets lives k c ruling grants free =
    let v = world_with records packets (Decided c ruling (map is_some grants)) lives in
    ap (λ (b : Bool). if b then thaw_row v k c ruling (map is_some grants) (slice_get v.replicas k) else (event.Free, v)) (entry_at grants k None free)

-- the course after a thaw, by whether a grant is left
pub still_on : (c : ℕ) (ruling : Ruling) (grants : List (Option Ruling)) → list_any (λ (grant : Option Ruling). is_some grant) grants ≡ true → still c ruling (map is_some grants) ≡ Decided c ruling (map is_some grants)
still_on c ruling grants on = ap (λ (b : Bool). if b then Decided c ruling (map is_some grants) else Idle) (sym (any_some grants) ∙ on)

pub still_off : (c : ℕ) (ruling : Ruling) (grants : List (Option Ruling)) → list_any (λ (grant : Option Ruling). is_some grant) grants ≡ false → still c ruling (map is_some grants) ≡ Idle
still_off c ruling grants off = ap (λ (b : Bool). if b then Decided c ruling (map is_some grants) else Idle) (sym (any_some grants) ∙ off)

module _ (records : List Record) (packets : List Message) (lives : List Seen) (c : ℕ) (collected : Collected) where
  abbrev freezing : Course
  freezing = Freezing c (map is_some collected.seats)

  pub busy_step : list_all (λ (seat : Option Contribution). is_some seat) collected.seats ≡ false
      → open_by (world_with records packets freezing lives) freezing ≡ (event.Busy stage.Freezing, world_with records packets freezing lives)
  busy_step some =
      let v = world_with records packets freezing lives in
      ap (λ (b : Bool). if b then open_row v c (map is_some collected.seats) (slice_get v.replicas c) else (event.Busy stage.Freezing, v)) (sym (all_some collected.seats) ∙ some)

  pub opened_step : (life : Seen) (ruling : Ruling) (wanted : Option (Call × By)) (n : ℕ) (said : Event) (more : List Record) → slice_get lives c ≡ Some life → length collected.seats ≡ length lives → n ≡ length lives
      → list_all (λ (seat : Option Contribution). is_some seat) collected.seats ≡ true → HasParts lives collected → wanted ≡ wish_of life.replica → ruling ≡ rule collected.epoch (parts_of collected.seats) wanted
      → said ≡ ruled_event ruling → more ≡ records_with records ruling
      → open_by (world_with records packets freezing lives) freezing ≡ (said, world_with more packets (Decided c ruling (map is_some (replicate n (Some ruling)))) lives)
  opened_step life ruling wanted n said more at long many all has wish ruled told noted =
      let v = world_with records packets freezing lives in
      let frozen = map is_some collected.seats in
      let parts : map contributed v.replicas ≡ parts_of collected.seats = sym (parts_all collected.seats lives long all has.parts) in
      let decision : ruling_of v.replicas life.replica ≡ ruling =
      ap (λ (e : Record). rule e (map contributed v.replicas) (wish_of life.replica)) (has.of_one c life at)
      ∙ ap (λ (ps : List Contribution). rule collected.epoch ps (wish_of life.replica)) parts
      ∙ ap (rule collected.epoch (parts_of collected.seats)) (sym wish) ∙ sym ruled in
      let granted : frozen ≡ map is_some (replicate n (Some ruling)) =
      full_replicate collected.seats ruling all ∙ ap (λ (m : ℕ). map is_some (replicate m (Some ruling))) (long ∙ sym many) in
      ap (λ (b : Bool). if b then open_row v c frozen (slice_get v.replicas c) else (event.Busy stage.Freezing, v)) (sym (all_some collected.seats) ∙ all)
      ∙ ap (open_row v c frozen) (map_at (λ (life : Seen). life.replica) lives c life at)
      ∙ ap (decided v c frozen) decision
      ∙ ap (λ (f : List Bool). decided v c f ruling) granted
      ∙ (λ i. (sym told i, record { records = sym noted i; packets = packets; course = Decided c ruling (map is_some (replicate n (Some ruling))); replicas = map (λ (life : Seen). life.replica) lives }))
