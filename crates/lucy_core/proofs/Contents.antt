-- What the openings contain follows, at any one world, from how they were opened and from what each replica keeps.
use Rattle.std.proofs.Common.{◌≡◌, ◌<◌, ◌≤◌, ◌+◌, ◌⊎◌, ◌++◌, ◌==◌, ℕ, zero, suc, Bool, true, false, if◌then◌else◌, List, [], ◌∷◌, length, map, refl, sym, ap, ◌∙◌, subst, inl, inr, ⊎_elim, arith}
use Rattle.std.specs.Prelude.{Some, slice_get, Contains}
use Rattle.std.specs.List.{flat_map}
use Rattle.std.proofs.lemmas.Grind.{flat_map-append}
use Rattle.std.proofs.lemmas.List.{append_assoc, append-nil}
use Rattle.std.proofs.lemmas.List.Elements.{Contains-append_left, Contains-append_right, Contains-append_cases, Contains-push}
use Rattle.std.proofs.lemmas.Bool.{eq-eqb}
use Rattle.lucy_plan.specs.declared.parts.Call.{Call}
use Rattle.lucy_expr.specs.declared.ids.Id.{Id}
use Rattle.lucy_expr.specs.Trees.{Tree, Start, Apply, Merge, ids}
use Rattle.lucy_epochs.specs.declared.causes.By.{By}
use Rattle.lucy_epochs.specs.Records.{Record, Change, added_ids, contents}
use Rattle.lucy_replica.specs.Replicas.{Answer, Done, Broken, Moved, Refused, Stay, Replica, present, stays}
use Rattle.lucy_replica.specs.Submitting.{accepted_ids}
use Rattle.lucy_replica.specs.Facts.{AreCounted, done_in, spine_calls, WasIn, IsSettled, IsStay}
use Rattle.lucy_replica.specs.Openings.{tree_at, tree_in, trees_in, change_by, change_to, changes_before, contents_of}
use Rattle.lucy_core.specs.Worlds.{World, IsAt, IsListed}
use Rattle.lucy_core.specs.Safety.{AreContained}
use Rattle.lucy_core.proofs.Places.{here, later, here_or_later, place_of, map_at, slice_get-front, last_at}
use Rattle.lucy_core.proofs.Kept.{IsKept}
use Rattle.lucy_core.proofs.OneChange.{stay_cases}

-- ---- elements
pub contains_at : {X : Type 0} (xs : List X) (k : ℕ) (x : X) → slice_get xs k ≡ Some x → Contains xs x
contains_at [] k x h = cc
contains_at (y ∷ xs) zero x h = let is : y ≡ x = cc in subst (Contains (y ∷ xs)) is (here y xs)
contains_at (y ∷ xs) (suc k) x h = later y x xs (contains_at xs k x h)

pub none_in : {X : Type 0} (x : X) → Contains [] x → ⊥
none_in x h = let below = h.1 in omega arith

flat_map_has : {X Y : Type 0} (f : X → List Y) (xs : List X) (x : X) (y : Y) → Contains xs x → Contains (f x) y → Contains (flat_map f xs) y
flat_map_has f [] x y h g = absurd (none_in x h)
flat_map_has f (z ∷ xs) x y h g =
    ⊎_elim
    (λ e. Contains-append_left (f z) (flat_map f xs) y (subst (λ w. Contains (f w) y) (sym e) g))
    (λ c. Contains-append_right (f z) (flat_map f xs) y (flat_map_has f xs x y c g))
    (here_or_later z x xs h)

pub exists_at : {X : Type 0} (xs : List X) (k : ℕ) → k < length xs → (x : X) × (slice_get xs k ≡ Some x)
exists_at [] k below = absurd (omega (arith, below))
exists_at (x ∷ xs) zero below = (x, refl)
exists_at (x ∷ xs) (suc k) below = exists_at xs k (omega (arith, below))

-- ---- calls that were accepted
spine_id : (tree : Tree) (id : Id) (call : Call) → Contains (spine_calls tree) (id, call) → Contains (ids tree) id
spine_id Start id call h = absurd (none_in (id, call) h)
spine_id (Apply made first inner) id call h =
    ⊎_elim
    (λ old. later made id (ids inner) (spine_id inner id call old))
    (λ new. ⊎_elim
    (λ e. let is : made ≡ id = ap (λ (p : Id × Call). p.0) e in subst (Contains (made ∷ ids inner)) is (here made (ids inner)))
    (λ none. absurd (none_in (id, call) none))
    (here_or_later (made, first) (id, call) [] new))
    (Contains-append_cases (spine_calls inner) ((made, first) ∷ []) (id, call) h)
spine_id (Merge left right) id call h = Contains-append_left (ids left) (ids right) id (spine_id left id call h)

keeps_more : (b : Bool) (p q : Id × Call) (xs : List (Id × Call)) → Contains xs q → Contains (if b then p ∷ xs else xs) q
keeps_more true p q xs h = later p q xs h
keeps_more false p q xs h = h

takes_it : (b : Bool) (p : Id × Call) (xs : List (Id × Call)) → b ≡ true → Contains (if b then p ∷ xs else xs) p
takes_it true p xs h = here p xs
takes_it false p xs h = cc

done_has : (number : ℕ) (calls : List Call) (replies : List Answer) (place : ℕ) (call : Call) (epoch : Record) (id : Id)
    → slice_get calls place ≡ Some call → slice_get replies place ≡ Some (Done epoch id) → epoch.number ≡ number → Contains (done_in number calls replies) (id, call)
done_has number [] replies place call epoch id h g e = cc
done_has number (first ∷ calls) [] place call epoch id h g e = cc
done_has number (first ∷ calls) (Done at made ∷ replies) zero call epoch id h g e =
    let same : first ≡ call = cc in
    let same_id : made ≡ id = cc in
    let same_at : at ≡ epoch = cc in
    subst (λ (p : Id × Call). Contains (done_in number (first ∷ calls) (Done at made ∷ replies)) p) (λ i. (same_id i, same i))
    (takes_it (at.number == number) (made, first) (done_in number calls replies) (eq-eqb at.number number (ap (λ (r : Record). r.number) same_at ∙ e)))
done_has number (first ∷ calls) (Done at made ∷ replies) (suc place) call epoch id h g e =
    keeps_more (at.number == number) (made, first) (id, call) (done_in number calls replies) (done_has number calls replies place call epoch id h g e)
done_has number (first ∷ calls) (Broken at point ∷ replies) zero call epoch id h g e = cc
done_has number (first ∷ calls) (Broken at point ∷ replies) (suc place) call epoch id h g e = done_has number calls replies place call epoch id h g e
done_has number (first ∷ calls) (Moved at point made ∷ replies) zero call epoch id h g e = cc
done_has number (first ∷ calls) (Moved at point made ∷ replies) (suc place) call epoch id h g e = done_has number calls replies place call epoch id h g e
done_has number (first ∷ calls) (Refused point parts ∷ replies) zero call epoch id h g e = cc
done_has number (first ∷ calls) (Refused point parts ∷ replies) (suc place) call epoch id h g e = done_has number calls replies place call epoch id h g e

moved_id : (replies : List Answer) (place : ℕ) (epoch : Record) (point : Tree) (id : Id) → slice_get replies place ≡ Some (Moved epoch point id) → Contains (accepted_ids replies) id
moved_id [] place epoch point id h = cc
moved_id (Moved at spot made ∷ replies) zero epoch point id h = let same : made ≡ id = cc in subst (Contains (made ∷ accepted_ids replies)) same (here made (accepted_ids replies))
moved_id (Done at made ∷ replies) zero epoch point id h = cc
moved_id (Broken at spot ∷ replies) zero epoch point id h = cc
moved_id (Refused spot parts ∷ replies) zero epoch point id h = cc
moved_id (Done at made ∷ replies) (suc place) epoch point id h = later made id (accepted_ids replies) (moved_id replies place epoch point id h)
moved_id (Moved at spot made ∷ replies) (suc place) epoch point id h = later made id (accepted_ids replies) (moved_id replies place epoch point id h)
moved_id (Broken at spot ∷ replies) (suc place) epoch point id h = moved_id replies place epoch point id h
moved_id (Refused spot parts ∷ replies) (suc place) epoch point id h = moved_id replies place epoch point id h

counted_own : (number count : ℕ) (made : List Id) (id : Id) → AreCounted number count made → Contains made id → id.replica ≡ number
counted_own number count [] id h g = absurd (none_in id g)
counted_own number count (first ∷ made) id h g =
    ⊎_elim (λ e. ap (λ (i : Id). i.replica) (sym e ∙ h.0)) (λ c. counted_own number (count + 1) made id h.1 c) (here_or_later first id made g)

-- ---- what a replica has of a record, by its number
pub stay_at : (replica : Replica) (stay : Stay) → IsSettled replica → Contains (stays replica) stay → slice_get (stays replica) stay.epoch.number ≡ Some stay
stay_at replica stay settled h =
    ⊎_elim
    (λ closed.
    let at = place_of replica.closings stay closed in
    ap (slice_get (stays replica)) (settled.closed_numbers at.0 stay at.1) ∙ slice_get-front replica.closings (present replica ∷ []) at.0 stay at.1)
    (λ now. subst (λ (s : Stay). slice_get (stays replica) s.epoch.number ≡ Some s) now
    (ap (slice_get (stays replica)) settled.present_number ∙ last_at replica.closings (present replica)))
    (stay_cases replica stay h)

pub stay_of : (replica : Replica) (stay : Stay) → IsSettled replica → Contains (stays replica) stay → IsStay replica stay
stay_of replica stay settled h =
    ⊎_elim
    (λ closed. let at = place_of replica.closings stay closed in settled.closed at.0 stay at.1)
    (λ now. subst (λ (s : Stay). IsStay replica s) now settled.open_stay)
    (stay_cases replica stay h)

-- ---- contents only grow
split_le : (a b : ℕ) → a ≤ suc b → (a ≤ b) ⊎ (a ≡ suc b)
split_le zero b h = inl (omega arith)
split_le (suc a) zero h = inr (omega (arith, h))
split_le (suc a) (suc b) h = ⊎_elim (λ l. inl (omega (arith, l))) (λ e. inr (ap (λ n. suc n) e)) (split_le a b (omega (arith, h)))

pub contents_grow : (replicas : List Replica) (records : List Record) (earlier late : ℕ) → earlier ≤ late
    → (added : List Id) × (contents_of replicas records late ≡ contents_of replicas records earlier ++ added)
contents_grow replicas records earlier zero h =
    let same : zero ≡ earlier = omega (arith, h) in
    ([], ap (contents_of replicas records) same ∙ sym (append-nil (contents_of replicas records earlier)))
contents_grow replicas records earlier (suc late) h =
    ⊎_elim
    (λ below.
    let rest = contents_grow replicas records earlier late below in
    let more = contents (change_to (trees_in replicas late) (slice_get records (suc late))) in (
      rest.0 ++ more,
      flat_map-append added_ids (changes_before replicas records late) (change_to (trees_in replicas late) (slice_get records (suc late)))
          ∙ ap (λ (front : List Id). front ++ more) rest.1
          ∙ append_assoc (contents_of replicas records earlier) rest.0 more,
    ))
    (λ same. ([], ap (contents_of replicas records) (sym same) ∙ sym (append-nil (contents_of replicas records earlier))))
    (split_le earlier late h)

-- what a record's opening contains, later ones contain
contains_later : (replicas : List Replica) (records : List Record) (earlier late : ℕ) (id : Id) → earlier ≤ late → Contains (contents_of replicas records earlier) id → Contains (contents_of replicas records late) id
contains_later replicas records earlier late id h has =
    let grown = contents_grow replicas records earlier late h in
    subst (λ (front : List Id). Contains front id) (sym grown.1) (Contains-append_left (contents_of replicas records earlier) grown.0 id has)

-- ---- what a change puts into the next opening
change_has : (w : World) (number : ℕ) (epoch : Record) (by : By) (id : Id) → slice_get w.records (suc number) ≡ Some epoch → epoch.by ≡ Some by
    → Contains (added_ids (record { trees = trees_in w.replicas number; by = by })) id → Contains (contents_of w.replicas w.records (suc number)) id
change_has w number epoch by id is named has =
    let change : Change = record { trees = trees_in w.replicas number; by = by } in
    let one : change_to (trees_in w.replicas number) (slice_get w.records (suc number)) ≡ change ∷ [] =
    ap (change_to (trees_in w.replicas number)) is ∙ ap (change_by (trees_in w.replicas number)) named in
    let added : Contains (contents (change_to (trees_in w.replicas number) (slice_get w.records (suc number)))) id =
    subst (λ (changes : List Change). Contains (contents changes) id) (sym one) (Contains-append_left (added_ids change) [] id has) in
    subst (λ (all : List Id). Contains all id)
    (sym (flat_map-append added_ids (changes_before w.replicas w.records number) (change_to (trees_in w.replicas number) (slice_get w.records (suc number)))))
    (Contains-append_right (contents (changes_before w.replicas w.records number)) (contents (change_to (trees_in w.replicas number) (slice_get w.records (suc number)))) id added)

module _ (w : World) (k : ℕ) (replica : Replica) (at : IsAt w k replica) (kept : IsKept w) where
  done_contained : (place : ℕ) (epoch : Record) (id : Id) (late : ℕ) → slice_get replica.replies place ≡ Some (Done epoch id)
      → epoch.number < late → late < length w.records → Contains (contents_of w.replicas w.records late) id
  done_contained place epoch id late reply below listed =
      let settled = kept.settled k replica at in
      let answered = settled.answered place (Done epoch id) reply in
      let stay : Stay = answered.2.0 in
      let epoch_is : stay.epoch ≡ epoch = answered.2.2 in
      let done = done_has stay.epoch.number replica.calls replica.replies place answered.0 epoch id answered.1 reply (ap (λ (e : Record). e.number) (sym epoch_is)) in
      let id_in : Contains (ids stay.tree) id =
      spine_id stay.tree id answered.0 (subst (λ (calls : List (Id × Call)). Contains calls (id, answered.0)) (stay_of replica stay settled answered.2.1).done done) in
      let tree_is : tree_in epoch.number replica ≡ stay.tree =
      ap (λ (e : Record). tree_in e.number replica) (sym epoch_is) ∙ ap tree_at (stay_at replica stay settled answered.2.1) in
      let in_trees : Contains (trees_in w.replicas epoch.number) stay.tree =
      subst (Contains (trees_in w.replicas epoch.number)) tree_is
      (contains_at (trees_in w.replicas epoch.number) k (tree_in epoch.number replica) (map_at (tree_in epoch.number) w.replicas k replica at)) in
      let in_ids : Contains (flat_map ids (trees_in w.replicas epoch.number)) id = flat_map_has ids (trees_in w.replicas epoch.number) stay.tree id in_trees id_in in
      let past = exists_at w.records epoch.number (omega (arith, below, listed)) in
      let next = exists_at w.records (epoch.number + 1) (omega (arith, below, listed)) in
      let opened = kept.openings epoch.number past.0 next.0 past.1 next.1 in
      let plus : epoch.number + 1 ≡ suc epoch.number = omega arith in
      contains_later w.replicas w.records (suc epoch.number) late id (omega (arith, below))
      (change_has w epoch.number next.0 opened.by id
      (ap (slice_get w.records) (sym plus) ∙ next.1) (ap (λ (e : Record). e.by) opened.opening.after_is)
      (Contains-append_left (flat_map ids (trees_in w.replicas epoch.number)) (record { replica = opened.by.replica; count = opened.by.count } ∷ []) id in_ids))

  -- a replica's records are listed
  was_listed : (epoch : Record) → WasIn replica epoch → IsListed w epoch
  was_listed epoch h =
      let settled = kept.settled k replica at in
      let front = kept.in_order.fronts k replica at in
      let there = map_at (λ (stay : Stay). stay.epoch) (stays replica) h.0.epoch.number h.0 (stay_at replica h.0 settled h.1) in
      subst (IsListed w) h.2
      (ap (λ (records : List Record). slice_get records h.0.epoch.number) front.1
      ∙ slice_get-front (map (λ (stay : Stay). stay.epoch) (stays replica)) front.0 h.0.epoch.number h.0.epoch there)

  moved_contained : (place : ℕ) (epoch : Record) (point : Tree) (id : Id) → slice_get replica.replies place ≡ Some (Moved epoch point id)
      → Contains (contents_of w.replicas w.records epoch.number) id
  moved_contained place epoch point id reply =
      let settled = kept.settled k replica at in
      let moved = (settled.answered place (Moved epoch point id) reply).2 in
      let own : id.replica ≡ replica.number = counted_own replica.number 0 (accepted_ids replica.replies) id settled.counted (moved_id replica.replies place epoch point id reply) in
      let by : By = record { replica = replica.number; place = place; count = id.count } in
      let after : suc moved.before.number ≡ epoch.number = omega (arith, moved.before_is) in
      let id_is : id ≡ record { replica = by.replica; count = by.count } = ap (λ (n : ℕ). let i : Id = record { replica = n; count = id.count } in i) own in
      let last : Id = record { replica = by.replica; count = by.count } in
      let added : Contains (added_ids (record { trees = trees_in w.replicas moved.before.number; by = by })) id =
      subst (λ (i : Id). Contains (flat_map ids (trees_in w.replicas moved.before.number) ++ last ∷ []) i) (sym id_is) (Contains-push (flat_map ids (trees_in w.replicas moved.before.number)) last) in
      subst (λ (n : ℕ). Contains (contents_of w.replicas w.records n) id) after
      (change_has w moved.before.number epoch by id (ap (slice_get w.records) after ∙ was_listed epoch moved.in_record) moved.by_is added)

  pub contained : AreContained w replica
  contained = record { done = done_contained; moved = moved_contained }
