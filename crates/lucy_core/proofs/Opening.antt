-- A change is decided.
use Rattle.std.proofs.Common.{◌≡◌, ◌<◌, ◌+◌, ◌++◌, ℕ, zero, suc, Bool, true, false, List, [], ◌∷◌, length, map, refl, sym, ap, ◌∙◌, subst, inl, inr, ⊎_elim, arith}
use Rattle.std.specs.Prelude.{Option, Some, None, slice_get, Contains}
use Rattle.std.specs.List.{list_all}
use Rattle.std.proofs.lemmas.List.{length-map, length-append, append_assoc}
use Rattle.std.proofs.lemmas.Bool.{and_parts}
use Rattle.std.proofs.lemmas.Option.{same_Some, slice_get_within}
use Rattle.lucy_plan.specs.declared.parts.Call.{Call}
use Rattle.lucy_plan.specs.Segments.{IsInSegment}
use Rattle.lucy_expr.specs.Trees.{Tree, Start, Apply, Merge, spine}
use Rattle.lucy_epochs.specs.declared.causes.By.{By}
use Rattle.lucy_epochs.specs.Records.{Record, next_record, next_opening}
use Rattle.lucy_epochs.specs.Contributions.{Contribution, IsMade, trees_of}
use Rattle.lucy_epochs.specs.Rulings.{Ruling, Opened, Nothing, opens, BreaksOn, rule}
use Rattle.lucy_epochs.specs.Laws.{NextRecordIsInSegment}
use Rattle.lucy_epochs.specs.Rulings as ruling
use Rattle.lucy_replica.specs.Replicas.{Replica, Stay, present, stays}
use Rattle.lucy_replica.specs.Changing.{contributed, wish, next_by}
use Rattle.lucy_replica.specs.Submitting.{next_call}
use Rattle.lucy_replica.specs.Facts.{WasAt}
use Rattle.lucy_replica.specs.Openings.{tree_at, tree_in, trees_in}
use Rattle.lucy_core.specs.Worlds.{World, Course, Freezing, Decided, entry, lags, IsAt}
use Rattle.lucy_core.specs.Steps.{all_frozen, decided, with_course}
use Rattle.lucy_core.specs.Safety.{AreParts, IsDue, IsOpened, FollowsCourse}
use Rattle.lucy_core.proofs.Places.{here, push_cases_at, mapped_at, map_at, same_map, front_same, last_at, slice_get-front}
use Rattle.lucy_core.proofs.Rows.{if_cases}
use Rattle.lucy_core.proofs.Kept.{IsKept, present_listed}
use Rattle.lucy_core.proofs.OneChange.{present_stays}
use Rattle.lucy_core.proofs.Beginning.{course_kept, one_record, none_due_freezing}

-- where all are frozen, each is
pub all_entries : (frozen : List Bool) (k : ℕ) → list_all (λ f. f) frozen ≡ true → k < length frozen → entry frozen k ≡ true
all_entries [] k all below = absurd (omega (arith, below))
all_entries (f ∷ frozen) zero all below = (and_parts f (list_all (λ f. f) frozen) all).0
all_entries (f ∷ frozen) (suc k) all below = all_entries frozen k (and_parts f (list_all (λ f. f) frozen) all).1 (omega (arith, below))

own_spine_at : (replica : Replica) → WasAt replica replica.epoch replica.expression.tree
own_spine_at replica = (present replica, present_stays replica, refl, on_spine replica.expression.tree)
  where
    on_spine : (tree : Tree) → Contains (spine tree) tree
    on_spine Start = here Start []
    on_spine (Apply id call inner) = here (Apply id call inner) (spine inner)
    on_spine (Merge left right) = here (Merge left right) (spine left)

module _ (w : World) (c : ℕ) (frozen : List Bool) (replica : Replica) (at : IsAt w c replica) (kept : IsKept w) (course_is : w.course ≡ Freezing c frozen) (all : all_frozen frozen ≡ true) where
  follows : (length frozen ≡ length w.replicas) × (c < length w.replicas)
  follows = subst (FollowsCourse w) course_is kept.follows

  no_lag : (number : ℕ) → lags w.course number ≡ false
  no_lag number = ap (λ (course : Course). lags course number) course_is

  last : (number : ℕ) (other : Replica) → IsAt w number other → other.epoch.number + 1 ≡ length w.records
  last number other h = kept.at_last number other h (no_lag number)

  frozen_at : (number : ℕ) (other : Replica) → IsAt w number other → entry frozen number ≡ true
  frozen_at number other h = all_entries frozen number all (omega (arith, slice_get_within w.replicas number other h, follows.0))

  -- the parts have what each replica has of it
  part_trees : trees_of (map contributed w.replicas) ≡ trees_in w.replicas replica.epoch.number
  part_trees =
      same_map contributed (λ (part : Contribution). part.expression.tree) (tree_in replica.epoch.number) w.replicas
      (λ number other h.
      let place : replica.epoch.number ≡ length other.closings = ap (λ (e : Record). e.number) (sym (one_record w kept no_lag c number replica other at h)) ∙ (kept.settled number other h).present_number in
      sym (ap (λ (n : ℕ). tree_in n other) place ∙ ap tree_at (last_at other.closings (present other))))

  part_at : (place : ℕ) (part : Contribution) → slice_get (map contributed w.replicas) place ≡ Some part → (other : Replica) × IsAt w place other × (contributed other ≡ part)
  part_at place part h = mapped_at contributed w.replicas place part h

  parts_are : AreParts w.replicas (map contributed w.replicas)
  parts_are = record {
    many = length-map w.replicas contributed;
    on_spines = λ place part h. let of = part_at place part h in (of.0, of.1, subst (λ (p : Contribution). WasAt of.0 p.epoch p.expression.tree) of.2 (own_spine_at of.0));
  }

  -- ---- no call is wanted
  nothing_kept : IsKept (with_course w (Decided c Nothing frozen))
  nothing_kept = course_kept w (Decided c Nothing frozen) kept no_lag (λ number. refl) (none_due_freezing w c frozen course_is) (follows.0, follows.1, tt)

  module _ (point : Tree) (call : Call) (wanted_is : replica.wanted ≡ Some point) (call_is : next_call replica ≡ Some call) where
    coordinator_is : (other : Replica) → IsAt w c other → other ≡ replica
    coordinator_is other h = same_Some other replica (sym h ∙ at)

    wants : (other : Replica) → IsAt w c other → (point : Tree) × (other.wanted ≡ Some point)
    wants other h = (point, ap (λ (r : Replica). r.wanted) (coordinator_is other h) ∙ wanted_is)

    -- ---- its result breaks the invariant
    broken_kept : BreaksOn replica.epoch (map contributed w.replicas) call → IsKept (with_course w (Decided c (ruling.Broken (map contributed w.replicas)) frozen))
    broken_kept breaks =
        course_kept w (Decided c (ruling.Broken (map contributed w.replicas)) frozen) kept no_lag (λ number. refl) (none_due_freezing w c frozen course_is) (
          follows.0,
          follows.1,
          record {
            wants = λ other h waiting. wants other h;
            are_parts = parts_are;
            epoch = replica.epoch;
            listed = present_listed w c replica at kept;
            last = last c replica at;
            of_one = λ place part h. let of = part_at place part h in ap (λ (p : Contribution). p.epoch) (sym of.2) ∙ one_record w kept no_lag c place replica of.0 at of.1;
            seats = λ place part h. let of = part_at place part h in ap (λ (p : Contribution). p.replica) (sym of.2) ∙ kept.seated place of.0 of.1;
            made = λ place part h. let of = part_at place part h in subst (λ (p : Contribution). IsMade p.epoch p.state p.expression.tree) of.2 (kept.settled place of.0 of.1).open_stay.made;
            own = λ other h waiting. map_at contributed w.replicas c other h;
            breaks = λ other next h waiting next_is.
                let same = coordinator_is other h in
                let call_same : next ≡ call = same_Some next call (sym next_is ∙ ap next_call same ∙ call_is) in
                subst (λ (r : Replica). BreaksOn r.epoch (map contributed w.replicas) next) (sym same) (subst (BreaksOn replica.epoch (map contributed w.replicas)) (sym call_same) breaks);
          },
        )

    -- ---- it opens a record
    module _ (fits : NextRecordIsInSegment) (whole : opens replica.epoch (map contributed w.replicas) call ≡ true) where
      abbrev epoch : Record
      epoch = next_record replica.epoch (trees_of (map contributed w.replicas)) call (next_by replica)

      abbrev opened : World
      opened = record w { records = w.records ++ epoch ∷ []; course = Decided c (Opened epoch) frozen }

      long : length (w.records ++ epoch ∷ []) ≡ length w.records + 1
      long = let l = length-append w.records (epoch ∷ []) in omega arith

      opened_listed : slice_get (w.records ++ epoch ∷ []) epoch.number ≡ Some epoch
      opened_listed = ap (slice_get (w.records ++ epoch ∷ [])) (last c replica at) ∙ last_at w.records epoch

      opened_due : IsDue opened epoch
      opened_due = record { coordinator = c; frozen = frozen; course_is = refl; waits = frozen_at c replica at }

      opened_from : IsOpened opened replica.epoch epoch
      opened_from = record {
        by = next_by replica;
        opening = record {
          opener = replica;
          opener_at = subst (λ (n : ℕ). IsAt w n replica) (sym (kept.seated c replica at)) at;
          call = call;
          call_is = call_is;
          after_is = ap (λ (trees : List Tree). next_record replica.epoch trees call (next_by replica)) part_trees;
        };
        answered = inr opened_due;
      }

      still_opened : (before after : Record) → IsOpened w before after → IsOpened opened before after
      still_opened before after h = record {
        by = h.by;
        opening = h.opening;
        answered = ⊎_elim (λ replied. inl replied) (λ due. absurd (none_due_freezing w c frozen course_is after due)) h.answered;
      }

      opened_openings : (place : ℕ) (before after : Record) → slice_get (w.records ++ epoch ∷ []) place ≡ Some before → slice_get (w.records ++ epoch ∷ []) (place + 1) ≡ Some after
          → IsOpened opened before after
      opened_openings place before after is next =
          ⊎_elim
          (λ new.
          let below : place < length w.records = omega (arith, new.0) in
          let here : slice_get w.records place ≡ Some before = sym (front_same w.records (epoch ∷ []) place below) ∙ is in
          let same : place ≡ replica.epoch.number = omega (arith, new.0, last c replica at) in
          let before_is : before ≡ replica.epoch = same_Some before replica.epoch (sym here ∙ ap (slice_get w.records) same ∙ present_listed w c replica at kept) in
          subst (λ (e : Record). IsOpened opened before e) (sym new.1) (subst (λ (e : Record). IsOpened opened e epoch) (sym before_is) opened_from))
          (λ old.
          let below : place < length w.records = omega (arith, slice_get_within w.records (place + 1) after old) in
          still_opened before after (kept.openings place before after (sym (front_same w.records (epoch ∷ []) place below) ∙ is) old))
          (push_cases_at w.records (place + 1) epoch after next)

      pub opened_kept : IsKept (record w { records = w.records ++ epoch ∷ []; course = Decided c (Opened epoch) frozen })
      opened_kept = record {
        seated = kept.seated;
        settled = kept.settled;
        in_order = record {
          first = kept.in_order.first;
          first_is = slice_get-front w.records (epoch ∷ []) 0 kept.in_order.first kept.in_order.first_is;
          begins = kept.in_order.begins;
          numbered = λ place other h. ⊎_elim
              (λ new. ap (λ (e : Record). e.number) new.1 ∙ last c replica at ∙ sym new.0)
              (λ old. kept.in_order.numbered place other old)
              (push_cases_at w.records place epoch other h);
          fronts = λ number other h.
              let front = kept.in_order.fronts number other h in
              let records : List Record = map (λ (stay : Stay). stay.epoch) (stays other) in
              (front.0 ++ epoch ∷ [], ap (λ (r : List Record). r ++ epoch ∷ []) front.1 ∙ append_assoc records front.0 (epoch ∷ []));
        };
        at_last = λ number other h free. absurd (let waits = frozen_at number other h in let no : ⊥ = cc in no);
        at_last_but_one = λ number other h lag. omega (arith, last number other h, long);
        on_spines = kept.on_spines;
        sent_on_spines = kept.sent_on_spines;
        openings = opened_openings;
        openings_fit = λ place other h. ⊎_elim
            (λ new. subst (λ (e : Record). IsInSegment e.plan e.segment e.opening) (sym new.1)
            (fits replica.epoch (trees_of (map contributed w.replicas)) call (next_by replica)
            ((kept.settled c replica at).sound.covered (next_opening replica.epoch (trees_of (map contributed w.replicas)) call) whole)))
            (λ old. kept.openings_fit place other old)
            (push_cases_at w.records place epoch other h);
        follows = (
          follows.0,
          follows.1,
          record {
            listed = opened_listed;
            last = omega (arith, last c replica at, long);
            wants = λ other h waiting. wants other h;
            names = λ other h waiting. ap (λ (r : Replica). let by : Option By = Some (next_by r) in by) (sym (coordinator_is other h));
          },
        );
        listed = λ packet message h. slice_get-front w.records (epoch ∷ []) message.epoch.number message.epoch (kept.listed packet message h);
        made = kept.made;
        refusals = kept.refusals;
      }

  -- ---- every wish
  pub decided_kept : NextRecordIsInSegment → (wanted : Option Tree) (next : Option Call) → replica.wanted ≡ wanted → next_call replica ≡ next
      → IsKept (decided w c frozen (rule replica.epoch (map contributed w.replicas) (wish replica wanted next))).1
  decided_kept fits None next wanted_is call_is = nothing_kept
  decided_kept fits (Some point) None wanted_is call_is = nothing_kept
  decided_kept fits (Some point) (Some call) wanted_is call_is =
      if_cases (λ (decision : Ruling). IsKept (decided w c frozen decision).1)
      (opens replica.epoch (map contributed w.replicas) call) _ _
      (λ whole. opened_kept point call wanted_is call_is fits whole)
      (λ breaks. broken_kept point call wanted_is call_is breaks)
