-- The replica at a place, its records, its calls and its replies.
use Rattle.std.proofs.Common.{◌≡◌, ◌≢◌, ◌<◌, ℕ, List, [], ◌∷◌, length, get_or, refl, sym, ap, ◌∙◌, inl, inr, arith}
use Rattle.std.specs.Prelude.{Some, None, slice_get, Result, Ok, Err, OnOk}
use Rattle.std.proofs.lemmas.List.{length-map, length-append}
use Rattle.std.proofs.lemmas.Option.{slice_get-get_or, slice_get_past}
use Rattle.lucy_plan.specs.declared.parts.Call.{Call}
use Rattle.lucy_expr.specs.Trees.{Tree}
use Rattle.lucy_epochs.specs.Contributions.{Contribution}
use Rattle.lucy_replica.specs.Replicas.{Refused, Stay, Replica, Seen, present, stays}
use Rattle.lucy_replica.specs.Legal.{records_of}
use Rattle.lucy_audit.specs.Differences.{Left, IsAt, AreOtherCalls, AreOtherLengths}
use Rattle.lucy_audit.specs.Checks.{left_of, IsKept}
use Rattle.lucy_audit.specs.Pairs.{AreApart}
use Rattle.lucy_audit.specs.declared.kept.Kept.{Kept}
use Rattle.lucy_audit.proofs.Places.{to_map, front_at, last_at, contains_at}

-- the life at a place of the list is the replica there
pub life_at : (kept : Kept) (place : ℕ) (life : Seen) → place < length kept.lives.now → IsAt (left_of kept) place (get_or kept.lives.now place life).replica
life_at kept place life below =
    to_map (λ (l : Seen). l.replica) kept.lives.now place (get_or kept.lives.now place life) (slice_get-get_or kept.lives.now place life below)

pub first_at : (kept : Kept) (life : Seen) → Some life ≡ slice_get kept.lives.now 0 → IsAt (left_of kept) 0 life.replica
first_at kept life is = to_map (λ (l : Seen). l.replica) kept.lives.now 0 life (sym is)

pub lives_many : (kept : Kept) → length (left_of kept).replicas ≡ length kept.lives.now
lives_many kept = length-map kept.lives.now (λ (l : Seen). l.replica)

-- ---- records

pub record_closed : (replica : Replica) (number : ℕ) (stay : Stay) → slice_get replica.closings number ≡ Some stay → slice_get (records_of replica) number ≡ Some stay.epoch
record_closed replica number stay h =
    to_map (λ (s : Stay). s.epoch) (stays replica) number stay (front_at replica.closings (present replica ∷ []) number stay h)

pub record_present : (replica : Replica) (number : ℕ) → number ≡ length replica.closings → slice_get (records_of replica) number ≡ Some replica.epoch
record_present replica number is =
    ap (slice_get (records_of replica)) is
    ∙ to_map (λ (s : Stay). s.epoch) (stays replica) (length replica.closings) (present replica) (last_at replica.closings (present replica))

pub record_past : (replica : Replica) (number : ℕ) → length replica.closings < number → slice_get (records_of replica) number ≡ None
record_past replica number past =
    let mapped = length-map (stays replica) (λ (stay : Stay). stay.epoch) in
    let joined = length-append replica.closings (present replica ∷ []) in
    slice_get_past (records_of replica) number (omega (arith, mapped, joined, past))

-- ---- lengths

pub other_calls : (left : Left) (place ours theirs : ℕ) (replica : Replica) (list : List Call) → IsAt left place replica → slice_get left.work place ≡ Some list
    → ours ≡ length replica.calls → theirs ≡ length list → ours ≢ theirs → AreOtherLengths left place ours theirs
other_calls left place ours theirs replica list at list_at ours_is theirs_is differ =
    record { replica = replica; at = at; lengths = inr (inl (list, list_at, ours_is, theirs_is)); differ = differ }

pub other_replies : (left : Left) (place ours theirs : ℕ) (replica : Replica) → IsAt left place replica → ours ≡ length replica.replies → theirs ≡ length replica.calls → ours ≢ theirs
    → AreOtherLengths left place ours theirs
other_replies left place ours theirs replica at ours_is theirs_is differ =
    record { replica = replica; at = at; lengths = inr (inr (inl (ours_is, theirs_is))); differ = differ }

pub other_records : (left : Left) (place ours theirs : ℕ) (replica first : Replica) → IsAt left place replica → IsAt left 0 first → ours ≡ length (records_of replica)
    → theirs ≡ length (records_of first) → ours ≢ theirs → AreOtherLengths left place ours theirs
other_records left place ours theirs replica first at at_first ours_is theirs_is differ =
    record { replica = replica; at = at; lengths = inl (first, at_first, ours_is, theirs_is); differ = differ }

pub other_parts : (left : Left) (place reply ours theirs : ℕ) (replica : Replica) (point : Tree) (parts : List Contribution) → IsAt left place replica
    → slice_get replica.replies reply ≡ Some (Refused point parts) → ours ≡ length parts → theirs ≡ length left.replicas → ours ≢ theirs → AreOtherLengths left place ours theirs
other_parts left place reply ours theirs replica point parts at is ours_is theirs_is differ =
    record { replica = replica; at = at; lengths = inr (inr (inr (reply, point, parts, is, ours_is, theirs_is))); differ = differ }

-- ---- expressions that are kept

pub stay_kept : (left : Left) (place number : ℕ) (replica : Replica) (stay : Stay) → IsAt left place replica → slice_get (stays replica) number ≡ Some stay
    → IsKept left stay.epoch.number stay.tree
stay_kept left place number replica stay at is = (place, replica, at, inl (stay, contains_at (stays replica) number stay is, refl, refl))

pub part_kept : (left : Left) (place reply seat : ℕ) (replica : Replica) (point : Tree) (parts : List Contribution) (part : Contribution) → IsAt left place replica
    → slice_get replica.replies reply ≡ Some (Refused point parts) → slice_get parts seat ≡ Some part → IsKept left part.epoch.number part.expression.tree
part_kept left place reply seat replica point parts part at is part_at = (place, replica, at, inr (reply, point, parts, seat, part, is, part_at, refl, refl))

-- ---- calls that differ

pub apart_calls : (left : Left) (number : ℕ) (replica : Replica) (list ours theirs : List Call) (call other call_copy other_copy : Call) → IsAt left number replica
    → slice_get left.work number ≡ Some list → ours ≡ replica.calls → theirs ≡ list → AreApart ours theirs call other → call_copy ≡ call → other_copy ≡ other
    → AreOtherCalls left number call_copy other_copy
apart_calls left number replica list ours theirs call other call_copy other_copy at list_at ours_are theirs_are apart call_is other_is = record {
  replica = replica;
  at = at;
  list = list;
  list_at = list_at;
  place = apart.place;
  ours_is = ap (λ (calls : List Call). slice_get calls apart.place) (sym ours_are) ∙ apart.call_is ∙ ap (λ (c : Call). Some c) (sym call_is);
  theirs_is = ap (λ (calls : List Call). slice_get calls apart.place) (sym theirs_are) ∙ apart.other_is ∙ ap (λ (c : Call). Some c) (sym other_is);
  differ = λ e. apart.differ (sym call_is ∙ e ∙ other_is);
}

-- ---- a call that may stop

pub ok_so : {A E : Type 0} (P Q : Type 0) (result : Result A E) → (P → Q) → OnOk result P → OnOk result Q
ok_so P Q (Ok value) f h = f h
ok_so P Q (Err stop) f h = tt
