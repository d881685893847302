-- Where the outcome is legal and its records are the table's, no difference holds: kind by kind.
use Rattle.std.proofs.Common.{◌≡◌, ◌+◌, ℕ, ℤ, List, length, refl, sym, ap, ◌∙◌, subst, ⊎_elim, arith}
use Rattle.std.specs.Prelude.{Option, Some, None, slice_get, unwrap_or}
use Rattle.std.specs.Option.{option_map}
use Rattle.std.specs.Arc.{arc_value}
use Rattle.std.proofs.lemmas.Option.{same_Some}
use Rattle.lucy_plan.specs.Laws.{NoFirstSegmentIsNone}
use Rattle.lucy_plan.specs.Segments.{IsInSegment, first_segment}
use Rattle.lucy_plan.specs.declared.parts.Call.{Call}
use Rattle.lucy_plan.specs.declared.parts.PlanParts.{PlanParts}
use Rattle.lucy_expr.specs.Trees.{Tree, Start, Apply, Merge}
use Rattle.lucy_expr.specs.Reachability.{IsReachable}
use Rattle.lucy_epochs.specs.declared.causes.By.{By}
use Rattle.lucy_epochs.specs.Records.{Record, next_opening}
use Rattle.lucy_replica.specs.Replicas.{Answer, Moved, Stay, Replica, stays}
use Rattle.lucy_replica.specs.Openings.{trees_in, IsOpening, IsReplied}
use Rattle.lucy_replica.specs.Legal.{accepted_to, AreAccepted}
use Rattle.lucy_replica.specs.Answering.{answer_of}
use Rattle.lucy_audit.specs.Differences.{Left, IsAt, HasRecord, IsMisplaced, AreOtherCalls, AreOtherRecords, AreOtherLengths, IsOvercount, IsKeptBy, IsLater, IsOtherOpening, IsUnnamed, IsAgreed, accepted_by, named_reply, reply_in, id_of}
use Rattle.lucy_audit.specs.Laws.{AgreedIsNotApart}
use Rattle.lucy_audit.specs.declared.differences.Difference.TheVariants.{Seats, Calls, Records, Opening, Named, Counts, Lengths}
use Rattle.lucy_audit.proofs.Places.{one_at, to_map, from_map, contains_at}

not_seats : (left : Left) (place held : ℕ) → IsAgreed left → ¬ (IsMisplaced left place held)
not_seats left place held agreed h = h.differ (h.held_is ∙ agreed.legal.numbers place h.replica h.at)

-- the work's list of a replica is its calls
work_at : (left : Left) (number : ℕ) (replica : Replica) (list : List Call) → IsAgreed left → IsAt left number replica → slice_get left.work number ≡ Some list → list ≡ replica.calls
work_at left number replica list agreed at list_at =
    let there : slice_get left.work number ≡ Some replica.calls =
    subst (λ (work : List (List Call)). slice_get work number ≡ Some replica.calls) agreed.legal.calls (to_map (λ (r : Replica). r.calls) left.replicas number replica at) in
    one_at left.work number list replica.calls list_at there

not_calls : (left : Left) (number : ℕ) (ours theirs : Call) → IsAgreed left → ¬ (AreOtherCalls left number ours theirs)
not_calls left number ours theirs agreed h =
    let same = work_at left number h.replica h.list agreed h.at h.list_at in
    h.differ (one_at h.replica.calls h.place ours theirs h.ours_is (subst (λ (calls : List Call). slice_get calls h.place ≡ Some theirs) same h.theirs_is))

-- a replica's records are those of all
record_at : (left : Left) (at : ℕ) (replica : Replica) (number : ℕ) (epoch : Record) (agreed : IsAgreed left) → IsAt left at replica → HasRecord replica number epoch
    → slice_get agreed.legal.records number ≡ Some epoch
record_at left at replica number epoch agreed replica_at has =
    subst (λ (records : List Record). slice_get records number ≡ Some epoch) (agreed.legal.same at replica replica_at) has

not_records : (left : Left) (ours theirs : Record) → IsAgreed left → ¬ (AreOtherRecords left ours theirs)
not_records left ours theirs agreed h =
    let records = agreed.legal.records in
    let here = record_at left h.at h.replica h.number ours agreed h.replica_at h.ours_is in
    h.differ (⊎_elim
    (λ other. one_at records h.number ours theirs here (record_at left other.0 other.1 h.number theirs agreed other.2 other.3))
    (λ rest. ⊎_elim
    (λ table. agreed.listed h.at h.replica h.number ours theirs h.replica_at h.ours_is table)
    (λ first.
    let begun : slice_get records h.number ≡ Some theirs = ap (slice_get records) first.0 ∙ agreed.legal.first ∙ ap (λ (e : Record). Some e) (sym first.1) in
    one_at records h.number ours theirs here begun)
    rest)
    h.theirs_is)

not_lengths : (left : Left) (number ours theirs : ℕ) → IsAgreed left → ¬ (AreOtherLengths left number ours theirs)
not_lengths left number ours theirs agreed h =
    h.differ (⊎_elim
    (λ records.
    let same = agreed.legal.same number h.replica h.at ∙ sym (agreed.legal.same 0 records.0 records.1) in
    records.2 ∙ ap (λ (epochs : List Record). length epochs) same ∙ sym records.3)
    (λ rest. ⊎_elim
    (λ calls.
    let same = work_at left number h.replica calls.0 agreed h.at calls.1 in
    calls.2 ∙ ap (λ (list : List Call). length list) (sym same) ∙ sym calls.3)
    (λ more. ⊎_elim
    (λ replies. replies.0 ∙ agreed.legal.all_answered number h.replica h.at ∙ sym replies.1)
    (λ parts. parts.4 ∙ agreed.legal.parts_many number h.replica parts.0 parts.1 parts.2 h.at parts.3 ∙ sym parts.5)
    more)
    rest)
    h.lengths)

-- an expression that is kept has only calls that were accepted by then
kept_accepted : (left : Left) (at : ℕ) (replica : Replica) (number : ℕ) (tree : Tree) → IsAgreed left → IsAt left at replica → IsKeptBy replica number tree
    → AreAccepted left.replicas number tree
kept_accepted left at replica number tree agreed replica_at kept =
    ⊎_elim
    (λ s.
    subst (λ (n : ℕ). AreAccepted left.replicas n tree) s.2
    (subst (λ (t : Tree). AreAccepted left.replicas s.0.epoch.number t) s.3 (agreed.legal.accepted at replica s.0 replica_at s.1)))
    (λ p.
    let there = agreed.legal.parts_accepted at replica p.0 p.1 p.2 p.3 p.4 replica_at p.5 p.6 in
    subst (λ (n : ℕ). AreAccepted left.replicas n tree) p.7
    (subst (λ (t : Tree). AreAccepted left.replicas p.4.epoch.number t) p.8 there))
    kept

not_counts : (left : Left) (owner held accepted : ℕ) → IsAgreed left → ¬ (IsOvercount left owner held accepted)
not_counts left owner held accepted agreed h =
    let found = kept_accepted left h.at h.replica h.number h.tree agreed h.replica_at h.kept h.id h.in_tree in
    let there : slice_get left.replicas owner ≡ Some found.0 = ap (slice_get left.replicas) (sym h.owner_is) ∙ found.1 in
    let many : accepted ≡ accepted_to h.number found.0.replies = h.accepted_is ∙ ap (accepted_by h.number) there in
    omega (arith, h.over, h.held_is, many, found.2)

-- ---- openings

-- where something is reachable, the opening is in the segment
opening_in : (plan : PlanParts) (segment : ℕ) (opening : List ℤ) (tree : Tree) → IsReachable plan segment opening tree → IsInSegment plan segment opening
opening_in plan segment opening Start h = h
opening_in plan segment opening (Apply id call inner) h = opening_in plan segment opening inner h.0
opening_in plan segment opening (Merge first second) h = opening_in plan segment opening first h.0

-- how a later record of a replica was opened
opened_at : (left : Left) (before after : Record) → IsAgreed left → IsLater left before after → (by : By) × IsOpening left.replicas before after by × IsReplied left.replicas after by
opened_at left before after agreed h =
    agreed.legal.opened h.number before after
    (record_at left h.at h.replica h.number before agreed h.replica_at h.before_is)
    (record_at left h.at h.replica (h.number + 1) after agreed h.replica_at h.after_is)

-- the opening of a record of a replica is in its segment
in_segment : (left : Left) (at : ℕ) (replica : Replica) (number : ℕ) (epoch : Record) → IsAgreed left → IsAt left at replica → HasRecord replica number epoch
    → IsInSegment epoch.plan epoch.segment epoch.opening
in_segment left at replica number epoch agreed replica_at has =
    let found = from_map (λ (stay : Stay). stay.epoch) (stays replica) number epoch has in
    let made = agreed.legal.made at replica found.0 replica_at (contains_at (stays replica) number found.0 found.1) in
    subst (λ (e : Record). IsInSegment e.plan e.segment e.opening) found.2
    (opening_in found.0.epoch.plan found.0.epoch.segment found.0.epoch.opening found.0.tree made.reachable)

-- the segment of numbers that are in one is their first
first_is : (plan : PlanParts) (numbers : List ℤ) (segment within : ℕ) (found : Option ℕ) → NoFirstSegmentIsNone → first_segment plan numbers ≡ found
    → segment ≡ unwrap_or found 0 → IsInSegment plan within numbers → first_segment plan numbers ≡ Some segment
first_is plan numbers segment within None none found is h = absurd (none plan numbers found within h)
first_is plan numbers segment within (Some first) none found is h = found ∙ ap (λ (n : ℕ). Some n) (sym is)

not_opening : (left : Left) (kept : Record) (result : List ℤ) → NoFirstSegmentIsNone → IsAgreed left → ¬ (IsOtherOpening left kept result)
not_opening left kept result none agreed h =
    let opened = opened_at left h.before kept agreed h.later in
    let by = opened.0 in
    let opening = opened.1 in
    let same_by : by ≡ h.by = same_Some by h.by (sym (ap (λ (e : Record). e.by) opening.after_is) ∙ h.by_is) in
    let opener : opening.opener ≡ h.opener =
    one_at left.replicas h.by.replica opening.opener h.opener (subst (λ (b : By). slice_get left.replicas b.replica ≡ Some opening.opener) same_by opening.opener_at) h.opener_at in
    let call_is : slice_get h.opener.calls h.by.place ≡ Some opening.call =
    subst (λ (b : By). slice_get h.opener.calls b.place ≡ Some opening.call) same_by
    (subst (λ (r : Replica). slice_get r.calls by.place ≡ Some opening.call) opener opening.call_is) in
    let call : opening.call ≡ h.call = one_at h.opener.calls h.by.place opening.call h.call call_is h.call_is in
    let trees = trees_in left.replicas h.before.number in
    let same : result ≡ next_opening h.before trees opening.call = h.result_is ∙ ap (next_opening h.before trees) (sym call) in
    let kept_opening : kept.opening ≡ next_opening h.before trees opening.call = ap (λ (e : Record). e.opening) opening.after_is in
    let is : result ≡ kept.opening = same ∙ sym kept_opening in
    let plan : kept.plan ≡ h.before.plan = ap (λ (e : Record). e.plan) opening.after_is in
    let within : IsInSegment h.before.plan kept.segment result =
    subst (λ (numbers : List ℤ). IsInSegment h.before.plan kept.segment numbers) (sym is)
    (subst (λ (p : PlanParts). IsInSegment p kept.segment kept.opening) plan
    (in_segment left h.later.at h.later.replica (h.later.number + 1) kept agreed h.later.replica_at h.later.after_is)) in
    let segment : kept.segment ≡ unwrap_or (first_segment h.before.plan result) 0 =
    ap (λ (e : Record). e.segment) opening.after_is ∙ ap (λ (numbers : List ℤ). unwrap_or (first_segment h.before.plan numbers) 0) (sym same) in
    ⊎_elim
    (λ other. other is)
    (λ other. other (first_is h.before.plan result kept.segment kept.segment (first_segment h.before.plan result) none refl segment within))
    h.differ

not_named : (left : Left) (kept : Record) (reply : Option Answer) → IsAgreed left → ¬ (IsUnnamed left kept reply)
not_named left kept reply agreed h =
    let opened = opened_at left h.before kept agreed h.later in
    let by = opened.0 in
    let replied = opened.2 in
    let by_is : kept.by ≡ Some by = ap (λ (e : Record). e.by) opened.1.after_is in
    let named : named_reply left.replicas kept.by ≡ Some (Moved kept replied.point (id_of by)) =
    ap (named_reply left.replicas) by_is ∙ ap (λ (r : Option Replica). reply_in r by.place) replied.opener_at ∙ replied.reply_is in
    h.differ (by, replied.point, by_is, h.reply_is ∙ named)

pub agreed_is_not_apart : NoFirstSegmentIsNone → AgreedIsNotApart
agreed_is_not_apart none left (Seats place held) agreed h = not_seats left place held agreed h
agreed_is_not_apart none left (Calls replica ours theirs) agreed h = not_calls left replica ours theirs agreed h
agreed_is_not_apart none left (Records ours theirs) agreed h = not_records left (arc_value ours) (arc_value theirs) agreed h
agreed_is_not_apart none left (Opening kept result) agreed h = not_opening left (arc_value kept) result none agreed h
agreed_is_not_apart none left (Named kept reply) agreed h = not_named left (arc_value kept) (option_map answer_of reply) agreed h
agreed_is_not_apart none left (Counts replica held accepted) agreed h = not_counts left replica held accepted agreed h
agreed_is_not_apart none left (Lengths replica ours theirs) agreed h = not_lengths left replica ours theirs agreed h
