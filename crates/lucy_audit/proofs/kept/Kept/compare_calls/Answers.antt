use Rattle.std.proofs.Common.{rules, ◌≡◌, ◌≢◌, ◌∙◌, length, get_or, sym, ap, arith, List}
use Rattle.std.specs.Prelude.{Some}
use Rattle.std.proofs.lemmas.Option.{slice_get-get_or}
use Rattle.lucy_plan.specs.declared.parts.Call.{Call}
use Rattle.lucy_replica.specs.Replicas.{Replica}
use Rattle.lucy_audit.specs.Checks.{left_of}
use Rattle.lucy_audit.proofs.Places.{one_at}
use Rattle.lucy_audit.proofs.Seating.{life_at, other_calls, apart_calls}
use Rattle.lucy_audit.proofs.kept.Kept.compare_calls.Goals as goal

pub other_lengths-requires-clause-other : goal.other_lengths-requires-clause-other
other_lengths-requires-clause-other c =
    let kept = c.args.self.now in
    let life = get_or kept.lives.now c.args.place c.index-self-place.result in
    let work = kept.work.now in
    let list = get_or work c.args.place c.index-self-place-2.result in
    let ours = c.calls-ours.result.now in
    let theirs = c.as_slice-theirs.result.now in
    let differ : length ours ≢ length theirs = search rules in
    let same : theirs ≡ list = search rules in
    other_calls (left_of kept) c.args.place (length ours) (length theirs) life.replica list
    (life_at kept c.args.place c.index-self-place.result c.requires.within)
    (slice_get-get_or work c.args.place c.index-self-place-2.result (omega (arith, c.requires.within, c.requires.work)))
    (ap (λ (calls : List Call). length calls) c.calls-ours.ensures) (ap (λ (calls : List Call). length calls) same) differ

pub returns-in_default-clause-ok : goal.returns-in_default-clause-ok
returns-in_default-clause-ok c replica at =
    let kept = c.args.self.now in
    let life = get_or kept.lives.now c.args.place c.index-self-place.result in
    let work = kept.work.now in
    let list = get_or work c.args.place c.index-self-place-2.result in
    let there = slice_get-get_or work c.args.place c.index-self-place-2.result (omega (arith, c.requires.within, c.requires.work)) in
    let one : life.replica ≡ replica = one_at (left_of kept).replicas c.args.place life.replica replica (life_at kept c.args.place c.index-self-place.result c.requires.within) at in
    let same : c.calls-ours.result.now ≡ c.as_slice-theirs.result.now = c.in_default.ensures in
    let theirs : c.as_slice-theirs.result.now ≡ list = search rules in
    there ∙ ap (λ (calls : List Call). Some calls) (sym theirs ∙ sym same ∙ c.calls-ours.ensures ∙ ap (λ (r : Replica). r.calls) one)

pub returns-clause-err : goal.returns-clause-err
returns-clause-err c =
    let kept = c.args.self.now in
    let life = get_or kept.lives.now c.args.place c.index-self-place.result in
    let work = kept.work.now in
    let list = get_or work c.args.place c.index-self-place-2.result in
    let theirs : c.as_slice-theirs.result.now ≡ list = search rules in
    apart_calls (left_of kept) c.args.place life.replica list c.calls-ours.result.now c.as_slice-theirs.result.now c.in-Some.ours.now c.in-Some.theirs.now
    c.in_ok-ours.ours c.in_ok-theirs.theirs
    (life_at kept c.args.place c.index-self-place.result c.requires.within)
    (slice_get-get_or work c.args.place c.index-self-place-2.result (omega (arith, c.requires.within, c.requires.work)))
    c.calls-ours.ensures theirs c.in-Some.ensures c.in_ok-ours.ensures c.in_ok-theirs.ensures
