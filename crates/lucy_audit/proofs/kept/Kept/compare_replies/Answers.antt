use Rattle.std.proofs.Common.{rules, ◌≢◌, length, get_or, ap, List}
use Rattle.lucy_plan.specs.declared.parts.Call.{Call}
use Rattle.lucy_replica.specs.Answering.{answer_of}
use Rattle.lucy_audit.specs.Checks.{left_of}
use Rattle.lucy_audit.proofs.Places.{mapped_many}
use Rattle.lucy_audit.proofs.Seating.{life_at, other_replies}
use Rattle.lucy_audit.proofs.kept.Kept.compare_replies.Goals as goal

pub other_lengths-requires-clause-other : goal.other_lengths-requires-clause-other
other_lengths-requires-clause-other c =
    let kept = c.args.self.now in
    let life = get_or kept.lives.now c.args.place c.index-self-place.result in
    let replies = c.replies-replies.result.now in
    let calls = c.calls-calls.result.now in
    let differ : length replies ≢ length calls = search rules in
    other_replies (left_of kept) c.args.place (length replies) (length calls) life.replica
    (life_at kept c.args.place c.index-self-place.result c.requires.within)
    (mapped_many answer_of replies life.replica.replies c.replies-replies.ensures)
    (ap (λ (list : List Call). length list) c.calls-calls.ensures) differ
