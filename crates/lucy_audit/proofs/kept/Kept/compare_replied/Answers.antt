use Rattle.std.proofs.Common.{rules, ◌≡◌, ◌<◌, ◌≤◌, ◌∙◌, length, get_or, sym, ap, arith}
use Rattle.std.specs.Prelude.{Some, slice_get}
use Rattle.std.proofs.lemmas.Option.{slice_get-get_or}
use Rattle.lucy_replica.specs.Answering.{answer_of}
use Rattle.lucy_replica.specs.declared.replies.Reply.{Reply}
use Rattle.lucy_audit.specs.Checks.{left_of, IsReplyCounted}
use Rattle.lucy_audit.proofs.Places.{below_more, mapped_many, mapped_at}
use Rattle.lucy_audit.proofs.Seating.{life_at}
use Rattle.lucy_audit.proofs.Reaching.{all_replies, reply_counted}
use Rattle.lucy_audit.proofs.kept.Kept.compare_replied.Goals as goal

pub compare_reply-requires-clause-reply : goal.compare_reply-requires-clause-reply
compare_reply-requires-clause-reply c =
    let kept = c.args.self.now in
    let replica = (get_or kept.lives.now c.args.place c.index-self-place.result).replica in
    let replies = c.replies-replies.result.now in
    let reply = c.loop-reply.reply in
    let within : reply < length replies = search rules in
    let there = mapped_at answer_of replies replica.replies reply _ c.replies-replies.ensures (slice_get-get_or replies reply c.index-replies-reply.result within) in
    (replica, reply, life_at kept c.args.place c.index-self-place.result c.requires.within, there ∙ ap (λ (r : Reply). Some (answer_of r)) (sym c.index-replies-reply.is))

pub loop-reply-preserved : goal.loop-reply-preserved
loop-reply-preserved c =
    let kept = c.args.self.now in
    let replica = (get_or kept.lives.now c.args.place c.index-self-place.result).replica in
    let replies = c.replies-replies.result.now in
    let reply = c.loop-reply.reply in
    let within : reply < length replies = search rules in
    let answer = answer_of c.index-replies-reply.result in
    let there : slice_get replica.replies reply ≡ Some answer =
    mapped_at answer_of replies replica.replies reply _ c.replies-replies.ensures (slice_get-get_or replies reply c.index-replies-reply.result within)
    ∙ ap (λ (r : Reply). Some (answer_of r)) (sym c.index-replies-reply.is) in
    below_more (IsReplyCounted (left_of kept) c.args.place) reply c.loop-reply.invariant
    (reply_counted (left_of kept) c.args.place reply replica answer (life_at kept c.args.place c.index-self-place.result c.requires.within) there c.in_ok-compare_reply.ensures.ok)

pub returns-clause-ok : goal.returns-clause-ok
returns-clause-ok c =
    let kept = c.args.self.now in
    let life = get_or kept.lives.now c.args.place c.index-self-place.result in
    let replies = c.replies-replies.result.now in
    let past : length replies ≤ c.loop-reply.reply = search rules in
    let many = mapped_many answer_of replies life.replica.replies c.replies-replies.ensures in
    all_replies (left_of kept) c.args.place (length replies) life.replica (life_at kept c.args.place c.index-self-place.result c.requires.within) many
    (λ reply h. c.loop-reply.invariant reply (omega (arith, h, past)))
