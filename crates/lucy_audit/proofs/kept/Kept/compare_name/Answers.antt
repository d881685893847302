use Rattle.std.proofs.Common.{rules, ◌≡◌, ◌∙◌, ap}
use Rattle.std.specs.Arc.{arc_value}
use Rattle.lucy_epochs.specs.Records.{Record}
use Rattle.lucy_audit.specs.Checks.{left_of}
use Rattle.lucy_audit.proofs.Reopening.{named_by, unnamed}
use Rattle.lucy_audit.proofs.kept.Kept.compare_name.Goals as goal

pub returns-in-Some-clause-ok : goal.returns-in-Some-clause-ok
returns-in-Some-clause-ok c =
    named_by (left_of c.args.self.now) (arc_value c.args.after.now) c.deref-2.result.now c.by.result _ c.in-Some.by c.deref-2.ensures
    (c.by.ensures ∙ ap (λ (e : Record). e.by) c.deref.ensures) c.reply_of-reply.ensures c.in-Some.ensures

pub returns-clause-err : goal.returns-clause-err
returns-clause-err c =
    let same : arc_value c.in_ok-kept.kept ≡ arc_value c.args.after.now = search rules in
    unnamed (left_of c.args.self.now) (arc_value c.args.before.now) (arc_value c.args.after.now) c.deref-2.result.now (arc_value c.in_ok-kept.kept) c.by.result _ _ c.requires.later
    c.deref-2.ensures same (c.by.ensures ∙ ap (λ (e : Record). e.by) c.deref.ensures) c.reply_of-reply.ensures c.in_ok-reply.ensures c.in_default.ensures
