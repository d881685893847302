use Rattle.std.proofs.Common.{◌≡◌, ◌∙◌, sym, ap}
use Rattle.std.specs.Arc.{arc_value}
use Rattle.lucy_expr.specs.declared.ids.Id.{Id}
use Rattle.lucy_epochs.specs.Records.{Record}
use Rattle.lucy_replica.specs.Replicas.{Moved}
use Rattle.lucy_replica.specs.Answering.{answer_of}
use Rattle.lucy_audit.specs.Differences.{id_of}
use Rattle.lucy_audit.proofs.Reopening.{moved_record}
use Rattle.lucy_audit.proofs.openings.is_move.Goals as goal

pub returns-then-is_of : goal.returns-then-is_of
returns-then-is_of c =
    let moved = c.in-Moved in
    let after = c.args.after.now in
    let point = moved.point.tree in
    let is : answer_of c.args.reply.now ≡ Moved (arc_value moved.epoch) point moved.id = ap answer_of moved.is in
    let id : moved.id ≡ id_of c.args.by = c.is_of.ensures.0 c.if-is_of.true in (
      λ yes.
          let epoch : arc_value moved.epoch ≡ after = sym c.deref.ensures ∙ c.is_same.ensures.0 yes in
          (point, is ∙ ap (λ (e : Record). Moved e point moved.id) epoch ∙ ap (λ (i : Id). Moved after point i) id),
      λ told. c.is_same.ensures.1 (c.deref.ensures ∙ moved_record (arc_value moved.epoch) after point told.0 moved.id (id_of c.args.by) (sym is ∙ told.1)),
    )
