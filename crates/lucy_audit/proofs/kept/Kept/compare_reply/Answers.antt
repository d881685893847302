use Rattle.std.proofs.Common.{◌≡◌, ◌∙◌, sym, ap, subst, List}
use Rattle.std.specs.Prelude.{Some}
use Rattle.lucy_epochs.specs.Contributions.{Contribution}
use Rattle.lucy_replica.specs.Replicas.{Answer, Refused}
use Rattle.lucy_replica.specs.Answering.{answer_of}
use Rattle.lucy_audit.specs.Checks.{left_of, ArePartsCounted, IsAnswerCounted}
use Rattle.lucy_audit.proofs.Seating.{ok_so}
use Rattle.lucy_audit.proofs.kept.Kept.compare_reply.Goals as goal

pub compare_parts-requires-clause-refused : goal.compare_parts-requires-clause-refused
compare_parts-requires-clause-refused c =
    let reply = c.requires.reply in
    let tree = c.in-Refused.point.tree in
    let is : answer_of c.args.reply.now ≡ Refused tree c.deref.result.now =
    ap answer_of c.in-Refused.is ∙ ap (λ (parts : List Contribution). Refused tree parts) (sym c.deref.ensures) in
    (reply.0, reply.1, tree, reply.2, reply.3 ∙ ap (λ (a : Answer). Some a) is)

pub returns-in-Refused-clause-ok : goal.returns-in-Refused-clause-ok
returns-in-Refused-clause-ok c =
    let left = left_of c.args.self.now in
    let tree = c.in-Refused.point.tree in
    let is : answer_of c.args.reply.now ≡ Refused tree c.deref.result.now =
    ap answer_of c.in-Refused.is ∙ ap (λ (parts : List Contribution). Refused tree parts) (sym c.deref.ensures) in
    ok_so (ArePartsCounted left c.deref.result.now) (IsAnswerCounted left (answer_of c.args.reply.now)) c.compare_parts.result
    (λ h. subst (IsAnswerCounted left) (sym is) h) c.compare_parts.ensures.ok
