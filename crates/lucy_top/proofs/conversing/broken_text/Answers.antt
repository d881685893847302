use Rattle.lucy_top.proofs.NamedLemmas.{reached_named}
use Rattle.lucy_top.proofs.conversing.broken_text.Goals as goal

pub write_not_confluent-requires-clause-left : goal.write_not_confluent-requires-clause-left
write_not_confluent-requires-clause-left c =
    rw c.names.ensures (reached_named c.args.session.now.plan c.args.session.now.names c.args.left.now.tree c.facts.ensures.names c.requires.left)

pub write_not_confluent-requires-clause-right : goal.write_not_confluent-requires-clause-right
write_not_confluent-requires-clause-right c =
    rw c.names.ensures (reached_named c.args.session.now.plan c.args.session.now.names c.args.right.now.tree c.facts.ensures.names c.requires.right)
