use Rattle.std.proofs.Common.{rules, ◌≤◌, length, arith}
use Rattle.lucy_audit.specs.Checks.{left_of}
use Rattle.lucy_audit.proofs.Reaching.{reaches_accepted}
use Rattle.lucy_audit.proofs.kept.Kept.compare_tree.Goals as goal

pub returns-clause-ok : goal.returns-clause-ok
returns-clause-ok c =
    let reaches = c.reaches-reaches.result.now in
    let past : length reaches ≤ c.loop-owner.owner = search rules in
    reaches_accepted (left_of c.args.self.now) c.args.number c.args.expr.now.tree reaches c.reach_covers_ids.ensures c.reaches-reaches.ensures.reaches
    (λ owner h. c.loop-owner.invariant owner (omega (arith, h, past)))
