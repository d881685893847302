use Rattle.std.proofs.Common.{rules, ◌≡◌, ◌<◌, ℕ, sym, subst, arith}
use Rattle.lucy_expr.specs.Trees.{reach}
use Rattle.lucy_audit.specs.Differences.{IsOvercount}
use Rattle.lucy_audit.specs.Checks.{left_of}
use Rattle.lucy_audit.proofs.Reaching.{overcount}
use Rattle.lucy_audit.proofs.kept.Kept.compare_reach.Goals as goal

pub returns-clause-err : goal.returns-clause-err
returns-clause-err c =
    let left = left_of c.args.self.now in
    let accepted = c.accepted_by-accepted.result in
    let is : c.reach-held.result ≡ reach c.args.owner c.args.expr.now.tree = search rules in
    let over : accepted < c.reach-held.result = search rules in
    subst (λ (held : ℕ). IsOvercount left c.args.owner held accepted) (sym is)
    (overcount left c.args.number c.args.expr.now.tree c.args.owner accepted c.reach_is_reached.ensures c.requires.kept c.accepted_by-accepted.ensures (omega (arith, over, is)))
