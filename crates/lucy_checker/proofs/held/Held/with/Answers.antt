use Rattle.std.proofs.Common.{◌≡◌, ◌+◌, arith}
use Rattle.std.proofs.lemmas.Grind.{common_steps}
use Rattle.lucy_checker.proofs.HeldLemmas.{kept_more_at}
use Rattle.lucy_checker.proofs.held.Held.with.Goals as goal

pub invariant_of-result : goal.invariant_of-result
invariant_of-result c =
    let after : c.in-Some.after ≡ c.self.inside.next + 1 = grind (arith, common_steps, c.in-Some.ensures) in
    kept_more_at c.self.inside.next c.in-Some.after c.self.inside.numbers c.push.new.self c.self.inside.clauses c.push-2.new.self c.args.clause after c.in_ok-push.ensures.ok c.in_ok-push-2.ensures.ok c.self.invariant
