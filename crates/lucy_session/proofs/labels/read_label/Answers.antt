use Rattle.std.proofs.Common.{◌≡◌, ℕ, ◌+◌, ◌*◌, ◌≤◌, rules, arith}
use Rattle.lucy_plan.specs.declared.parts.PlanParts.{PlanParts}
use Rattle.lucy_session.specs.Labels.{Claim, Unreach, Reach, IsClaim}
use Rattle.lucy_session.proofs.labels.read_label.Goals as goal

-- no more bytes were left than stand in the line
in_line : (plan : PlanParts) (before after line : ℕ) (claim : Claim) → before ≤ line → IsClaim plan before after claim → IsClaim plan line 0 claim
in_line plan before after line Unreach h is = tt
in_line plan before after line (Reach tree) h is = record { seated = is.seated; fit = is.fit; few = omega (arith, h, is.few) }

pub returns-clause-claim : goal.returns-clause-claim
returns-clause-claim c = in_line _ _ _ _ _ (search (rules, arith)) c.in_ok-claim.ensures.claim
