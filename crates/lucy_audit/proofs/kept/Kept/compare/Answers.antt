use Rattle.std.proofs.Common.{◌∙◌, ℕ}
use Rattle.lucy_audit.specs.Differences.{IsAgreed}
use Rattle.lucy_audit.specs.Checks.{left_of, IsOpened}
use Rattle.lucy_audit.proofs.Seating.{lives_many, ok_so}
use Rattle.lucy_audit.proofs.Agreeing.{agreed}
use Rattle.lucy_audit.proofs.kept.Kept.compare.Goals as goal

pub returns-clause-ok : goal.returns-clause-ok
returns-clause-ok c =
    let left = left_of c.args.self.now in
    ok_so ((number : ℕ) → IsOpened left number) (IsAgreed left) c.compare_openings.result
    (agreed left (lives_many c.args.self.now ∙ c.requires.many) c.in_ok-compare_first.ensures.ok c.in_ok-compare_table.ensures.ok c.in_ok-compare_replicas.ensures.ok)
    c.compare_openings.ensures.ok
