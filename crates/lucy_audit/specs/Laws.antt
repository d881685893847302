-- Laws of audits.
use Rattle.lucy_audit.specs.Differences.{Left, Holds, IsAgreed}
use Rattle.lucy_audit.specs.declared.differences.Difference.{Difference}

-- where the outcome is legal and its records are the table's, as far as both go, no difference holds
abbrev pub AgreedIsNotApart : Type 0
AgreedIsNotApart = (left : Left) (difference : Difference) → IsAgreed left → ¬ (Holds left difference)
