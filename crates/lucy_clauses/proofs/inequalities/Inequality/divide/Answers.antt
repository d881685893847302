use Rattle.std.proofs.Common.{sym, ◌∙◌, subst}
use Rattle.std.proofs.lemmas.Int.{to_z-of_z}
use Rattle.lucy_clauses.specs.Normal.{IsGathered}
use Rattle.lucy_clauses.proofs.Derived.{divisor_gathered}
use Rattle.lucy_clauses.proofs.inequalities.Inequality.divide.Goals as goal

pub invariant_of-self : goal.invariant_of-self
invariant_of-self c =
    let fits = c.ranges.by in
    let test = simp (to_z-of_z, c.deref.ensures.value) at (sym c.is_divisor.ensures ∙ c.if-not-is_divisor.false) in
    let size = simp to_z-of_z at c.unsigned_abs-divisor.ensures.value in
    subst IsGathered (sym c.divide_all.ensures) (divisor_gathered c.args.by c.unsigned_abs-divisor.result c.self.inside.parts.items size test c.self.invariant)
