use Rattle.std.proofs.Common.{ap, sym, ◌∙◌, subst, rules}
use Rattle.std.proofs.lemmas.Int.{to_z-of_z}
use mir.Syntax.{w128}
use mir.Val.{SFits}
use Rattle.lucy_clauses.specs.Normal.{IsNormal}
use Rattle.lucy_clauses.specs.Sums.{is_true}
use Rattle.lucy_clauses.proofs.Divisors.{normal_negative}
use Rattle.lucy_clauses.proofs.Solutions.{complement_opposite, complement_form}
use Rattle.lucy_clauses.proofs.atoms.Atom.complement.Goals as goal

pub invariant_of-self : goal.invariant_of-self
invariant_of-self c = subst IsNormal (sym c.negate_all.ensures) (normal_negative c.self.inside.parts.items c.self.invariant)

pub returns-clause-opposite : goal.returns-clause-opposite
returns-clause-opposite c =
    let fits : SFits w128 c.self.inside.bound = search rules in
    let made_fits : SFits w128 c.below_negative-self-inside.result = search rules in
    let bound_is = simp to_z-of_z at c.below_negative-self-inside.ensures in
    let whole = complement_form c.self.inside.parts.items c.negate_all.new.parts.items c.self.inside.bound c.below_negative-self-inside.result c.args.self.now c.negate_all.ensures bound_is c.self.view_is in
    λ a. simp to_z-of_z (ap (is_true a) whole ∙ complement_opposite c.args.self.now a)
