use Rattle.std.proofs.Common.{ap, sym, ◌∙◌}
use Rattle.lucy_clauses.specs.Normal.{is_normal}
use Rattle.lucy_clauses.proofs.NormalTests.{normal_test}
use Rattle.lucy_clauses.proofs.atoms.Atom.from_parts.Goals as goal

pub invariant_of-result : goal.invariant_of-result
invariant_of-result c =
    (normal_test c.args.parts.items).0 (ap is_normal (sym c.deref.ensures.value) ∙ sym c.is_normal.ensures ∙ c.if-is_normal.true)
