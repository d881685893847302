use Rattle.std.proofs.Common.{◌≡◌, true, subst}
use Rattle.lucy_clauses.specs.Sums.{Form}
use Rattle.lucy_clauses.specs.Normal.{IsNormal, is_normal}
use Rattle.lucy_clauses.proofs.NormalTests.{normal_test}
use Rattle.lucy_solver.proofs.testing.atom_fits.Goals as goal

pub returns : goal.returns
returns c =
    let normal : IsNormal c.args.atom.now.parts = subst (λ (t : Form). IsNormal t.parts) c.atom.view_is c.atom.invariant in
    let test : is_normal c.args.atom.now.parts ≡ true = (normal_test c.args.atom.now.parts).1 normal in
    rw test c.sizes_fit-fits.ensures
