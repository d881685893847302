use Rattle.std.proofs.Common.{◌<◌, List, length, ap, sym, ◌∙◌, subst}
use Rattle.lucy_clauses.specs.Sums.{Form}
use Rattle.lucy_atoms.specs.Tables.{complement_of, atom_at}
use Rattle.lucy_atoms.proofs.Marks.{place_is}
use Rattle.lucy_atoms.proofs.table.AtomTable.find_complement.Goals as goal

pub returns : goal.returns
returns c =
    let keys = c.self.inside.atoms.keys in
    let lt = subst (λ (ts : List Form). c.args.number < length ts) (sym c.self.view_is) c.requires in
    c.index.ensures ∙ place_is keys c.self.inside.complements.items c.args.number c.index.result.now lt c.self.invariant.places_are ∙ ap (λ (ts : List Form). complement_of ts (atom_at ts c.args.number)) c.self.view_is
