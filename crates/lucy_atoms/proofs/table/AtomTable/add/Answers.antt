use Rattle.std.proofs.Common.{◌≡◌, false, List, ap, sym, ◌∙◌}
use Rattle.lucy_clauses.specs.Sums.{Form}
use Rattle.lucy_atoms.specs.Tables.{is_among, complement_of}
use Rattle.lucy_atoms.proofs.Marks.{table_made}
use Rattle.lucy_atoms.proofs.table.AtomTable.add.Goals as goal

pub invariant_of-self-in-Ok : goal.invariant_of-self-in-Ok
invariant_of-self-in-Ok c =
    let keys = c.self.inside.atoms.keys in
    let atom = c.args.atom.now in
    let none : is_among keys atom ≡ false = ap (λ (ts : List Form). is_among ts atom) c.self.view_is ∙ c.requires in
    let complement = c.in_ok-complement.ensures ∙ ap (λ (ts : List Form). complement_of ts atom) (sym c.self.view_is) in
    table_made keys c.insert.new.self.keys atom c.in_ok-copy.copy c.self.inside.complements.items c.push.new.self.items c.mark.new.complements.items c.in_ok-complement.complement c.len-number.result
    none c.len-number.ensures.len c.if-number.false c.in_ok-copy.ensures c.in-Ok.ensures.keys complement c.in_ok-push.ensures.items c.mark.ensures c.self.invariant
