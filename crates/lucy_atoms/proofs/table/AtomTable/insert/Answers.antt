use Rattle.std.proofs.Common.{ℕ, Some, List, not, ap, sym, ◌∙◌}
use Rattle.lucy_clauses.specs.Sums.{Form}
use Rattle.lucy_atoms.specs.Tables.{place_of}
use Rattle.lucy_atoms.proofs.Places.{kept_place, no_place, put_there, kept_there, found_last}
use Rattle.lucy_atoms.proofs.table.AtomTable.insert.Goals as goal

pub add-requires : goal.add-requires
add-requires c = no_place c.args.self.now c.args.atom.now c.in-None.ensures

pub returns-in-Some-clause-new : goal.returns-in-Some-clause-new
returns-in-Some-clause-new c = ap not (sym (kept_place c.args.self.now c.args.atom.now c.in-Some.number c.in-Some.ensures))

pub returns-in-Some-clause-value : goal.returns-in-Some-clause-value
returns-in-Some-clause-value c = kept_there c.args.self.now c.args.atom.now (kept_place c.args.self.now c.args.atom.now c.in-Some.number c.in-Some.ensures)

pub returns-in_ok-number-in-None-clause-number : goal.returns-in_ok-number-in-None-clause-number
returns-in_ok-number-in-None-clause-number c =
    let none = no_place c.args.self.now c.args.atom.now c.in-None.ensures in
    ap (λ (ts : List Form). place_of ts c.args.atom.now) c.in_ok-number-in-None.ensures.value ∙ found_last c.args.self.now c.args.atom.now none ∙ ap (λ (n : ℕ). Some n) (sym c.in_ok-number-in-None.ensures.number)

pub returns-in_ok-number-in-None-clause-new : goal.returns-in_ok-number-in-None-clause-new
returns-in_ok-number-in-None-clause-new c = ap not (sym (no_place c.args.self.now c.args.atom.now c.in-None.ensures))

pub returns-in_ok-number-in-None-clause-value : goal.returns-in_ok-number-in-None-clause-value
returns-in_ok-number-in-None-clause-value c =
    c.in_ok-number-in-None.ensures.value ∙ put_there c.args.self.now c.args.atom.now (no_place c.args.self.now c.args.atom.now c.in-None.ensures)
