-- What the lines of a certificate come to, one after another.
use Rattle.std.specs.Prelude.{List, [], ◌∷◌, ◌++◌, Bool, true, false, Option, Some, None, is_some, if◌then◌else◌}
use Rattle.lucy_clauses.specs.declared.formulas.Clause.{Clause}
use Rattle.lucy_clauses.specs.declared.lines.Line.{Line}
use Rattle.lucy_cert.specs.declared.entries.Entry.{Entry}
use Rattle.lucy_cert.specs.declared.entries.Entry.TheVariants as entry
use Rattle.lucy_cert.specs.declared.entries.Item.{Item}
use Rattle.lucy_cert.specs.declared.entries.Item.TheVariants as item
use Rattle.lucy_cert.specs.declared.machine.Machine.{Machine}
use Rattle.lucy_cert.specs.declared.machine.Moved.{Moved}
use Rattle.lucy_cert.specs.declared.machine.Place.{Place}
use Rattle.lucy_cert.specs.declared.machine.Place.TheVariants.{Start, Outside, Inside, Lemma, Ended}
use Rattle.lucy_cert.specs.declared.names.PartName.{PartName}
use Rattle.lucy_cert.specs.declared.steps.ProofStep.{ProofStep}
use Rattle.lucy_cert.specs.declared.steps.ProofStep.TheVariants as step
use Rattle.lucy_cert.specs.Names as names

abbrev pub is_before : PartName → PartName → Bool
is_before = names.is_before

-- a part comes behind the last one
abbrev pub is_behind : Option PartName → PartName → Bool
is_behind None name = true
is_behind (Some last) name = is_before last name

abbrev pub machine : Place → Option PartName → Bool → Machine
machine place last drops = record { place = place; last = last; drops = drops }

-- before the first line
abbrev pub opening : Machine
opening = machine Start None false

-- a line that completes nothing
abbrev pub went : Place → Option PartName → Bool → Option Moved
went place last drops = Some (record { machine = machine place last drops; item = None })

-- a line that completes an item
abbrev pub gave : Place → Option PartName → Bool → Item → Option Moved
gave place last drops i = Some (record { machine = machine place last drops; item = Some i })

-- the first line: in the second version steps may drop clauses
abbrev pub at_start : Option PartName → Entry → Option Moved
at_start last (entry.Header live) = gave Outside last (is_some live) (item.Live live)
at_start last e = None

-- the names of parts ascend
abbrev pub part_begun : Option PartName → Bool → PartName → Option Moved
part_begun last drops name = if is_behind last name then gave Inside (Some name) drops (item.Part name) else None

abbrev pub between_parts : Option PartName → Bool → Entry → Option Moved
between_parts last drops (entry.Part name) = part_begun last drops name
between_parts last drops entry.End = went Ended last drops
between_parts last drops e = None

abbrev pub step_taken : Option PartName → Bool → ProofStep → Option Moved
step_taken last drops s = gave Inside last drops (item.Step s)

abbrev pub inside : Option PartName → Bool → Entry → Option Moved
inside last drops (entry.Lemma clause) = went (Lemma clause []) last drops
inside last drops (entry.Rup clause hints) = step_taken last drops (step.Rup clause hints)
inside last drops (entry.Drop numbers) = if drops then step_taken last drops (step.Drop numbers) else None
inside last drops e = between_parts last drops e

abbrev pub in_lemma : Clause → List Line → Option PartName → Bool → Entry → Option Moved
in_lemma clause lines last drops (entry.Derivation line) = went (Lemma clause (lines ++ line ∷ [])) last drops
in_lemma clause lines last drops entry.Qed = step_taken last drops (step.Lemma clause lines)
in_lemma clause lines last drops e = None

abbrev pub after_place : Place → Option PartName → Bool → Entry → Option Moved
after_place Start last drops e = at_start last e
after_place Outside last drops e = between_parts last drops e
after_place Inside last drops e = inside last drops e
after_place (Lemma clause lines) last drops e = in_lemma clause lines last drops e
after_place Ended last drops e = None

-- what a line makes of a machine; none where no certificate goes on so
unfoldable pub entry_after : Machine → Entry → Option Moved
entry_after m e = after_place m.place m.last m.drops e
