-- Certificates whose texts are in the grammar: what their types keep, and what they do not.
use Rattle.std.specs.Prelude.{ℕ, ◌^◌, nat_lt, ◌&&◌, Bool, true, ℤ, pos, int_lt, Option, Some, None, is_some}
use Rattle.std.specs.List.{list_all}
use Rattle.lucy_clauses.specs.declared.formulas.Clause.{Clause}
use Rattle.lucy_clauses.specs.declared.lines.Ref.{Ref}
use Rattle.lucy_clauses.specs.declared.lines.Ref.TheVariants.{Negated, Low, High, Derived}
use Rattle.lucy_clauses.specs.declared.lines.Times.{Times}
use Rattle.lucy_clauses.specs.declared.lines.Line.{Line}
use Rattle.lucy_clauses.specs.declared.lines.Line.TheVariants.{Sum, Divide}
use Rattle.lucy_clauses.specs.declared.parts.Part.{Part}
use Rattle.lucy_clauses.specs.Normal.{is_normal}
use Rattle.lucy_clauses.specs.Parts.{is_within}
use Rattle.lucy_clauses.specs.Sums.{Form}
use Rattle.lucy_cert.specs.declared.entries.Entry.{Entry}
use Rattle.lucy_cert.specs.declared.entries.Entry.TheVariants as entry
use Rattle.lucy_cert.specs.declared.names.PartName.{PartName}
use Rattle.lucy_cert.specs.declared.names.PartName.TheVariants.{Closure, Cover}
use Rattle.lucy_cert.specs.declared.steps.ProofStep.{ProofStep}
use Rattle.lucy_cert.specs.declared.steps.ProofStep.TheVariants.{Lemma, Rup, Drop}
use Rattle.lucy_cert.specs.Certificates as certificates
use Rattle.lucy_cert.specs.Names.{ascend}
use Rattle.lucy_cert.specs.Numbers.{are_droppable}

-- a factor of at most 2 ^ 126 in size, and the number of a variable
abbrev pub part_fits : Part → Bool
part_fits p = is_within p.by && nat_lt p.variable (2 ^ 32)

-- an atom in normal form with a bound of at most 2 ^ 126 in size
abbrev pub atom_fits : Form → Bool
atom_fits t = is_normal t.parts && is_within t.bound && list_all part_fits t.parts

abbrev pub clause_fits : Clause → Bool
clause_fits c = list_all atom_fits c.atoms

abbrev pub ref_fits : Ref → Bool
ref_fits (Negated n) = nat_lt n (2 ^ 32)
ref_fits (Low n) = nat_lt n (2 ^ 32)
ref_fits (High n) = nat_lt n (2 ^ 32)
ref_fits (Derived n) = nat_lt n (2 ^ 32)

-- a multiplier or divisor is from 1 to 2 ^ 126
abbrev pub pair_fits : ℤ → Ref → Bool
pair_fits by of = is_within by && int_lt (pos 0) by && ref_fits of

abbrev pub times_fits : Times → Bool
times_fits t = pair_fits t.by t.of

abbrev pub line_fits : Line → Bool
line_fits (Sum ts) = list_all times_fits ts
line_fits (Divide by of) = pair_fits by of

abbrev pub number_fits : ℕ → Bool
number_fits n = nat_lt n (2 ^ 64)

-- the first version has no drops
abbrev pub step_fits : Bool → ProofStep → Bool
step_fits drops (Lemma clause lines) = clause_fits clause && list_all line_fits lines
step_fits drops (Rup clause hints) = clause_fits clause && list_all number_fits hints
step_fits drops (Drop numbers) = drops && are_droppable numbers && list_all number_fits numbers

abbrev pub name_fits : PartName → Bool
name_fits (Closure k) = nat_lt k 16
name_fits Cover = true

abbrev pub cert_part_fits : Bool → certificates.Part → Bool
cert_part_fits drops p = name_fits p.0 && list_all (step_fits drops) p.1.steps

abbrev pub live_fits : Option ℕ → Bool
live_fits None = true
live_fits (Some n) = number_fits n

-- a line with the numbers that it may have
abbrev pub entry_fits : Entry → Bool
entry_fits (entry.Header live) = live_fits live
entry_fits (entry.Part name) = name_fits name
entry_fits (entry.Lemma clause) = clause_fits clause
entry_fits (entry.Derivation line) = line_fits line
entry_fits entry.Qed = true
entry_fits (entry.Rup clause hints) = clause_fits clause && list_all number_fits hints
entry_fits (entry.Drop numbers) = are_droppable numbers && list_all number_fits numbers
entry_fits entry.End = true

abbrev pub is_writable : certificates.Contents → Bool
is_writable c = ascend (certificates.part_names c.parts) && live_fits c.live && list_all (cert_part_fits (is_some c.live)) c.parts
