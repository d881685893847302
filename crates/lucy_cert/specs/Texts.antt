-- The text of a certificate.
use Rattle.std.specs.Prelude.{ℕ, List, [], ◌∷◌, ◌++◌, map, Option, Some, None, codes, decimal}
use Rattle.std.specs.Fmt.{signed_decimal}
use Rattle.std.specs.List.{flat_map}
use Rattle.lucy_clauses.specs.declared.formulas.Clause.{Clause}
use Rattle.lucy_clauses.specs.declared.lines.Times.{Times}
use Rattle.lucy_clauses.specs.declared.lines.Line.{Line}
use Rattle.lucy_clauses.specs.declared.lines.Line.TheVariants.{Sum, Divide}
use Rattle.lucy_clauses.specs.Sums.{Form}
use Rattle.lucy_cert.specs.declared.entries.Entry.{Entry}
use Rattle.lucy_cert.specs.declared.entries.Entry.TheVariants as entry
use Rattle.lucy_cert.specs.declared.names.PartName.TheVariants.{Closure, Cover}
use Rattle.lucy_cert.specs.declared.steps.ProofStep.{ProofStep}
use Rattle.lucy_cert.specs.declared.steps.ProofStep.TheVariants as step
use Rattle.lucy_cert.specs.Certificates.{Contents, Part}
use Rattle.lucy_cert.specs.Cutting.{spaced}
use Rattle.lucy_cert.specs.Entries.{Pieces}
use Rattle.lucy_cert.specs.Tokens.{part_text, ref_text}

-- ---- the pieces of a line

-- the parts of an atom, `<=` and its bound, with this behind it
abbrev pub atom_pieces : List ℕ → Form → Pieces
atom_pieces comma t = map part_text t.parts ++ codes "<=" ∷ (signed_decimal t.bound ++ comma) ∷ []

-- a comma, where other atoms follow
abbrev pub comma_before : List Form → List ℕ
comma_before [] = []
comma_before (t ∷ ts) = 44 ∷ []

abbrev pub clause_pieces : List Form → Pieces
clause_pieces [] = []
clause_pieces (t ∷ ts) = atom_pieces (comma_before ts) t ++ clause_pieces ts

abbrev pub sum_pieces : List Times → Pieces
sum_pieces [] = []
sum_pieces (t ∷ ts) = signed_decimal t.by ∷ ref_text t.of ∷ sum_pieces ts

abbrev pub header_pieces : Option ℕ → Pieces
header_pieces None = codes "1" ∷ []
header_pieces (Some live) = codes "2" ∷ codes "live" ∷ decimal live ∷ []

abbrev pub entry_pieces : Entry → Pieces
entry_pieces (entry.Header live) = codes "lucy" ∷ codes "certificate" ∷ header_pieces live
entry_pieces (entry.Part (Closure k)) = codes "part" ∷ codes "closure" ∷ decimal k ∷ []
entry_pieces (entry.Part Cover) = codes "part" ∷ codes "cover" ∷ []
entry_pieces (entry.Lemma clause) = codes "lemma" ∷ clause_pieces clause.atoms
entry_pieces (entry.Derivation (Sum ts)) = codes "+" ∷ sum_pieces ts
entry_pieces (entry.Derivation (Divide by of)) = codes "/" ∷ signed_decimal by ∷ ref_text of ∷ []
entry_pieces entry.Qed = codes "qed" ∷ []
entry_pieces (entry.Rup clause hints) = codes "rup" ∷ clause_pieces clause.atoms ++ codes "by" ∷ map decimal hints
entry_pieces (entry.Drop numbers) = codes "drop" ∷ map decimal numbers
entry_pieces entry.End = codes "end" ∷ []

-- ---- lines

abbrev pub entry_text : Entry → List ℕ
entry_text e = spaced (entry_pieces e)

-- the lines of a lemma: the clause, the derivation, `qed`
abbrev pub lemma_entries : Clause → List Line → List Entry
lemma_entries clause lines = entry.Lemma clause ∷ map entry.Derivation lines ++ entry.Qed ∷ []

abbrev pub step_entries : ProofStep → List Entry
step_entries (step.Lemma clause lines) = lemma_entries clause lines
step_entries (step.Rup clause hints) = entry.Rup clause hints ∷ []
step_entries (step.Drop numbers) = entry.Drop numbers ∷ []

abbrev pub part_entries : Part → List Entry
part_entries part = entry.Part part.0 ∷ flat_map step_entries part.1.steps

-- the lines of a certificate up to the last one
abbrev pub body_entries : Contents → List Entry
body_entries c = entry.Header c.live ∷ flat_map part_entries c.parts

-- ---- texts

-- each line, ended by an LF
abbrev pub lines_text : List Entry → List ℕ
lines_text [] = []
lines_text (e ∷ es) = entry_text e ++ 10 ∷ lines_text es

-- the text of a certificate: its lines, and the line `end`
unfoldable pub certificate_text : Contents → List ℕ
certificate_text c = lines_text (body_entries c ++ entry.End ∷ [])
