-- What a line of a certificate says by itself.
use Rattle.std.specs.Prelude.{ℕ, ◌^◌, ℤ, Bool, true, false, List, [], ◌∷◌, ◌++◌, Option, Some, None, if◌then◌else◌, codes, bytes_eq}
use Rattle.lucy_clauses.specs.declared.formulas.Clause.{Clause}
use Rattle.lucy_clauses.specs.declared.lines.Ref.{Ref}
use Rattle.lucy_clauses.specs.declared.lines.Times.{Times}
use Rattle.lucy_clauses.specs.declared.lines.Line.TheVariants.{Sum, Divide}
use Rattle.lucy_clauses.specs.declared.parts.Part.{Part}
use Rattle.lucy_clauses.specs.Normal.{is_normal}
use Rattle.lucy_clauses.specs.Sums.{Form, form}
use Rattle.lucy_cert.specs.declared.entries.Entry.{Entry}
use Rattle.lucy_cert.specs.declared.entries.Entry.TheVariants as entry
use Rattle.lucy_cert.specs.declared.names.PartName.TheVariants.{Closure, Cover}
use Rattle.lucy_cert.specs.declared.tokens.Bound.{Bound}
use Rattle.lucy_cert.specs.Cutting.{pieces}
use Rattle.lucy_cert.specs.Options.{◌>>=◌}
use Rattle.lucy_cert.specs.Numbers.{are_droppable}
use Rattle.lucy_cert.specs.Tokens.{count_of, positive_of, part_of, bound_of, ref_of}

abbrev pub Pieces : Type 0
Pieces = List (List ℕ)

-- the pieces behind a word, which is to be this one
abbrev pub behind : List ℕ → Pieces → Option Pieces
behind word [] = None
behind word (p ∷ ps) = if bytes_eq p word then Some ps else None

-- what was said, where no piece is left
abbrev pub at_end : Entry → Pieces → Option Entry
at_end e [] = Some e
at_end e (p ∷ ps) = None

-- the one piece that is left
abbrev pub last_piece : Pieces → Option (List ℕ)
last_piece [] = None
last_piece (p ∷ []) = Some p
last_piece (p ∷ q ∷ ps) = None

-- ---- lists of numbers

-- numbers behind those that were found
abbrev pub counts_of : List ℕ → Pieces → Option (List ℕ)
counts_of found [] = Some found
counts_of found (p ∷ ps) = count_of (2 ^ 64) p >>= λ n. counts_of (found ++ n ∷ []) ps

-- ---- clauses

-- the atoms of a clause, and the pieces behind it
abbrev pub Found : Type 0
Found = List Form × Pieces

-- an atom is in normal form
abbrev pub atom_of : List Part → ℤ → Option Form
atom_of parts bound = if is_normal parts then Some (form parts bound) else None

-- an atom with its bound behind others; the clause goes on, or this was its last atom
abbrev pub with_atom : List Form → List Part → Bound → Pieces → (List Form → Option Found) → Option Found
with_atom atoms parts b ps next = atom_of parts b.bound >>= λ t. if b.more then next (atoms ++ t ∷ []) else Some (atoms ++ t ∷ [], ps)

-- Atoms behind those that were found, the first of them with parts that were found. After the piece `<=` its bound comes next.
abbrev pub atoms_of : Bool → List Form → List Part → Pieces → Option Found
atoms_of at_bound atoms parts [] = None
atoms_of false atoms parts (p ∷ ps) = if bytes_eq p (codes "<=") then atoms_of true atoms parts ps else (part_of p >>= λ x. atoms_of false atoms (parts ++ x ∷ []) ps)
atoms_of true atoms parts (p ∷ ps) = bound_of p >>= λ b. with_atom atoms parts b ps (λ more. atoms_of false more [] ps)

-- a clause without an atom has no piece: the line ends, or the word `by` follows
abbrev pub clause_of : Pieces → Option Found
clause_of [] = Some ([], [])
clause_of (p ∷ ps) = if bytes_eq p (codes "by") then Some ([], p ∷ ps) else atoms_of false [] [] (p ∷ ps)

abbrev pub clause : List Form → Clause
clause atoms = record { atoms = atoms }

-- ---- lines of derivations

abbrev pub times : ℤ → Ref → Times
times by of = record { by = by; of = of }

-- a multiplier or divisor, and what it goes with
abbrev pub times_of : List ℕ → List ℕ → Option Times
times_of p q = do
  by ← positive_of p
  of ← ref_of q
  Some (times by of)

-- inequalities with multipliers behind those that were found
abbrev pub sum_of : List Times → Pieces → Option (List Times)
sum_of found [] = Some found
sum_of found (p ∷ []) = None
sum_of found (p ∷ q ∷ ps) = times_of p q >>= λ t. sum_of (found ++ t ∷ []) ps

-- the two pieces that are left
abbrev pub last_times : Pieces → Option Times
last_times [] = None
last_times (p ∷ ps) = last_piece ps >>= times_of p

-- ---- lines

-- `lemma`, and a clause
abbrev pub lemma_in : Pieces → Option Entry
lemma_in ps = clause_of ps >>= λ found. at_end (entry.Lemma (clause found.0)) found.1

-- `rup`, a clause, `by` and hints
abbrev pub rup_in : Pieces → Option Entry
rup_in ps = do
  found ← clause_of ps
  hints ← behind (codes "by") found.1
  numbers ← counts_of [] hints
  Some (entry.Rup (clause found.0) numbers)

abbrev pub droppable : List ℕ → Option Entry
droppable numbers = if are_droppable numbers then Some (entry.Drop numbers) else None

-- `drop`, and numbers that ascend
abbrev pub drop_in : Pieces → Option Entry
drop_in ps = counts_of [] ps >>= droppable

-- `+`, and inequalities with multipliers
abbrev pub sum_in : Pieces → Option Entry
sum_in ps = sum_of [] ps >>= λ found. Some (entry.Derivation (Sum found))

-- `/`, a divisor and an inequality
abbrev pub quotient_in : Pieces → Option Entry
quotient_in ps = last_times ps >>= λ t. Some (entry.Derivation (Divide t.by t.of))

abbrev pub closure_in : Pieces → Option Entry
closure_in ps = last_piece ps >>= λ p. count_of 16 p >>= λ k. Some (entry.Part (Closure k))

-- `part`, and its name
abbrev pub part_in : Pieces → Option Entry
part_in [] = None
part_in (p ∷ ps) = if bytes_eq p (codes "cover") then at_end (entry.Part Cover) ps else if bytes_eq p (codes "closure") then closure_in ps else None

abbrev pub live_in : Pieces → Option Entry
live_in ps = do
  rest ← behind (codes "live") ps
  p ← last_piece rest
  n ← count_of (2 ^ 64) p
  Some (entry.Header (Some n))

-- the version, and what the second one allows
abbrev pub version_in : Pieces → Option Entry
version_in [] = None
version_in (p ∷ ps) = if bytes_eq p (codes "1") then at_end (entry.Header None) ps else if bytes_eq p (codes "2") then live_in ps else None

-- `lucy certificate`, and the version
abbrev pub header_in : Pieces → Option Entry
header_in ps = behind (codes "certificate") ps >>= version_in

-- a line that begins with this word; the other words
abbrev pub frame_in : List ℕ → Pieces → Option Entry
frame_in word ps =
    if bytes_eq word (codes "part") then part_in ps
    else if bytes_eq word (codes "lucy") then header_in ps
    else if bytes_eq word (codes "end") then at_end entry.End ps
    else None

abbrev pub step_in : List ℕ → Pieces → Option Entry
step_in word ps =
    if bytes_eq word (codes "rup") then rup_in ps
    else if bytes_eq word (codes "lemma") then lemma_in ps
    else if bytes_eq word (codes "drop") then drop_in ps
    else frame_in word ps

abbrev pub line_in : List ℕ → Pieces → Option Entry
line_in word ps =
    if bytes_eq word (codes "+") then sum_in ps
    else if bytes_eq word (codes "/") then quotient_in ps
    else if bytes_eq word (codes "qed") then at_end entry.Qed ps
    else step_in word ps

abbrev pub entry_in : Pieces → Option Entry
entry_in [] = None
entry_in (word ∷ ps) = line_in word ps

-- what a line says, if it has a form at all
unfoldable pub entry_of : List ℕ → Option Entry
entry_of line = entry_in (pieces line)
