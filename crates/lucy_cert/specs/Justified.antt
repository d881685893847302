-- When a step of a proof is justified.
use Rattle.std.specs.Prelude.{ℕ, ◌+◌, ◌-◌, nat_le, nat_lt, ◌&&◌, not, Bool, true, false, List, [], ◌∷◌, ◌++◌, length, map, slice_get, Option, Some, None, if◌then◌else◌}
use Rattle.std.specs.List.{list_all, list_any}
use Rattle.std.specs.Option.{option_map, option_or}
use Rattle.lucy_clauses.specs.declared.formulas.Clause.{Clause}
use Rattle.lucy_clauses.specs.declared.formulas.Formula.{Formula}
use Rattle.lucy_clauses.specs.declared.formulas.Range.{Range}
use Rattle.lucy_clauses.specs.declared.lines.Line.{Line}
use Rattle.lucy_clauses.specs.Formulas.{names_below}
use Rattle.lucy_clauses.specs.Lines.{Unjustified, unknown, too_wide, no_conflict, unjustified_line}
use Rattle.lucy_clauses.specs.Sums.{Form, complement}
use Rattle.lucy_cert.specs.declared.steps.ProofStep.{ProofStep}
use Rattle.lucy_cert.specs.declared.steps.ProofStep.TheVariants.{Lemma, Rup, Drop}
use Rattle.lucy_cert.specs.declared.steps.Why.{Why}
use Rattle.lucy_cert.specs.declared.steps.Why.TheVariants.{Unknown, TooWide, NoConflict, TooMany}
use Rattle.lucy_clauses.specs.Equality.{same_form}
use Rattle.lucy_cert.specs.Numbers.{contains}

-- ---- what the steps so far have come to

-- the clauses that they added, in order, and the numbers that they dropped (a drop takes no clause away)
pub record Known : Type 0 where
  pub added : List Clause
  pub dropped : List ℕ

abbrev pub nothing : Known
nothing = record { added = []; dropped = [] }

abbrev pub with_clause : Known → Clause → Known
with_clause k c = record { added = k.added ++ c ∷ []; dropped = k.dropped }

abbrev pub without : Known → List ℕ → Known
without k numbers = record { added = k.added; dropped = k.dropped ++ numbers }

-- what a step makes of it
abbrev pub after : Known → ProofStep → Known
after k (Lemma clause lines) = with_clause k clause
after k (Rup clause hints) = with_clause k clause
after k (Drop numbers) = without k numbers

-- the clause of a number: those of the formula come first, then those that steps added; none where it is dropped
abbrev pub clause_at : List Clause → Known → ℕ → Option Clause
clause_at clauses k n = if contains n k.dropped then None else slice_get (clauses ++ k.added) n

-- ---- propagation

-- an atom is false where its complement was made true
abbrev pub is_false : List Form → Form → Bool
is_false trues t = list_any (same_form (complement t)) trues

-- the atoms that are not false
abbrev pub open_atoms : List Form → List Form → List Form
open_atoms trues [] = []
open_atoms trues (t ∷ ts) = if is_false trues t then open_atoms trues ts else (t ∷ open_atoms trues ts)

-- a hint names a clause that is known
abbrev pub by_clause : Option Clause → (Clause → Option Why) → Option Why
by_clause None next = Some Unknown
by_clause (Some c) next = next c

-- With one atom that is not false, that atom is made true, and the next hint is taken. With none, the step is justified, and this is the last hint.
abbrev pub by_open : List Form → Bool → (Form → Option Why) → Option Why
by_open [] last next = if last then None else Some NoConflict
by_open (t ∷ []) last next = next t
by_open (t ∷ u ∷ ts) last next = Some NoConflict

abbrev pub is_last : List ℕ → Bool
is_last [] = true
is_last (h ∷ hs) = false

-- why hints do not lead from true atoms to a clause whose atoms are all false; `at` gives the clause of a number
abbrev pub rup_fault : (ℕ → Option Clause) → List Form → List ℕ → Option Why
rup_fault at trues [] = Some NoConflict
rup_fault at trues (h ∷ hs) = by_clause (at h) (λ c. by_open (open_atoms trues c.atoms) (is_last hs) (λ t. rup_fault at (trues ++ t ∷ []) hs))

-- ---- lemmas

abbrev pub why_of : Unjustified → Why
why_of unknown = Unknown
why_of too_wide = TooWide
why_of no_conflict = NoConflict

-- why a derivation does not show that a clause holds within the ranges
abbrev pub lemma_fault : List Range → List Form → List Line → Option Why
lemma_fault ranges atoms lines = option_map (λ (f : ℕ × Unjustified). why_of f.1) (unjustified_line atoms ranges lines)

-- ---- drops

-- the clause of an earlier step that no earlier drop named
abbrev pub is_held : ℕ → Known → ℕ → Bool
is_held count k n = nat_le count n && nat_lt n (count + length k.added) && not (contains n k.dropped)

-- `count` clauses are those of the formula
abbrev pub drop_fault : ℕ → Known → List ℕ → Option Why
drop_fault count k numbers = if list_all (is_held count k) numbers then None else Some Unknown

-- ---- steps

-- each variable of the clause has one of n ranges
abbrev pub names_known : ℕ → Clause → Bool
names_known n c = list_all (λ (t : Form). names_below n t.parts) c.atoms

abbrev pub where_known : ℕ → Clause → Option Why → Option Why
where_known n c others = if names_known n c then others else Some Unknown

-- why a step breaks the rule of its kind
abbrev pub rule_fault : Formula → Known → ProofStep → Option Why
rule_fault f k (Lemma clause lines) = where_known (length f.ranges) clause (lemma_fault f.ranges clause.atoms lines)
rule_fault f k (Rup clause hints) = where_known (length f.ranges) clause (rup_fault (clause_at f.clauses k) (map complement clause.atoms) hints)
rule_fault f k (Drop numbers) = drop_fault (length f.clauses) k numbers

-- the clauses of steps that are added and not dropped
abbrev pub live_clauses : Known → ℕ
live_clauses k = length k.added - length k.dropped

abbrev pub live_fault : Option ℕ → ℕ → Option Why
live_fault None count = None
live_fault (Some most) count = if nat_lt most count then Some TooMany else None

-- why a step is not justified: by the rule of its kind, or since more clauses are then live than the certificate allows
abbrev pub step_fault : Formula → Option ℕ → Known → ProofStep → Option Why
step_fault f live k s = option_or (rule_fault f k s) (live_fault live (live_clauses (after k s)))
