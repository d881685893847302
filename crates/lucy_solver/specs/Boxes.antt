-- Boxes: what the ranges that are left say of the atoms.
use Rattle.std.specs.Prelude.{◌≡◌, ℕ, Bool, true, false, nat_le, ◌&&◌, ℤ, pos, negsuc, neg_ℤ, ◌+ℤ◌, ◌*ℤ◌, ◌≤ℤ◌, int_lt, int_le, unsigned_abs, List, [], ◌∷◌, map, Option, Some, None, if◌then◌else◌, slice_get, length, ◌+◌, ◌^◌, ◌<◌}
use Rattle.std.specs.List.{list_all, list_any}
use Rattle.lucy_clauses.specs.declared.parts.Part.{Part}
use Rattle.lucy_clauses.specs.declared.formulas.Clause.{Clause}
use Rattle.lucy_clauses.specs.declared.formulas.Range.{Range}
use Rattle.lucy_clauses.specs.declared.lines.Ref.{Ref}
use Rattle.lucy_clauses.specs.declared.lines.Ref.TheVariants.{Low}
use Rattle.lucy_clauses.specs.declared.lines.Times.{Times}
use Rattle.lucy_clauses.specs.Sums.{Form, complement}
use Rattle.lucy_clauses.specs.Formulas.{names_below}
use Rattle.lucy_clauses.specs.Lines.{form_of_ref, one_variable}
use Rattle.lucy_cert.specs.Writable.{ref_fits}
use Rattle.lucy_solver.specs.declared.boxes.Bound.{Bound}

-- the end of a bound at which a factor times the variable is least
abbrev pub end_of : ℤ → Bound → ℤ
end_of by b = if int_lt (pos 0) by then b.lo else b.hi

-- the least value of a factor times a variable within a bound
abbrev pub reach : ℤ → Option Bound → ℤ
reach by None = pos 0
reach by (Some b) = by *ℤ end_of by b

-- the least value of a sum
abbrev pub least : List Bound → List Part → ℤ
least bs [] = pos 0
least bs (p ∷ ps) = reach p.by (slice_get bs p.variable) +ℤ least bs ps

-- the sizes of its terms
abbrev pub reaches : List Bound → List Part → ℕ
reaches bs [] = 0
reaches bs (p ∷ ps) = unsigned_abs (reach p.by (slice_get bs p.variable)) + reaches bs ps

-- false all over the box
abbrev pub exceeds : List Bound → Form → Bool
exceeds bs t = int_lt t.bound (least bs t.parts)

abbrev pub all_exceed : List Bound → Clause → Bool
all_exceed bs c = list_all (exceeds bs) c.atoms

-- each variable has a bound, and no sum over the box passes 2^100
abbrev pub is_fit : List Bound → Form → Bool
is_fit bs t = names_below (length bs) t.parts && nat_le (unsigned_abs t.bound + reaches bs t.parts) (2 ^ 100)

abbrev pub all_fit : List Bound → List Clause → Bool
all_fit bs cs = list_all (λ (c : Clause). list_all (is_fit bs) c.atoms) cs

-- the number of a clause that is false all over the box, or that there is none
abbrev pub Exceeded : List Bound → List Clause → Option ℕ → Type 0
Exceeded bs cs None = list_any (all_exceed bs) cs ≡ false
Exceeded bs cs (Some i) = (i < length cs) × ((c : Clause) → slice_get cs i ≡ Some c → all_exceed bs c ≡ true)

abbrev pub times_of : ℤ → Ref → Times
times_of by of = record { by = by; of = of }

-- the reference that takes a part off a sum, and how many times
abbrev pub taking : ℤ → Option Bound → Times
taking by None = times_of by (Low 0)
taking by (Some b) = if int_lt (pos 0) by then times_of by b.low else times_of (neg_ℤ by) b.high

abbrev pub takings : List Bound → List Part → List Times
takings bs [] = []
takings bs (p ∷ ps) = taking p.by (slice_get bs p.variable) ∷ takings bs ps

-- no bound has two numbers
abbrev pub all_single : List Bound → Bool
all_single bs = list_all (λ (b : Bound). int_le b.hi b.lo) bs

-- the lower ends
abbrev pub point : List Bound → List ℤ
point bs = map (λ (b : Bound). b.lo) bs

-- within a range, and not empty
pub record IsInside (r : Range) (b : Bound) : Type 0 where
  pub low : r.lo ≤ℤ b.lo
  pub some : b.lo ≤ℤ b.hi
  pub high : b.hi ≤ℤ r.hi

-- a bound's references say, under the decisions, that the variable is within it
pub record IsBound (ranges : List Range) (ds : List Form) (v : ℕ) (b : Bound) : Type 0 where
  pub low : form_of_ref (map complement ds) ranges [] b.low ≡ Some (one_variable v (negsuc 0) (neg_ℤ b.lo))
  pub high : form_of_ref (map complement ds) ranges [] b.high ≡ Some (one_variable v (pos 1) b.hi)
  pub inside : (r : Range) → slice_get ranges v ≡ Some r → IsInside r b
  pub low_fits : ref_fits b.low ≡ true
  pub high_fits : ref_fits b.high ≡ true

-- a bound for each variable
pub record IsBox (ranges : List Range) (ds : List Form) (bs : List Bound) : Type 0 where
  pub count : length bs ≡ length ranges
  pub each : (v : ℕ) (b : Bound) → slice_get bs v ≡ Some b → IsBound ranges ds v b
