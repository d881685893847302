-- When the lines of a derivation are justified, and what they show.
use Rattle.std.specs.Prelude.{◌≡◌, ℕ, Bool, true, false, ◌+◌, ◌%◌, ◌==◌, ◌&&◌, ℤ, pos, negsuc, neg_ℤ, ◌+ℤ◌, ◌*ℤ◌, int_lt, unsigned_abs, List, [], ◌∷◌, ◌++◌, map, slice_get, Option, Some, None, Result, Ok, Err, if◌then◌else◌}
use Rattle.std.specs.Int.{int_div_euclid}
use Rattle.std.specs.List.{list_all, list_any}
use Rattle.std.specs.Option.{option_map, option_and_then}
use Rattle.lucy_clauses.specs.declared.parts.Part.{Part}
use Rattle.lucy_clauses.specs.declared.formulas.Range.{Range}
use Rattle.lucy_clauses.specs.declared.lines.Ref.{Ref}
use Rattle.lucy_clauses.specs.declared.lines.Ref.TheVariants.{Negated, Low, High, Derived}
use Rattle.lucy_clauses.specs.declared.lines.Times.{Times}
use Rattle.lucy_clauses.specs.declared.lines.Line.{Line}
use Rattle.lucy_clauses.specs.declared.lines.Line.TheVariants.{Sum, Divide}
use Rattle.lucy_clauses.specs.Sums.{Form, form, is_true, complement}
use Rattle.lucy_clauses.specs.Parts.{is_within, all_within, put_any, is_empty}
use Rattle.lucy_clauses.specs.Formulas.{are_within}
use Rattle.lucy_clauses.specs.Dividing.{divided}

-- why a line is not justified: it refers to what is not there, a number in it passes the limit, or anything else
pub data Unjustified : Type 0 where
  unknown : Unjustified
  too_wide : Unjustified
  no_conflict : Unjustified

-- ---- the inequalities that a line refers to

abbrev pub one_variable : ℕ → ℤ → ℤ → Form
one_variable v by bound = form ((record { variable = v; by = by }) ∷ []) bound

-- the complement of an atom of the clause, a bound of a variable's range, or an earlier line
abbrev pub form_of_ref : List Form → List Range → List Form → Ref → Option Form
form_of_ref atoms ranges done (Negated i) = option_map complement (slice_get atoms i)
form_of_ref atoms ranges done (Low v) = option_map (λ (r : Range). one_variable v (negsuc 0) (neg_ℤ r.lo)) (slice_get ranges v)
form_of_ref atoms ranges done (High v) = option_map (λ (r : Range). one_variable v (pos 1) r.hi) (slice_get ranges v)
form_of_ref atoms ranges done (Derived d) = slice_get done d

-- ---- sums

-- the number, where it is within the limit
abbrev pub fit : ℤ → Option ℤ
fit x = if is_within x then Some x else None

abbrev pub multiple : ℤ → Part → Part
multiple m p = record { variable = p.variable; by = m *ℤ p.by }

-- m times parts put to others one by one, where each product and each sum stays within the limit
abbrev pub put_multiples : ℤ → List Part → List Part → Option (List Part)
put_multiples m [] sum = Some sum
put_multiples m (p ∷ ps) sum = if is_within (m *ℤ p.by) && all_within (put_any (multiple m p) sum) then put_multiples m ps (put_any (multiple m p) sum) else None

-- the same for the bounds
abbrev pub bound_with : ℤ → ℤ → ℤ → Option ℤ
bound_with m more bound = option_and_then (λ c. fit (bound +ℤ c)) (fit (m *ℤ more))

abbrev pub form_with : ℤ → ℤ → ℤ → List Part → Option Form
form_with m more bound ps = option_map (form ps) (bound_with m more bound)

-- an inequality and m times another, where the numbers stay within the limit
abbrev pub add_multiple : ℤ → Form → Form → Option Form
add_multiple m f sum = option_and_then (form_with m f.bound sum.bound) (put_multiples m f.parts sum.parts)

-- the multiplier is at least 1
abbrev pub positive_sum : ℤ → Option Form → Result Form Unjustified
positive_sum m None = Err too_wide
positive_sum m (Some s) = if int_lt (pos 0) m then Ok s else Err no_conflict

abbrev pub added_ref : ℤ → Option Form → Form → Result Form Unjustified
added_ref m None sum = Err unknown
added_ref m (Some f) sum = positive_sum m (add_multiple m f sum)

abbrev pub then_form : Result Form Unjustified → (Form → Result Form Unjustified) → Result Form Unjustified
then_form (Ok s) next = next s
then_form (Err e) next = Err e

-- the references are added in the order written
abbrev pub sum_form : List Form → List Range → List Form → List Times → Form → Result Form Unjustified
sum_form atoms ranges done [] sum = Ok sum
sum_form atoms ranges done (t ∷ ts) sum = then_form (added_ref t.by (form_of_ref atoms ranges done t.of) sum) (sum_form atoms ranges done ts)

-- ---- quotients

abbrev pub divides_part : ℕ → Part → Bool
divides_part d p = unsigned_abs p.by % d == 0

-- a divisor of at least 1 that divides each factor; the bound is rounded down
abbrev pub quotient_form : ℤ → Form → Result Form Unjustified
quotient_form by f = if int_lt (pos 0) by && list_all (divides_part (unsigned_abs by)) f.parts then Ok (form (map (divided (unsigned_abs by)) f.parts) (int_div_euclid f.bound by)) else Err no_conflict

abbrev pub divided_ref : ℤ → Option Form → Result Form Unjustified
divided_ref by None = Err unknown
divided_ref by (Some f) = quotient_form by f

-- ---- lines

-- the inequality that a line derives, or why it is not justified
abbrev pub line_form : List Form → List Range → List Form → Line → Result Form Unjustified
line_form atoms ranges done (Sum ts) = sum_form atoms ranges done ts (form [] (pos 0))
line_form atoms ranges done (Divide by of) = divided_ref by (form_of_ref atoms ranges done of)

-- a line is justified, and derives f
abbrev pub IsJustified : List Form → List Range → List Form → Line → Form → Type 0
IsJustified atoms ranges done l f = line_form atoms ranges done l ≡ Ok f

-- `0 <= bound` with a bound below 0
abbrev pub is_contradiction : Form → Bool
is_contradiction f = is_empty f.parts && int_lt f.bound (pos 0)

abbrev pub fault_or : ℕ → Result Form Unjustified → (Form → Option (ℕ × Unjustified)) → Option (ℕ × Unjustified)
fault_or at (Ok f) next = next f
fault_or at (Err e) next = Some (at, e)

-- the first line that is not justified, with `at` lines before these; past the last line, that it is no contradiction
abbrev pub first_unjustified : List Form → List Range → ℕ → List Form → Bool → List Line → Option (ℕ × Unjustified)
first_unjustified atoms ranges at done ends [] = if ends then None else Some (at, no_conflict)
first_unjustified atoms ranges at done ends (l ∷ ls) =
    fault_or at (line_form atoms ranges done l) (λ f. first_unjustified atoms ranges (at + 1) (done ++ f ∷ []) (is_contradiction f) ls)

-- the same of a whole derivation
abbrev pub unjustified_line : List Form → List Range → List Line → Option (ℕ × Unjustified)
unjustified_line atoms ranges lines = first_unjustified atoms ranges 0 [] false lines

-- justified lines that end in a contradiction show that the clause holds everywhere within the ranges
abbrev pub JustifiedLinesHold : Type 0
JustifiedLinesHold = (atoms : List Form) (ranges : List Range) (lines : List Line) (a : List ℤ) → unjustified_line atoms ranges lines ≡ None → are_within ranges a ≡ true → list_any (is_true a) atoms ≡ true
