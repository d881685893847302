-- Numbers, parts of an atom and references, as a piece of a line has them.
use Rattle.std.specs.Prelude.{ℕ, ◌^◌, ◌==◌, nat_lt, Bool, true, false, ℤ, pos, negsuc, int_lt, List, [], ◌∷◌, ◌++◌, Option, Some, None, if◌then◌else◌, decimal}
use Rattle.std.specs.Fmt.{signed_decimal}
use Rattle.lucy_io.specs.Decimals.{number_of}
use Rattle.lucy_clauses.specs.declared.lines.Ref.{Ref}
use Rattle.lucy_clauses.specs.declared.lines.Ref.TheVariants.{Negated, Low, High, Derived}
use Rattle.lucy_clauses.specs.declared.parts.Part.{Part}
use Rattle.lucy_clauses.specs.Parts.{is_within}
use Rattle.lucy_cert.specs.declared.tokens.Bound.{Bound}
use Rattle.lucy_cert.specs.Cutting.{cut}
use Rattle.lucy_cert.specs.Options.{◌>>=◌}

-- ---- numbers

abbrev pub count_in : ℕ → Option ℤ → Option ℕ
count_in most None = None
count_in most (Some (pos n)) = if nat_lt n most then Some n else None
count_in most (Some (negsuc n)) = None

-- a number without a sign, below a limit
abbrev pub count_of : ℕ → List ℕ → Option ℕ
count_of most text = count_in most (number_of text)

abbrev pub where_within : Option ℤ → Option ℤ
where_within None = None
where_within (Some z) = if is_within z then Some z else None

-- a number of at most 2 ^ 126 in size
abbrev pub size_of : List ℕ → Option ℤ
size_of text = where_within (number_of text)

abbrev pub where_positive : Option ℤ → Option ℤ
where_positive None = None
where_positive (Some z) = if int_lt (pos 0) z then Some z else None

-- the same, at least 1
abbrev pub positive_of : List ℕ → Option ℤ
positive_of text = where_positive (size_of text)

-- ---- factors with their variables

-- a factor, a `*` and the number of a variable
abbrev pub part_of : List ℕ → Option Part
part_of text = do
  p ← cut 42 text
  by ← size_of p.0
  variable ← count_of (2 ^ 32) p.1
  Some (record { variable = variable; by = by })

abbrev pub part_text : Part → List ℕ
part_text p = signed_decimal p.by ++ 42 ∷ decimal p.variable

-- ---- bounds

abbrev pub bound_by : Bool → List ℕ → Option Bound
bound_by more text = size_of text >>= λ bound. Some (record { bound = bound; more = more })

abbrev pub no_bytes : List ℕ → Bool
no_bytes [] = true
no_bytes (b ∷ bs) = false

abbrev pub bound_in : List ℕ → Option (List ℕ × List ℕ) → Option Bound
bound_in text None = bound_by false text
bound_in text (Some p) = if no_bytes p.1 then bound_by true p.0 else None

-- the bound of an atom, and whether another atom follows: then a comma stands behind it
abbrev pub bound_of : List ℕ → Option Bound
bound_of text = bound_in text (cut 44 text)

-- ---- references

abbrev pub ref_by : ℕ → ℕ → Option Ref
ref_by c n =
    if c == 110 then Some (Negated n) else if c == 108 then Some (Low n) else if c == 104 then Some (High n) else if c == 100 then Some (Derived n) else None

-- `n`, `l`, `h` or `d`, and a number
abbrev pub ref_of : List ℕ → Option Ref
ref_of [] = None
ref_of (c ∷ cs) = count_of (2 ^ 32) cs >>= ref_by c

abbrev pub ref_text : Ref → List ℕ
ref_text (Negated n) = 110 ∷ decimal n
ref_text (Low n) = 108 ∷ decimal n
ref_text (High n) = 104 ∷ decimal n
ref_text (Derived n) = 100 ∷ decimal n
