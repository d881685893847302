-- Whole numbers and ranges.
use Rattle.std.specs.Prelude.{ℕ, nat_lt, ℤ, pos, neg_ℤ, int_le, ◌≤ℤ◌, T, Bool, true, false, if◌then◌else◌, Option, None, Some, Result, Ok, Err}
use Rattle.lucy_model.specs.declared.leaves.Kind.{Kind}
use Rattle.lucy_model.specs.declared.leaves.Leaf.{Leaf}
use Rattle.lucy_model.specs.Ranges.{allows}
use Rattle.lucy_plan.specs.declared.parts.Limits.{Limits}
use Rattle.lucy_plan.specs.Sizes.{most_bound}
use Rattle.lucy_tree.specs.declared.marks.Span.{Span}
use Rattle.lucy_tree.specs.declared.marks.Int.{Int}
use Rattle.lucy_tree.specs.declared.marks.Bounds.{Bounds}
use Rattle.lucy_gather.specs.declared.error.ElabError.{ElabError}
use Rattle.lucy_gather.specs.declared.error.ElabError.TheVariants as error
use Rattle.lucy_gather.specs.Steps.{then_of, or_refused}

-- a number with or without a `-` before it
abbrev pub signed : Bool → ℕ → ℤ
signed is_minus size = if is_minus then neg_ℤ (pos size) else pos size

abbrev pub is_there : {A : Type 0} → Option A → Bool
is_there None = false
is_there (Some a) = true

abbrev pub number_of : Int → ℤ
number_of int = signed (is_there int.minus) int.number.value

abbrev pub start_by : Option Span → ℕ → ℕ
start_by None at = at
start_by (Some minus) at = minus.start

-- where its first token starts
abbrev pub start_of : Int → ℕ
start_of int = start_by int.minus int.number.span.start

-- a bound
unfoldable pub bound : Int → Result ℤ ElabError
bound int = if nat_lt most_bound int.number.value then Err (error.Range (start_of int)) else Ok (number_of int)

-- what is made of a test's proof, where the test passes
abbrev pub on_true : {A : Type 0} (test : Bool) → (T test → Option A) → Option A
on_true true make = make tt
on_true false make = None

-- what is made of two bounds and of what a range keeps: the first at most the second, both at most the greatest bound in size
abbrev pub Ranged : Type 0 → Type 0
Ranged A = (lo hi : ℤ) → neg_ℤ (pos most_bound) ≤ℤ lo → lo ≤ℤ hi → hi ≤ℤ pos most_bound → A

abbrev pub on_range : {A : Type 0} → Ranged A → ℤ → ℤ → Option A
on_range make lo hi =
    on_true (int_le (neg_ℤ (pos most_bound)) lo) λ low.
    on_true (int_le lo hi) λ ordered.
    on_true (int_le hi (pos most_bound)) λ high.
    Some (make lo hi (record { le = low }) (record { le = ordered }) (record { le = high }))

abbrev pub a_leaf : Kind → Ranged Leaf
a_leaf kind lo hi low ordered high = record { kind = kind; lo = lo; hi = hi; ordered = ordered; low = low; high = high }

abbrev pub a_limits : Ranged Limits
a_limits lo hi low ordered high = record { lo = lo; hi = hi; ordered = ordered; low = low; high = high }

unfoldable pub leaf_of : Kind → ℤ → ℤ → Option Leaf
leaf_of kind = on_range (a_leaf kind)

unfoldable pub limits_of : ℤ → ℤ → Option Limits
limits_of = on_range a_limits

-- the leaf of this kind over these bounds: each bound is tested at its place, then the upper one against the lower
unfoldable pub leaf_between : Kind → Bounds → Result Leaf ElabError
leaf_between kind bounds =
    then_of (bound bounds.low) λ lo.
    then_of (bound bounds.high) λ hi.
    or_refused (error.Range (start_of bounds.high)) (leaf_of kind lo hi)

unfoldable pub limits_between : Bounds → Result Limits ElabError
limits_between bounds =
    then_of (bound bounds.low) λ lo.
    then_of (bound bounds.high) λ hi.
    or_refused (error.Range (start_of bounds.high)) (limits_of lo hi)

-- a number that its leaf allows
unfoldable pub allowed : Leaf → Int → Option ℤ
allowed leaf int = if allows leaf (number_of int) then Some (number_of int) else None
