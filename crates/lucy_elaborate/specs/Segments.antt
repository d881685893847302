-- Segments.
use Rattle.std.specs.Prelude.{ℕ, ◌+◌, ◌==◌, nat_lt, ℤ, List, [], ◌∷◌, ◌++◌, length, Bool, if◌then◌else◌, Option, None, Some, Result, Ok, Err, bytes_eq, slice_get}
use Rattle.std.specs.List.{list_any}
use Rattle.lucy_model.specs.declared.leaves.Leaf.{Leaf}
use Rattle.lucy_model.specs.declared.conditions.Condition.{Condition}
use Rattle.lucy_plan.specs.declared.parts.Txn.{Txn}
use Rattle.lucy_plan.specs.declared.parts.Segment.{Segment}
use Rattle.lucy_plan.specs.declared.refusal.What.TheVariants as what
use Rattle.lucy_plan.specs.Sizes.{most_points, most_segments}
use Rattle.lucy_tree.specs.declared.marks.Name.{Name}
use Rattle.lucy_tree.specs.declared.marks.Int.{Int}
use Rattle.lucy_tree.specs.declared.marks.Then.{Then}
use Rattle.lucy_tree.specs.declared.marks.Chain.{Chain}
use Rattle.lucy_tree.specs.declared.plans.Point.{Point}
use Rattle.lucy_tree.specs.declared.plans.Except.{Except}
use Rattle.lucy_tree.specs.declared.plans.Segment as tree
use Rattle.lucy_gather.specs.declared.error.ElabError.{ElabError}
use Rattle.lucy_gather.specs.declared.error.ElabError.TheVariants as error
use Rattle.lucy_gather.specs.declared.scopes.Scope.{Scope}
use Rattle.lucy_elaborate.specs.declared.txns.Found.{Found}
use Rattle.lucy_gather.specs.Steps.{Outcome, Step, ◌>>=◌, pure, refuse, lifted, then_of, or_refused, each, state_of}
use Rattle.lucy_gather.specs.Ranges.{allowed, start_of}
use Rattle.lucy_gather.specs.Conditions.{condition_of}
use Rattle.lucy_elaborate.specs.Txns.{text_of, found_by, counting}

-- ---- points

unfoldable pub with_number : ℤ → Step (List ℤ) (Unit {0})
with_number number = λ found. Ok (tt, found ++ number ∷ [])

-- the number of the next leaf; `at` is the place of the point
abbrev pub number_by : ℕ → Int → Option Leaf → Step (List ℤ) (Unit {0})
number_by at int None = refuse (error.Kind at)
number_by at int (Some leaf) = lifted (or_refused (error.Range (start_of int)) (allowed leaf int)) >>= λ number. with_number number

-- the state is the list of numbers so far
unfoldable pub number_in : List Leaf → ℕ → Int → Step (List ℤ) (Unit {0})
number_in leaves at int = λ found. number_by at int (slice_get leaves (length found)) found

abbrev pub later_numbers : List Leaf → ℕ → List (Then Int) → Step (List ℤ) (Unit {0})
later_numbers leaves at = each (λ t. number_in leaves at t.item)

unfoldable pub numbers_in : List Leaf → ℕ → Chain Int → Step (List ℤ) (Unit {0})
numbers_in leaves at chain = do
  _ ← number_in leaves at chain.first
  later_numbers leaves at chain.others

unfoldable pub numbers_of : List Leaf → ℕ → Chain Int → Result (List ℤ) ElabError
numbers_of leaves at chain = state_of (numbers_in leaves at chain [])

-- a point has one number for each leaf
unfoldable pub long_enough : List Leaf → Point → Result (Unit {0}) ElabError
long_enough leaves point =
    if length point.numbers.others + 1 == length leaves then Ok tt else Err (error.Kind point.open_paren.start)

-- one more point of a plan
unfoldable pub counted_point : Step ℕ (Unit {0})
counted_point = λ n. if nat_lt n most_points then Ok (tt, n + 1) else Err (error.Limit what.Points (most_points + 1))

-- the state is the number of points so far
unfoldable pub point_of : List Leaf → Point → Step ℕ (List ℤ)
point_of leaves point = do
  _ ← lifted (long_enough leaves point)
  _ ← counted_point
  lifted (numbers_of leaves point.open_paren.start point.numbers)

-- the points behind those that are found
abbrev pub later_points : List Leaf → List Point → List (List ℤ) → Step ℕ (List (List ℤ))
later_points leaves [] found = pure found
later_points leaves (p ∷ ps) found = point_of leaves p >>= λ numbers. later_points leaves ps (found ++ numbers ∷ [])

unfoldable pub points_of : List Leaf → Option Except → Step ℕ (List (List ℤ))
points_of leaves None = pure []
points_of leaves (Some e) = point_of leaves e.first >>= λ first. later_points leaves e.others (first ∷ [])

-- ---- the transactions that are listed

-- the place of the transaction with this name
abbrev pub place_from : ℕ → List ℕ → List Txn → Option ℕ
place_from from name [] = None
place_from from name (t ∷ ts) = if bytes_eq t.name name then Some from else place_from (from + 1) name ts

abbrev pub is_listed : ℕ → List ℕ → Bool
is_listed place found = list_any (λ p. p == place) found

abbrev pub listed_by : ℕ → Option ℕ → Step (List ℕ) (Unit {0})
listed_by at None = refuse (error.UnknownName at)
listed_by at (Some place) = λ found. if is_listed place found then Err (error.Twice at) else Ok (tt, found ++ place ∷ [])

-- the state is the list of places so far
unfoldable pub listed_in : List Txn → Name → Step (List ℕ) (Unit {0})
listed_in txns name = listed_by name.span.start (place_from 0 name.text txns)

abbrev pub all_listed : List Txn → List Name → Step (List ℕ) (Unit {0})
all_listed txns = each (listed_in txns)

unfoldable pub listed : List Txn → List Name → Result (List ℕ) ElabError
listed txns names = state_of (all_listed txns names [])

-- ---- segments

abbrev pub segment_by : List ℕ → Condition → List (List ℤ) → List ℕ → Segment
segment_by name condition excepts txns = record { name = name; condition = condition; excepts = excepts; txns = txns }

abbrev pub with_points : {A : Type 0} → Found → Outcome ℕ A → Outcome Found A
with_points found (Ok p) = Ok (p.0, found_by found.txns found.segments found.conditions p.1)
with_points found (Err e) = Err e

-- a step that counts points, among all that was found
abbrev pub pointing : {A : Type 0} → Step ℕ A → Step Found A
pointing p = λ found. with_points found (p found.points)

-- the 17th segment is one too many
unfoldable pub room_for_segment : Step Found (Unit {0})
room_for_segment = λ found. if nat_lt (length found.segments) most_segments then Ok (tt, found) else Err (error.Limit what.Segments (most_segments + 1))

abbrev pub is_segment_named : List ℕ → List Segment → Bool
is_segment_named name segments = list_any (λ segment. bytes_eq segment.name name) segments

unfoldable pub new_segment : Name → Step Found (Unit {0})
new_segment name = λ found. if is_segment_named name.text found.segments then Err (error.Twice name.span.start) else Ok (tt, found)

unfoldable pub with_segment : List ℕ → Condition → List (List ℤ) → List Name → Step Found (Unit {0})
with_segment name condition excepts names = λ found. then_of (listed found.txns names)
    (λ places. Ok (tt, found_by found.txns (found.segments ++ segment_by name condition excepts places ∷ []) found.conditions found.points))

unfoldable pub segment_in : Scope → tree.Segment → Step Found (Unit {0})
segment_in scope segment = do
  _ ← room_for_segment
  _ ← new_segment segment.name
  name ← lifted (text_of segment.name)
  condition ← counting (condition_of scope [] segment.cond)
  excepts ← pointing (points_of scope.leaves segment.except)
  with_segment name condition excepts segment.txns

abbrev pub segments_in : Scope → List tree.Segment → Step Found (Unit {0})
segments_in scope = each (segment_in scope)
