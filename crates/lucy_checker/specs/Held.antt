-- The clauses that steps added and that are not dropped.
use Rattle.std.specs.Prelude.{◌≡◌, ℕ, ◌+◌, nat_lt, ◌==◌, Bool, true, List, [], ◌∷◌, ◌++◌, length, Option, Some, None, if◌then◌else◌}
use Rattle.std.specs.List.{list_all}
use Rattle.lucy_clauses.specs.declared.formulas.Clause.{Clause}
use Rattle.lucy_cert.specs.Numbers.{ascend_from}

-- clauses with their numbers, and the number that the next clause gets
pub record Kept : Type 0 where
  pub next : ℕ
  pub numbers : List ℕ
  pub clauses : List Clause

-- the clause of a number
abbrev pub named : List ℕ → List Clause → ℕ → Option Clause
named [] cs n = None
named (m ∷ ms) [] n = None
named (m ∷ ms) (c ∷ cs) n = if n == m then Some c else named ms cs n

-- the numbers without one
abbrev pub other_numbers : ℕ → List ℕ → List ℕ
other_numbers n [] = []
other_numbers n (m ∷ ms) = if n == m then ms else (m ∷ other_numbers n ms)

-- the clauses without that of a number
abbrev pub other_clauses : ℕ → List ℕ → List Clause → List Clause
other_clauses n [] cs = cs
other_clauses n (m ∷ ms) [] = []
other_clauses n (m ∷ ms) (c ∷ cs) = if n == m then cs else (c ∷ other_clauses n ms cs)

abbrev pub kept_with : Kept → Clause → Kept
kept_with k c = record { next = k.next + 1; numbers = k.numbers ++ k.next ∷ []; clauses = k.clauses ++ c ∷ [] }

abbrev pub kept_without : Kept → ℕ → Kept
kept_without k n = record { next = k.next; numbers = other_numbers n k.numbers; clauses = other_clauses n k.numbers k.clauses }

-- each number is above the one before it
abbrev pub ascends : List ℕ → Bool
ascends [] = true
ascends (m ∷ ms) = ascend_from m ms

abbrev pub all_below : ℕ → List ℕ → Bool
all_below n ms = list_all (λ m. nat_lt m n) ms

-- the numbers ascend, are below the next one, and are as many as the clauses
pub record IsKept (next : ℕ) (numbers : List ℕ) (clauses : List Clause) : Type 0 where
  pub ascending : ascends numbers ≡ true
  pub below : all_below next numbers ≡ true
  pub same : length numbers ≡ length clauses
