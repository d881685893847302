-- Sums of variables with factors, and inequalities.
use Rattle.std.specs.Prelude.{ℕ, Bool, int_le, ℤ, pos, neg_ℤ, ◌+ℤ◌, ◌-ℤ◌, ◌*ℤ◌, List, [], ◌∷◌, map, slice_index_or}
use Rattle.lucy_clauses.specs.declared.parts.Part.{Part}

-- the inequality `sum of the parts <= bound`
pub record Form : Type 0 where
  pub parts : List Part
  pub bound : ℤ

abbrev pub form : List Part → ℤ → Form
form ps b = record { parts = ps; bound = b }

-- an assignment gives each variable the number at its place, and 0 past its end
abbrev pub number_at : List ℤ → ℕ → ℤ
number_at xs i = slice_index_or xs i (pos 0)

abbrev pub sum_at : List Part → List ℤ → ℤ
sum_at [] a = pos 0
sum_at (p ∷ ps) a = p.by *ℤ number_at a p.variable +ℤ sum_at ps a

-- the inequality holds in the assignment
abbrev pub is_true : List ℤ → Form → Bool
is_true a t = int_le (sum_at t.parts a) t.bound

abbrev pub negative_part : Part → Part
negative_part p = record { variable = p.variable; by = neg_ℤ p.by }

-- the inequality that holds where another does not: its factors are negative, its bound is `-bound - 1`
abbrev pub complement : Form → Form
complement t = form (map negative_part t.parts) (neg_ℤ t.bound -ℤ pos 1)

-- k times a part
abbrev pub scaled : ℕ → Part → Part
scaled k p = record { variable = p.variable; by = pos k *ℤ p.by }
