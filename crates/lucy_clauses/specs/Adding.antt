-- A multiple of ascending parts added to others, from the front, part by part.
use Rattle.std.specs.Prelude.{◌≡◌, ℕ, ◌+◌, ◌≤◌, Bool, true, false, nat_lt, nat_le, ◌==◌, ◌&&◌, if◌then◌else◌, ℤ, ◌*ℤ◌, List, [], ◌∷◌, ◌++◌, drop, length, Option, Some, None}
use Rattle.std.specs.List.{list_all}
use Rattle.lucy_clauses.specs.declared.parts.Part.{Part}
use Rattle.lucy_clauses.specs.Parts.{is_within, all_within, put_any}
use Rattle.lucy_clauses.specs.Lines.{multiple}

-- each part's variable is below v
abbrev pub all_below : ℕ → List Part → Bool
all_below v ps = list_all (λ (p : Part). nat_lt p.variable v) ps

-- the first part's variable, if there is one, is at least v
abbrev pub starts_at : ℕ → List Part → Bool
starts_at v [] = true
starts_at v (p ∷ ps) = nat_le v p.variable

-- the first part, if it is one of v
abbrev pub first_of : ℕ → List Part → Option Part
first_of v [] = None
first_of v (p ∷ ps) = if v == p.variable then Some p else None

-- the parts below v are moved behind those that are finished
pub record Keeps (v : ℕ) (parts old new : List Part) (place next : ℕ) : Type 0 where
  pub sum : new ++ drop next parts ≡ old ++ drop place parts
  pub below : all_below v old ≡ true → all_below v new ≡ true
  pub starts : starts_at v (drop next parts) ≡ true
  pub there : next ≤ length parts

-- a part is put to the parts that are finished and those that are left
pub record Places (q : Part) (parts old new : List Part) (place next : ℕ) : Type 0 where
  pub sum : new ++ drop next parts ≡ put_any q (old ++ drop place parts)
  pub within : all_within (put_any q (old ++ drop place parts)) ≡ true
  pub below : all_below (q.variable + 1) new ≡ true
  pub there : next ≤ length parts

-- the same, where the sum may pass the limit
abbrev pub IsPlaced : Part → List Part → List Part → List Part → ℕ → Option ℕ → Type 0
IsPlaced q parts old new place None = all_within (put_any q (old ++ drop place parts)) ≡ false
IsPlaced q parts old new place (Some next) = Places q parts old new place next

-- the same of m times a part, where the product may pass the limit
abbrev pub IsMultiplied : ℤ → Part → List Part → List Part → List Part → ℕ → Option ℕ → Type 0
IsMultiplied m q parts old new place None = (is_within (m *ℤ q.by) && all_within (put_any (multiple m q) (old ++ drop place parts))) ≡ false
IsMultiplied m q parts old new place (Some next) = (is_within (m *ℤ q.by) ≡ true) × Places (multiple m q) parts old new place next
