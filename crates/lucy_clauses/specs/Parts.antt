-- Parts gathered by variable.
use Rattle.std.specs.Prelude.{ℕ, Bool, true, false, nat_lt, nat_le, ◌+◌, ◌==◌, ◌&&◌, not, ◌^◌, ℤ, pos, ◌+ℤ◌, unsigned_abs, List, [], ◌∷◌, if◌then◌else◌}
use Rattle.std.specs.Ordering.{int_eq}
use Rattle.std.specs.List.{list_all}
use Rattle.lucy_clauses.specs.declared.parts.Part.{Part}

-- the limit of numbers in a certificate and in its checking
abbrev pub is_within : ℤ → Bool
is_within x = nat_le (unsigned_abs x) (2 ^ 126)

abbrev pub all_within : List Part → Bool
all_within ps = list_all (λ (p : Part). is_within p.by) ps

abbrev pub is_zero : Part → Bool
is_zero p = int_eq p.by (pos 0)

abbrev pub sum_part : Part → Part → Part
sum_part p q = record { variable = q.variable; by = p.by +ℤ q.by }

-- the parts behind another part, which is left out where its factor is 0
abbrev pub grown : Part → List Part → List Part
grown p ps = if is_zero p then ps else (p ∷ ps)

-- parts in ascending order of variables, and one more that is not 0
abbrev pub put : Part → List Part → List Part
put q [] = q ∷ []
put q (p ∷ ps) = if nat_lt q.variable p.variable then (q ∷ p ∷ ps) else (if q.variable == p.variable then grown (sum_part p q) ps else (p ∷ put q ps))

-- the same for any part
abbrev pub put_any : Part → List Part → List Part
put_any q ps = if is_zero q then ps else put q ps

-- parts with others put in, in the order of these
abbrev pub gathered_onto : List Part → List Part → List Part
gathered_onto sum [] = sum
gathered_onto sum (p ∷ ps) = gathered_onto (put_any p sum) ps

-- equal variables summed up, zero factors left out, variables ascending
abbrev pub gathered : List Part → List Part
gathered ps = gathered_onto [] ps

-- each sum of equal variables stays within the limit while the parts are put in one by one
abbrev pub stays_within : List Part → List Part → Bool
stays_within sum [] = true
stays_within sum (p ∷ ps) = all_within (put_any p sum) && stays_within (put_any p sum) ps

abbrev pub is_empty : List Part → Bool
is_empty [] = true
is_empty (p ∷ ps) = false

-- each part's variable is above v
abbrev pub above : ℕ → List Part → Bool
above v ps = list_all (λ (p : Part). nat_lt v p.variable) ps

abbrev pub ascends : List Part → Bool
ascends [] = true
ascends (p ∷ ps) = above p.variable ps && ascends ps

abbrev pub none_zero : List Part → Bool
none_zero ps = list_all (λ (p : Part). not (is_zero p)) ps

-- the sizes of the factors together
abbrev pub total_size : List Part → ℕ
total_size [] = 0
total_size (p ∷ ps) = unsigned_abs p.by + total_size ps
