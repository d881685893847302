-- The normal conditions of a condition: one that holds where it does, and one that holds where it does not.
use Rattle.std.specs.Prelude.{ℕ, nat_lt, ◌+◌, Bool, true, false, not, ℤ, pos, ◌-ℤ◌, neg_ℤ, List, [], ◌∷◌, map}
use Rattle.std.specs.List.{list_all}
use Rattle.lucy_clauses.specs.declared.parts.Part.{Part}
use Rattle.lucy_clauses.specs.Sums.{negative_part}
use Rattle.lucy_model.specs.declared.terms.Share.{Share}
use Rattle.lucy_model.specs.declared.terms.Term.{Term}
use Rattle.lucy_model.specs.Opposites.{opposite}
use Rattle.lucy_model.specs.declared.conditions.Op.{Op}
use Rattle.lucy_model.specs.declared.conditions.Op.TheVariants as op
use Rattle.lucy_model.specs.declared.conditions.Condition.{Condition}
use Rattle.lucy_model.specs.declared.conditions.Condition.TheOpen.{Condition-F}
use Rattle.lucy_model.specs.declared.conditions.Condition.TheFolds.{fold-Condition}
use Rattle.lucy_normal.specs.declared.normals.Normal.{Normal, All, Any}
use Rattle.lucy_normal.specs.declared.normals.Normal.TheVariants.{Atom as Lone}
use Rattle.lucy_clauses.specs.Bounds.{part, at_most, at_least}
use Rattle.lucy_normal.specs.Linear.{linear}
use Rattle.lucy_normal.specs.Flat.{all_of, any_of}

-- the shares of leaves, where the first leaf's variable has the number `first`
abbrev pub placed : ℕ → Share → Part
placed first share = part (first + share.slot) share.by

abbrev pub placed_all : ℕ → List Share → List Part
placed_all first shares = map (placed first) shares

-- each slot is a leaf's
abbrev pub are_slots : ℕ → List Share → Bool
are_slots leaves shares = list_all (λ (share : Share). nat_lt share.slot leaves) shares

-- the term plus `more` is at most 0
abbrev pub below : ℕ → ℤ → Term → Normal
below first more term = linear (placed_all first term.leaves) (neg_ℤ term.constant -ℤ more)

-- `more` minus the term is at most 0
abbrev pub above : ℕ → ℤ → Term → Normal
above first more term = linear (map negative_part (placed_all first term.leaves)) (term.constant -ℤ more)

-- the term stands in a relation to 0
abbrev pub compared : ℕ → Term → Op → Normal
compared first term op.Le = below first (pos 0) term
compared first term op.Lt = below first (pos 1) term
compared first term op.Ge = above first (pos 0) term
compared first term op.Gt = above first (pos 1) term
compared first term op.Eq = all_of (below first (pos 0) term ∷ above first (pos 0) term ∷ [])
compared first term op.Ne = any_of (below first (pos 1) term ∷ above first (pos 1) term ∷ [])

-- what holds everywhere, for true, and nowhere, for false
abbrev pub constant : Bool → Normal
constant true = All []
constant false = Any []

-- a leaf is at least 1, for true, and it is not, for false
abbrev pub flag : ℕ → ℕ → Bool → Normal
flag first leaf true = Lone (at_least (first + leaf) (pos 1))
flag first leaf false = Lone (at_most (first + leaf) (pos 0))

-- a term stands in a relation to 0, for true, and it does not, for false
abbrev pub signed_comparison : ℕ → Term → Op → Bool → Normal
signed_comparison first term op true = compared first term op
signed_comparison first term op false = compared first term (opposite op)

-- the normal condition that holds where a condition does, for true, and where it does not, for false
abbrev pub Sided : Type 0
Sided = Bool → Normal

abbrev pub side : Bool → List Sided → List Normal
side positive parts = map (λ (p : Sided). p positive) parts

abbrev pub normal_step : ℕ → Condition-F Sided → Sided
normal_step first Condition-F.True positive = constant positive
normal_step first Condition-F.False positive = constant (not positive)
normal_step first (Condition-F.Compare term op) positive = signed_comparison first term op positive
normal_step first (Condition-F.Is leaf) positive = flag first leaf positive
normal_step first (Condition-F.Not c) positive = c (not positive)
normal_step first (Condition-F.And cs) true = all_of (side true cs)
normal_step first (Condition-F.And cs) false = any_of (side false cs)
normal_step first (Condition-F.Or cs) true = any_of (side true cs)
normal_step first (Condition-F.Or cs) false = all_of (side false cs)
normal_step first (Condition-F.Implies c d) true = any_of (c false ∷ d true ∷ [])
normal_step first (Condition-F.Implies c d) false = all_of (c true ∷ d false ∷ [])

-- of a condition on the state whose first leaf's variable has the number `first`
abbrev pub normal_of : ℕ → Condition → Sided
normal_of first = fold-Condition Sided (normal_step first)
