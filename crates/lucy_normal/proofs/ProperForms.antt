-- No normal condition of a condition is a list of one part alone.
use Rattle.std.proofs.Common.{◌≡◌, ℕ, ◌+◌, Bool, true, false, not, ℤ, pos, ◌-ℤ◌, neg_ℤ, int_le, List, [], ◌∷◌, map, sym, subst, if◌then◌else◌}
use Rattle.lucy_clauses.specs.declared.parts.Part.{Part as Summand}
use Rattle.lucy_clauses.specs.Parts.{gathered}
use Rattle.lucy_clauses.specs.Sums.{negative_part}
use Rattle.lucy_model.specs.declared.terms.Term.{Term}
use Rattle.lucy_model.specs.declared.conditions.Op.{Op}
use Rattle.lucy_model.specs.declared.conditions.Op.TheVariants as op
use Rattle.lucy_model.specs.declared.conditions.Condition.{Condition}
use Rattle.lucy_model.specs.declared.conditions.Condition.TheOpen.{Condition-F}
use Rattle.lucy_model.specs.declared.conditions.Condition.TheFolds.{fold-roll-Condition, ind-Condition, map-Condition}
use Rattle.lucy_normal.specs.declared.joints.Joint.{Joint}
use Rattle.lucy_normal.specs.declared.joints.Joint.TheVariants as joint
use Rattle.lucy_normal.specs.declared.normals.Normal.{Normal, All, Any}
use Rattle.lucy_clauses.specs.Bounds.{at_least, at_most}
use Rattle.lucy_clauses.specs.Dividing.{common_divisor, divided_by}
use Rattle.lucy_normal.specs.Linear.{linear, bounded}
use Rattle.lucy_normal.specs.Joints.{within, flat, one, joined}
use Rattle.lucy_model.specs.Opposites.{opposite}
use Rattle.lucy_normal.specs.Normals.{Sided, side, normal_step, normal_of, placed_all, constant, below, above, compared}
use Rattle.lucy_normal.proofs.Joins.{IsProper, AreProper, lone_proper, none_proper, never_proper, joined_is, one_within}

decided : (b : Bool) → IsProper (if b then All [] else Any [])
decided true = none_proper
decided false = never_proper

bounded_proper : (ps : List Summand) (bound : ℤ) → IsProper (bounded ps bound)
bounded_proper [] bound = decided (int_le (pos 0) bound)
bounded_proper (p ∷ ps) bound = lone_proper (divided_by (common_divisor 0 (p ∷ ps)) (p ∷ ps) bound)

linear_proper : (ps : List Summand) (bound : ℤ) → IsProper (linear ps bound)
linear_proper ps bound = bounded_proper (gathered ps) bound

below_proper : (first : ℕ) (more : ℤ) (term : Term) → IsProper (below first more term)
below_proper first more term = linear_proper (placed_all first term.leaves) (neg_ℤ term.constant -ℤ more)

above_proper : (first : ℕ) (more : ℤ) (term : Term) → IsProper (above first more term)
above_proper first more term = linear_proper (map negative_part (placed_all first term.leaves)) (term.constant -ℤ more)

two_proper : (j : Joint) (p q : Normal) → IsProper p → IsProper q → IsProper (joined j (p ∷ q ∷ []))
two_proper j p q h k = (joined_is j (p ∷ q ∷ []) (h, (k, tt))).0

compared_proper : (first : ℕ) (term : Term) (o : Op) → IsProper (compared first term o)
compared_proper first term op.Le = below_proper first (pos 0) term
compared_proper first term op.Lt = below_proper first (pos 1) term
compared_proper first term op.Ge = above_proper first (pos 0) term
compared_proper first term op.Gt = above_proper first (pos 1) term
compared_proper first term op.Eq = two_proper joint.All (below first (pos 0) term) (above first (pos 0) term) (below_proper first (pos 0) term) (above_proper first (pos 0) term)
compared_proper first term op.Ne = two_proper joint.Any (below first (pos 1) term) (above first (pos 1) term) (below_proper first (pos 1) term) (above_proper first (pos 1) term)

-- both sides of a condition are no lists of one part
pub record AreSides (c : Sided) : Type 0 where
  pub is : (s : Bool) → IsProper (c s)

by_sign : (c : Sided) → IsProper (c true) → IsProper (c false) → AreSides c
by_sign c e f = record { is = is }
  where
    is : (s : Bool) → IsProper (c s)
    is true = e
    is false = f

constant_proper : (s : Bool) → IsProper (constant s)
constant_proper true = none_proper
constant_proper false = never_proper

abbrev Part : ℕ → Type 0
Part first = (c : Condition) × AreSides (normal_of first c)

abbrev conditions : (first : ℕ) → List (Part first) → List Condition
conditions first ys = map (λ (e : Part first). e.0) ys

sides : (first : ℕ) (s : Bool) (ys : List (Part first)) → AreProper (side s (map (normal_of first) (conditions first ys)))
sides first s [] = tt
sides first s (y ∷ ys) = (y.1.is s, sides first s ys)

made : (first : ℕ) (y : Condition-F (Part first)) → AreSides (normal_step first (map-Condition Condition Sided (normal_of first) (map-Condition (Part first) Condition (λ e. e.0) y)))
made first Condition-F.True = record { is = constant_proper }
made first Condition-F.False = record { is = λ s. constant_proper (not s) }
made first (Condition-F.Compare term o) = by_sign (normal_step first (Condition-F.Compare term o)) (compared_proper first term o) (compared_proper first term (opposite o))
made first (Condition-F.Is leaf) = by_sign (normal_step first (Condition-F.Is leaf)) (lone_proper (at_least (first + leaf) (pos 1))) (lone_proper (at_most (first + leaf) (pos 0)))
made first (Condition-F.Not y) = record { is = λ s. y.1.is (not s) }
made first (Condition-F.And ys) =
    by_sign (normal_step first (Condition-F.And (map (normal_of first) (conditions first ys))))
    (joined_is joint.All (side true (map (normal_of first) (conditions first ys))) (sides first true ys)).0
    (joined_is joint.Any (side false (map (normal_of first) (conditions first ys))) (sides first false ys)).0
made first (Condition-F.Or ys) =
    by_sign (normal_step first (Condition-F.Or (map (normal_of first) (conditions first ys))))
    (joined_is joint.Any (side true (map (normal_of first) (conditions first ys))) (sides first true ys)).0
    (joined_is joint.All (side false (map (normal_of first) (conditions first ys))) (sides first false ys)).0
made first (Condition-F.Implies y z) =
    by_sign (normal_step first (Condition-F.Implies (normal_of first y.0) (normal_of first z.0)))
    (two_proper joint.Any (normal_of first y.0 false) (normal_of first z.0 true) (y.1.is false) (z.1.is true))
    (two_proper joint.All (normal_of first y.0 true) (normal_of first z.0 false) (y.1.is true) (z.1.is false))

proper : (first : ℕ) (c : Condition) → AreSides (normal_of first c)
proper first = ind-Condition (λ (c : Condition). AreSides (normal_of first c)) (λ x y e.
    subst (λ (m : Sided). AreSides m) (sym (fold-roll-Condition Sided (normal_step first) x))
    (subst (λ (z : Condition-F Condition). AreSides (normal_step first (map-Condition Condition Sided (normal_of first) z))) e (made first y)))

all_proper : (first : ℕ) (s : Bool) (cs : List Condition) → AreProper (side s (map (normal_of first) cs))
all_proper first s [] = tt
all_proper first s (c ∷ cs) = ((proper first c).is s, all_proper first s cs)

-- the parts of what joins the sides of several conditions are those of the sides
pub list_parts : (first : ℕ) (s : Bool) (j : Joint) (cs : List Condition) → within j (joined j (side s (map (normal_of first) cs))) ≡ flat j (side s (map (normal_of first) cs))
list_parts first s j cs = (joined_is j (side s (map (normal_of first) cs)) (all_proper first s cs)).1

-- and of two
pub two_parts : (first : ℕ) (s t : Bool) (j : Joint) (c d : Condition) → within j (joined j (normal_of first c s ∷ normal_of first d t ∷ [])) ≡ flat j (normal_of first c s ∷ normal_of first d t ∷ [])
two_parts first s t j c d = (joined_is j (normal_of first c s ∷ normal_of first d t ∷ []) ((proper first c).is s, ((proper first d).is t, tt))).1

-- what joins one side alone is that side
pub side_is : (first : ℕ) (j : Joint) (s : Bool) (c : Condition) → one j (within j (normal_of first c s)) ≡ normal_of first c s
side_is first j s c = one_within j (normal_of first c s) ((proper first c).is s)
