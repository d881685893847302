-- Leaves and limits, as their constructors give them.
use Rattle.std.proofs.Common.{◌≡◌, ◌^◌, ℤ, pos, neg_ℤ, int_le, ◌≤ℤ◌, T, Bool, true, false, Option, Some, None, IsSome, IfSome, ◌↔◌, refl, sym, ap, ◌∙◌, SFits, w64, to_z, of_z}
use Rattle.std.proofs.lemmas.Int.{to_z-of_z}
use Rattle.lucy_model.specs.declared.leaves.Kind.{Kind}
use Rattle.lucy_model.specs.declared.leaves.Leaf.{Leaf}
use Rattle.lucy_plan.specs.declared.parts.Limits.{Limits}
use Rattle.lucy_gather.specs.Ranges.{Ranged, on_true, on_range, a_leaf, a_limits, leaf_of, limits_of}

abbrev pub Fits : ℤ → ℤ → Type 0
Fits lo hi = (neg_ℤ (pos (2 ^ 40)) ≤ℤ lo) × (lo ≤ℤ hi) × (hi ≤ℤ pos (2 ^ 40))

on_true_yes : {A : Type 0} (t : Bool) (make : T t → Option A) (h : T t) → on_true t make ≡ make h
on_true_yes true make h = refl
on_true_yes false make h = absurd h

on_true_no : {A : Type 0} (t : Bool) (make : T t → Option A) → ((h : T t) → make h ≡ None) → on_true t make ≡ None
on_true_no true make none = none tt
on_true_no false make none = refl

module _ {A : Type 0} (make : Ranged A) where
  on_range_yes : (lo hi : ℤ) (low : neg_ℤ (pos (2 ^ 40)) ≤ℤ lo) (ordered : lo ≤ℤ hi) (high : hi ≤ℤ pos (2 ^ 40)) → on_range make lo hi ≡ Some (make lo hi low ordered high)
  on_range_yes lo hi low ordered high =
      on_true_yes (int_le (neg_ℤ (pos (2 ^ 40))) lo) _ low.le ∙ on_true_yes (int_le lo hi) _ ordered.le ∙ on_true_yes (int_le hi (pos (2 ^ 40))) _ high.le

  on_range_no : (lo hi : ℤ) → (Fits lo hi → ⊥) → on_range make lo hi ≡ None
  on_range_no lo hi out =
      on_true_no (int_le (neg_ℤ (pos (2 ^ 40))) lo) _ (λ low. on_true_no (int_le lo hi) _ (λ ordered. on_true_no (int_le hi (pos (2 ^ 40))) _ (λ high. absurd (out (record { le = low }, record { le = ordered }, record { le = high })))))

-- what is made of two numbers of 64 bits
pub at_numbers : {A : Type 0} (make : ℤ → ℤ → A) (made : A) (lo hi : ℤ) → SFits w64 lo → SFits w64 hi → made ≡ make (to_z w64 (of_z w64 lo)) (to_z w64 (of_z w64 hi)) → made ≡ make lo hi
at_numbers make made lo hi lo_fits hi_fits is = is ∙ ap (λ (z : ℤ). make z (to_z w64 (of_z w64 hi))) (to_z-of_z w64 lo lo_fits) ∙ ap (make lo) (to_z-of_z w64 hi hi_fits)

pub leaf_is : (kind : Kind) (lo hi : ℤ) (made : Option Leaf) → (IsSome made ↔ Fits lo hi) → IfSome made (λ leaf. (leaf.kind ≡ kind) × (leaf.lo ≡ lo) × (leaf.hi ≡ hi)) → made ≡ leaf_of kind lo hi
unfolding leaf_of
leaf_is kind lo hi None some value = sym (on_range_no (a_leaf kind) lo hi (λ fits. let e : false ≡ true = some.1 fits in cc))
leaf_is kind lo hi (Some leaf) some value = rw (← value.0, ← value.1, ← value.2) (sym (on_range_yes (a_leaf leaf.kind) leaf.lo leaf.hi leaf.low leaf.ordered leaf.high))

pub limits_is : (lo hi : ℤ) (made : Option Limits) → (IsSome made ↔ Fits lo hi) → IfSome made (λ l. (l.lo ≡ lo) × (l.hi ≡ hi)) → made ≡ limits_of lo hi
unfolding limits_of
limits_is lo hi None some value = sym (on_range_no a_limits lo hi (λ fits. let e : false ≡ true = some.1 fits in cc))
limits_is lo hi (Some l) some value = rw (← value.0, ← value.1) (sym (on_range_yes a_limits l.lo l.hi l.low l.ordered l.high))
