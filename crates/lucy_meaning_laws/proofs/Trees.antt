-- What holds of each condition of a tree, by its parts.
use Rattle.std.proofs.Common.{◌≡◌, Bool, List, Option, sym, subst}
use Rattle.lucy_tree.specs.declared.marks.Then.{Then}
use Rattle.lucy_tree.specs.declared.marks.Chain.{Chain}
use Rattle.lucy_tree.specs.declared.conditions.Cond.{Cond, roll-Cond, map-Cond}
use Rattle.lucy_tree.specs.declared.conditions.Unary.{Unary, roll-Unary, map-Unary}
use Rattle.lucy_tree.specs.declared.conditions.Unary.TheOpen.{Unary-F, Cond-F}
use Rattle.lucy_tree.specs.declared.conditions.Unary.TheFolds.{fold-Unary, fold-Cond, fold-roll-Unary, fold-roll-Cond, ind-Cond}
use Rattle.lucy_gather.specs.declared.scopes.Entry.{Entry}
use Rattle.lucy_gather.specs.declared.scopes.Scope.{Scope}
use Rattle.lucy_gather.specs.Conditions.{Counted, unary_step, cond_step, unary_of, condition_of}

-- a test of trees, and what is to hold of what gathers a tree and of its test
module _ (scope : Scope) (params : List Entry) (unary_test : Unary-F Bool Bool → Bool) (cond_test : Cond-F Bool Bool → Bool) (Fits : Counted → Bool → Type 0) where
  abbrev part_test : Unary → Bool
  part_test = fold-Unary Bool Bool unary_test cond_test

  abbrev whole_test : Cond → Bool
  whole_test = fold-Cond Bool Bool unary_test cond_test

  -- a part of which it holds, and a condition
  abbrev pub FitPart : Type 0
  FitPart = (u : Unary) × Fits (unary_of scope params u) (part_test u)

  abbrev pub FitWhole : Type 0
  FitWhole = (c : Cond) × Fits (condition_of scope params c) (whole_test c)

  abbrev bare_part : Unary-F FitPart FitWhole → Unary-F Unary Cond
  bare_part = map-Unary FitPart FitWhole Unary Cond (λ e. e.0) (λ e. e.0)

  abbrev bare_whole : Cond-F FitPart FitWhole → Cond-F Unary Cond
  bare_whole = map-Cond FitPart FitWhole Unary Cond (λ e. e.0) (λ e. e.0)

  -- it holds of a layer, where it holds of what is inside
  abbrev pub PartsFit : Type 0
  PartsFit = (y : Unary-F FitPart FitWhole)
      → Fits (unary_step scope params (map-Unary Unary Cond Counted Counted (unary_of scope params) (condition_of scope params) (bare_part y)))
      (unary_test (map-Unary Unary Cond Bool Bool part_test whole_test (bare_part y)))

  abbrev pub WholesFit : Type 0
  WholesFit = (left : Chain (Chain FitPart)) (right : Option (Then FitWhole))
      → Fits (cond_step scope params (map-Cond Unary Cond Counted Counted (unary_of scope params) (condition_of scope params) (bare_whole (record { left = left; implied = right }))))
      (cond_test (map-Cond Unary Cond Bool Bool part_test whole_test (bare_whole (record { left = left; implied = right }))))

  over : {p q : Counted} {b c : Bool} → p ≡ q → b ≡ c → Fits q c → Fits p b
  over {q = q} {b = b} e f h = subst (λ (r : Counted). Fits r b) (sym e) (subst (λ t. Fits q t) (sym f) h)

  pub about : PartsFit → WholesFit → (c : Cond) → Fits (condition_of scope params c) (whole_test c)
  about parts wholes =
      ind-Cond (λ u. Fits (unary_of scope params u) (part_test u)) (λ c. Fits (condition_of scope params c) (whole_test c))
      (λ x y e. subst (λ z. Fits (unary_of scope params (roll-Unary z)) (part_test (roll-Unary z))) e
      (over (fold-roll-Unary Counted Counted (unary_step scope params) (cond_step scope params) (bare_part y)) (fold-roll-Unary Bool Bool unary_test cond_test (bare_part y)) (parts y)))
      (λ x y e. subst (λ z. Fits (condition_of scope params (roll-Cond z)) (whole_test (roll-Cond z))) e
      (over (fold-roll-Cond Counted Counted (unary_step scope params) (cond_step scope params) (bare_whole y)) (fold-roll-Cond Bool Bool unary_test cond_test (bare_whole y)) (wholes y.left y.implied)))
