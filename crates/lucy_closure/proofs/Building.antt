-- The formulas as the code builds them.
use Rattle.std.proofs.Common.{◌≡◌, ℕ, ◌+◌, false, ℤ, List, length, ap, ◌∙◌}
use Rattle.lucy_clauses.specs.declared.formulas.Formula.{Formula}
use Rattle.lucy_model.specs.declared.leaves.Leaf.{Leaf}
use Rattle.lucy_model.specs.declared.conditions.Condition.TheVariants.{True}
use Rattle.lucy_plan.specs.declared.parts.Segment.{Segment}
use Rattle.lucy_plan.specs.declared.parts.PlanParts.{PlanParts}
use Rattle.lucy_normal.specs.declared.normals.Normal.{Normal}
use Rattle.lucy_normal.specs.Normals.{normal_of}
use Rattle.lucy_closure.specs.Formulas.{outside, pair_formula, segment_formula, whole_closure}

pub segment_is : (plan : PlanParts) (s : Segment) (object : List Leaf) (points : List (List ℤ)) (first : ℕ) (last : Normal) (f : Formula) → object ≡ plan.object → points ≡ s.excepts → first ≡ length object + length object →
    last ≡ outside first plan.invariant s.condition points → f ≡ pair_formula object plan.invariant s.condition points last → f ≡ segment_formula plan s
segment_is plan s object points first last f o p n l e =
    e ∙ ap (λ x. pair_formula object plan.invariant s.condition points x) (l ∙ ap (λ v. outside v plan.invariant s.condition points) n)
    ∙ ap (λ os. pair_formula os plan.invariant s.condition points (outside (length os + length os) plan.invariant s.condition points)) o
    ∙ ap (λ ps. pair_formula plan.object plan.invariant s.condition ps (outside (length plan.object + length plan.object) plan.invariant s.condition ps)) p

pub whole_is : (plan : PlanParts) (points : List (List ℤ)) (object : List Leaf) (first : ℕ) (last : Normal) (f : Formula) → object ≡ plan.object → first ≡ length object + length object →
    last ≡ normal_of first plan.invariant false → f ≡ pair_formula object plan.invariant True points last → f ≡ whole_closure plan points
whole_is plan points object first last f o n l e =
    e ∙ ap (λ x. pair_formula object plan.invariant True points x) (l ∙ ap (λ v. normal_of v plan.invariant false) n)
    ∙ ap (λ os. pair_formula os plan.invariant True points (normal_of (length os + length os) plan.invariant false)) o
