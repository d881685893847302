use Rattle.std.proofs.Common.{◌↔◌, sym, ap, ◌∙◌, subst}
use Rattle.lucy_clauses.specs.declared.formulas.Formula.{Formula}
use Rattle.lucy_clauses.specs.Formulas.{is_narrow, HasNoModel}
use Rattle.lucy_plan.specs.Plans.{IsPlan}
use Rattle.lucy_plan.specs.Segments.{is_in_segment}
use Rattle.lucy_plan.specs.Soundness.{IsMergeClosed}
use Rattle.lucy_closure.specs.Formulas as formulas
use Rattle.lucy_closure.proofs.Closures.{closure_says}
use Rattle.lucy_closure.proofs.Narrow.{closure_narrow}
use Rattle.lucy_closure.proofs.formulas.closure_formula.Goals as goal

pub returns : goal.returns
returns c =
    let is = c.in_ok-formula.ensures ∙ ap (λ p. formulas.closure_formula p c.args.segment) c.parts.ensures.parts in
    let kept = subst IsPlan c.parts.ensures.parts c.parts.ensures.kept in
    record {
      formula = is;
      narrow = ap is_narrow is ∙ closure_narrow c.args.plan.now c.args.segment kept;
      says = subst (λ (f : Formula). HasNoModel f ↔ IsMergeClosed c.args.plan.now.object (is_in_segment c.args.plan.now c.args.segment)) (sym is) (closure_says c.args.plan.now c.args.segment kept c.requires);
    }
