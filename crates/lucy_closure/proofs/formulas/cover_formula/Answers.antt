use Rattle.std.proofs.Common.{◌↔◌, sym, ap, ◌∙◌, subst}
use Rattle.lucy_clauses.specs.declared.formulas.Formula.{Formula}
use Rattle.lucy_clauses.specs.Formulas.{is_narrow, HasNoModel}
use Rattle.lucy_plan.specs.Plans.{IsPlan}
use Rattle.lucy_closure.specs.Formulas as formulas
use Rattle.lucy_plan.specs.Soundness.{IsCovered}
use Rattle.lucy_closure.proofs.Covers.{cover_says}
use Rattle.lucy_closure.proofs.Narrow.{cover_narrow}
use Rattle.lucy_closure.proofs.formulas.cover_formula.Goals as goal

pub returns : goal.returns
returns c =
    let is = c.in_ok-formula.ensures ∙ ap formulas.cover_formula c.parts.ensures.parts in
    let kept = subst IsPlan c.parts.ensures.parts c.parts.ensures.kept in
    record {
      formula = is;
      narrow = ap is_narrow is ∙ cover_narrow c.args.plan.now kept;
      says = subst (λ (f : Formula). HasNoModel f ↔ IsCovered c.args.plan.now) (sym is) (cover_says c.args.plan.now kept);
    }
