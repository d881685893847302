use Rattle.std.proofs.Common.{◌↔◌, sym, ap, ◌∙◌, subst}
use Rattle.lucy_clauses.specs.declared.formulas.Formula.{Formula}
use Rattle.lucy_clauses.specs.Formulas.{is_narrow, HasNoModel}
use Rattle.lucy_plan.specs.Plans.{IsPlan}
use Rattle.lucy_closure.specs.Formulas as formulas
use Rattle.lucy_closure.specs.Meanings.{IsWholeClosedOff}
use Rattle.lucy_closure.proofs.Closures.{whole_says}
use Rattle.lucy_closure.proofs.Narrow.{whole_narrow}
use Rattle.lucy_closure.proofs.formulas.whole_closure.Goals as goal

pub returns : goal.returns
returns c =
    let is = c.in_ok-formula.ensures.formula ∙ ap (λ p. formulas.whole_closure p c.args.points.now) c.parts.ensures.parts in
    let kept = subst IsPlan c.parts.ensures.parts c.parts.ensures.kept in
    record {
      formula = is;
      narrow = ap is_narrow is ∙ whole_narrow c.args.plan.now c.args.points.now kept c.requires c.in_ok-formula.ensures.numbers;
      says = subst (λ (f : Formula). HasNoModel f ↔ IsWholeClosedOff c.args.plan.now c.args.points.now) (sym is) (whole_says c.args.plan.now c.args.points.now kept c.requires);
    }
