use Rattle.std.proofs.Common.{subst, sym}
use Rattle.std.proofs.lemmas.Result.{IfOk-weaker}
use Rattle.lucy_model.specs.Negations.{IsNegation}
use Rattle.lucy_model.specs.declared.conditions.Condition.{Condition}
use Rattle.lucy_model.proofs.Negating.{negation-And, negation-Or, negation-Implies, negations_more}
use Rattle.lucy_model.proofs.negation.+negating.Goals as goal

pub negate-returns-in_ok-parts-in-And : goal.negate-returns-in_ok-parts-in-And
negate-returns-in_ok-parts-in-And t c =
    negation-And c.args.condition.now c.in_ok-parts-in-And.parts c.in-And.parts c.in-And.is (rw c.as_slice.ensures at c.in_ok-parts-in-And.ensures)

pub negate-returns-in_ok-parts-in-Or : goal.negate-returns-in_ok-parts-in-Or
negate-returns-in_ok-parts-in-Or t c =
    negation-Or c.args.condition.now c.in_ok-parts-in-Or.parts c.in-Or.parts c.in-Or.is (rw c.as_slice-in-Or.ensures at c.in_ok-parts-in-Or.ensures)

pub negations-loop-part-preserved : goal.negations-loop-part-preserved
negations-loop-part-preserved t c =
    rw c.in_ok-push.ensures.ok (negations_more _ _ _ _ _ c.loop-part-test.true c.part-item.is c.loop-part.invariant c.in_ok-negation.ensures)

pub negate-returns-in_ok-right-in-Implies : goal.negate-returns-in_ok-right-in-Implies
negate-returns-in_ok-right-in-Implies t c =
    let copy = rw c.get-in-Implies.ensures at c.in_ok-left-in-Implies.ensures in
    let negates = rw c.get-in-Implies-2.ensures at c.in_ok-right-in-Implies.ensures in
    let made = rw copy at c.both.ensures in
    IfOk-weaker _ _ (λ n. IsNegation n c.args.condition.now)
    (λ n e. let P : Condition → Type 0 = λ v. IsNegation v c.args.condition.now in subst P (sym e) (negation-Implies c.args.condition.now c.in-Implies.left c.in-Implies.right c.in_ok-right-in-Implies.right c.in-Implies.is negates))
    made
