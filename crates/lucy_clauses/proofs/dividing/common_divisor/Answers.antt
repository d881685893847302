use Rattle.std.proofs.Common.{◌+◌, ℕ, drop, get_or, pos, subst, sym, List, rules}
use Rattle.std.proofs.lemmas.List.{drop_all}
use Rattle.std.proofs.lemmas.Int.{to_z-of_z}
use Rattle.std.specs.Int.{IsGcd}
use mir.Syntax.{w128}
use mir.Val.{SFits}
use Rattle.lucy_clauses.specs.declared.parts.Part.{Part}
use Rattle.lucy_clauses.proofs.Divisors.{Reaches, reaches_step, reaches_end, reaches_one, reaches_common}
use Rattle.lucy_clauses.proofs.Mapping.{drop-at}
use Rattle.lucy_clauses.proofs.dividing.common_divisor.Goals as goal

pub loop-part-preserved : goal.loop-part-preserved
loop-part-preserved c =
    let nil : Part = record { variable = 0; by = pos 0 } in
    let i = c.loop-part.part-index in
    let ps = c.args.parts.now in
    let part = get_or ps i nil in
    let fits : SFits w128 part.by = search rules in
    let size = simp to_z-of_z at c.unsigned_abs.ensures.value in
    let step = subst (λ (n : ℕ). IsGcd c.loop-part.common n c.gcd-common.result) size c.gcd-common.ensures in
    λ g reached. c.loop-part.invariant g (subst (λ (qs : List Part). Reaches c.loop-part.common qs g) (sym (drop-at ps i nil c.loop-part-test.true)) (reaches_step c.loop-part.common c.gcd-common.result g part (drop (i + 1) ps) step reached))

pub returns : goal.returns
returns c =
    let ps = c.args.parts.now in
    reaches_common ps c.loop-part.common (c.loop-part.invariant c.loop-part.common
    (subst (λ (qs : List Part). Reaches c.loop-part.common qs c.loop-part.common) (sym (drop_all c.loop-part.part-index ps c.loop-part-test.false)) (reaches_end c.loop-part.common)))

pub returns-then-common-eq1 : goal.returns-then-common-eq1
returns-then-common-eq1 c =
    let ps = c.args.parts.now in
    let left = drop c.loop-part.part-index ps in
    reaches_common ps 1 (c.loop-part.invariant 1 (subst (λ (n : ℕ). Reaches n left 1) (sym c.if-common-eq1.true) (reaches_one left)))
