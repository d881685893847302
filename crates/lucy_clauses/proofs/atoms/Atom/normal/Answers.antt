use Rattle.std.proofs.Common.{◌≡◌, ◌<◌, [], length, ap, sym, ◌∙◌, subst, arith, rules}
use Rattle.std.proofs.lemmas.Int.{to_z-of_z}
use mir.Syntax.{w128}
use mir.Val.{SFits}
use Rattle.lucy_clauses.specs.Plain.{plain_true}
use Rattle.lucy_clauses.specs.Sums.{form}
use Rattle.lucy_clauses.specs.Parts.{gathered}
use Rattle.lucy_clauses.specs.Normal.{IsNormal}
use Rattle.lucy_clauses.proofs.Divisors.{gathered_divides, normal_form}
use Rattle.lucy_clauses.proofs.Mapping.{no_element}
use Rattle.lucy_clauses.proofs.Solutions.{constant_solutions, normal_solutions}
use Rattle.lucy_clauses.proofs.atoms.Atom.normal.Goals as goal

pub returns-then-is_empty-clause-solutions : goal.returns-then-is_empty-clause-solutions
returns-then-is_empty-clause-solutions c =
    let fits = c.ranges.bound in
    let empty : length c.in_ok-gathered.gathered.items ≡ 0 = search rules in
    let none : gathered c.args.parts.now ≡ [] = sym c.in_ok-gathered.ensures ∙ no_element c.in_ok-gathered.gathered.items empty in
    let is = simp to_z-of_z at c.without_variable.ensures in
    λ a. ap (plain_true a) is ∙ constant_solutions c.args.parts.now c.args.bound none a

pub divide_all-requires-clause-positive : goal.divide_all-requires-clause-positive
divide_all-requires-clause-positive c =
    let some : 0 < length c.in_ok-gathered.gathered.items = search rules in
    (gathered_divides c.args.parts.now c.in_ok-gathered.gathered.items c.deref.result.now c.common_divisor-common.result c.requires.sums c.in_ok-gathered.ensures c.deref.ensures.value some c.common_divisor-common.ensures).positive

pub divide_all-requires-clause-within : goal.divide_all-requires-clause-within
divide_all-requires-clause-within c =
    let some : 0 < length c.in_ok-gathered.gathered.items = search rules in
    omega (arith, (gathered_divides c.args.parts.now c.in_ok-gathered.gathered.items c.deref.result.now c.common_divisor-common.result c.requires.sums c.in_ok-gathered.ensures c.deref.ensures.value some c.common_divisor-common.ensures).within)

pub floor-requires-clause-positive : goal.floor-requires-clause-positive
floor-requires-clause-positive c =
    let some : 0 < length c.in_ok-gathered.gathered.items = search rules in
    (gathered_divides c.args.parts.now c.in_ok-gathered.gathered.items c.deref.result.now c.common_divisor-common.result c.requires.sums c.in_ok-gathered.ensures c.deref.ensures.value some c.common_divisor-common.ensures).positive

pub floor-requires-clause-within : goal.floor-requires-clause-within
floor-requires-clause-within c =
    let some : 0 < length c.in_ok-gathered.gathered.items = search rules in
    omega (arith, (gathered_divides c.args.parts.now c.in_ok-gathered.gathered.items c.deref.result.now c.common_divisor-common.result c.requires.sums c.in_ok-gathered.ensures c.deref.ensures.value some c.common_divisor-common.ensures).within)

pub invariant_of-result : goal.invariant_of-result
invariant_of-result c =
    let some : 0 < length c.in_ok-gathered.gathered.items = search rules in
    subst IsNormal (sym c.divide_all.ensures) (gathered_divides c.args.parts.now c.in_ok-gathered.gathered.items c.deref.result.now c.common_divisor-common.result c.requires.sums c.in_ok-gathered.ensures c.deref.ensures.value some c.common_divisor-common.ensures).normal

pub returns-clause-form : goal.returns-clause-form
returns-clause-form c =
    let fits = c.ranges.bound in
    let made_fits : SFits w128 c.floor.result = search rules in
    let bound_is = simp to_z-of_z at c.floor.ensures in
    let some : 0 < length c.in_ok-gathered.gathered.items = search rules in
    simp to_z-of_z (normal_form c.args.parts.now c.in_ok-gathered.gathered.items c.divide_all.new.parts.items c.common_divisor-common.result c.args.bound c.floor.result (gathered_divides c.args.parts.now c.in_ok-gathered.gathered.items c.deref.result.now c.common_divisor-common.result c.requires.sums c.in_ok-gathered.ensures c.deref.ensures.value some c.common_divisor-common.ensures) c.divide_all.ensures bound_is)

pub returns-clause-solutions : goal.returns-clause-solutions
returns-clause-solutions c =
    let fits = c.ranges.bound in
    let made_fits : SFits w128 c.floor.result = search rules in
    let bound_is = simp to_z-of_z at c.floor.ensures in
    let some : 0 < length c.in_ok-gathered.gathered.items = search rules in
    let normal = normal_form c.args.parts.now c.in_ok-gathered.gathered.items c.divide_all.new.parts.items c.common_divisor-common.result c.args.bound c.floor.result (gathered_divides c.args.parts.now c.in_ok-gathered.gathered.items c.deref.result.now c.common_divisor-common.result c.requires.sums c.in_ok-gathered.ensures c.deref.ensures.value some c.common_divisor-common.ensures) c.divide_all.ensures bound_is in
    λ a. simp to_z-of_z (normal_solutions c.args.parts.now c.args.bound (form c.divide_all.new.parts.items c.floor.result) normal a)
