use Rattle.std.proofs.Common.{[], refl, rules, arith}
use Rattle.std.proofs.lemmas.Int.{to_z-of_z}
use mir.Syntax.{w128}
use mir.Val.{SFits}
use Rattle.lucy_clauses.specs.Sums.{number_at}
use Rattle.lucy_simplex.proofs.FirstLines.{appends_one, appends_more, appends_whole}
use Rattle.lucy_simplex.proofs.FirstNumbers.{some_wide}
use Rattle.lucy_simplex.proofs.first.fractions_of.Goals as goal

pub loop-place-preserved : goal.loop-place-preserved
loop-place-preserved c =
    let numbers = c.args.numbers.now in
    let place = c.loop-place.place in
    let fits : SFits w128 (number_at numbers place) = search rules in
    appends_more [] c.loop-place.all.items c.push_fraction.new.all.items numbers place (number_at numbers place) c.loop-place.invariant
    (appends_one c.loop-place.all.items c.push_fraction.new.all.items c.in-Ok.fraction (number_at numbers place) (simp to_z-of_z at c.in-Ok.ensures.value) c.in_ok-push_fraction.ensures) c.loop-place-test.true refl

pub returns-clause-over : goal.returns-clause-over
returns-clause-over c = appends_whole [] c.loop-place.all.items c.args.numbers.now c.loop-place.place c.loop-place.invariant (omega arith) [] tt

pub returns-in_default-clause-wide : goal.returns-in_default-clause-wide
returns-in_default-clause-wide c =
    let numbers = c.args.numbers.now in
    let place = c.loop-place.place in
    let fits : SFits w128 (number_at numbers place) = search rules in
    (refl, some_wide numbers place (number_at numbers place) c.loop-place-test.true refl (simp to_z-of_z at c.in_default.ensures.wide))
