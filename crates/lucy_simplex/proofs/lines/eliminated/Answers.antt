use Rattle.std.proofs.Common.{List, refl, subst, rules}
use Rattle.lucy_fraction.specs.Rationals.{Ratio}
use Rattle.lucy_simplex.specs.Steps.{AreAdded}
use Rattle.lucy_simplex.specs.Widths.{StopsAt, HasWideSum, IsEliminatedTooWide}
use Rattle.lucy_simplex.proofs.ReadLines.{read_eliminated, eliminated_too_wide}
use Rattle.lucy_simplex.proofs.Stopping.{stops_as}
use Rattle.lucy_simplex.proofs.lines.eliminated.Goals as goal

pub returns-in-Ok-clause-reads : goal.returns-in-Ok-clause-reads
returns-in-Ok-clause-reads c = λ q s h k.
    (let v = c.as_slice.ensures.value in
    let w = c.as_slice-2.ensures.value in
    let factor = c.index-factor.result.now in
    let numbers = c.in-Ok.numbers.items in
    let added = subst (λ (xs : List Ratio). AreAdded factor c.args.line.now.numbers.items xs numbers) w (subst (λ (xs : List Ratio). AreAdded factor xs c.as_slice-2.result.now numbers) v c.in-Ok.ensures.added) in
    read_eliminated c.args.entering q s c.args.line.now c.args.by.now _ factor c.requires.below (search rules) h k refl added)

pub returns-in-Err-clause-wide : goal.returns-in-Err-clause-wide
returns-in-Err-clause-wide c = λ q s h k.
    (let v = c.as_slice.ensures.value in
    let w = c.as_slice-2.ensures.value in
    let factor = c.index-factor.result.now in
    let line = c.args.line.now.numbers.items in
    let by = c.args.by.now.numbers.items in
    let wide = subst (λ (xs : List Ratio). StopsAt c.args.equation (HasWideSum factor line xs) c.in-Err.stop) w (subst (λ (xs : List Ratio). StopsAt c.args.equation (HasWideSum factor xs c.as_slice-2.result.now) c.in-Err.stop) v c.in-Err.ensures.wide) in
    stops_as c.args.equation (HasWideSum factor line by) (IsEliminatedTooWide s c.args.entering q) c.in-Err.stop
    (λ x. eliminated_too_wide c.args.entering q s c.args.line.now c.args.by.now factor c.requires.below (search rules) c.requires.lengths h k x) wide)
