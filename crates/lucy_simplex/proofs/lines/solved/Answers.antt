use Rattle.std.proofs.Common.{List, refl, subst, rules, ◌∙◌, ap, length}
use Rattle.std.specs.List.{AllZip}
use Rattle.std.proofs.lemmas.List.Elements.{length_all_zip}
use Rattle.lucy_fraction.specs.Rationals.{Ratio, opposite}
use Rattle.lucy_simplex.specs.Steps.{IsDivided}
use Rattle.lucy_simplex.specs.Widths.{StopsAt, HasWideQuotient, IsSolvedTooWide}
use Rattle.lucy_simplex.proofs.ReadLines.{read_solved, solved_too_wide}
use Rattle.lucy_simplex.proofs.Stopping.{stops_as}
use Rattle.lucy_simplex.proofs.lines.solved.Goals as goal

pub returns-in-Ok-clause-reads : goal.returns-in-Ok-clause-reads
returns-in-Ok-clause-reads c = λ q h.
    (let s = c.as_slice.ensures.value in
    let factor = c.index.result.now in
    let numbers = c.in-Ok.numbers.items in
    let divided = subst (λ (g : Ratio). AllZip (IsDivided g) numbers c.args.line.now.numbers.items) c.opposite-factor.ensures (subst (λ (xs : List Ratio). AllZip (IsDivided c.opposite-factor.result) numbers xs) s c.in-Ok.ensures.divided) in
    read_solved c.args.entering q c.args.line.now _ factor c.requires.below (search rules) (search rules) h refl divided)

pub returns-in-Ok-clause-length : goal.returns-in-Ok-clause-length
returns-in-Ok-clause-length c =
    length_all_zip (IsDivided c.opposite-factor.result) c.in-Ok.numbers.items c.as_slice.result.now c.in-Ok.ensures.divided ∙ ap length c.as_slice.ensures.value

pub returns-in-Err-clause-wide : goal.returns-in-Err-clause-wide
returns-in-Err-clause-wide c = λ q h.
    (let s = c.as_slice.ensures.value in
    let factor = c.index.result.now in
    let line = c.args.line.now.numbers.items in
    let wide = subst (λ (g : Ratio). StopsAt c.args.equation (HasWideQuotient g line) c.in-Err.stop) c.opposite-factor.ensures
    (subst (λ (xs : List Ratio). StopsAt c.args.equation (HasWideQuotient c.opposite-factor.result xs) c.in-Err.stop) s c.in-Err.ensures.wide) in
    stops_as c.args.equation (HasWideQuotient (opposite factor) line) (IsSolvedTooWide c.args.entering q) c.in-Err.stop (λ x. solved_too_wide c.args.entering q c.args.line.now factor c.requires.below (search rules) (search rules) h x) wide)
