use Rattle.std.proofs.Common.{◌<◌, length, ℕ, Option, sym, subst}
use Rattle.lucy_simplex.specs.Choices.{fall, IsBest}
use Rattle.lucy_simplex.specs.declared.quotients.Best.{Best}
use Rattle.lucy_simplex.proofs.Shapes.{shape_lengths}
use Rattle.lucy_simplex.proofs.Running.{entering_within, best_leaves, some_leaves}
use Rattle.lucy_simplex.proofs.runs.leaving_place.Goals as goal

pub leaving-requires : goal.leaving-requires
leaving-requires c = λ k d small.
    subst (λ (n : ℕ). c.args.entering < n) (sym (shape_lengths c.args.width c.args.lines.now c.requires.shape k d small)) (entering_within c.args.width c.args.auxiliary c.args.entering c.args.lines.now c.requires.shape c.requires.improves)

pub unreachable-requires : goal.unreachable-requires
unreachable-requires c =
    some_leaves c.args.width c.args.auxiliary c.args.entering c.args.lines.now c.requires.shape c.requires.improves
    (λ qs h. subst (λ (o : Option Best). IsBest (fall c.args.entering) qs (length c.args.lines.now) o) c.in-Ok-None.field-0-is (c.in-Ok-None.ensures.best qs h))

pub returns-in-Ok-Some-clause-leaves : goal.returns-in-Ok-Some-clause-leaves
returns-in-Ok-Some-clause-leaves c =
    best_leaves c.args.entering c.args.lines.now c.in-Ok-Some.best
    (λ qs h. subst (λ (o : Option Best). IsBest (fall c.args.entering) qs (length c.args.lines.now) o) c.in-Ok-Some.field-0-is (c.in-Ok-Some.ensures.best qs h))
