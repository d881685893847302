use Rattle.std.proofs.Common.{◌<◌, ◌∙◌, sym, subst, ℕ}
use Rattle.lucy_simplex.specs.Tableaus.{solved}
use Rattle.lucy_simplex.proofs.Sweeping.{read_there}
use Rattle.lucy_simplex.proofs.Shapes.{shape_length, shape_lengths, shape_after}
use Rattle.lucy_simplex.proofs.Stopping.{solved_stops, others_stop, ok_as, err_as}
use Rattle.lucy_simplex.proofs.pivoting.pivoted.Goals as goal

pub solved-requires-clause-below : goal.solved-requires-clause-below
solved-requires-clause-below c =
    subst (λ (k : ℕ). c.args.entering < k) (sym (shape_length c.args.width c.args.lines.now c.args.place c.index-lines-place.result c.requires.shape c.requires.place (sym c.index-lines-place.is))) c.requires.below

pub with_solved-requires-clause-below : goal.with_solved-requires-clause-below
with_solved-requires-clause-below c =
    subst (λ (k : ℕ). c.args.entering < k) (sym (c.in-Ok.ensures.length ∙ shape_length c.args.width c.args.lines.now c.args.place c.index-lines-place.result c.requires.shape c.requires.place (sym c.index-lines-place.is))) c.requires.below

pub with_solved-requires-clause-lengths : goal.with_solved-requires-clause-lengths
with_solved-requires-clause-lengths c = λ k d h.
    shape_lengths c.args.width c.args.lines.now c.requires.shape k d h
    ∙ sym (c.in-Ok.ensures.length ∙ shape_length c.args.width c.args.lines.now c.args.place c.index-lines-place.result c.requires.shape c.requires.place (sym c.index-lines-place.is))

pub returns-in-Ok-clause-reads : goal.returns-in-Ok-clause-reads
returns-in-Ok-clause-reads c =
    ok_as c.with_solved.result _ _ (λ v f qs h q there. f qs (solved c.args.entering q) h (c.in-Ok.ensures.reads q (read_there qs c.args.lines.now c.args.place q c.index-lines-place.result h there c.requires.place (sym c.index-lines-place.is)))) c.with_solved.ensures.reads

pub returns-in-Ok-clause-shape : goal.returns-in-Ok-clause-shape
returns-in-Ok-clause-shape c =
    ok_as c.with_solved.result _ _ (λ v f. shape_after c.args.width c.args.lines.now v.items c.args.place c.args.entering c.index-lines-place.result c.requires.shape c.requires.place (sym c.index-lines-place.is)
    c.requires.above c.requires.below c.requires.nonzero (λ qs h q there. f qs (solved c.args.entering q) h (c.in-Ok.ensures.reads q (read_there qs c.args.lines.now c.args.place q c.index-lines-place.result h there c.requires.place (sym c.index-lines-place.is))))) c.with_solved.ensures.reads

pub returns-in-Ok-clause-wide : goal.returns-in-Ok-clause-wide
returns-in-Ok-clause-wide c =
    err_as c.with_solved.result _ _ (λ e f qs h q there. others_stop c.args.entering c.args.place q qs e (f qs (solved c.args.entering q) h (c.in-Ok.ensures.reads q (read_there qs c.args.lines.now c.args.place q c.index-lines-place.result h there c.requires.place (sym c.index-lines-place.is))))) c.with_solved.ensures.wide

pub returns-in-Err-clause-wide : goal.returns-in-Err-clause-wide
returns-in-Err-clause-wide c = λ qs h q there.
    solved_stops c.args.entering c.args.place q qs c.in-Err.stop (c.in-Err.ensures.wide q (read_there qs c.args.lines.now c.args.place q c.index-lines-place.result h there c.requires.place (sym c.index-lines-place.is)))
