use Rattle.std.proofs.Common.{refl, arith}
use Rattle.lucy_simplex.specs.First.{first_tableau}
use Rattle.lucy_simplex.proofs.Finding.{first_lengths, begins_at, best_lowest, some_lowest}
use Rattle.lucy_simplex.proofs.Stopping.{err_as}
use Rattle.lucy_simplex.proofs.EndStops.{run_somewhere, end_somewhere}
use Rattle.lucy_simplex.proofs.solving.run_from.Goals as goal

pub lowest-requires : goal.lowest-requires
lowest-requires c = first_lengths c.args.rows.now c.args.bounds.now c.args.first.now c.args.first.now refl c.requires.first

pub run-requires-clause-begins : goal.run-requires-clause-begins
run-requires-clause-begins c =
    begins_at c.args.rows.now c.args.bounds.now _ c.in-Some.best.place c.args.first.now c.args.first.now (omega arith) refl c.requires.first
    (best_lowest c.args.rows.now c.args.bounds.now c.args.first.now c.args.first.now c.in-Some.best refl c.requires.first c.requires.breaks c.in-Some.ensures)

pub ended_answer-requires-clause-ended : goal.ended_answer-requires-clause-ended
ended_answer-requires-clause-ended c =
    c.in-Ok.ensures.ends (first_tableau c.args.rows.now c.args.bounds.now) c.requires.first
    (best_lowest c.args.rows.now c.args.bounds.now c.args.first.now c.args.first.now c.in-Some.best refl c.requires.first c.requires.breaks c.in-Some.ensures)

pub returns-in-Ok-clause-wide : goal.returns-in-Ok-clause-wide
returns-in-Ok-clause-wide c =
    err_as c.ended_answer.result _ _ (λ e h. end_somewhere c.args.rows.now c.args.bounds.now c.args.turns e h) c.ended_answer.ensures.wide

pub returns-in-Err-clause-wide : goal.returns-in-Err-clause-wide
returns-in-Err-clause-wide c =
    run_somewhere c.args.rows.now c.args.bounds.now c.args.turns c.in-Err.stop
    (c.in-Err.ensures.wide (first_tableau c.args.rows.now c.args.bounds.now) c.requires.first
    (best_lowest c.args.rows.now c.args.bounds.now c.args.first.now c.args.first.now c.in-Some.best refl c.requires.first c.requires.breaks c.in-Some.ensures))

pub unreachable-requires : goal.unreachable-requires
unreachable-requires c = some_lowest c.args.rows.now c.args.bounds.now c.args.first.now c.args.first.now refl c.requires.first c.requires.breaks c.in-None.ensures
