use Rattle.std.proofs.Common.{◌∙◌, ap, List, Option}
use Rattle.lucy_cert.specs.declared.names.PartName.{PartName}
use Rattle.lucy_judge.specs.declared.refusal.Refusal.{Refusal}
use Rattle.lucy_judge.specs.Trials.{passed, refusal_so_far}
use Rattle.lucy_judge.proofs.Kept.{left_fits, begun_is_kept}
use Rattle.lucy_judge.proofs.trial.part_taken.Goals as goal

pub begun-requires : goal.begun-requires
begun-requires c =
    let is = c.passed-refusal.ensures ∙ ap (λ (r : Option Refusal). passed c.args.name r c.as_slice.result.now) c.refusal_so_far.ensures
    ∙ ap (λ (due : List PartName). passed c.args.name (refusal_so_far c.args.trial.now) due) c.as_slice.ensures in
    left_fits c.refutes_exactly.ensures c.checkers_are_exact.ensures c.refuted_has_no_model.ensures c.args.plan.now c.args.name c.args.trial.now
    (c.passed-refusal.result.0, c.passed-refusal.result.1.now) is c.requires

pub returns-clause-kept : goal.returns-clause-kept
returns-clause-kept c =
    let is = c.passed-refusal.ensures ∙ ap (λ (r : Option Refusal). passed c.args.name r c.as_slice.result.now) c.refusal_so_far.ensures
    ∙ ap (λ (due : List PartName). passed c.args.name (refusal_so_far c.args.trial.now) due) c.as_slice.ensures in
    begun_is_kept c.refutes_exactly.ensures c.checkers_are_exact.ensures c.refuted_has_no_model.ensures c.args.plan.now c.args.live c.args.name c.args.trial.now
    (c.passed-refusal.result.0, c.passed-refusal.result.1.now) is c.requires c.begun.result c.begun.ensures
