use Rattle.lucy_closure.specs.Formulas.{closure_formula}
use Rattle.lucy_findings.proofs.Examined.{refuted_is, model_is}
use Rattle.lucy_findings.proofs.examining.closed_or_open.Goals as goal

pub returns-in-Refuted : goal.returns-in-Refuted
returns-in-Refuted c = (c.requires.runs, refuted_is (closure_formula c.args.plan.now c.args.segment) c.args.decision c.in-Refuted.proof c.in-Refuted.is c.requires.decides c.requires.writable)

pub open_pair-requires-clause-model : goal.open_pair-requires-clause-model
open_pair-requires-clause-model c = model_is (closure_formula c.args.plan.now c.args.segment) c.args.decision c.in-Model.model c.as_slice.result.now c.in-Model.is c.as_slice.ensures c.requires.decides
