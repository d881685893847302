use Rattle.lucy_closure.specs.Formulas.{cover_formula}
use Rattle.lucy_findings.proofs.Examined.{refuted_is, model_is}
use Rattle.lucy_findings.proofs.examining.covered_or_not.Goals as goal

pub returns-in-Refuted : goal.returns-in-Refuted
returns-in-Refuted c = refuted_is (cover_formula c.args.plan.now) c.args.decision c.in-Refuted.proof c.in-Refuted.is c.requires.decides c.requires.writable

pub uncovered_state-requires : goal.uncovered_state-requires
uncovered_state-requires c = model_is (cover_formula c.args.plan.now) c.args.decision c.in-Model.model c.as_slice.result.now c.in-Model.is c.as_slice.ensures c.requires.decides
