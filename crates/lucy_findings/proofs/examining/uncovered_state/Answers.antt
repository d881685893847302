use Rattle.lucy_findings.proofs.Examined.{state_numbers, state_is}
use Rattle.lucy_findings.proofs.examining.uncovered_state.Goals as goal

pub read_state-requires : goal.read_state-requires
read_state-requires c = state_numbers c.args.plan.now c.args.model.now c.requires

pub returns : goal.returns
returns c = state_is c.cover_model_is_uncovered.ensures c.args.plan.now c.parts-parts.result.now c.args.model.now c.in_ok-state.state c.parts-parts.ensures.parts c.parts-parts.ensures.kept c.requires c.in_ok-state.ensures
