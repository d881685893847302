use Rattle.lucy_findings.proofs.Examined.{pair_numbers, pair_is}
use Rattle.lucy_findings.proofs.examining.open_pair.Goals as goal

pub read_pair-requires : goal.read_pair-requires
read_pair-requires c = pair_numbers c.args.plan.now c.args.segment c.args.model.now c.requires.there c.requires.model

pub returns : goal.returns
returns c = (
  c.requires.runs,
  pair_is c.closure_model_is_escape.ensures c.args.plan.now c.parts-parts.result.now c.args.segment c.args.model.now (c.in_ok-first.first, c.in_ok-first.second) c.parts-parts.ensures.parts c.parts-parts.ensures.kept c.requires.there
      c.requires.model c.in_ok-first.ensures,
)
