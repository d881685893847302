use Rattle.lucy_session.proofs.PairLemmas.{pair_numbers, pair_is}
use Rattle.lucy_session.proofs.drawing.pair_of.Goals as goal

pub read_pair-requires : goal.read_pair-requires
read_pair-requires c = pair_numbers c.args.plan.now c.args.points.now c.args.model.now c.requires.model

pub returns : goal.returns
returns c =
    pair_is c.whole_model_is_escape.ensures c.args.plan.now c.parts-parts.result.now c.args.points.now c.args.model.now (c.in_ok-left.left, c.in_ok-left.right) c.parts-parts.ensures.parts
    c.parts-parts.ensures.kept c.requires.points c.requires.model c.in_ok-left.ensures
