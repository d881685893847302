use Rattle.std.proofs.Common.{arith, ap, length, ◌≡◌, ◌∙◌, sym, List}
use Rattle.std.proofs.lemmas.List.{length-map}
use Rattle.lucy_replica.specs.Answering.{answer_of}
use Rattle.lucy_replica.specs.Replicas.{Answer}
use Rattle.lucy_top.proofs.DrillLemmas.{replies_few}
use Rattle.lucy_top.proofs.counting.of_one.Goals as goal

pub returns-clause-few : goal.returns-clause-few
returns-clause-few c =
    let same : length c.replies.result.now ≡ length c.args.life.now.replica.replies = sym (length-map c.replies.result.now answer_of) ∙ ap (λ (rs : List Answer). length rs) c.replies.ensures in
    omega (arith, c.how_many.ensures.few, same, replies_few c.args.life.now.replica c.facts.ensures)
