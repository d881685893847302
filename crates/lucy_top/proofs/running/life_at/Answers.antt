use Rattle.std.proofs.Common.{◌≡◌}
use Rattle.std.specs.List.{HoldsAt}
use Rattle.lucy_replica.specs.declared.life.Life.{Life}
use Rattle.lucy_top.proofs.LookupLemmas.{found_so}
use Rattle.lucy_top.proofs.running.life_at.Goals as goal

pub returns : goal.returns
returns c =
    found_so (λ (life : Life). life.replica) (λ x. HoldsAt (λ (y : Life). x.now ≡ y) c.args.lives.now c.args.number) c.args.lives.now c.args.number c.get.result c.get.ensures.lookup.3 c.get.ensures.lookup.1
