use Rattle.std.proofs.Common.{◌∙◌, ◌++◌, ap, reverse, drop}
use Rattle.lucy_normal.proofs.Pouring.{turned_twice}
use Rattle.lucy_normal.proofs.flattening.take_behind.Goals as goal

pub returns-clause-ok : goal.returns-clause-ok
returns-clause-ok c = (
  c.in_ok-pour.ensures.ok.0,
  turned_twice (drop c.args.start c.args.items.now) c.args.taken.now c.pour.new.to c.pour-2.new.to
      (c.in_ok-pour.ensures.ok.1 ∙ ap (λ l. l ++ reverse (drop c.args.start c.args.items.now)) c.new-turned.ensures) c.in_ok-pour-2.ensures.ok.1,
)
