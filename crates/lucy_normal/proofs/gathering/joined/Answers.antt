use Rattle.std.proofs.Common.{◌++◌, ◌∷◌, [], ap, ◌∙◌, drop}
use Rattle.lucy_normal.proofs.Gatherings.{alone_then}
use Rattle.lucy_normal.proofs.gathering.joined.Goals as goal

pub returns : goal.returns
returns c old parts alone =
    alone_then c.args.joint old c.args.flat.now parts c.take_behind.new.items c.take_behind.new.taken c.args.more c.append.new.self c.args.start alone
    c.in_ok-take_behind.ensures.ok.0 (c.in_ok-take_behind.ensures.ok.1 ∙ ap (λ l. l ++ drop c.args.start c.args.flat.now) c.new-alone.ensures)
    (c.in_ok-append.ensures ∙ ap (λ l. l ++ c.args.more) (c.in_ok-push.ensures.ok ∙ ap (λ l. l ++ c.list_of.result ∷ []) c.new-parts.ensures ∙ ap (λ p. p ∷ []) c.list_of.ensures))
