use Rattle.std.proofs.Common.{◌≡◌, ap, sym, subst}
use Rattle.lucy_top.proofs.NamedLemmas.{walk_named, ref_named}
use Rattle.lucy_top.proofs.conversing.write_walk.Goals as goal

pub write_found_lines-requires-clause-left : goal.write_found_lines-requires-clause-left
write_found_lines-requires-clause-left c =
    let named = walk_named c.args.session.now c.search.new.self c.args.seed c.args.length c.args.session.now.pair (c.in_ok-left.left, c.in_ok-left.right) c.in_ok-left.ensures.found c.facts.ensures.names c.facts.ensures.reached in
    rw c.names.ensures (ref_named c.search.new.self.names.txns c.as_ref.result c.in_ok-left.left c.as_ref.ensures.value named.0)

pub write_found_lines-requires-clause-right : goal.write_found_lines-requires-clause-right
write_found_lines-requires-clause-right c =
    let named = walk_named c.args.session.now c.search.new.self c.args.seed c.args.length c.args.session.now.pair (c.in_ok-left.left, c.in_ok-left.right) c.in_ok-left.ensures.found c.facts.ensures.names c.facts.ensures.reached in
    rw c.names.ensures (ref_named c.search.new.self.names.txns c.as_ref-2.result c.in_ok-left.right c.as_ref-2.ensures.value named.1)
