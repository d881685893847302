use Rattle.std.proofs.Common.{rules}
use mir.Syntax.{w128}
use Rattle.std.proofs.lemmas.Int.{to_z-of_z}
use Rattle.lucy_gather.specs.Terms.{raised_all}
use Rattle.lucy_gather.proofs.RaisingLemmas.{raised_more, raised_stops}
use Rattle.lucy_gather.proofs.terms.raised_all.Goals as goal
use mir.Val.{SFits}

pub returns-in_err-raised : goal.returns-in_err-raised
returns-in_err-raised c =
    let fits : SFits w128 c.args.by.by = search rules in
    let refused = simp to_z-of_z at c.in_err-raised.ensures in
    let stopped = raised_stops c.loop-done.leaf c.args.count c.loop-done._done c.args.by c.loop-done.factors (raised_all c.args.first c.args.count c.args.by c.args.factors.now) c.in_err-raised.field-0.0 c.loop-done-test.true refused c.loop-done.invariant in
    search (rules, stopped)

pub loop-done-preserved : goal.loop-done-preserved
loop-done-preserved c =
    let fits : SFits w128 c.args.by.by = search rules in
    let gave = simp to_z-of_z at c.in_ok-raised.ensures in
    let more = raised_more c.loop-done.leaf c.args.count c.loop-done._done c.args.by c.loop-done.factors c.raised.new.factors (raised_all c.args.first c.args.count c.args.by c.args.factors.now) c.loop-done-test.true gave c.loop-done.invariant in
    search (rules, more, c.in_ok-leaf.ensures.more)
