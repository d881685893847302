use Rattle.std.proofs.Common.{length, sym}
use Rattle.lucy_plan.proofs.CallLemmas.{found_txn}
use Rattle.lucy_plan.proofs.Ranges.{allowed_small}
use Rattle.lucy_plan.proofs.Results.{branches_small}
use Rattle.lucy_plan.proofs.calls.apply.Goals as goal

pub run_branches-requires-clause-branches : goal.run_branches-requires-clause-branches
run_branches-requires-clause-branches c =
    let plan = c.args.plan.now in
    let kept = rw c.parts-parts.ensures.parts at c.parts-parts.ensures.kept in
    let found = rw c.parts-parts.ensures.parts at c.in-Some.ensures.value in
    let known = found_txn plan c.args.call.now c.in-Some.txn.now kept (sym found) c.requires.fits in
    rw (c.as_slice.ensures, c.as_slice-in-Some.ensures, c.requires.state) known.branches

pub returns-in-Some-clause-small : goal.returns-in-Some-clause-small
returns-in-Some-clause-small c =
    let plan = c.args.plan.now in
    let state = c.args.state.now in
    let arguments = c.args.call.now.arguments in
    let kept = rw c.parts-parts.ensures.parts at c.parts-parts.ensures.kept in
    let found = rw c.parts-parts.ensures.parts at c.in-Some.ensures.value in
    let known = found_txn plan c.args.call.now c.in-Some.txn.now kept (sym found) c.requires.fits in
    λ allowed. rw (c.run_branches.ensures.value, c.as_slice.ensures, c.as_slice-in-Some.ensures)
    (branches_small (length plan.object) arguments c.in-Some.txn.now.branches state kept.leaves_few known.few (allowed_small plan.object state allowed) known.small known.branches)
