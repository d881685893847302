use Rattle.lucy_session.specs.Views.{dialogue_of}
use Rattle.lucy_session.proofs.KeepingLemmas.{entries_put, entry_reaches, searches_at}
use Rattle.lucy_session.proofs.session.Session.search.Goals as goal

pub invariant_of-self-2 : goal.invariant_of-self-2
invariant_of-self-2 c =
    let d = dialogue_of c.self.inside in
    let p = c.in-Some.pair in
    entries_put d _ c.in_ok-first.first c.in_ok-second.second c.self.invariant c.in_ok-put.ensures.put
    (entry_reaches d.plan c.deref.result.now p.left c.in_ok-left.left c.in_ok-first.first c.deref.ensures c.in_ok-left.ensures.reaches c.in_ok-first.ensures)
    (entry_reaches d.plan c.deref-2.result.now p.right c.in_ok-right.right c.in_ok-second.second c.deref-2.ensures c.in_ok-right.ensures.reaches c.in_ok-second.ensures)

pub returns-clause-found : goal.returns-clause-found
returns-clause-found c =
    let d = dialogue_of c.self.inside in
    searches_at d c.args.self.now c.args.seed c.args.length c.in-Some.pair c.in_ok-left.left c.in_ok-right.right c.in_ok-first.first c.in_ok-second.second c.deref.result.now c.deref-2.result.now
    c.as_slice-reached.result.now _ c.self.view_is c.in-Some.is c.deref.ensures c.deref-2.ensures c.as_slice-reached.ensures.value c.in_ok-left.ensures.found c.in_ok-right.ensures.found
    c.in_ok-first.ensures c.in_ok-second.ensures c.in_ok-put.ensures.put
