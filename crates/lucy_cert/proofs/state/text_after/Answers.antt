use Rattle.std.proofs.Common.{◌≡◌, IfOk, fold, sym, ap, ◌∙◌, subst, arith}
use Rattle.lucy_cert.specs.Reading.{byte_after, after}
use Rattle.lucy_cert.proofs.StateLemmas.{cut_by, cut_over}
use Rattle.lucy_cert.proofs.state.text_after.Goals as goal

pub loop-line-preserved : goal.loop-line-preserved
loop-line-preserved g c =
    let take = g.T.Taker.taken in
    let state = c.loop-line.state in
    record {
      same = ap (λ q. fold (byte_after take) q c.in-Some.after.now) c.in_ok-state.ensures.value
          ∙ ap (cut_by take state c.loop-line.rest.now) c.in-Some.ensures.value
          ∙ sym (cut_over take state c.loop-line.rest.now)
          ∙ c.loop-line.invariant.same;
      few = omega (arith, c.in_ok-state.ensures.lines, c.in-Some.ensures.shorter, c.loop-line.invariant.few);
    }

pub returns-clause-value : goal.returns-clause-value
unfolding after
returns-clause-value g c =
    let take = g.T.Taker.taken in
    let rest = c.loop-line.rest.now in
    let last = ap (cut_by take c.loop-line.state rest) c.in_default.ensures.value ∙ sym (cut_over take c.loop-line.state rest) ∙ c.loop-line.invariant.same in
    subst (λ q. IfOk c.line_kept.result (λ s. s ≡ q)) last c.line_kept.ensures.value
