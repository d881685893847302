use Rattle.std.proofs.Common.{rules, ◌<◌, ◌≤◌, ◌≡◌, ◌∙◌, sym, length, get_or, ap, arith, List, ℕ}
use Rattle.lucy_core.specs.Worlds.{World}
use Rattle.lucy_core.specs.Alone.{after_calls}
use Rattle.lucy_plan.specs.declared.parts.Call.{Call}
use Rattle.lucy_core.proofs.Working.{calls_count, lists_more, no_lists}
use Rattle.lucy_core.proofs.one_thread.call_lists.Goals as goal

pub loop-number-preserved : goal.loop-number-preserved
loop-number-preserved c =
    let work = c.args.work.now in
    let number = c.loop-number.number in
    let calls = c.index-work-number.result in
    let below : number < length work = search rules in
    let found : calls ≡ get_or work number calls = search rules in
    let many : c.len.result ≡ length calls = search rules in
    let done : c.call_all.new.world ≡ after_calls c.len.result c.loop-number.world number = search rules in
    let is : c.call_all.new.world ≡ after_calls (length (get_or work number calls)) c.loop-number.world number =
    done ∙ ap (λ (n : ℕ). after_calls n c.loop-number.world number) (many ∙ ap (λ (list : List Call). length list) found) in
    record {
      left = lists_more c.loop-number.world c.call_all.new.world work number calls below is ∙ c.loop-number.invariant.left;
      many = ap (λ (w : World). length w.replicas) is ∙ calls_count (length (get_or work number calls)) c.loop-number.world number ∙ c.loop-number.invariant.many;
    }

pub returns : goal.returns
returns c =
    let past : length c.args.work.now ≤ c.loop-number.number = search rules in
    sym (no_lists c.loop-number.world c.args.work.now c.loop-number.number past) ∙ c.loop-number.invariant.left
