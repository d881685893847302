use Rattle.std.proofs.Common.{rules, ◌≡◌, ◌<◌, ◌+◌, ◌++◌, ◌^◌, ◌∷◌, [], ◌∙◌, ℕ, List, length, map, get_or, sym, ap, subst, arith}
use Rattle.std.specs.Prelude.{slice_index}
use Rattle.std.proofs.lemmas.List.{length-map, length-append}
use Rattle.lucy_replica.specs.Answering.{answer_of}
use Rattle.lucy_audit.specs.Tallies.{IsTally}
use Rattle.lucy_audit.proofs.Summing.{accepted_few, number_read, sum_up_to, sum_more, tally_more}
use Rattle.lucy_audit.proofs.tallies.tally_of.Goals as goal

pub overflow_add-sum : goal.overflow_add-sum
overflow_add-sum c =
    let told = map answer_of c.args.replies.now in
    let number = c.loop-number.number in
    let within : number < c.args.records = search rules in
    let counts = c.in_ok-counts.counts.items in
    let there : number < length counts = search rules in
    let at : c.index.result.now ≡ get_or counts number c.index.result.now = search rules in
    let read : c.index.result.now ≡ slice_index counts number = number_read counts number c.index.result.now there at in
    let up = sum_up_to told number c.loop-number.sum c.index.result.now c.loop-number.invariant.sum (read ∙ c.in_ok-counts.ensures.each number within) in
    let few = accepted_few number told in
    let many = length-map c.args.replies.now answer_of in
    let short : length c.args.replies.now < 2 ^ 64 = search rules in
    let below : c.loop-number.sum + c.index.result.now < 2 ^ 64 = omega (arith, up, few, many, short) in
    search (rules, below)

pub loop-number-preserved : goal.loop-number-preserved
loop-number-preserved c =
    let told = map answer_of c.args.replies.now in
    let number = c.loop-number.number in
    let next = c.loop-number.sum + c.index.result.now in
    let within : number < c.args.records = search rules in
    let counts = c.in_ok-counts.counts.items in
    let there : number < length counts = search rules in
    let at : c.index.result.now ≡ get_or counts number c.index.result.now = search rules in
    let read : c.index.result.now ≡ slice_index counts number = number_read counts number c.index.result.now there at in
    let up = sum_up_to told number c.loop-number.sum c.index.result.now c.loop-number.invariant.sum (read ∙ c.in_ok-counts.ensures.each number within) in
    let pushed : c.push.new.self ≡ c.loop-number.tally ++ next ∷ [] = search rules in
    let long = ap (λ (list : List ℕ). length list) pushed in
    let joined = length-append c.loop-number.tally (next ∷ []) in
    record {
      long = omega (arith, long, joined, c.loop-number.invariant.long);
      right = subst (IsTally told) (sym pushed) (tally_more told c.loop-number.tally number next c.loop-number.invariant.right c.loop-number.invariant.long up);
      sum = sum_more told number next up;
    }
