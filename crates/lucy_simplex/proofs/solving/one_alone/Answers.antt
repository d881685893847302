use Rattle.std.proofs.Common.{◌<◌, ℕ, pos, sym, ◌∙◌, subst, rules, arith}
use Rattle.std.proofs.lemmas.Int.{to_z-of_z}
use mir.Syntax.{w128}
use mir.Val.{SFits}
use Rattle.lucy_simplex.specs.First.{bumped, zeros}
use Rattle.lucy_simplex.proofs.Finding.{listed_more, listed_whole, one_there, ones_length}
use Rattle.lucy_simplex.proofs.solving.one_alone.Goals as goal

pub loop-place-preserved : goal.loop-place-preserved
loop-place-preserved c =
    let fits : SFits w128 c.one_at.result = search rules in
    listed_more (bumped (zeros c.args.count) c.args.own (pos 1)) c.loop-place.all.items c.push_number.new.all.items c.loop-place.place _ c.loop-place.invariant c.in_ok-push_number.ensures
    (subst (λ (k : ℕ). c.loop-place.place < k) (sym (ones_length c.args.count c.args.own)) c.loop-place-test.true)
    (one_there c.args.count c.args.own c.loop-place.place c.loop-place-test.true ∙ sym c.one_at.ensures ∙ sym (to_z-of_z w128 c.one_at.result fits))

pub returns : goal.returns
returns c = listed_whole (bumped (zeros c.args.count) c.args.own (pos 1)) c.loop-place.all.items c.loop-place.place c.loop-place.invariant (let same = ones_length c.args.count c.args.own in omega (arith, same))
