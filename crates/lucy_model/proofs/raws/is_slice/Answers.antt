use Rattle.std.proofs.Common.{◌≡◌, ◌<◌, ◌≤◌, ℤ, length, get_or, pos, refl, ap, sym, ◌∙◌, rules}
use Rattle.std.proofs.lemmas.Int.{to_z-of_z}
use Rattle.std.proofs.lemmas.List.{take_all, take_more_same}
use mir.Syntax.{w64, w128}
use mir.Val.{SFits, to_z, of_z}
use Rattle.lucy_model.proofs.Differing.{differ}
use Rattle.lucy_model.proofs.raws.is_slice.Goals as goal

same_bits : (x y : ℤ) → SFits w128 x → SFits w128 y → of_z w128 x ≡ of_z w128 y → x ≡ y
same_bits x y x_fits y_fits e = sym (to_z-of_z w128 x x_fits) ∙ ap (to_z w128) e ∙ to_z-of_z w128 y y_fits

pub returns-then-wide-numbers : goal.returns-then-wide-numbers
returns-then-wide-numbers c = differ c.args.wide.now c.args.numbers.now (λ e. c.if-wide-numbers.true (ap length e))

pub returns-then-number-from : goal.returns-then-number-from
returns-then-number-from c =
    let i = c.loop-i.i in
    let fits : SFits w64 (get_or c.args.numbers.now i (pos 0)) = search rules in
    let is : c.from.result ≡ get_or c.args.numbers.now i (pos 0) = c.from.ensures ∙ to_z-of_z w64 _ fits in
    differ c.args.wide.now c.args.numbers.now (λ e. c.if-number-from.true (ap (of_z w128) (ap (λ xs. get_or xs i (pos 0)) e ∙ sym is)))

pub loop-i-preserved : goal.loop-i-preserved
loop-i-preserved c =
    let i = c.loop-i.i in
    let fits : SFits w64 (get_or c.args.numbers.now i (pos 0)) = search rules in
    let wide_fits : SFits w128 (get_or c.args.wide.now i (pos 0)) = search rules in
    let is : c.from.result ≡ get_or c.args.numbers.now i (pos 0) = c.from.ensures ∙ to_z-of_z w64 _ fits in
    let below : i < length c.args.numbers.now = rw c.if-wide-numbers.false at c.loop-i-test.true in
    let same = same_bits (get_or c.args.wide.now i (pos 0)) c.from.result wide_fits (record { sfits = c.from.type_inv }) c.if-number-from.false in
    take_more_same c.args.wide.now c.args.numbers.now i (pos 0) c.loop-i-test.true below c.loop-i.invariant (same ∙ is)

pub returns : goal.returns
returns c =
    let i = c.loop-i.i in
    let done : length c.args.numbers.now ≤ i = rw c.if-wide-numbers.false at c.loop-i-test.false in
    (λ _. sym (take_all i c.args.wide.now c.loop-i-test.false) ∙ c.loop-i.invariant ∙ take_all i c.args.numbers.now done, λ _. refl)
