use Rattle.std.proofs.Common.{◌^◌, ◌∙◌, ap, sym}
use Rattle.std.proofs.lemmas.List.{drop_all}
use Rattle.lucy_io.specs.Decimals.{digits_on, below}
use Rattle.lucy_io.proofs.Reading.{digits_on_full, below_here}
use Rattle.lucy_io.proofs.decimals.read_digits.Goals as goal

pub returns-in_err-value : goal.returns-in_err-value
returns-in_err-value c =
    let digit = c.in_ok-digit.ensures.value in
    c.from_residual-in_err-value.ensures
    ∙ sym (ap (below (2 ^ 128)) c.loop-byte.invariant.1
    ∙ digits_on_full (2 ^ 128) c.args.text.now c.loop-byte.byte-index c.loop-byte.value c.from.result c.in_ok-digit.digit c.loop-byte-test.true c.from.ensures digit.0 (sym digit.1) c.in_err-value.ensures)

pub returns : goal.returns
returns c =
    let fits = c.loop-byte.invariant.0 in
    below_here (2 ^ 128) c.loop-byte.value fits
    ∙ sym (ap (below (2 ^ 128)) (c.loop-byte.invariant.1 ∙ ap (digits_on c.loop-byte.value) (drop_all c.loop-byte.byte-index c.args.text.now c.loop-byte-test.false)))
