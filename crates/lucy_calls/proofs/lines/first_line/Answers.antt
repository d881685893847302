use Rattle.std.proofs.Common.{◌≤◌, ◌+◌, ◌-◌, length, drop, add-one, arith, sym, ◌∙◌, length-drop}
use Rattle.std.proofs.lemmas.List.{take_all}
use Rattle.lucy_calls.proofs.LineLemmas.{first_line, last_line}
use Rattle.lucy_calls.proofs.lines.first_line.Goals as goal

pub returns-then-byte-eq10-clause-lines : goal.returns-then-byte-eq10-clause-lines
returns-then-byte-eq10-clause-lines c =
    let text = c.args.text.now in
    let i = c.loop-i.i in
    let le : length (drop (i + 1) text) ≤ length text - (i + 1) = omega (arith, length-drop (i + 1) text) in
    rw (take_all (length text - (i + 1)) (drop (i + 1) text) le, add-one) (first_line text i c.without_return.result.now c.loop-i-test.true c.loop-i.invariant c.if-byte-eq10.true c.without_return.ensures)

pub returns-clause-lines : goal.returns-clause-lines
returns-clause-lines c = last_line c.args.text.now (sym c.is_empty.ensures ∙ c.if-is_empty.false) (λ k lt. c.loop-i.invariant k (omega arith))
