use Rattle.std.proofs.Common.{◌≤◌, ◌+◌, ◌-◌, length, drop, sym, add-one, arith, length-drop}
use Rattle.std.proofs.lemmas.List.{take_all}
use Rattle.lucy_cert.proofs.CutLemmas.{cut_at, cut_none}
use Rattle.lucy_cert.proofs.cutting.cut.Goals as goal

pub returns-then-here-byte-clause-value : goal.returns-then-here-byte-clause-value
returns-then-here-byte-clause-value c =
    let text = c.args.text.now in
    let i = c.loop-i.i in
    let le : length (drop (i + 1) text) ≤ length text - (i + 1) = omega (arith, length-drop (i + 1) text) in
    rw (take_all (length text - (i + 1)) (drop (i + 1) text) le, add-one) (sym (cut_at c.args.byte text i c.loop-i-test.true c.loop-i.invariant c.if-here-byte.true))

pub returns-clause-value : goal.returns-clause-value
returns-clause-value c = sym (cut_none c.args.byte c.args.text.now (λ k lt. c.loop-i.invariant k (omega arith)))
