use Rattle.std.proofs.Common.{◌≤◌, ◌+◌, ◌-◌, length, drop, add-one, arith, length-drop}
use Rattle.std.proofs.lemmas.List.{take_all}
use Rattle.lucy_calls.proofs.FieldLemmas.{piece_at, no_space}
use Rattle.lucy_calls.proofs.fields.first_piece.Goals as goal

pub returns-then-byte-eq32-clause-pieces : goal.returns-then-byte-eq32-clause-pieces
returns-then-byte-eq32-clause-pieces c =
    let text = c.args.text.now in
    let i = c.loop-i.i in
    let le : length (drop (i + 1) text) ≤ length text - (i + 1) = omega (arith, length-drop (i + 1) text) in
    rw (take_all (length text - (i + 1)) (drop (i + 1) text) le, add-one) (piece_at text i c.loop-i-test.true c.loop-i.invariant c.if-byte-eq32.true)

pub returns-clause-pieces : goal.returns-clause-pieces
returns-clause-pieces c = no_space c.args.text.now (λ k lt. c.loop-i.invariant k (omega arith))
