use Rattle.std.proofs.Common.{◌≡◌, ◌<◌, Bool, cond, List, ℕ, [], ◌∷◌, length, sym, ap, ◌∙◌, arith}
use Rattle.lucy_cert.specs.Cutting.{pieces}
use Rattle.lucy_cert.proofs.CutLemmas.{pieces_by, pieces_are}
use Rattle.lucy_cert.proofs.cutting.Pieces.next_piece.Goals as goal

longer : (xs ys : List (List ℕ)) (x : List ℕ) → xs ≡ x ∷ ys → length ys < length xs
longer xs ys x e = omega (arith, ap length e)

some : goal.returns-in-Some-clause-pieces
some c =
    let text = c.args.self.text.now in
    ap (λ (b : Bool). cond b [] (pieces text)) c.if-self.false ∙ pieces_are text ∙ ap (pieces_by text) (sym c.in-Some.ensures.value)

pub returns-in-Some-clause-pieces : goal.returns-in-Some-clause-pieces
returns-in-Some-clause-pieces c = some c

pub returns-in-Some-clause-shorter : goal.returns-in-Some-clause-shorter
returns-in-Some-clause-shorter c = longer _ _ _ (some c)

none : goal.returns-in-None-clause-pieces
none c =
    let text = c.args.self.text.now in
    ap (λ (b : Bool). cond b [] (pieces text)) c.if-self.false ∙ pieces_are text ∙ ap (pieces_by text) (sym c.in-None.ensures.value)

pub returns-in-None-clause-pieces : goal.returns-in-None-clause-pieces
returns-in-None-clause-pieces c = none c

pub returns-in-None-clause-shorter : goal.returns-in-None-clause-shorter
returns-in-None-clause-shorter c = longer _ _ _ (none c)
