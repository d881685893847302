use Rattle.std.proofs.Common.{◌≡◌, ◌+◌, List, ℕ, rules, take, sym, ap, ◌∙◌}
use Rattle.std.specs.Prelude.{Option, Ok}
use Rattle.std.proofs.lemmas.List.{take_rest}
use Rattle.lucy_session.specs.Reading.{field, field_at}
use Rattle.lucy_session.proofs.cursor.Cursor.field.Goals as goal

pub returns-in-Some-clause-read : goal.returns-in-Some-clause-read
unfolding field
returns-in-Some-clause-read c =
    let text = c.self.inside.text.now in
    ap field (sym c.self.view_is)
    ∙ ap (λ (found : Option ℕ). field_at found text) (sym c.first_space.ensures.value ∙ c.in-Some.is)
    ∙ ap (λ (rest : List ℕ). Ok (take c.in-Some.place text, rest)) (sym (take_rest text (c.in-Some.place + 1)))

pub returns-in-None-clause-read : goal.returns-in-None-clause-read
unfolding field
returns-in-None-clause-read c = search rules
