use Rattle.std.proofs.Common.{Option, Some, take, drop, ap, sym, ◌∙◌, Ok, length, ◌-◌}
use Rattle.lucy_syntax.specs.Input as spec
use Rattle.lucy_syntax.specs.Input.{Reads}
use Rattle.lucy_tree.specs.declared.marks.Span.{Span}
use Rattle.lucy_syntax.proofs.TheWords.{eats_first}
use Rattle.lucy_syntax.proofs.cursor.Cursor.eat.Goals as goal

-- src/cursor.rt:107:5
pub returns-in-len1-up : goal.returns-in-len1-up
returns-in-len1-up c =
    ap (λ i. spec.eat c.args.kind i) (sym c.self.view_is)
    ∙ eats_first c.args.kind c.self.inside.text.now _ c.self.inside.tokens.now (length c.self.inside.text.now) c.in-len1-up.len_at_least (sym c.is_kind.ensures ∙ c.if-is_kind.true)
    ∙ ap (λ s. let r : spec.Outcome (Option Span) = Ok (Some s, spec.input_of (spec.words_of c.self.inside.text.now (take (length c.self.inside.tokens.now - 1) (drop 1 c.self.inside.tokens.now))) (length c.self.inside.text.now)) in r) (sym c.span_of.ensures)
