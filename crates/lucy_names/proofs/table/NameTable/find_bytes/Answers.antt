use Rattle.std.proofs.Common.{◌≡◌, ◌∙◌, ap, List, ℕ}
use Rattle.std.specs.String.{string_bytes}
use Rattle.lucy_names.specs.Tables.{place_of}
use Rattle.lucy_names.proofs.Bytes.{no_text}
use Rattle.lucy_names.proofs.Texts.{place_is}
use Rattle.lucy_names.proofs.table.NameTable.find_bytes.Goals as goal

pub returns-in_default : goal.returns-in_default
returns-in_default c = no_text c.args.name.now c.self.inside.texts.keys c.in_default.ensures.cases.0 ∙ ap (λ (ns : List (List ℕ)). place_of ns c.args.name.now) c.self.view_is

pub returns-in-None : goal.returns-in-None
returns-in-None c =
    let text : c.in-Ok.text.now ≡ c.args.name.now = c.in-Ok.ensures.cases.0 in
    c.in-None.ensures.index ∙ place_is string_bytes c.in-Ok.text.now c.self.inside.texts.keys ∙ ap (place_of _) text ∙ ap (λ (ns : List (List ℕ)). place_of ns c.args.name.now) c.self.view_is

pub returns-in-Some : goal.returns-in-Some
returns-in-Some c =
    let text : c.in-Ok.text.now ≡ c.args.name.now = c.in-Ok.ensures.cases.0 in
    c.in-Some.ensures.index ∙ place_is string_bytes c.in-Ok.text.now c.self.inside.texts.keys ∙ ap (place_of _) text ∙ ap (λ (ns : List (List ℕ)). place_of ns c.args.name.now) c.self.view_is
