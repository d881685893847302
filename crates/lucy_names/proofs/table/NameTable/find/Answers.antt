use Rattle.std.proofs.Common.{◌∙◌, ap}
use Rattle.std.specs.String.{string_bytes}
use Rattle.lucy_names.specs.Tables.{place_of}
use Rattle.lucy_names.proofs.Texts.{place_is}
use Rattle.lucy_names.proofs.table.NameTable.find.Goals as goal

pub returns-in-None : goal.returns-in-None
returns-in-None c =
    c.in-None.ensures.index ∙ place_is string_bytes c.args.name.now c.self.inside.texts.keys ∙ ap (λ t. place_of t c.args.name.now) c.self.view_is

pub returns-in-Some : goal.returns-in-Some
returns-in-Some c =
    c.in-Some.ensures.index ∙ place_is string_bytes c.args.name.now c.self.inside.texts.keys ∙ ap (λ t. place_of t c.args.name.now) c.self.view_is
