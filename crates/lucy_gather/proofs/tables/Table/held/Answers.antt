use Rattle.std.proofs.Common.{◌∙◌, ap}
use Rattle.lucy_gather.specs.Tables.{held}
use Rattle.lucy_gather.proofs.Lookups.{held_is}
use Rattle.lucy_gather.proofs.tables.Table.held.Goals as goal

pub returns-in-None : goal.returns-in-None
returns-in-None c =
    c.in-None.ensures.value ∙ held_is (λ key. key.group) (λ key. key.name.now) c.args.group c.args.name.now c.self.inside.rows.entries ∙ ap (λ entries. held c.args.group c.args.name.now entries) c.self.view_is

pub returns-in-Some : goal.returns-in-Some
returns-in-Some c =
    c.in-Some.ensures.value ∙ held_is (λ key. key.group) (λ key. key.name.now) c.args.group c.args.name.now c.self.inside.rows.entries ∙ ap (λ entries. held c.args.group c.args.name.now entries) c.self.view_is
