use Rattle.std.proofs.Common.{◌∙◌, ◌++◌, ◌∷◌, [], ap, sym}
use Rattle.indexmap.proofs.CallerLemmas.{insert_entry-new}
use Rattle.lucy_gather.specs.Tables.{held, entry_of, entries_of, with_entry_by}
use Rattle.lucy_gather.proofs.Lookups.{held_is, entries_push}
use Rattle.lucy_gather.proofs.tables.Table.put.Goals as goal

pub returns-in_ok-insert-in-None-clause-value : goal.returns-in_ok-insert-in-None-clause-value
returns-in_ok-insert-in-None-clause-value c =
    let entry = entry_of c.args.group c.args.name.now c.args.meaning in
    let rows = c.self.inside.rows in
    let absent = held_is (λ key. key.group) (λ key. key.name.now) c.args.group c.args.name.now rows.entries ∙ ap (λ entries. held c.args.group c.args.name.now entries) c.self.view_is ∙ sym c.in-None.ensures in
    ap (λ rows. entries_of (λ key. key.group) (λ key. key.name.now) rows) (c.in_ok-insert-in-None.ensures.entries ∙ insert_entry-new _ rows _ c.args.meaning absent)
    ∙ entries_push (λ key. key.group) (λ key. key.name.now) rows.entries _ c.args.meaning
    ∙ ap (λ entries. entries ++ entry ∷ []) c.self.view_is
    ∙ ap (λ taken. with_entry_by taken c.args.self.now entry) c.in-None.ensures
