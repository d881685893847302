use Rattle.std.proofs.Common.{List, ◌≤◌, ◌^◌, ap, sym, ◌∙◌, subst}
use Rattle.lucy_clauses.specs.declared.parts.Part.{Part}
use Rattle.lucy_clauses.specs.Sums.{Form}
use Rattle.lucy_clauses.specs.Parts.{total_size}
use Rattle.lucy_simplex.proofs.FirstLines.{narrow_size}
use Rattle.lucy_simplex.proofs.Finding.{system_rows, narrow_at, alone_there, alone_among}
use Rattle.lucy_simplex.proofs.solving.alone.Goals as goal

pub side_factors-requires : goal.side_factors-requires
side_factors-requires c =
    let parts = c.deref.ensures.value ∙ ap (λ (r : Form). r.parts) c.row.view_is in
    subst (λ (ps : List Part). total_size ps ≤ 2 ^ 101) (sym parts)
    (narrow_size c.args.bounds.now c.index-rows-place.result (narrow_at c.args.bounds.now c.args.rows.now c.args.place c.index-rows-place.result (system_rows c.args.rows.now c.args.bounds.now c.requires.system) c.requires.below (sym c.index-rows-place.is)))

pub side_factors-requires-2 : goal.side_factors-requires-2
side_factors-requires-2 c =
    let parts = c.deref-2.ensures.value ∙ ap (λ (r : Form). r.parts) c.row.view_is in
    subst (λ (ps : List Part). total_size ps ≤ 2 ^ 101) (sym parts)
    (narrow_size c.args.bounds.now c.index-rows-place.result (narrow_at c.args.bounds.now c.args.rows.now c.args.place c.index-rows-place.result (system_rows c.args.rows.now c.args.bounds.now c.requires.system) c.requires.below (sym c.index-rows-place.is)))

pub returns-clause-refutes : goal.returns-clause-refutes
returns-clause-refutes c =
    alone_there c.args.rows.now c.args.bounds.now c.args.place c.index-rows-place.result c.deref.result.now c.deref-2.result.now c.in_ok-of_rows.of_rows.items c.in_ok-lows.lows.items c.in_ok-highs.highs.items c.requires.system c.requires.below
    (sym c.index-rows-place.is) c.requires.alone (c.deref.ensures.value ∙ ap (λ (r : Form). r.parts) c.row.view_is) (c.deref-2.ensures.value ∙ ap (λ (r : Form). r.parts) c.row.view_is)
    c.in_ok-of_rows.ensures c.in_ok-lows.ensures c.in_ok-highs.ensures

pub returns-clause-alone : goal.returns-clause-alone
returns-clause-alone c = alone_among c.args.bounds.now c.args.rows.now c.args.place c.requires.below c.requires.alone
