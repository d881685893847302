use Rattle.std.proofs.Common.{◌<◌, ◌++◌, take, length, sym, ◌∙◌, ap, add-one, List, rules}
use Rattle.std.proofs.Math.Seq.{set_split}
use Rattle.lucy_clauses.proofs.GatheredParts.{grown-kept}
use Rattle.lucy_clauses.specs.declared.parts.Part.{Part}
use Rattle.lucy_clauses.proofs.gathering.set_part.Goals as goal

pub returns-else-is_zero : goal.returns-else-is_zero
returns-else-is_zero c =
    let lt : c.args.place < length c.args.parts.now.items = search rules in
    simp add-one (set_split c.args.parts.now.items c.args.place c.args.part lt ∙ ap (λ (t : List Part). take c.args.place c.args.parts.now.items ++ t) (sym (grown-kept c.args.part _ (sym c.is_zero.ensures ∙ c.if-is_zero.false))))
