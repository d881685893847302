use Rattle.std.proofs.Common.{◌≡◌, ◌++◌, [], List, ℕ, ap, ◌∙◌, subst, OnOk}
use Rattle.lucy_report.specs.ExpressionSteps.{text_on}
use Rattle.lucy_report.proofs.ExpressionLemmas.{nodes_named, text_of_tree}
use Rattle.lucy_report.proofs.expression_lines.write_expression.Goals as goal

pub write_turns-requires : goal.write_turns-requires
write_turns-requires c =
    let is = c.as_slice.ensures.value ∙ c.in_ok-turns.ensures in
    rw is (nodes_named c.args.names.now.txns c.args.expr.now.tree c.requires)

pub returns : goal.returns
returns c =
    let is = c.as_slice.ensures.value ∙ c.in_ok-turns.ensures in
    let text = ap (text_on c.args.names.now.txns []) is ∙ text_of_tree c.args.names.now.txns c.args.expr.now.tree in
    subst (λ (t : List ℕ). OnOk c.write_turns.result (c.write_turns.new.out.items ≡ c.args.out.now.items ++ t)) text c.write_turns.ensures
