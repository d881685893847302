use Rattle.std.proofs.Common.{◌≡◌, ◌+◌, ◌<◌, ◌≤◌, get_or, arith, true, [], ◌∷◌, ◌++◌, ◌∙◌, take, drop, sym, ap, length}
use Rattle.std.proofs.lemmas.List.{take_more, drop_more}
use Rattle.std.proofs.Math.Seq.{take_all}
use Rattle.lucy_clauses.specs.Sums.{Form}
use Rattle.lucy_units.specs.Leads.{is_known}
use Rattle.lucy_solver.specs.Boxes.{is_fit, exceeds}
use Rattle.lucy_units.proofs.Lists.{both}
use Rattle.lucy_solver.proofs.Steps.{goes_on_twice}
use Rattle.lucy_solver.proofs.Leading.{leading_start, leading_push, leading_stop, leading_end}
use Rattle.lucy_solver.proofs.leaves.refuted_clause.Goals as goal

pub loop-atom-init : goal.loop-atom-init
loop-atom-init c =
    (rw (c.new-hints.ensures.items, c.in_ok-trues.ensures) (leading_start c.args.formula.now c.args.decisions.now c.args.steps.now.items c.requires.shown), rw c.as_slice-atom-items.ensures c.requires.fit, rw c.as_slice-atom-items.ensures c.requires.exceeds)

pub shown-requires-clause-hints : goal.shown-requires-clause-hints
shown-requires-clause-hints c =
    let t = c.atom-item.result in
    let known : is_known t c.loop-atom.trues.items ≡ true = ap (is_known t) (sym c.as_slice.ensures.value) ∙ sym c.is_known.ensures ∙ c.if-is_known.true in
    let hints : c.as_slice-then-is_known.result.now ≡ c.loop-atom.hints.items ++ c.in_ok-lemma.lemma ∷ [] = c.as_slice-then-is_known.ensures.value ∙ c.in_ok-push.ensures.items in
    rw hints (leading_stop c.args.formula.now c.args.decisions.now c.args.steps.now.items c.loop-atom.steps.items c.refute_atom.new.steps.items c.loop-atom.hints.items c.loop-atom.trues.items _ t c.in_ok-lemma.lemma c.loop-atom.invariant.0 c.in_ok-lemma.ensures.goes_on c.in_ok-lemma.ensures.denied known)

pub returns-then-is_known-clause-goes_on : goal.returns-then-is_known-clause-goes_on
returns-then-is_known-clause-goes_on c =
    let l = c.loop-atom.invariant.0 in
    goes_on_twice _ _ _ (goes_on_twice _ _ _ l.goes_on c.in_ok-lemma.ensures.goes_on) c.in_ok-number.ensures.goes_on

pub loop-atom-preserved : goal.loop-atom-preserved
loop-atom-preserved c =
    let t = c.atom-item.result in
    let i = c.loop-atom.atom-index in
    let xs = c.as_slice-atom-items.result.now in
    let unknown = ap (is_known t) (sym c.as_slice.ensures.value) ∙ sym c.is_known.ensures ∙ c.if-is_known.false in
    let is : t ≡ get_or xs i t = c.atom-item.is in
    let below : i < length xs = c.loop-atom-test.true in
    let more : take (i + 1) xs ≡ take i xs ++ t ∷ [] = take_more xs i t below ∙ ap (λ (u : Form). take i xs ++ u ∷ []) (sym is) in
    let rest : drop i xs ≡ t ∷ drop (i + 1) xs = drop_more xs i t below ∙ ap (λ (u : Form). u ∷ drop (i + 1) xs) (sym is) in
    let inv = c.loop-atom.invariant in
    let l = leading_push c.args.formula.now c.args.decisions.now c.args.steps.now.items c.loop-atom.steps.items c.refute_atom.new.steps.items c.loop-atom.hints.items c.loop-atom.trues.items (take i xs) t c.in_ok-lemma.lemma inv.0 c.in_ok-lemma.ensures.shown c.in_ok-lemma.ensures.goes_on c.in_ok-lemma.ensures.denied unknown in
    let fits = rw rest at inv.1 in
    let over = rw rest at inv.2 in
    (rw (c.in_ok-push.ensures.items, c.in_ok-push-2.ensures.items, c.in_ok-opposite.ensures, more) l, (both (is_fit c.args.bounds.now t) _ fits).1, (both (exceeds c.args.bounds.now t) _ over).1)

pub shown-requires-2-clause-hints : goal.shown-requires-2-clause-hints
shown-requires-2-clause-hints c =
    let past : length c.as_slice-atom-items.result.now ≤ c.loop-atom.atom-index = grind (arith, c.loop-atom-test.false) in
    let all : take c.loop-atom.atom-index c.as_slice-atom-items.result.now ≡ c.args.clause.now.atoms = take_all _ _ past ∙ c.as_slice-atom-items.ensures in
    let l = rw all at c.loop-atom.invariant.0 in
    let hints : c.as_slice-2.result.now ≡ c.loop-atom.hints.items ++ c.args.number ∷ [] = c.as_slice-2.ensures.value ∙ c.in_ok-push-3.ensures.items in
    rw hints (leading_end c.args.formula.now c.args.decisions.now c.args.steps.now.items c.loop-atom.steps.items c.loop-atom.hints.items c.loop-atom.trues.items c.args.clause.now c.args.number l c.requires.there)

pub returns-clause-goes_on : goal.returns-clause-goes_on
returns-clause-goes_on c =
    let l = c.loop-atom.invariant.0 in
    goes_on_twice _ _ _ l.goes_on c.in_ok-number-2.ensures.goes_on
