use Rattle.std.proofs.Common.{◌≡◌, ◌+◌, ◌<◌, false, ◌∷◌, drop, length, Some, get_or, ap, sym, ◌∙◌, rules}
use Rattle.std.proofs.lemmas.List.{drop_more}
use Rattle.std.proofs.lemmas.Option.{slice_get-get_or}
use Rattle.lucy_clauses.specs.Sums.{Form}
use Rattle.lucy_cert.specs.Justified.{is_false, open_atoms}
use Rattle.lucy_units.proofs.Lists.{other_chosen}
use Rattle.lucy_units.proofs.truths.first_open.Goals as goal

pub returns-then-not-branch : goal.returns-then-not-branch
returns-then-not-branch c =
    let t = c.index-atoms-i.result in
    let i = c.loop-i.i in
    let xs = c.args.atoms.now in
    let is : t ≡ get_or xs i t = c.index-atoms-i.is in
    let below : i < length xs = search rules in
    let rest : drop i xs ≡ t ∷ drop (i + 1) xs = drop_more xs i t below ∙ ap (λ (u : Form). u ∷ drop (i + 1) xs) (sym is) in
    let not_false : is_false c.args.trues.now t ≡ false = sym c.in_ok-is_false.ensures ∙ c.if-not-branch.true in
    record {
      atom = t;
      there = slice_get-get_or xs i t below ∙ ap (λ (u : Form). Some u) (sym is);
      first = c.loop-i.invariant.1 ∙ ap (open_atoms c.args.trues.now) rest ∙ other_chosen (is_false c.args.trues.now t) (open_atoms c.args.trues.now (drop (i + 1) xs)) (t ∷ open_atoms c.args.trues.now (drop (i + 1) xs)) not_false;
    }
