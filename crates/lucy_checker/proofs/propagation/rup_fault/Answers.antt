use Rattle.std.proofs.Common.{◌≡◌, ◌∙◌, ◌+◌, sym, ap, List, [], ◌∷◌, map, drop}
use Rattle.lucy_clauses.specs.Sums.{Form, complement}
use Rattle.lucy_cert.specs.Justified.{rup_fault}
use Rattle.lucy_checker.specs.Propagation.{open_under, with_atom}
use Rattle.lucy_checker.proofs.FalseAtoms.{one_left, none_left, no_value, one_only, same_fault}
use Rattle.lucy_checker.proofs.propagation.rup_fault.Goals as goal

pub loop-i-init : goal.loop-i-init
loop-i-init g c =
    same_fault (g.L.Lookup.at c.args.known.now) c.in_ok-falses.falses c.args.atoms.now c.args.hints.now c.in_ok-falses.ensures

pub loop-i-preserved : goal.loop-i-preserved
loop-i-preserved g c =
    let atom = c.in-Some-first_open.atom.now in
    let rest = c.in-Some-first_open.rest.now in
    let none : open_under c.loop-i.falses rest ≡ [] = no_value c.first_open-in-loop-i.result _ _ c.first_open-in-loop-i.ensures c.if-is_some.ensures in
    let left = one_only c.loop-i.falses c.as_slice.result.now c.in-Some.clause.now.atoms rest atom c.as_slice.ensures c.in-Some-first_open.ensures none in
    let step = one_left (g.L.Lookup.at c.args.known.now) c.loop-i.falses c.args.hints.now c.loop-i.i c.in-Some.clause.now atom c.loop-i-test.true c.in-Some.ensures left in
    let put : c.add.new.self ≡ with_atom c.loop-i.falses (complement atom) = c.in_ok-add.ensures ∙ ap (with_atom c.loop-i.falses) c.in_ok-complement.ensures in
    c.loop-i.invariant ∙ step ∙ ap (λ (ts : List Form). rup_fault (g.L.Lookup.at c.args.known.now) (map complement ts) (drop (c.loop-i.i + 1) c.args.hints.now)) (sym put)

pub returns-in_default-first_open : goal.returns-in_default-first_open
returns-in_default-first_open g c =
    let conflict = none_left (g.L.Lookup.at c.args.known.now) c.loop-i.falses c.as_slice.result.now c.args.hints.now c.loop-i.i c.in-Some.clause.now c.loop-i-test.true c.in-Some.ensures c.as_slice.ensures c.in_default-first_open.ensures in
    c.conflict_fault.ensures ∙ sym (c.loop-i.invariant ∙ conflict)
