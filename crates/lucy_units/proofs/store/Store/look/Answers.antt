use Rattle.std.proofs.Common.{◌≡◌, ◌<◌, List, [], length, get_or, slice_get, Some, ap, sym, subst, ◌∙◌}
use Rattle.std.proofs.lemmas.Option.{slice_get-get_or, get_or_from_slice_get}
use Rattle.lucy_clauses.specs.declared.formulas.Clause.{Clause}
use Rattle.lucy_clauses.specs.Sums.{Form}
use Rattle.lucy_units.specs.Stores.{Stored, stored}
use Rattle.lucy_units.specs.States.{IsUnit}
use Rattle.lucy_units.specs.Propagations.{Grows}
use Rattle.lucy_units.proofs.Deriving.{derived_push, unit_reason, grown}
use Rattle.lucy_units.proofs.store.Store.look.Goals as goal

pub invariant_of-self-2 : goal.invariant_of-self-2
invariant_of-self-2 c =
    let clauses = c.self.inside.clauses.items in
    let clause = c.index-clause.result.now in
    let state = rw c.in-Unit.is at c.in_ok-state_of.ensures in
    let unit : IsUnit c.self.inside.atoms.items clause.atoms c.in-Unit.place = subst (λ (ts : List Form). IsUnit ts clause.atoms c.in-Unit.place) c.as_slice.ensures.value state in
    let below : c.args.number < length clauses = subst (λ (s : Stored). c.args.number < length s.clauses) (sym c.self.view_is) c.requires in
    let there : slice_get clauses c.args.number ≡ Some clause = slice_get-get_or clauses c.args.number clause below ∙ ap (λ (x : Clause). Some x) (sym c.index-clause.ensures) in
    let element = c.index-as_slice-place.result in
    let atom : c.in_ok-atom.atom ≡ unit.atom = c.in_ok-atom.ensures ∙ c.index-as_slice-place.is ∙ ap (λ (ts : List Form). get_or ts c.in-Unit.place element) c.as_slice-2.ensures ∙ get_or_from_slice_get clause.atoms c.in-Unit.place unit.atom element unit.there in
    rw (c.push_reserved.ensures.items, c.in_ok-reserve.ensures.items, c.in_ok-push.ensures.items, atom) (record { derived = derived_push clauses [] c.self.inside.atoms.items c.self.inside.reasons.items unit.atom (Some c.args.number) c.self.invariant.derived (unit_reason clauses c.self.inside.atoms.items c.args.number c.in-Unit.place clause there unit) })

pub returns-clause-looks : goal.returns-clause-looks
returns-clause-looks c =
    let grows : Grows (stored c.self.inside.clauses.items c.self.inside.atoms.items c.self.inside.reasons.items) (stored c.self.inside.clauses.items c.push_reserved.new.self.items c.push.new.self.items) = rw (c.push_reserved.ensures.items, c.in_ok-reserve.ensures.items, c.in_ok-push.ensures.items) (grown c.self.inside.clauses.items c.self.inside.atoms.items c.self.inside.reasons.items c.in_ok-atom.atom c.args.number) in
    subst (λ (s : Stored). Grows s (stored c.self.inside.clauses.items c.push_reserved.new.self.items c.push.new.self.items)) c.self.view_is grows
