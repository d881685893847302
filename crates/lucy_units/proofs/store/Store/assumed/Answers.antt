use Rattle.std.proofs.Common.{◌≡◌, ◌<◌, ℕ, [], length, slice_get, Option, Some, None, ap, sym, ◌∙◌, rules, arith, vec_len}
use Rattle.std.proofs.lemmas.Option.{slice_get-get_or}
use Rattle.lucy_clauses.specs.Sums.{Form}
use Rattle.lucy_units.proofs.Deriving.{same_length}
use Rattle.lucy_units.proofs.Hinting.{taken_over, left_over}
use Rattle.lucy_units.proofs.store.Store.assumed.Goals.{in-None+in_ok-copied-in-None+in_ok-push-in-None, in-Some}
use Rattle.lucy_units.proofs.store.Store.assumed.Goals as goal

pub index-requires : goal.index-requires
index-requires c =
    let atoms : vec_len c.self.inside.atoms ≡ length c.self.inside.atoms.items = search rules in
    let reasons : vec_len c.self.inside.reasons ≡ length c.self.inside.reasons.items = search rules in
    let same = same_length c.self.inside.clauses.items [] c.self.inside.atoms.items c.self.inside.reasons.items c.self.invariant.derived in
    grind (arith, c.loop-i-test.true, c.len-i-end.ensures, atoms, reasons, same)

pub loop-i-preserved : goal.loop-i-preserved
loop-i-preserved c =
    let i = c.loop-i.i in
    let ts = c.self.inside.atoms.items in
    let rs = c.self.inside.reasons.items in
    let atoms : vec_len c.self.inside.atoms ≡ length c.self.inside.atoms.items = search rules in
    let same = same_length c.self.inside.clauses.items [] ts rs c.self.invariant.derived in
    let below : i < length ts = grind (arith, c.loop-i-test.true, c.len-i-end.ensures, atoms) in
    let within : i < length rs = grind (arith, below, same) in
    let reason : slice_get rs i ≡ Some c.index.result.now = slice_get-get_or rs i c.index.result.now within ∙ ap (λ (x : Option ℕ). Some x) (sym c.index.ensures) in
    elim c.match-index.branch [
      | in-None+in_ok-copied-in-None+in_ok-push-in-None w ↦
          (let at : slice_get ts i ≡ Some w.index-in-None.result.now = slice_get-get_or ts i w.index-in-None.result.now below ∙ ap (λ (x : Form). Some x) (sym w.index-in-None.ensures) in
          let none : slice_get rs i ≡ Some None = reason ∙ ap (λ (x : Option ℕ). Some x) w.in-None.is in
          rw (w.all-is, w.in_ok-push-in-None.ensures.items, w.in_ok-copied-in-None.ensures) (taken_over ts rs i c.loop-i.all.items w.index-in-None.result.now at none c.loop-i.invariant))
      | in-Some w ↦
          (let there : slice_get rs i ≡ Some (Some w.in-Some.field-0) = reason ∙ ap (λ (x : Option ℕ). Some x) w.in-Some.is in
          rw w.all-is (left_over ts rs i w.in-Some.field-0 c.loop-i.all.items below there c.loop-i.invariant))
    ]
