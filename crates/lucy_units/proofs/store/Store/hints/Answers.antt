use Rattle.std.proofs.Common.{◌≡◌, ◌<◌, ◌≤◌, ℕ, true, false, List, [], ◌∷◌, ◌++◌, length, slice_get, Option, Some, None, ap, sym, subst, ◌∙◌, rules, arith, vec_len}
use Rattle.std.proofs.lemmas.Option.{slice_get-get_or}
use Rattle.std.proofs.Math.Seq.{take_all}
use Rattle.lucy_clauses.specs.declared.formulas.Clause.{Clause}
use Rattle.lucy_clauses.specs.Sums.{Form}
use Rattle.lucy_cert.specs.Justified.{open_atoms, rup_fault}
use Rattle.lucy_cert.specs.Refuting.{is_none_left}
use Rattle.lucy_units.specs.Leads.{opened}
use Rattle.lucy_units.specs.Stores.{Stored, assumed}
use Rattle.lucy_units.proofs.Deriving.{same_length}
use Rattle.lucy_units.proofs.Hinting.{led_start, led_none, led_some, led_stop, led_last, reason_there}
use Rattle.lucy_units.proofs.store.Store.hints.Goals.{in-Some+in_ok-push+in_ok-is_empty+else-branch+in_ok-copied+in_ok-push-2, in_default}
use Rattle.lucy_units.proofs.store.Store.hints.Goals as goal

pub loop-i-init : goal.loop-i-init
loop-i-init c =
    let trues : c.in_ok-trues.trues.items ≡ assumed c.self.inside.atoms.items c.self.inside.reasons.items = c.in_ok-trues.ensures ∙ ap (λ (s : Stored). assumed s.atoms s.reasons) (sym c.self.view_is) in
    rw (c.new-hints.ensures.items, trues) (led_start c.self.inside.clauses.items c.self.inside.atoms.items c.self.inside.reasons.items)

pub index-requires : goal.index-requires
index-requires c =
    let atoms : vec_len c.self.inside.atoms ≡ length c.self.inside.atoms.items = search rules in
    let reasons : vec_len c.self.inside.reasons ≡ length c.self.inside.reasons.items = search rules in
    let same = same_length c.self.inside.clauses.items [] c.self.inside.atoms.items c.self.inside.reasons.items c.self.invariant.derived in
    grind (arith, c.loop-i-test.true, c.len-i-end.ensures, atoms, reasons, same)

pub index-requires-in-Some : goal.index-requires-in-Some
index-requires-in-Some c =
    let i = c.loop-i.i in
    let ts = c.self.inside.atoms.items in
    let rs = c.self.inside.reasons.items in
    let atoms : vec_len c.self.inside.atoms ≡ length ts = search rules in
    let clauses : vec_len c.self.inside.clauses ≡ length c.self.inside.clauses.items = search rules in
    let same = same_length c.self.inside.clauses.items [] ts rs c.self.invariant.derived in
    let below : i < length ts = grind (arith, c.loop-i-test.true, c.len-i-end.ensures, atoms) in
    let within : i < length rs = grind (arith, below, same) in
    let reason : slice_get rs i ≡ Some (Some c.in-Some.number) = slice_get-get_or rs i c.index.result.now within ∙ ap (λ (x : Option ℕ). Some x) (sym c.index.ensures) ∙ ap (λ (x : Option ℕ). Some x) c.in-Some.is in
    let small = reason_there c.self.inside.clauses.items ts rs i c.in-Some.number c.self.invariant.derived below reason in
    grind (arith, small, clauses)

pub returns-then-branch : goal.returns-then-branch
returns-then-branch c =
    let i = c.loop-i.i in
    let cs = c.self.inside.clauses.items in
    let ts = c.self.inside.atoms.items in
    let rs = c.self.inside.reasons.items in
    let n = c.in-Some.number in
    let clause = c.index-in-Some.result.now in
    let atoms : vec_len c.self.inside.atoms ≡ length ts = search rules in
    let same = same_length cs [] ts rs c.self.invariant.derived in
    let below : i < length ts = grind (arith, c.loop-i-test.true, c.len-i-end.ensures, atoms) in
    let within : i < length rs = grind (arith, below, same) in
    let reason : slice_get rs i ≡ Some (Some n) = slice_get-get_or rs i c.index.result.now within ∙ ap (λ (x : Option ℕ). Some x) (sym c.index.ensures) ∙ ap (λ (x : Option ℕ). Some x) c.in-Some.is in
    let at : slice_get cs n ≡ Some clause = slice_get-get_or cs n clause (reason_there cs ts rs i n c.self.invariant.derived below reason) ∙ ap (λ (x : Clause). Some x) (sym c.index-in-Some.ensures) in
    let none : is_none_left (open_atoms c.loop-i.trues.items clause.atoms) ≡ true = ap (λ (xs : List Form). is_none_left (open_atoms xs clause.atoms)) (sym c.as_slice.ensures.value) ∙ sym c.in_ok-is_empty.ensures ∙ c.if-branch.true in
    let led = led_stop cs ts rs i n c.loop-i.hints.items c.loop-i.trues.items clause c.loop-i.invariant at none in
    let hints : c.from_vec.result ≡ c.loop-i.hints.items ++ n ∷ [] = c.from_vec.ensures ∙ c.in_ok-push.ensures.items in
    rw hints (subst (λ (s : Stored). rup_fault (slice_get s.clauses) (assumed s.atoms s.reasons) (c.loop-i.hints.items ++ n ∷ []) ≡ None) c.self.view_is led)

pub loop-i-preserved : goal.loop-i-preserved
loop-i-preserved c =
    let i = c.loop-i.i in
    let cs = c.self.inside.clauses.items in
    let ts = c.self.inside.atoms.items in
    let rs = c.self.inside.reasons.items in
    let atoms : vec_len c.self.inside.atoms ≡ length ts = search rules in
    let same = same_length cs [] ts rs c.self.invariant.derived in
    let below : i < length ts = grind (arith, c.loop-i-test.true, c.len-i-end.ensures, atoms) in
    let within : i < length rs = grind (arith, below, same) in
    let reason : slice_get rs i ≡ Some c.index.result.now = slice_get-get_or rs i c.index.result.now within ∙ ap (λ (x : Option ℕ). Some x) (sym c.index.ensures) in
    elim c.match-index.branch [
      | in-Some+in_ok-push+in_ok-is_empty+else-branch+in_ok-copied+in_ok-push-2 w ↦
          (let n = w.in-Some.number in
          let clause = w.index-in-Some.result.now in
          let t = w.index-in-Some-2.result.now in
          let there : slice_get rs i ≡ Some (Some n) = reason ∙ ap (λ (x : Option ℕ). Some x) w.in-Some.is in
          let at : slice_get cs n ≡ Some clause = slice_get-get_or cs n clause (reason_there cs ts rs i n c.self.invariant.derived below there) ∙ ap (λ (x : Clause). Some x) (sym w.index-in-Some.ensures) in
          let atom : slice_get ts i ≡ Some t = slice_get-get_or ts i t below ∙ ap (λ (x : Form). Some x) (sym w.index-in-Some-2.ensures) in
          let some : is_none_left (open_atoms c.loop-i.trues.items clause.atoms) ≡ false = ap (λ (xs : List Form). is_none_left (open_atoms xs clause.atoms)) (sym w.as_slice.ensures.value) ∙ sym w.in_ok-is_empty.ensures ∙ w.if-branch.false in
          rw (w.hints-is, w.trues-is, w.in_ok-push.ensures.items, w.in_ok-push-2.ensures.items, w.in_ok-copied.ensures) (led_some cs ts rs i n c.loop-i.hints.items c.loop-i.trues.items t clause c.self.invariant.derived c.loop-i.invariant atom there at some))
      | in_default w ↦
          (let none : slice_get rs i ≡ Some None = reason ∙ ap (λ (x : Option ℕ). Some x) w.in_default.is in
          rw (w.hints-is, w.trues-is) (led_none cs ts rs i c.loop-i.hints.items c.loop-i.trues.items c.loop-i.invariant below none))
    ]

pub returns : goal.returns
returns c =
    let cs = c.self.inside.clauses.items in
    let ts = c.self.inside.atoms.items in
    let rs = c.self.inside.reasons.items in
    let atoms : vec_len c.self.inside.atoms ≡ length ts = search rules in
    let past : length ts ≤ c.loop-i.i = grind (arith, c.loop-i-test.false, c.len-i-end.ensures, atoms) in
    let known = rw (take_all c.loop-i.i ts past) at c.loop-i.invariant.known in
    let conflict = subst (λ (s : Stored). opened s.clauses s.atoms c.args.last ≡ Some []) (sym c.self.view_is) c.requires in
    let led = led_last cs ts rs c.args.last c.loop-i.hints.items c.loop-i.trues.items c.loop-i.invariant.led known conflict in
    let hints : c.from_vec-2.result ≡ c.loop-i.hints.items ++ c.args.last ∷ [] = c.from_vec-2.ensures ∙ c.in_ok-push-3.ensures.items in
    rw hints (subst (λ (s : Stored). rup_fault (slice_get s.clauses) (assumed s.atoms s.reasons) (c.loop-i.hints.items ++ c.args.last ∷ []) ≡ None) c.self.view_is led)
