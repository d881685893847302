-- A range with no number refutes any formula that has it.
use Rattle.std.proofs.Common.{◌≡◌, true, false, ℕ, ◌+◌, ◌<◌, ◌≤◌, ◌^◌, nat_lt, ℤ, pos, negsuc, neg_ℤ, ◌-ℤ◌, ◌+ℤ◌, ◌*ℤ◌, ◌<ℤ◌, int_lt, List, [], ◌∷◌, Some, None, Result, Ok, slice_get, refl, ◌∙◌, ap, arith}
use Rattle.std.proofs.lemmas.Int.{ints}
use Rattle.std.specs.Prelude.{unsigned_abs}
use Rattle.std.specs.Option.{option_map}
use Rattle.std.proofs.lemmas.Bool.Decides.{nat_tests}
use Rattle.lucy_clauses.specs.declared.formulas.Formula.{Formula}
use Rattle.lucy_clauses.specs.declared.formulas.Range.{Range}
use Rattle.lucy_clauses.specs.declared.lines.Ref.TheVariants.{Low, High}
use Rattle.lucy_clauses.specs.Sums.{Form, form}
use Rattle.lucy_clauses.specs.Parts.{is_within}
use Rattle.lucy_clauses.specs.Lines.{Unjustified, form_of_ref, one_variable, added_ref, then_form, sum_form, is_contradiction, fault_or, first_unjustified, unjustified_line}
use Rattle.lucy_cert.specs.Justified.{rule_fault, why_of}
use Rattle.lucy_solver.specs.Boxes.{times_of}
use Rattle.lucy_solver.specs.Shows.{AreShown, lemma_step, sum_line, known_of}
use Rattle.lucy_solver.specs.Empty.{IsEmpty, range_times, no_atoms}
use Rattle.lucy_cert.specs.Refuting.{Refutes}
use Rattle.lucy_cert.specs.Writable.{step_fits}
use Rattle.lucy_units.proofs.Lists.{chosen}
use Rattle.lucy_solver.proofs.Boxing.{taken_one}
use Rattle.lucy_solver.proofs.Steps.{shown_push, step_shown, refutes_from}

within : (x : ℤ) → unsigned_abs x ≤ 2 ^ 63 → is_within (neg_ℤ x) ≡ true
within x h = grind (arith, ints, nat_tests, h)

starts : (ranges : List Range) (v : ℕ) (r : Range) → slice_get ranges v ≡ Some r → unsigned_abs r.lo ≤ 2 ^ 63 → added_ref (pos 1) (form_of_ref [] ranges [] (Low v)) (form [] (pos 0)) ≡ Ok (one_variable v (negsuc 0) (neg_ℤ r.lo))
starts ranges v r there small =
    let is : form_of_ref [] ranges [] (Low v) ≡ Some (one_variable v (negsuc 0) (neg_ℤ r.lo)) = ap (option_map (λ (r : Range). one_variable v (negsuc 0) (neg_ℤ r.lo))) there in
    let product : pos 1 *ℤ neg_ℤ r.lo ≡ neg_ℤ r.lo = omega (arith, ints) in
    let sum : pos 0 +ℤ neg_ℤ r.lo ≡ neg_ℤ r.lo = omega (arith, ints) in
    let fits : is_within (neg_ℤ r.lo) ≡ true = within r.lo small in
    rw (is, product, fits, sum, fits) refl

ends : (ranges : List Range) (v : ℕ) (r : Range) → slice_get ranges v ≡ Some r → unsigned_abs r.lo ≤ 2 ^ 63 → unsigned_abs r.hi ≤ 2 ^ 63 → added_ref (pos 1) (form_of_ref [] ranges [] (High v)) (one_variable v (negsuc 0) (neg_ℤ r.lo)) ≡ Ok (form [] (neg_ℤ r.lo -ℤ neg_ℤ r.hi))
ends ranges v r there low high =
    let is : form_of_ref [] ranges [] (High v) ≡ Some (one_variable v (pos 1) r.hi) = ap (option_map (λ (r : Range). one_variable v (pos 1) r.hi)) there in
    taken_one [] ranges (pos 1) (pos 1) r.hi (neg_ℤ r.hi) (neg_ℤ r.lo) (High v) (record { variable = v; by = negsuc 0 }) [] is refl (once r.hi) (positive) (λ e. cc) refl (sizes r.lo r.hi low high)
  where
    once : (x : ℤ) → pos 1 *ℤ x ≡ neg_ℤ (neg_ℤ x)
    once x = omega (arith, ints)

    positive : pos 0 <ℤ pos 1
    positive = omega (arith, ints)

    sizes : (x y : ℤ) → unsigned_abs x ≤ 2 ^ 63 → unsigned_abs y ≤ 2 ^ 63 → unsigned_abs (neg_ℤ x) + unsigned_abs (neg_ℤ y) ≤ 2 ^ 100
    sizes x y h g = grind (arith, ints, h, g)

below_zero : (lo hi : ℤ) → hi <ℤ lo → int_lt (neg_ℤ lo -ℤ neg_ℤ hi) (pos 0) ≡ true
below_zero lo hi h = grind (arith, ints, h)

no_fault : (ranges : List Range) (v : ℕ) → IsEmpty ranges v → unjustified_line [] ranges (sum_line (range_times v) ∷ []) ≡ None
no_fault ranges v e =
    let r = e.range in
    let f : Form = form [] (neg_ℤ r.lo -ℤ neg_ℤ r.hi) in
    let sum : sum_form [] ranges [] (range_times v) (form [] (pos 0)) ≡ Ok f =
    ap (λ (o : Result Form Unjustified). then_form o (sum_form [] ranges [] (times_of (pos 1) (High v) ∷ []))) (starts ranges v r e.there e.low) ∙ ap (λ (o : Result Form Unjustified). then_form o (sum_form [] ranges [] [])) (ends ranges v r e.there e.low e.high) in
    let conflict : is_contradiction f ≡ true = below_zero r.lo r.hi e.none in
    ap (λ (o : Result Form Unjustified). fault_or 0 o (λ f. first_unjustified [] ranges 1 (f ∷ []) (is_contradiction f) [])) sum ∙ chosen (is_contradiction f) None _ conflict

-- the proof of one lemma
pub range_shown : (f : Formula) (v : ℕ) → IsEmpty f.ranges v → AreShown f (lemma_step no_atoms (sum_line (range_times v) ∷ []) ∷ [])
range_shown f v e =
    let fault : rule_fault f (known_of []) (lemma_step no_atoms (sum_line (range_times v) ∷ [])) ≡ None = ap (option_map (λ (g : ℕ × Unjustified). why_of g.1)) (no_fault f.ranges v e) in
    let small : nat_lt v (2 ^ 32) ≡ true = below v e.few in
    let fits : step_fits false (lemma_step no_atoms (sum_line (range_times v) ∷ [])) ≡ true = rw small refl in
    shown_push f [] (lemma_step no_atoms (sum_line (range_times v) ∷ [])) (record { justified = record { each = tt }; all_add = refl; writable = refl }) refl fits fault
  where
    below : (v : ℕ) → v < 2 ^ 32 → nat_lt v (2 ^ 32) ≡ true
    below v h = grind (arith, nat_tests, h)

pub range_refutes : (f : Formula) (v : ℕ) → IsEmpty f.ranges v → Refutes f (record { steps = lemma_step no_atoms (sum_line (range_times v) ∷ []) ∷ [] }) None
range_refutes f v e = refutes_from f (lemma_step no_atoms (sum_line (range_times v) ∷ []) ∷ []) _ (range_shown f v e) (step_shown f [] [] (lemma_step no_atoms (sum_line (range_times v) ∷ [])) refl)
