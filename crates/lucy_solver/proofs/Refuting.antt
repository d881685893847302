-- A box in which an atom is false refutes the atom.
use Rattle.std.proofs.Common.{◌≡◌, true, false, ℕ, ◌+◌, ◌<◌, ◌≤◌, ◌^◌, ℤ, pos, ◌-ℤ◌, ◌+ℤ◌, ◌*ℤ◌, int_lt, nat_le, List, [], ◌∷◌, ◌++◌, map, Some, None, Result, Ok, length, slice_get, refl, sym, ◌∙◌, ap, arith}
use Rattle.std.proofs.lemmas.Int.{ints}
use Rattle.std.specs.Prelude.{unsigned_abs}
use Rattle.std.specs.List.{list_all}
use Rattle.std.specs.Option.{option_map}
use Rattle.std.proofs.lemmas.Bool.Decides.{nat_tests}
use Rattle.lucy_clauses.specs.declared.formulas.Clause.{Clause}
use Rattle.lucy_clauses.specs.declared.formulas.Range.{Range}
use Rattle.lucy_clauses.specs.declared.formulas.Formula.{Formula}
use Rattle.lucy_clauses.specs.declared.lines.Ref.TheVariants.{Negated}
use Rattle.lucy_clauses.specs.Sums.{Form, form, complement}
use Rattle.lucy_clauses.specs.Parts.{is_within}
use Rattle.lucy_clauses.specs.Normal.{IsNormal}
use Rattle.lucy_clauses.specs.Formulas.{names_below}
use Rattle.lucy_clauses.specs.Lines.{Unjustified, form_of_ref, put_multiples, added_ref, then_form, sum_form, is_contradiction, fault_or, first_unjustified, unjustified_line}
use Rattle.lucy_clauses.proofs.Uniqueness.{twice}
use Rattle.lucy_cert.specs.declared.steps.ProofStep.{ProofStep}
use Rattle.lucy_cert.specs.Writable.{atom_fits, clause_fits, times_fits, step_fits}
use Rattle.lucy_cert.specs.Justified.{names_known, why_of, lemma_fault, rule_fault}
use Rattle.lucy_solver.specs.declared.boxes.Bound.{Bound}
use Rattle.lucy_solver.specs.Boxes.{least, reaches, exceeds, is_fit, takings, IsBox}
use Rattle.lucy_solver.specs.Shows.{AreShown, lemma_step, sum_line, atom_times, names_all_below, is_sound, are_sound, clause_of, known_of}
use Rattle.lucy_units.proofs.Lists.{both, chosen, all_push}
use Rattle.lucy_solver.proofs.Boxing.{put_once, taken_off, AreForms}
use Rattle.lucy_solver.proofs.References.{are_forms, are_written, last_place}
use Rattle.lucy_solver.proofs.Writing.{names_of_sound, denial_fits, complement_fits, times_fit}
use Rattle.lucy_solver.proofs.Steps.{names-complement, shown_push}

-- ---- the line
within_bound : (x : ℤ) (n : ℕ) → nat_le (unsigned_abs x + n) (2 ^ 100) ≡ true → is_within x ≡ true
within_bound x n h = grind (arith, nat_tests, h)

itself : (atoms : List Form) (ranges : List Range) (place : ℕ) (t : Form) → slice_get atoms place ≡ Some (complement t) → IsNormal t.parts → is_within t.bound ≡ true → added_ref (pos 1) (form_of_ref atoms ranges [] (Negated place)) (form [] (pos 0)) ≡ Ok t
itself atoms ranges place t there normal within =
    let is : form_of_ref atoms ranges [] (Negated place) ≡ Some t = ap (option_map complement) there ∙ ap Some (twice t) in
    let parts : put_multiples (pos 1) t.parts [] ≡ Some t.parts = put_once t.parts [] refl normal.ascending normal.nonzero normal.within refl in
    let product : pos 1 *ℤ t.bound ≡ t.bound = omega (arith, ints) in
    let sum : pos 0 +ℤ t.bound ≡ t.bound = omega (arith, ints) in
    rw (is, parts, product, within, sum, within) refl

line_is : (atoms : List Form) (ranges : List Range) (bs : List Bound) (place : ℕ) (t : Form) → AreForms atoms ranges bs → slice_get atoms place ≡ Some (complement t) → IsNormal t.parts → is_fit bs t ≡ true → sum_form atoms ranges [] (atom_times place bs t.parts) (form [] (pos 0)) ≡ Ok (form [] (t.bound -ℤ least bs t.parts))
line_is atoms ranges bs place t forms there normal fits =
    let sizes = both (names_below (length bs) t.parts) (nat_le (unsigned_abs t.bound + reaches bs t.parts) (2 ^ 100)) fits in
    ap (λ (o : Result Form Unjustified). then_form o (sum_form atoms ranges [] (takings bs t.parts))) (itself atoms ranges place t there normal (within_bound t.bound (reaches bs t.parts) sizes.1)) ∙ taken_off atoms ranges bs t.bound t.parts forms sizes.0 normal.nonzero normal.within (at_most (unsigned_abs t.bound + reaches bs t.parts) (2 ^ 100) sizes.1)
  where
    at_most : (a b : ℕ) → nat_le a b ≡ true → a ≤ b
    at_most a b h = grind (arith, nat_tests, h)

below_zero : (b l : ℤ) → int_lt b l ≡ true → int_lt (b -ℤ l) (pos 0) ≡ true
below_zero b l h = grind (arith, ints, h)

no_fault_line : (atoms : List Form) (ranges : List Range) (bs : List Bound) (place : ℕ) (t : Form) → AreForms atoms ranges bs → slice_get atoms place ≡ Some (complement t) → IsNormal t.parts → is_fit bs t ≡ true → exceeds bs t ≡ true → unjustified_line atoms ranges (sum_line (atom_times place bs t.parts) ∷ []) ≡ None
no_fault_line atoms ranges bs place t forms there normal fits over =
    let r : Form = form [] (t.bound -ℤ least bs t.parts) in
    let conflict : is_contradiction r ≡ true = below_zero t.bound (least bs t.parts) over in
    ap (λ (o : Result Form Unjustified). fault_or 0 o (λ f. first_unjustified atoms ranges 1 (f ∷ []) (is_contradiction f) [])) (line_is atoms ranges bs place t forms there normal fits) ∙ chosen (is_contradiction r) None _ conflict

-- ---- the step
pub lemma_shown : (f : Formula) (steps : List ProofStep) (ds : List Form) (bs : List Bound) (t : Form) (place : ℕ) (clause : Clause) → AreShown f steps → IsBox f.ranges ds bs → length f.ranges < 2 ^ 32 → are_sound (length f.ranges) ds ≡ true → IsNormal t.parts → is_fit bs t ≡ true → exceeds bs t ≡ true → place < 2 ^ 32 → place ≡ length ds → clause.atoms ≡ map complement (ds ++ t ∷ []) → AreShown f (steps ++ lemma_step clause (sum_line (atom_times place bs t.parts) ∷ []) ∷ [])
lemma_shown f steps ds bs t place clause shown box few sound normal fits over little at is =
    let names = names_of_sound (length f.ranges) ds sound in
    let sizes = both (names_below (length bs) t.parts) (nat_le (unsigned_abs t.bound + reaches bs t.parts) (2 ^ 100)) fits in
    let own : names_below (length f.ranges) t.parts ≡ true = ap (λ (n : ℕ). names_below n t.parts) (sym box.count) ∙ (both (names_below (length bs) t.parts) (nat_le (unsigned_abs t.bound + reaches bs t.parts) (2 ^ 100)) fits).0 in
    let all : names_all_below (length f.ranges) (ds ++ t ∷ []) ≡ true = all_push (λ (t : Form). names_below (length f.ranges) t.parts) ds t names own in
    let known : names_known (length f.ranges) clause ≡ true = ap (names_all_below (length f.ranges)) is ∙ names-complement (length f.ranges) (ds ++ t ∷ []) ∙ all in
    let last : atom_fits (complement t) ≡ true = complement_fits (length f.ranges) t few own normal (small_bound (unsigned_abs t.bound) (reaches bs t.parts) sizes.1) in
    let sound_all : are_sound (length f.ranges) (ds ++ t ∷ []) ≡ true = all_push (is_sound (length f.ranges)) ds t sound (rw (own, last) refl) in
    let written : clause_fits clause ≡ true = ap (list_all atom_fits) is ∙ denial_fits (length f.ranges) (ds ++ t ∷ []) sound_all in
    let times : list_all times_fits (atom_times place bs t.parts) ≡ true = times_fit place bs t.parts little (are_written f.ranges ds bs box) sizes.0 normal.nonzero normal.within in
    let writes : step_fits false (lemma_step clause (sum_line (atom_times place bs t.parts) ∷ [])) ≡ true = rw (written, times) refl in
    let there : slice_get (map complement (ds ++ t ∷ [])) place ≡ Some (complement t) = rw at (last_place ds t) in
    let none : unjustified_line (map complement (ds ++ t ∷ [])) f.ranges (sum_line (atom_times place bs t.parts) ∷ []) ≡ None = no_fault_line (map complement (ds ++ t ∷ [])) f.ranges bs place t (are_forms f.ranges ds (t ∷ []) bs box) there normal fits over in
    let held : unjustified_line clause.atoms f.ranges (sum_line (atom_times place bs t.parts) ∷ []) ≡ None = ap (λ (ts : List Form). unjustified_line ts f.ranges (sum_line (atom_times place bs t.parts) ∷ [])) is ∙ none in
    let lines : lemma_fault f.ranges clause.atoms (sum_line (atom_times place bs t.parts) ∷ []) ≡ None = ap (option_map (λ (f : ℕ × Unjustified). why_of f.1)) held in
    let fault : rule_fault f (known_of (map clause_of steps)) (lemma_step clause (sum_line (atom_times place bs t.parts) ∷ [])) ≡ None = rw known lines in
    shown_push f steps (lemma_step clause (sum_line (atom_times place bs t.parts) ∷ [])) shown refl writes fault
  where
    small_bound : (b r : ℕ) → nat_le (b + r) (2 ^ 100) ≡ true → b ≤ 2 ^ 101
    small_bound b r h = grind (arith, nat_tests, h)
