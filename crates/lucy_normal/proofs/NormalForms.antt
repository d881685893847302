-- Atoms made by hand are in normal form, and the normal form of an inequality is the one defined.
use Rattle.std.proofs.Common.{◌≡◌, ℕ, ◌<◌, ◌&&◌, nat_lt, length, Bool, true, false, if◌then◌else◌, ℤ, pos, int_le, unsigned_abs, ◌≤ℤ◌, ◌<ℤ◌, List, [], ◌∷◌, map, ap, sym, ◌∙◌, refl, arith}
use Rattle.std.specs.Int.{int_div_euclid}
use Rattle.std.proofs.lemmas.Bool.Decides.{nat_tests}
use Rattle.std.proofs.lemmas.Int.{ints}
use Rattle.lucy_clauses.specs.declared.parts.Part.{Part}
use Rattle.lucy_clauses.specs.declared.atoms.Plain.{Plain}
use Rattle.lucy_clauses.specs.declared.atoms.Plain.TheVariants as plain
use Rattle.lucy_clauses.specs.Sums.{Form, scaled}
use Rattle.lucy_clauses.specs.Parts.{gathered, stays_within}
use Rattle.lucy_clauses.specs.Normal.{IsNormal, IsNormalForm}
use Rattle.lucy_clauses.specs.Bounds.{part}
use Rattle.lucy_clauses.specs.Dividing.{divided, common_divisor, divided_by}
use Rattle.lucy_clauses.proofs.Bounding.{is_unit_within, is_unit_nonzero, and_true, one_divides}
use Rattle.lucy_clauses.specs.Plain.{IsPlainForm}
use Rattle.lucy_clauses.proofs.Divisors.{divisor_common, gathered_divides, normal_form}
use Rattle.lucy_clauses.proofs.Uniqueness.{form_unique}
use Rattle.lucy_normal.specs.declared.normals.Normal.{All, Any}
use Rattle.lucy_normal.specs.declared.normals.Normal.TheVariants.{Atom as Lone}
use Rattle.lucy_normal.specs.Linear.{bounded, linear, of_plain}

-- ---- atoms of one variable and of two

and_two : (x y : Bool) → x ≡ true → y ≡ true → (x && (y && true)) ≡ true
and_two x y h k = ap (λ (z : Bool). z && (y && true)) h ∙ and_true y k

less_test : (v w : ℕ) → v < w → nat_lt v w ≡ true
less_test v w h = grind (arith, nat_tests, h)

pub double_normal : (v w : ℕ) (x y : ℤ) → v < w → unsigned_abs x ≡ 1 → unsigned_abs y ≡ 1 → IsNormal (part v x ∷ part w y ∷ [])
double_normal v w x y lt h k = record {
  some = omega arith;
  ascending = and_two _ _ (and_true _ (less_test v w lt)) refl;
  nonzero = and_two _ _ (is_unit_nonzero v x h) (is_unit_nonzero w y k);
  within = and_two _ _ (is_unit_within x h) (is_unit_within y k);
  coprime = λ d a. one_divides d x h a.0;
}

-- ---- inequalities in normal form

pub defined_form : (ps : List Part) (bound : ℤ) → stays_within [] ps ≡ true → 0 < length (gathered ps) → IsNormalForm ps bound (divided_by (common_divisor 0 (gathered ps)) (gathered ps) bound)
defined_form ps bound stays some =
    let g = common_divisor 0 (gathered ps) in
    normal_form ps (gathered ps) (map (divided g) (gathered ps)) g bound (int_div_euclid bound (pos g))
    (gathered_divides ps (gathered ps) (gathered ps) g stays refl refl some (divisor_common (gathered ps))) refl refl

bounded_some : (qs : List Part) (bound : ℤ) → 0 < length qs → bounded qs bound ≡ Lone (divided_by (common_divisor 0 qs) qs bound)
bounded_some [] bound h = absurd (omega arith)
bounded_some (q ∷ qs) bound h = refl

scaled_some : (k : ℕ) (qs ps : List Part) → map (scaled k) qs ≡ ps → 0 < length qs → 0 < length ps
scaled_some k [] ps e h = absurd (omega arith)
scaled_some k (q ∷ qs) [] e h = absurd (cc)
scaled_some k (q ∷ qs) (p ∷ ps) e h = omega arith

at_most_test : (x : ℤ) → pos 0 ≤ℤ x → int_le (pos 0) x ≡ true
at_most_test x h = grind (arith, ints, h)

below_test : (x : ℤ) → x <ℤ pos 0 → int_le (pos 0) x ≡ false
below_test x h = grind (arith, ints, h)

pub plain_linear : (ps : List Part) (bound : ℤ) (p : Plain) → stays_within [] ps ≡ true → IsPlainForm ps bound p → of_plain p ≡ linear ps bound
plain_linear ps bound plain.Always stays h =
    sym (ap (λ (qs : List Part). bounded qs bound) h.0 ∙ ap (λ (b : Bool). if b then All [] else Any []) (at_most_test bound h.1))
plain_linear ps bound plain.Never stays h =
    sym (ap (λ (qs : List Part). bounded qs bound) h.0 ∙ ap (λ (b : Bool). if b then All [] else Any []) (below_test bound h.1))
plain_linear ps bound (plain.Atom t) stays h =
    let some = scaled_some h.by t.parts (gathered ps) h.parts_are h.normal.some in
    ap (λ (u : Form). Lone u) (form_unique ps bound t (divided_by (common_divisor 0 (gathered ps)) (gathered ps) bound) h (defined_form ps bound stays some))
    ∙ sym (bounded_some (gathered ps) bound some)
