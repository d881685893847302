-- What the normal condition of a comparison says.
use Rattle.std.proofs.Common.{◌≡◌, ℕ, ◌+◌, ◌<◌, ◌≤◌, ◌^◌, nat_lt, Bool, true, false, not, if◌then◌else◌, ◌||◌, ◌&&◌, ℤ, pos, negsuc, neg_ℤ, int_le, int_lt, ◌-ℤ◌, ◌+ℤ◌, ◌*ℤ◌, List, [], ◌∷◌, length, refl, sym, ap, ◌∙◌, subst, arith}
use Rattle.std.specs.Ordering.{int_eq}
use Rattle.std.proofs.lemmas.Int.{ints}
use Rattle.std.proofs.lemmas.Bool.Decides.{nat_tests, Decides-int_eq}
use Rattle.lucy_clauses.specs.declared.parts.Part.{Part}
use Rattle.lucy_clauses.specs.Sums.{number_at, sum_at}
use Rattle.lucy_clauses.specs.Parts.{gathered, stays_within}
use Rattle.lucy_clauses.specs.Normal.{IsNormalForm}
use Rattle.lucy_clauses.specs.declared.atoms.Plain.TheVariants.{Always, Never}
use Rattle.lucy_clauses.specs.Plain.{plain_true}
use Rattle.lucy_clauses.proofs.Solutions.{constant_solutions, normal_solutions, sum_at-negative}
use Rattle.lucy_model.specs.declared.terms.Share.{Share}
use Rattle.lucy_model.specs.declared.terms.Term.{Term}
use Rattle.lucy_model.specs.declared.conditions.Op.{Op}
use Rattle.lucy_model.specs.declared.conditions.Op.TheVariants as op
use Rattle.lucy_model.specs.Terms.{shares_value, term_value, are_shares, is_term}
use Rattle.lucy_model.specs.Conditions.{stands}
use Rattle.lucy_normal.specs.declared.normals.Normal.{All, Any}
use Rattle.lucy_clauses.specs.Dividing.{common_divisor, divided_by}
use Rattle.lucy_normal.specs.Linear.{bounded, linear}
use Rattle.lucy_model.specs.Opposites.{opposite}
use Rattle.lucy_normal.specs.Normals.{placed_all, are_slots, below, above, compared, flag, signed_comparison}
use Rattle.lucy_normal.specs.Shapes.{true_at}
use Rattle.lucy_normal.specs.Laws.{SaysState, signed}
use Rattle.lucy_normal.proofs.Tests.{two}
use Rattle.lucy_normal.proofs.NormalForms.{defined_form}
use Rattle.lucy_normal.proofs.Slots.{plain_term, share_tested, term_slots, term_stays, term_stays_negative}
use Rattle.lucy_normal.proofs.FlatLists.{true_all, true_any, true_lone, all_of_is, any_of_is}

linear_means : (ps : List Part) (bound : ℤ) (a : List ℤ) → stays_within [] ps ≡ true → true_at (linear ps bound) a ≡ int_le (sum_at ps a) bound
linear_means ps bound a stays = by_parts (gathered ps) refl
  where
    constant : (b : Bool) → true_at (if b then All [] else Any []) a ≡ plain_true a (if b then Always else Never)
    constant true = true_all a []
    constant false = true_any a []

    by_parts : (qs : List Part) → gathered ps ≡ qs → true_at (bounded qs bound) a ≡ int_le (sum_at ps a) bound
    by_parts [] e = constant (int_le (pos 0) bound) ∙ constant_solutions ps bound e a
    by_parts (q ∷ qs) e =
        let some : 0 < length (gathered ps) = subst (λ (rs : List Part). 0 < length rs) (sym e) (omega arith) in
        let form_is : IsNormalForm ps bound (divided_by (common_divisor 0 (q ∷ qs)) (q ∷ qs) bound) = subst (λ (rs : List Part). IsNormalForm ps bound (divided_by (common_divisor 0 rs) rs bound)) e (defined_form ps bound stays some) in
        true_lone a (divided_by (common_divisor 0 (q ∷ qs)) (q ∷ qs) bound) ∙ normal_solutions ps bound (divided_by (common_divisor 0 (q ∷ qs)) (q ∷ qs) bound) form_is a

slot_below : (v n : ℕ) → nat_lt v n ≡ true → v < n
slot_below v n h = grind (arith, nat_tests, h)

sum_placed : (first leaves : ℕ) (ss : List Share) (xs a : List ℤ) → SaysState first leaves xs a → are_slots leaves ss ≡ true → sum_at (placed_all first ss) a ≡ shares_value ss xs
sum_placed first leaves [] xs a says h = refl
sum_placed first leaves (s ∷ ss) xs a says h =
    let t = two (nat_lt s.slot leaves) (are_slots leaves ss) h in
    ap (λ (x : ℤ). s.by *ℤ x +ℤ sum_at (placed_all first ss) a) (says s.slot (slot_below s.slot leaves t.0))
    ∙ ap (λ (x : ℤ). s.by *ℤ number_at xs s.slot +ℤ x) (sum_placed first leaves ss xs a says t.1)

no_arguments : (ss : List Share) → are_shares 0 0 ss ≡ true → shares_value ss [] ≡ pos 0
no_arguments [] h = refl
no_arguments (s ∷ ss) h = absurd (none s.slot (share_tested 0 0 s.slot _ (are_shares (s.slot + 1) 0 ss) h).1)
  where
    none : (n : ℕ) → n < 0 → ⊥
    none n k = omega (arith, k)

below_bound : (s c more z : ℤ) → z ≡ pos 0 → int_le s (neg_ℤ c -ℤ more) ≡ int_le ((c +ℤ s +ℤ z) +ℤ more) (pos 0)
below_bound s c more z e = grind (arith, ints, e)

above_bound : (s c more z : ℤ) → z ≡ pos 0 → int_le (neg_ℤ s) (c -ℤ more) ≡ int_le more (c +ℤ s +ℤ z)
above_bound s c more z e = grind (arith, ints, e)

-- a term over so many leaves, whose variables an assignment gives the numbers of a state
pub record Says (first leaves : ℕ) (t : Term) (xs a : List ℤ) : Type 0 where
  pub room : first + leaves ≤ 2 ^ 32
  pub term : is_term leaves 0 t ≡ true
  pub state : SaysState first leaves xs a

below_means : (first leaves : ℕ) (more : ℤ) (t : Term) (xs a : List ℤ) → Says first leaves t xs a → true_at (below first more t) a ≡ int_le (term_value t xs [] +ℤ more) (pos 0)
below_means first leaves more t xs a h =
    linear_means (placed_all first t.leaves) (neg_ℤ t.constant -ℤ more) a (term_stays first leaves t h.term h.room)
    ∙ ap (λ (s : ℤ). int_le s (neg_ℤ t.constant -ℤ more)) (sum_placed first leaves t.leaves xs a h.state (term_slots leaves t h.term))
    ∙ below_bound (shares_value t.leaves xs) t.constant more (shares_value t.arguments []) (no_arguments t.arguments (plain_term leaves t h.term).arguments_are)

above_means : (first leaves : ℕ) (more : ℤ) (t : Term) (xs a : List ℤ) → Says first leaves t xs a → true_at (above first more t) a ≡ int_le more (term_value t xs [])
above_means first leaves more t xs a h =
    linear_means _ (t.constant -ℤ more) a (term_stays_negative first leaves t h.term h.room)
    ∙ ap (λ (s : ℤ). int_le s (t.constant -ℤ more)) (sum_at-negative (placed_all first t.leaves) a ∙ ap neg_ℤ (sum_placed first leaves t.leaves xs a h.state (term_slots leaves t h.term)))
    ∙ above_bound (shares_value t.leaves xs) t.constant more (shares_value t.arguments []) (no_arguments t.arguments (plain_term leaves t h.term).arguments_are)

at_most_zero : (x : ℤ) → int_le (x +ℤ pos 0) (pos 0) ≡ int_le x (pos 0)
at_most_zero x = grind (arith, ints)

below_zero : (x : ℤ) → int_le (x +ℤ pos 1) (pos 0) ≡ int_lt x (pos 0)
below_zero x = grind (arith, ints)

above_zero : (x : ℤ) → int_le (pos 1) x ≡ int_lt (pos 0) x
above_zero x = grind (arith, ints)

unequal_test : (x : ℤ) → (x ≡ pos 0 → ⊥) → int_eq x (pos 0) ≡ false
unequal_test x h = by_test (int_eq x (pos 0)) refl
  where
    by_test : (b : Bool) → int_eq x (pos 0) ≡ b → b ≡ false
    by_test true e = absurd (h ((Decides-int_eq x (pos 0)).0 e))
    by_test false e = refl

above_unequal : (x : ℤ) → int_le x (pos 0) ≡ false → int_eq x (pos 0) ≡ false
above_unequal x h = unequal_test x (λ e. apart x h e)
  where
    apart : (x : ℤ) → int_le x (pos 0) ≡ false → x ≡ pos 0 → ⊥
    apart x h e = grind (arith, ints, h, e)

below_unequal : (x : ℤ) → int_le (pos 0) x ≡ false → int_eq x (pos 0) ≡ false
below_unequal x h = unequal_test x (λ e. apart x h e)
  where
    apart : (x : ℤ) → int_le (pos 0) x ≡ false → x ≡ pos 0 → ⊥
    apart x h e = grind (arith, ints, h, e)

between_equal : (x : ℤ) → int_le x (pos 0) ≡ true → int_le (pos 0) x ≡ true → int_eq x (pos 0) ≡ true
between_equal x h k = (Decides-int_eq x (pos 0)).1 (at x h k)
  where
    at : (x : ℤ) → int_le x (pos 0) ≡ true → int_le (pos 0) x ≡ true → x ≡ pos 0
    at x h k = grind (arith, ints, h, k)

equal_zero : (x : ℤ) → (int_le x (pos 0) && (int_le (pos 0) x && true)) ≡ int_eq x (pos 0)
equal_zero x = by_tests (int_le x (pos 0)) (int_le (pos 0) x) refl refl
  where
    by_tests : (b c : Bool) → int_le x (pos 0) ≡ b → int_le (pos 0) x ≡ c → (b && (c && true)) ≡ int_eq x (pos 0)
    by_tests true true h k = sym (between_equal x h k)
    by_tests true false h k = sym (below_unequal x k)
    by_tests false c h k = sym (above_unequal x h)

not_below : (x : ℤ) → int_le (pos 0) x ≡ not (int_lt x (pos 0))
not_below x = grind (arith, ints)

not_above : (x : ℤ) → int_le x (pos 0) ≡ not (int_lt (pos 0) x)
not_above x = grind (arith, ints)

unequal_zero : (x : ℤ) → (int_lt x (pos 0) || (int_lt (pos 0) x || false)) ≡ not (int_eq x (pos 0))
unequal_zero x = turned (int_lt x (pos 0)) (int_lt (pos 0) x) ∙ ap (λ (b : Bool). not (b && (not (int_lt x (pos 0)) && true))) (sym (not_above x))
    ∙ ap (λ (b : Bool). not (int_le x (pos 0) && (b && true))) (sym (not_below x)) ∙ ap not (equal_zero x)
  where
    turned : (b c : Bool) → (b || (c || false)) ≡ not (not c && (not b && true))
    turned true true = refl
    turned true false = refl
    turned false true = refl
    turned false false = refl

pub compared_means : (first leaves : ℕ) (t : Term) (o : Op) (xs a : List ℤ) → Says first leaves t xs a → true_at (compared first t o) a ≡ stands o (term_value t xs [])
compared_means first leaves t op.Le xs a h = below_means first leaves (pos 0) t xs a h ∙ at_most_zero (term_value t xs [])
compared_means first leaves t op.Lt xs a h = below_means first leaves (pos 1) t xs a h ∙ below_zero (term_value t xs [])
compared_means first leaves t op.Ge xs a h = above_means first leaves (pos 0) t xs a h
compared_means first leaves t op.Gt xs a h = above_means first leaves (pos 1) t xs a h ∙ above_zero (term_value t xs [])
compared_means first leaves t op.Eq xs a h =
    all_of_is a (below first (pos 0) t ∷ above first (pos 0) t ∷ [])
    ∙ ap (λ (x : Bool). x && (true_at (above first (pos 0) t) a && true)) (below_means first leaves (pos 0) t xs a h ∙ at_most_zero (term_value t xs []))
    ∙ ap (λ (x : Bool). int_le (term_value t xs []) (pos 0) && (x && true)) (above_means first leaves (pos 0) t xs a h)
    ∙ equal_zero (term_value t xs [])
compared_means first leaves t op.Ne xs a h =
    any_of_is a (below first (pos 1) t ∷ above first (pos 1) t ∷ [])
    ∙ ap (λ (x : Bool). x || (true_at (above first (pos 1) t) a || false)) (below_means first leaves (pos 1) t xs a h ∙ below_zero (term_value t xs []))
    ∙ ap (λ (x : Bool). int_lt (term_value t xs []) (pos 0) || (x || false)) (above_means first leaves (pos 1) t xs a h ∙ above_zero (term_value t xs []))
    ∙ unequal_zero (term_value t xs [])

not_at_most : (x : ℤ) → int_lt (pos 0) x ≡ not (int_le x (pos 0))
not_at_most x = grind (arith, ints)

not_at_least : (x : ℤ) → int_lt x (pos 0) ≡ not (int_le (pos 0) x)
not_at_least x = grind (arith, ints)

not_not : (x : Bool) → x ≡ not (not x)
not_not true = refl
not_not false = refl

opposite_stands : (o : Op) (x : ℤ) → stands (opposite o) x ≡ not (stands o x)
opposite_stands op.Le x = not_at_most x
opposite_stands op.Lt x = not_below x
opposite_stands op.Ge x = not_at_least x
opposite_stands op.Gt x = not_above x
opposite_stands op.Eq x = refl
opposite_stands op.Ne x = not_not (int_eq x (pos 0))

pub comparison_means : (first leaves : ℕ) (t : Term) (o : Op) (positive : Bool) (xs a : List ℤ) → first + leaves ≤ 2 ^ 32 → is_term leaves 0 t ≡ true → SaysState first leaves xs a →
    true_at (signed_comparison first t o positive) a ≡ signed positive (stands o (term_value t xs []))
comparison_means first leaves t o true xs a room term state = compared_means first leaves t o xs a (record { room = room; term = term; state = state })
comparison_means first leaves t o false xs a room term state =
    compared_means first leaves t (opposite o) xs a (record { room = room; term = term; state = state }) ∙ opposite_stands o (term_value t xs [])

at_least_one : (x : ℤ) → int_le (negsuc 0 *ℤ x +ℤ pos 0) (negsuc 0) ≡ int_le (pos 1) x
at_least_one x = grind (arith, ints)

at_most_none : (x : ℤ) → int_le (pos 1 *ℤ x +ℤ pos 0) (pos 0) ≡ not (int_le (pos 1) x)
at_most_none x = grind (arith, ints)

pub flag_means : (first leaves leaf : ℕ) (positive : Bool) (xs a : List ℤ) → nat_lt leaf leaves ≡ true → SaysState first leaves xs a → true_at (flag first leaf positive) a ≡ signed positive (int_le (pos 1) (number_at xs leaf))
flag_means first leaves leaf true xs a h state =
    true_lone a _ ∙ at_least_one (number_at a (first + leaf)) ∙ ap (λ (x : ℤ). int_le (pos 1) x) (state leaf (slot_below leaf leaves h))
flag_means first leaves leaf false xs a h state =
    true_lone a _ ∙ at_most_none (number_at a (first + leaf)) ∙ ap (λ (x : ℤ). not (int_le (pos 1) x)) (state leaf (slot_below leaf leaves h))
