-- Terms come to what their trees do.
use Rattle.std.proofs.Common.{◌≡◌, ℕ, ℤ, pos, neg_ℤ, ◌+ℤ◌, ◌-ℤ◌, ◌*ℤ◌, List, [], ◌∷◌, length, Bool, true, false, Option, Some, None, refl, sym, ap, subst, ◌∙◌, arith}
use Rattle.std.proofs.lemmas.Int.{ints}
use Rattle.std.proofs.lemmas.List.{length-replicate}
use Rattle.std.proofs.Math.IntN.{neg_ℤ-neg_ℤ}
use Rattle.lucy_model.specs.declared.terms.Term.{Term}
use Rattle.lucy_model.specs.Terms.{term_value}
use Rattle.lucy_tree.specs.declared.marks.Span.{Span}
use Rattle.lucy_tree.specs.declared.marks.Then.{Then}
use Rattle.lucy_tree.specs.declared.terms.Factor.{Factor}
use Rattle.lucy_tree.specs.declared.terms.Factor.TheVariants as factor
use Rattle.lucy_tree.specs.declared.terms.Sign.{Sign}
use Rattle.lucy_tree.specs.declared.terms.Sign.TheVariants as sign
use Rattle.lucy_tree.specs.declared.terms.Added.{Added}
use Rattle.lucy_tree.specs.declared.terms.Term as tree
use Rattle.lucy_gather.specs.declared.error.ElabError.{ElabError}
use Rattle.lucy_gather.specs.declared.scopes.Meaning.{Meaning}
use Rattle.lucy_gather.specs.declared.scopes.Meaning.TheVariants as meaning
use Rattle.lucy_gather.specs.declared.scopes.Variable.{Variable}
use Rattle.lucy_gather.specs.declared.scopes.Entry.{Entry}
use Rattle.lucy_gather.specs.declared.scopes.Scope.{Scope}
use Rattle.lucy_gather.specs.declared.terms.Gathered.{Gathered}
use Rattle.lucy_gather.specs.Steps.{Step, then_of, or_refused, state_of}
use Rattle.lucy_gather.specs.Ranges.{signed, is_there}
use Rattle.lucy_gather.specs.Scopes.{Path, meaning_of, meaning_at, number_by, number_at, set_by, set_at, size_by, size_at, start_of}
use Rattle.lucy_gather.specs.Terms.{wide, gather, times_by, number_first, variable_first, product_by, is_minus, turned, added_in, term_in, term_of, nothing, assigned, sides, compared}
use Rattle.lucy_meaning_laws.specs.Meanings.{with_sign, with_minus, named_number, set_sum, factor_value, multiplied, product_value, others_value, tree_value}
use Rattle.lucy_meaning_laws.specs.Laws.{AreOf}
use Rattle.lucy_meaning_laws.proofs.Integers.{turned_by, turned_times, turned_sum, one_times}
use Rattle.lucy_meaning_laws.proofs.Adding.{gives, given_is, one_by_one, state_given, adds_same, adds_both, adds_refused, adds_found, sum_of, adds_each}
use Rattle.lucy_meaning_laws.proofs.Gathering.{none_weighed, IsFull, gathered_value, GathersMore, variable_value, gather_adds, shifted_adds}
use Rattle.lucy_meaning_laws.proofs.Shares.{term_weighs}

abbrev pub found : {A : Type 0} → A → Option A
found a = Some a

pub found_at : {A : Type 0} (d : ElabError) (o : Option A) (a : A) → or_refused d o ≡ gives a → o ≡ found a
found_at d None a e = absurd cc
found_at d (Some b) a e = ap (λ x. found x) (given_is e)

-- ---- signs

signed_is : (b : Bool) (n : ℕ) → signed b n ≡ turned_by b (pos n)
signed_is true n = refl
signed_is false n = refl

minus_is : (right : Bool) (m : Option Span) (x : ℤ) → turned_by (turned right (is_there m)) x ≡ turned_by right (with_minus m x)
minus_is false None x = refl
minus_is false (Some m) x = refl
minus_is true None x = refl
minus_is true (Some m) x = sym (neg_ℤ-neg_ℤ x)

sign_is : (right : Bool) (s : Sign) (x : ℤ) → turned_by (turned right (is_minus s)) x ≡ turned_by right (with_sign s x)
sign_is false sign.Plus x = refl
sign_is false sign.Minus x = refl
sign_is true sign.Plus x = refl
sign_is true sign.Minus x = sym (neg_ℤ-neg_ℤ x)

module _ (scope : Scope) (params : List Entry) (xs arguments : List ℤ) where
  abbrev More : Step Gathered (Unit {0}) → ℤ → Type 0
  More = GathersMore xs arguments

  abbrev worth : Variable → ℤ
  worth = variable_value xs arguments

  -- ---- names

  number_worth : (path : Path) (v : Variable) → number_at scope params path ≡ gives v → worth v ≡ named_number scope params xs arguments (meaning_of scope params path)
  unfolding number_at meaning_at
  number_worth path v e =
      let (m, e1, e2) = one_by_one (meaning_at scope params path) (number_by (start_of path)) v e in
      by m e2 ∙ ap (named_number scope params xs arguments) (sym (found_at _ (meaning_of scope params path) m e1))
    where
      by : (m : Meaning) → number_by (start_of path) m ≡ gives v → worth v ≡ named_number scope params xs arguments (found m)
      by (meaning.Number leaf) f = ap worth (sym (given_is f))
      by (meaning.Argument place) f = ap worth (sym (given_is f))
      by (meaning.Flag leaf) f = absurd cc
      by (meaning.Set group first count) f = absurd cc
      by (meaning.Pair group) f = absurd cc
      by (meaning.Atom leaf) f = absurd cc

  pub group_is : (path : Path) (group : ℕ) → set_at scope params path ≡ gives group → (first : ℕ) × (count : ℕ) × (meaning_of scope params path ≡ found (meaning.Set group first count))
  unfolding set_at meaning_at
  group_is path group e =
      let (m, e1, e2) = one_by_one (meaning_at scope params path) (set_by (start_of path)) group e in
      by m (found_at _ (meaning_of scope params path) m e1) e2
    where
      by : (m : Meaning) → meaning_of scope params path ≡ found m → set_by (start_of path) m ≡ gives group → (first : ℕ) × (count : ℕ) × (meaning_of scope params path ≡ found (meaning.Set group first count))
      by (meaning.Set g first count) is f = (first, count, is ∙ ap (λ n. found (meaning.Set n first count)) (given_is f))
      by (meaning.Number leaf) is f = absurd cc
      by (meaning.Argument place) is f = absurd cc
      by (meaning.Flag leaf) is f = absurd cc
      by (meaning.Pair g) is f = absurd cc
      by (meaning.Atom leaf) is f = absurd cc

  size_worth : (path : Path) (v : Variable) → size_at scope params path ≡ gives v → worth v ≡ set_sum scope params xs arguments (meaning_of scope params path)
  unfolding size_at meaning_at
  size_worth path v e =
      let (m, e1, e2) = one_by_one (meaning_at scope params path) (size_by (start_of path)) v e in
      by m e2 ∙ ap (set_sum scope params xs arguments) (sym (found_at _ (meaning_of scope params path) m e1))
    where
      by : (m : Meaning) → size_by (start_of path) m ≡ gives v → worth v ≡ set_sum scope params xs arguments (found m)
      by (meaning.Set group first count) f = ap worth (sym (given_is f))
      by (meaning.Number leaf) f = absurd cc
      by (meaning.Argument place) f = absurd cc
      by (meaning.Flag leaf) f = absurd cc
      by (meaning.Pair group) f = absurd cc
      by (meaning.Atom leaf) f = absurd cc

  -- ---- products

  -- a number times what a name stands for
  product_adds : (b : Bool) (y : ℤ) (v : Variable) (x : ℤ) → worth v ≡ x → More (gather v (turned_by b y)) (turned_by b (y *ℤ x))
  product_adds b y v x e =
      adds_same (turned_by b y *ℤ worth v) (turned_by b (y *ℤ x)) (turned_times b y (worth v) ∙ ap (λ n. turned_by b (y *ℤ n)) e) (gather_adds xs arguments v (turned_by b y))

  times_adds : (b : Bool) (y : ℤ) (star : ℕ) (f : Factor) → More (times_by scope params (turned_by b y) star f) (turned_by b (y *ℤ factor_value scope params xs arguments f))
  unfolding times_by
  times_adds b y star (factor.Number number) = adds_refused _ _
  times_adds b y star (factor.Path path) =
      adds_found (number_at scope params path) _ (λ v e. product_adds b y v (named_number scope params xs arguments (meaning_of scope params path)) (number_worth path v e))
  times_adds b y star (factor.Size word open_paren set close_paren) =
      adds_found (size_at scope params set) _ (λ v e. product_adds b y v (set_sum scope params xs arguments (meaning_of scope params set)) (size_worth set v e))

  number_adds : (b : Bool) (y : ℤ) (second : Option (Then Factor)) → More (number_first scope params (turned_by b y) second) (turned_by b (multiplied scope params xs arguments y second))
  unfolding number_first
  number_adds b y None = shifted_adds xs arguments (turned_by b y)
  number_adds b y (Some t) = times_adds b y t.mark.start t.item

  variable_adds : (b : Bool) (v : Variable) (x : ℤ) (second : Option (Then Factor)) → worth v ≡ x
      → More (variable_first scope params v (turned_by b (pos 1)) second) (turned_by b (multiplied scope params xs arguments x second))
  unfolding variable_first
  variable_adds b v x None e =
      adds_same (turned_by b (pos 1) *ℤ worth v) (turned_by b x) (one_times b (worth v) ∙ ap (turned_by b) e) (gather_adds xs arguments v (turned_by b (pos 1)))
  variable_adds b v x (Some t) e = adds_refused _ _

  factors_add : (b : Bool) (f : Factor) (second : Option (Then Factor))
      → More (product_by scope params b f second) (turned_by b (multiplied scope params xs arguments (factor_value scope params xs arguments f) second))
  unfolding product_by
  factors_add b (factor.Number number) second =
      let x = multiplied scope params xs arguments (pos number.value) second in
      subst (λ n. More (number_first scope params n second) (turned_by b x)) (sym (signed_is b number.value)) (number_adds b (pos number.value) second)
  factors_add b (factor.Path path) second =
      let y = named_number scope params xs arguments (meaning_of scope params path) in
      let x = multiplied scope params xs arguments y second in
      adds_found (number_at scope params path) (turned_by b x) (λ v e.
      subst (λ n. More (variable_first scope params v n second) (turned_by b x)) (sym (signed_is b 1)) (variable_adds b v y second (number_worth path v e)))
  factors_add b (factor.Size word open_paren set close_paren) second =
      let y = set_sum scope params xs arguments (meaning_of scope params set) in
      let x = multiplied scope params xs arguments y second in
      adds_found (size_at scope params set) (turned_by b x) (λ v e.
      subst (λ n. More (variable_first scope params v n second) (turned_by b x)) (sym (signed_is b 1)) (variable_adds b v y second (size_worth set v e)))

  -- ---- terms, of the left or of the right side

  later_worth : Bool → Added → ℤ
  later_worth right a = turned_by (turned right (is_minus a.sign)) (product_value scope params xs arguments a.product)

  later_adds : (right : Bool) (a : Added) → More (added_in scope params right a) (later_worth right a)
  unfolding added_in later_worth
  later_adds right a = factors_add (turned right (is_minus a.sign)) a.product.first a.product.second

  later_sum : (right : Bool) (others : List Added) → sum_of (later_worth right) others ≡ turned_by right (others_value scope params xs arguments others)
  unfolding later_worth
  later_sum true [] = refl
  later_sum false [] = refl
  later_sum right (a ∷ others) =
      let x = with_sign a.sign (product_value scope params xs arguments a.product) in
      let y = others_value scope params xs arguments others in
      ap (λ n. n +ℤ sum_of (later_worth right) others) (sign_is right a.sign (product_value scope params xs arguments a.product))
      ∙ ap (λ n. turned_by right x +ℤ n) (later_sum right others) ∙ turned_sum right x y

  pub term_adds : (right : Bool) (t : tree.Term) → More (term_in scope params right t) (turned_by right (tree_value scope params xs arguments t))
  unfolding term_in
  term_adds right t =
      let first = product_value scope params xs arguments t.first in
      let others = others_value scope params xs arguments t.others in
      adds_same (turned_by (turned right (is_there t.minus)) first +ℤ sum_of (later_worth right) t.others) (turned_by right (with_minus t.minus first +ℤ others))
      (ap (λ n. n +ℤ sum_of (later_worth right) t.others) (minus_is right t.minus first) ∙ ap (λ n. turned_by right (with_minus t.minus first) +ℤ n) (later_sum right t.others)
      ∙ turned_sum right (with_minus t.minus first) others)
      (adds_both (turned_by (turned right (is_there t.minus)) first) (sum_of (later_worth right) t.others)
      (factors_add (turned right (is_there t.minus)) t.first.first t.first.second) (λ u. adds_each (added_in scope params right) (later_worth right) (later_adds right) t.others))

  -- ---- from nothing

  none_full : AreOf scope params xs arguments → IsFull xs arguments (nothing scope params)
  none_full of = record {
    leaf = of.numbers ∙ sym (length-replicate (length scope.leaves) (wide (pos 0)));
    argument = of.given ∙ sym (length-replicate (length params) (wide (pos 0)));
  }

  none_worth : gathered_value xs arguments (nothing scope params) ≡ pos 0
  none_worth = all_none _ _ (none_weighed 0 (length scope.leaves) xs) (none_weighed 0 (length params) arguments)
    where
      all_none : (x y : ℤ) → x ≡ pos 0 → y ≡ pos 0 → pos 0 +ℤ x +ℤ y ≡ pos 0
      all_none x y e f = rw (e, f) refl

  made_value : (step : Step Gathered (Unit {0})) (x : ℤ) (t : Term) → AreOf scope params xs arguments → More step x
      → then_of (state_of (step (nothing scope params))) term_of ≡ gives t → term_value t xs arguments ≡ x
  made_value step x t of more e =
      let (g, e1, e2) = one_by_one (state_of (step (nothing scope params))) term_of t e in
      let (a, e3) = state_given (step (nothing scope params)) g e1 in
      term_weighs g t xs arguments e2 ∙ (more.adds (nothing scope params) g a (none_full of) e3).1 ∙ ap (λ n. n +ℤ x) none_worth ∙ alone x
    where
      alone : (n : ℤ) → pos 0 +ℤ n ≡ n
      alone n = omega (arith, ints)

  pub assigned_value : (given : tree.Term) (t : Term) → assigned scope params given ≡ gives t → AreOf scope params xs arguments
      → term_value t xs arguments ≡ tree_value scope params xs arguments given
  unfolding assigned
  assigned_value given t e of = made_value (term_in scope params false given) (tree_value scope params xs arguments given) t of (term_adds false given) e

  pub compared_value : (left right : tree.Term) (t : Term) → compared scope params left right ≡ gives t → AreOf scope params xs arguments
      → term_value t xs arguments ≡ tree_value scope params xs arguments left -ℤ tree_value scope params xs arguments right
  unfolding compared
  compared_value left right t e of =
      let x = tree_value scope params xs arguments left in
      let y = tree_value scope params xs arguments right in
      made_value (sides scope params left right) (x -ℤ y) t of (adds_both x (neg_ℤ y) (term_adds false left) (λ u. term_adds true right)) e
