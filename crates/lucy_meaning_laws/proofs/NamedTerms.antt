-- Terms that are given have a meaning.
use Rattle.std.proofs.Common.{◌≡◌, ℕ, ℤ, List, Bool, true, false, Option, Some, None, refl, sym, ap, subst, ◌∙◌}
use Rattle.std.specs.List.{list_all}
use Rattle.lucy_model.specs.declared.terms.Term.{Term}
use Rattle.lucy_tree.specs.declared.marks.Then.{Then}
use Rattle.lucy_tree.specs.declared.terms.Factor.{Factor}
use Rattle.lucy_tree.specs.declared.terms.Factor.TheVariants as factor
use Rattle.lucy_tree.specs.declared.terms.Added.{Added}
use Rattle.lucy_tree.specs.declared.terms.Term as tree
use Rattle.lucy_gather.specs.declared.scopes.Meaning.{Meaning}
use Rattle.lucy_gather.specs.declared.scopes.Meaning.TheVariants as meaning
use Rattle.lucy_gather.specs.declared.scopes.Variable.{Variable}
use Rattle.lucy_gather.specs.declared.scopes.Entry.{Entry}
use Rattle.lucy_gather.specs.declared.scopes.Scope.{Scope}
use Rattle.lucy_gather.specs.declared.terms.Gathered.{Gathered}
use Rattle.lucy_gather.specs.Steps.{Step, state_of}
use Rattle.lucy_gather.specs.Ranges.{signed, is_there}
use Rattle.lucy_gather.specs.Scopes.{Path, meaning_of, meaning_at, number_by, number_at, size_by, size_at, start_of}
use Rattle.lucy_gather.specs.Terms.{gather, shifted, times_by, number_first, variable_first, product_by, is_minus, turned, added_in, term_in, term_of, nothing, assigned, sides, compared}
use Rattle.lucy_meaning_laws.specs.Named.{is_number, is_set, is_named, is_product, product_named, term_named}
use Rattle.lucy_meaning_laws.proofs.Adding.{gives, one_by_one, state_given}
use Rattle.lucy_meaning_laws.proofs.Making.{Makes, makes_then, makes_more, makes_refused, makes_found, makes_known, makes_each, both_true}
use Rattle.lucy_meaning_laws.proofs.Terms.{found, found_at}

module _ (scope : Scope) (params : List Entry) where
  abbrev Shows : Step Gathered (Unit {0}) → Bool → Type 0
  Shows step b = Makes step (λ u. b ≡ true)

  number_named : (path : Path) (v : Variable) → number_at scope params path ≡ gives v → is_number (meaning_of scope params path) ≡ true
  unfolding number_at meaning_at
  number_named path v e =
      let (m, e1, e2) = one_by_one (meaning_at scope params path) (number_by (start_of path)) v e in
      ap is_number (found_at _ (meaning_of scope params path) m e1) ∙ by m e2
    where
      by : (m : Meaning) → number_by (start_of path) m ≡ gives v → is_number (found m) ≡ true
      by (meaning.Number leaf) f = refl
      by (meaning.Argument place) f = refl
      by (meaning.Flag leaf) f = absurd cc
      by (meaning.Set group first count) f = absurd cc
      by (meaning.Pair group) f = absurd cc
      by (meaning.Atom leaf) f = absurd cc

  size_named : (path : Path) (v : Variable) → size_at scope params path ≡ gives v → is_set (meaning_of scope params path) ≡ true
  unfolding size_at meaning_at
  size_named path v e =
      let (m, e1, e2) = one_by_one (meaning_at scope params path) (size_by (start_of path)) v e in
      ap is_set (found_at _ (meaning_of scope params path) m e1) ∙ by m e2
    where
      by : (m : Meaning) → size_by (start_of path) m ≡ gives v → is_set (found m) ≡ true
      by (meaning.Set group first count) f = refl
      by (meaning.Number leaf) f = absurd cc
      by (meaning.Argument place) f = absurd cc
      by (meaning.Flag leaf) f = absurd cc
      by (meaning.Pair group) f = absurd cc
      by (meaning.Atom leaf) f = absurd cc

  times_shows : (by : ℤ) (star : ℕ) (f : Factor) → Shows (times_by scope params by star f) (is_named scope params f)
  unfolding times_by
  times_shows by star (factor.Number number) = makes_refused _
  times_shows by star (factor.Path path) = makes_then (makes_found (number_at scope params path)) (λ v e. makes_known (gather v by) (λ u. number_named path v e))
  times_shows by star (factor.Size word open_paren set close_paren) =
      makes_then (makes_found (size_at scope params set)) (λ v e. makes_known (gather v by) (λ u. size_named set v e))

  number_shows : (n : Factor) (by : ℤ) (second : Option (Then Factor)) → ((t : Then Factor) → is_product scope params n (Some t) ≡ is_named scope params t.item) → is_product scope params n None ≡ true
      → Shows (number_first scope params by second) (is_product scope params n second)
  unfolding number_first
  number_shows n by None e f = makes_known (shifted by) (λ u. f)
  number_shows n by (Some t) e f = subst (λ b. Shows (times_by scope params by t.mark.start t.item) b) (sym (e t)) (times_shows by t.mark.start t.item)

  variable_shows : (f : Factor) (v : Variable) (by : ℤ) (second : Option (Then Factor)) → is_product scope params f None ≡ true → Shows (variable_first scope params v by second) (is_product scope params f second)
  unfolding variable_first
  variable_shows f v by None e = makes_known (gather v by) (λ u. e)
  variable_shows f v by (Some t) e = makes_refused _

  product_shows : (b : Bool) (f : Factor) (second : Option (Then Factor)) → Shows (product_by scope params b f second) (is_product scope params f second)
  unfolding product_by
  product_shows b (factor.Number number) second = number_shows (factor.Number number) (signed b number.value) second (λ t. refl) refl
  product_shows b (factor.Path path) second =
      makes_then (makes_found (number_at scope params path)) (λ v e. variable_shows (factor.Path path) v (signed b 1) second (number_named path v e))
  product_shows b (factor.Size word open_paren set close_paren) second =
      makes_then (makes_found (size_at scope params set)) (λ v e. variable_shows (factor.Size word open_paren set close_paren) v (signed b 1) second (size_named set v e))

  added_shows : (right : Bool) (a : Added) → Shows (added_in scope params right a) (product_named scope params a.product)
  unfolding added_in
  added_shows right a = product_shows (turned right (is_minus a.sign)) a.product.first a.product.second

  term_shows : (right : Bool) (t : tree.Term) → Shows (term_in scope params right t) (term_named scope params t)
  unfolding term_in
  term_shows right t =
      let first = product_named scope params t.first in
      let others = list_all (λ a. product_named scope params a.product) t.others in
      makes_then (product_shows (turned right (is_there t.minus)) t.first.first t.first.second) (λ u one.
      makes_more (makes_each (added_in scope params right) (λ a. product_named scope params a.product) (added_shows right) t.others) (λ v all. both_true first others one all))

  pub assigned_named : (given : tree.Term) (t : Term) → assigned scope params given ≡ gives t → term_named scope params given ≡ true
  unfolding assigned
  assigned_named given t e =
      let (g, e1, e2) = one_by_one (state_of (term_in scope params false given (nothing scope params))) term_of t e in
      let (a, e3) = state_given (term_in scope params false given (nothing scope params)) g e1 in
      (term_shows false given).makes (nothing scope params) g a e3

  sides_show : (left right : tree.Term) → Makes (sides scope params left right) (λ u. (term_named scope params left ≡ true) × (term_named scope params right ≡ true))
  sides_show left right = makes_then (term_shows false left) (λ u one. makes_more (term_shows true right) (λ v two. (one, two)))

  pub compared_named : (left right : tree.Term) (t : Term) → compared scope params left right ≡ gives t → (term_named scope params left ≡ true) × (term_named scope params right ≡ true)
  unfolding compared
  compared_named left right t e =
      let (g, e1, e2) = one_by_one (state_of (sides scope params left right (nothing scope params))) term_of t e in
      let (a, e3) = state_given (sides scope params left right (nothing scope params)) g e1 in
      (sides_show left right).makes (nothing scope params) g a e3
