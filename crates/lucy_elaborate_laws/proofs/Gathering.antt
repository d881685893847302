-- Gathering keeps how many leaves and arguments there are.
use Rattle.std.proofs.Common.{◌≡◌, ℕ, zero, suc, ◌+◌, ℤ, pos, ◌+ℤ◌, List, length, Bool, true, false, Option, Some, None, Result, Ok, Err, refl, ap, subst, ◌∙◌, slice_get}
use Rattle.std.proofs.lemmas.List.{length-set, length-replicate}
use Rattle.lucy_model.specs.declared.terms.Term.{Term}
use Rattle.lucy_model.specs.Terms.{is_term}
use Rattle.lucy_tree.specs.declared.marks.Then.{Then}
use Rattle.lucy_tree.specs.declared.terms.Factor.{Factor}
use Rattle.lucy_tree.specs.declared.terms.Factor.TheVariants as factor
use Rattle.lucy_tree.specs.declared.terms.Added.{Added}
use Rattle.lucy_tree.specs.declared.terms.Term as tree
use Rattle.lucy_gather.specs.declared.error.ElabError.{ElabError}
use Rattle.lucy_gather.specs.declared.scopes.Variable.{Variable}
use Rattle.lucy_gather.specs.declared.scopes.Variable.TheVariants as variable
use Rattle.lucy_gather.specs.declared.scopes.Entry.{Entry}
use Rattle.lucy_gather.specs.declared.scopes.Scope.{Scope}
use Rattle.lucy_gather.specs.declared.terms.Gathered.{Gathered}
use Rattle.lucy_gather.specs.declared.terms.Wide.{Wide}
use Rattle.lucy_gather.specs.Steps.{Outcome, Step, then_of, state_of, Goes}
use Rattle.lucy_gather.specs.Ranges.{signed, is_there}
use Rattle.lucy_gather.specs.Scopes.{number_at, size_at}
use Rattle.lucy_gather.specs.Terms.{wide, raised, raised_by, raised_all, gathered_in, gather, stepped, with_leaves, with_arguments, shifted, times_by, number_first, variable_first, product_by, is_minus, turned, added_in, term_in, term_of, nothing, assigned, sides, compared}
use Rattle.lucy_elaborate_laws.proofs.Keeping.{done, ok_is, only, only_is, then_passed, state_is, goes_bind, goes_pure, goes_err, goes_lifted, goes_each}
use Rattle.lucy_elaborate_laws.proofs.Terms.{term_is}

-- ---- a list of factors

abbrev Long : ℕ → List Wide → Type 0
Long n factors = length factors ≡ n

raised_long : (factors : List Wide) (slot : ℕ) (by : ℤ) (o : Option Wide) → length (raised_by factors slot by o) ≡ length factors
raised_long factors slot by None = refl
raised_long factors slot by (Some x) = length-set factors slot (wide (x.by +ℤ by))

raised_goes : (n slot : ℕ) (by : ℤ) → Goes (Long n) (raised slot by) (λ _. Long n)
unfolding raised
raised_goes n slot by = record {
  goes = λ s t a before e.
      subst (Long n) (ap (λ p. p.1) (ok_is e)) (raised_long s slot by (slice_get s slot) ∙ before);
}

raised_all_goes : (n first count : ℕ) (by : Wide) → Goes (Long n) (raised_all first count by) (λ _. Long n)
raised_all_goes n first zero by = goes_pure tt (λ s k. k)
raised_all_goes n first (suc count) by = goes_bind (raised_goes n first by.by) (λ _. raised_all_goes n (first + 1) count by)

-- ---- what is gathered

pub record Sized (leaves arguments : ℕ) (g : Gathered) : Type 0 where
  pub leaf : length g.leaves ≡ leaves
  pub argument : length g.arguments ≡ arguments

module _ (l a : ℕ) where
  -- factors of so many slots, put back
  put_back : (n : ℕ) (put : List Wide → Gathered) (r : Outcome (List Wide) (Unit {0})) (u : Gathered)
      → ((t : List Wide) (x : Unit {0}) → r ≡ done (x, t) → length t ≡ n) → ((factors : List Wide) → length factors ≡ n → Sized l a (put factors))
      → then_of (state_of r) (λ factors. only (put factors)) ≡ only u → Sized l a u
  put_back n put r u long sized e =
      let (factors, got, made) = then_passed (state_of r) (λ factors. only (put factors)) u e in
      let (x, gave) = state_is r factors got in
      subst (Sized l a) (only_is {u = put factors} {v = u} made) (sized factors (long factors x gave))

  with_leaves_sized : (g : Gathered) (r : Outcome (List Wide) (Unit {0})) (u : Gathered) → Sized l a g
      → ((t : List Wide) (x : Unit {0}) → r ≡ done (x, t) → length t ≡ l)
      → then_of (state_of r) (λ factors. only (with_leaves g factors)) ≡ only u → Sized l a u
  with_leaves_sized g r u before long = put_back l (with_leaves g) r u long (λ factors sized. record { leaf = sized; argument = before.argument })

  with_arguments_sized : (g : Gathered) (r : Outcome (List Wide) (Unit {0})) (u : Gathered) → Sized l a g
      → ((t : List Wide) (x : Unit {0}) → r ≡ done (x, t) → length t ≡ a)
      → then_of (state_of r) (λ factors. only (with_arguments g factors)) ≡ only u → Sized l a u
  with_arguments_sized g r u before long = put_back a (with_arguments g) r u long (λ factors sized. record { leaf = before.leaf; argument = sized })

  gathered_sized : (v : Variable) (by : ℤ) (g u : Gathered) → Sized l a g → gathered_in v by g ≡ only u → Sized l a u
  unfolding gathered_in
  gathered_sized (variable.Leaf leaf) by g u before e =
      with_leaves_sized g (raised leaf by g.leaves) u before (λ t x gave. (raised_goes l leaf by).goes g.leaves t x before.leaf gave) e
  gathered_sized (variable.Argument place) by g u before e =
      with_arguments_sized g (raised place by g.arguments) u before (λ t x gave. (raised_goes a place by).goes g.arguments t x before.argument gave) e
  gathered_sized (variable.Leaves first count) by g u before e =
      with_leaves_sized g (raised_all first count (wide by) g.leaves) u before (λ t x gave. (raised_all_goes l first count (wide by)).goes g.leaves t x before.leaf gave) e

  stepped_is : (r : Result Gathered ElabError) (u : Gathered) (x : Unit {0}) → stepped r ≡ done (x, u) → r ≡ only u
  stepped_is (Ok g) u x e = ap (λ p. only p.1) (ok_is e)
  stepped_is (Err d) u x e = absurd cc

  abbrev Keeps : Step Gathered (Unit {0}) → Type 0
  Keeps p = Goes (Sized l a) p (λ _. Sized l a)

  gather_goes : (v : Variable) (by : ℤ) → Keeps (gather v by)
  unfolding gather
  gather_goes v by = record { goes = λ g u x before e. gathered_sized v by g u before (stepped_is (gathered_in v by g) u x e) }

  shifted_goes : (by : ℤ) → Keeps (shifted by)
  unfolding shifted
  shifted_goes by = record { goes = λ g u x before e. subst (Sized l a) (ap (λ p. p.1) (ok_is e)) (record { leaf = before.leaf; argument = before.argument }) }

  module _ (scope : Scope) (params : List Entry) where
    times_goes : (by : ℤ) (star : ℕ) (f : Factor) → Keeps (times_by scope params by star f)
    unfolding times_by
    times_goes by star (factor.Number number) = goes_err _
    times_goes by star (factor.Path path) = goes_bind (goes_lifted (number_at scope params path)) (λ v. gather_goes v by)
    times_goes by star (factor.Size word open_paren set close_paren) = goes_bind (goes_lifted (size_at scope params set)) (λ v. gather_goes v by)

    number_goes : (by : ℤ) (second : Option (Then Factor)) → Keeps (number_first scope params by second)
    unfolding number_first
    number_goes by None = shifted_goes by
    number_goes by (Some t) = times_goes by t.mark.start t.item

    variable_goes : (v : Variable) (by : ℤ) (second : Option (Then Factor)) → Keeps (variable_first scope params v by second)
    unfolding variable_first
    variable_goes v by None = gather_goes v by
    variable_goes v by (Some t) = goes_err _

    product_goes : (minus : Bool) (f : Factor) (second : Option (Then Factor)) → Keeps (product_by scope params minus f second)
    unfolding product_by
    product_goes minus (factor.Number number) second = number_goes (signed minus number.value) second
    product_goes minus (factor.Path path) second = goes_bind (goes_lifted (number_at scope params path)) (λ v. variable_goes v (signed minus 1) second)
    product_goes minus (factor.Size word open_paren set close_paren) second =
        goes_bind (goes_lifted (size_at scope params set)) (λ v. variable_goes v (signed minus 1) second)

    added_goes : (is_right : Bool) (x : Added) → Keeps (added_in scope params is_right x)
    unfolding added_in
    added_goes is_right x = product_goes (turned is_right (is_minus x.sign)) x.product.first x.product.second

    term_goes : (is_right : Bool) (t : tree.Term) → Keeps (term_in scope params is_right t)
    unfolding term_in
    term_goes is_right t =
        goes_bind (product_goes (turned is_right (is_there t.minus)) t.first.first t.first.second) (λ _. goes_each (added_in scope params is_right) (added_goes is_right) t.others)

nothing_sized : (scope : Scope) (params : List Entry) → Sized (length scope.leaves) (length params) (nothing scope params)
nothing_sized scope params = record { leaf = length-replicate (length scope.leaves) (wide (pos 0)); argument = length-replicate (length params) (wide (pos 0)) }

pub assigned_in_range : (scope : Scope) (params : List Entry) (given : tree.Term) (t : Term)
    → assigned scope params given ≡ only t → is_term (length scope.leaves) (length params) t ≡ true
unfolding assigned
assigned_in_range scope params given t e =
    let (g, got, made) = then_passed (state_of (term_in scope params false given (nothing scope params))) term_of t e in
    let (x, gave) = state_is (term_in scope params false given (nothing scope params)) g got in
    let sized = (term_goes (length scope.leaves) (length params) scope params false given).goes (nothing scope params) g x (nothing_sized scope params) gave in
    subst (λ n. is_term n (length params) t ≡ true) sized.leaf (subst (λ n. is_term (length g.leaves) n t ≡ true) sized.argument (term_is g t made))

pub compared_in_range : (scope : Scope) (params : List Entry) (left right : tree.Term) (t : Term)
    → compared scope params left right ≡ only t → is_term (length scope.leaves) (length params) t ≡ true
unfolding compared
compared_in_range scope params left right t e =
    let both = sides scope params left right in
    let (g, got, made) = then_passed (state_of (both (nothing scope params))) term_of t e in
    let (x, gave) = state_is (both (nothing scope params)) g got in
    let l = length scope.leaves in
    let a = length params in
    let sized = (goes_bind (term_goes l a scope params false left) (λ _. term_goes l a scope params true right)).goes (nothing scope params) g x (nothing_sized scope params) gave in
    subst (λ n. is_term n a t ≡ true) sized.leaf (subst (λ n. is_term (length g.leaves) n t ≡ true) sized.argument (term_is g t made))
