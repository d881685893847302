-- The changes of a branch.
use Rattle.std.proofs.Common.{◌≡◌, ℕ, ◌<◌, ◌==◌, ◌&&◌, nat_lt, ℤ, pos, List, [], ◌∷◌, ◌++◌, length, Bool, true, false, cond as if_then, Some, None, Err, refl, sym, ap, subst, ◌∙◌, append_assoc, arith}
use Rattle.std.specs.List.{list_all, list_any}
use Rattle.std.proofs.lemmas.List.{append-nil}
use Rattle.std.proofs.lemmas.Bool.Decides.{nat_tests}
use Rattle.lucy_model.specs.declared.terms.Term.{Term}
use Rattle.lucy_model.specs.Terms.{is_term}
use Rattle.lucy_plan.specs.declared.parts.Set.{Set}
use Rattle.lucy_plan.specs.declared.refusal.PlanError.{PlanError}
use Rattle.lucy_plan.specs.declared.refusal.PlanError.TheVariants.{BadIndex}
use Rattle.lucy_plan.specs.Faults.{again_fault}
use Rattle.lucy_plan.specs.Plans as plans
use Rattle.lucy_tree.specs.declared.marks.Name.{Name}
use Rattle.lucy_tree.specs.declared.plans.Assigned.{Assigned}
use Rattle.lucy_tree.specs.declared.plans.Assigned.TheVariants as assigned'
use Rattle.lucy_tree.specs.declared.plans.Change.{Change}
use Rattle.lucy_tree.specs.declared.plans.Change.TheVariants as change
use Rattle.lucy_gather.specs.declared.error.ElabError.{ElabError}
use Rattle.lucy_gather.specs.declared.error.ElabError.TheVariants as error
use Rattle.lucy_gather.specs.declared.scopes.Meaning.{Meaning}
use Rattle.lucy_gather.specs.declared.scopes.Meaning.TheVariants as meaning
use Rattle.lucy_gather.specs.declared.scopes.Entry.{Entry}
use Rattle.lucy_gather.specs.declared.scopes.Scope.{Scope}
use Rattle.lucy_gather.specs.Steps.{and_then, Goes}
use Rattle.lucy_gather.specs.Scopes.{Path, meaning_at, atom_at, start_of}
use Rattle.lucy_gather.specs.Terms.{assigned}
use Rattle.lucy_elaborate.specs.Changes.{constant_term, is_set, unset, unset_of, set_of, with_set, flag_change, number_change, value_change, assign_in, insert_in, change_in, changes_in, sets_of}
use Rattle.lucy_elaborate_laws.specs.Meanings.{Means, AllMean}
use Rattle.lucy_elaborate_laws.proofs.Keeping.{done, ok_is, only, state_is, goes_bind, goes_err, goes_each, all_push, no_fault}
use Rattle.lucy_elaborate_laws.proofs.Names.{lifted_is, refuted}
use Rattle.lucy_elaborate_laws.proofs.Meanings.{meaning_is, atom_is}
use Rattle.lucy_elaborate_laws.proofs.Gathering.{assigned_in_range}

again-push : (before sets : List Set) (s : Set) → again_fault before sets ≡ no_fault → list_any (λ e. e.leaf == s.leaf) (before ++ sets) ≡ false
    → again_fault before (sets ++ s ∷ []) ≡ no_fault
again-push before [] s once new = ap (λ b. if_then b (Some (BadIndex s.leaf)) no_fault) (ap (λ (xs : List Set). list_any (λ e. e.leaf == s.leaf) xs) (sym (append-nil before)) ∙ new)
again-push before (x ∷ xs) s once new = by (λ o. again-push (before ++ x ∷ []) xs s o (ap (λ (ys : List Set). list_any (λ e. e.leaf == s.leaf) ys) (append_assoc before (x ∷ []) xs) ∙ new))
    (list_any (λ e. e.leaf == x.leaf) before) (BadIndex x.leaf) once
  where
    by : (again_fault (before ++ x ∷ []) xs ≡ no_fault → again_fault (before ++ x ∷ []) (xs ++ s ∷ []) ≡ no_fault) → (b : Bool) (d : PlanError)
        → if_then b (Some d) (again_fault (before ++ x ∷ []) xs) ≡ no_fault → if_then b (Some d) (again_fault (before ++ x ∷ []) (xs ++ s ∷ [])) ≡ no_fault
    by h true d e = absurd cc
    by h false d e = h e

module _ (l a : ℕ) where
  -- each change sets a leaf that is there to a term in range, and none sets one again
  pub record Setting (sets : List Set) : Type 0 where
    pub fine : list_all (plans.is_set l a) sets ≡ true
    pub once : again_fault [] sets ≡ no_fault

  abbrev Free : ℕ → List Set → Type 0
  Free leaf sets = Setting sets × (is_set sets leaf ≡ false)

  unset_goes : (at leaf : ℕ) → Goes Setting (unset at leaf) (λ _. Free leaf)
  unfolding unset
  unset_goes at leaf = refuted (λ (sets : List Set). is_set sets leaf) (error.Twice at)

  set_fine : (leaf : ℕ) (to : Term) → leaf < l → is_term l a to ≡ true → plans.is_set l a (set_of leaf to) ≡ true
  set_fine leaf to below h = by (is_term l a to) h
    where
      by : (b : Bool) → b ≡ true → (nat_lt leaf l && b) ≡ true
      by b e = grind (arith, nat_tests)

  with_set_goes : (leaf : ℕ) (to : Term) → leaf < l → Goes (λ s. Free leaf s × (is_term l a to ≡ true)) (with_set leaf to) (λ _. Setting)
  unfolding with_set
  with_set_goes leaf to below = record {
    goes = λ s t x before e. subst Setting (ap (λ p. p.1) (ok_is e)) (record {
      fine = all_push (plans.is_set l a) s (set_of leaf to) before.0.0.fine (set_fine leaf to below before.1);
      once = again-push [] s (set_of leaf to) before.0.0.once before.0.1;
    });
  }

  constant_goes : (leaf : ℕ) (k : ℤ) → leaf < l → is_term l a (constant_term k) ≡ true → Goes (Free leaf) (with_set leaf (constant_term k)) (λ _. Setting)
  constant_goes leaf k below h = record { goes = λ s t x before e. (with_set_goes leaf (constant_term k) below).goes s t x (before, h) e }

  flag_goes : (at leaf : ℕ) (v : Assigned) → leaf < l → Goes (Free leaf) (flag_change at leaf v) (λ _. Setting)
  unfolding flag_change
  flag_goes at leaf (assigned'.On span) below = constant_goes leaf (pos 1) below refl
  flag_goes at leaf (assigned'.Off span) below = constant_goes leaf (pos 0) below refl
  flag_goes at leaf (assigned'.Term t) below = goes_err (error.Kind at)

module _ (scope : Scope) (params : List Entry) (fields : AllMean (length scope.leaves) (length params) scope.entries) (arguments : AllMean (length scope.leaves) (length params) params) where
  abbrev l : ℕ
  l = length scope.leaves

  abbrev a : ℕ
  a = length params

  number_goes : (at leaf : ℕ) (v : Assigned) → leaf < l → Goes (Free l a leaf) (number_change scope params at leaf v) (λ _. Setting l a)
  unfolding number_change
  number_goes at leaf (assigned'.Term t) below =
      goes_bind (lifted_is {R = λ to. is_term l a to ≡ true} (assigned scope params t) (λ to e. assigned_in_range scope params t to e)) (λ to. with_set_goes l a leaf to below)
  number_goes at leaf (assigned'.On span) below = goes_err (error.Kind at)
  number_goes at leaf (assigned'.Off span) below = goes_err (error.Kind at)

  refused : {P : List Set → Type 0} (d : ElabError) → Goes {A = Unit {0}} P (λ s. and_then (done (tt {0}, s)) (λ u t. Err d)) (λ _. Setting l a)
  refused d = record { goes = λ s t x before e. absurd cc }

  value_goes : (at : ℕ) (m : Meaning) (v : Assigned) → Goes (λ s. Setting l a s × Means l a m) (λ s. and_then (unset_of at m s) (λ _. value_change scope params at m v)) (λ _. Setting l a)
  unfolding unset_of value_change
  value_goes at (meaning.Number leaf) v = record { goes = λ s t x before e. (goes_bind (unset_goes l a at leaf) (λ _. number_goes at leaf v before.1)).goes s t x before.0 e }
  value_goes at (meaning.Flag leaf) v = record { goes = λ s t x before e. (goes_bind (unset_goes l a at leaf) (λ _. flag_goes l a at leaf v before.1)).goes s t x before.0 e }
  value_goes at (meaning.Set group first count) v = refused (error.Kind at)
  value_goes at (meaning.Pair group) v = refused (error.Kind at)
  value_goes at (meaning.Atom leaf) v = refused (error.Kind at)
  value_goes at (meaning.Argument place) v = refused (error.Kind at)

  assign_goes : (path : Path) (v : Assigned) → Goes (Setting l a) (assign_in scope params path v) (λ _. Setting l a)
  unfolding assign_in
  assign_goes path v = goes_bind (lifted_is {R = Means l a} (meaning_at scope params path) (λ m e. meaning_is (Means l a) scope params fields arguments path m e)) (λ m. value_goes (start_of path) m v)

  insert_goes : (at : ℕ) (set : Path) (atom : Name) → Goes (Setting l a) (insert_in scope params at set atom) (λ _. Setting l a)
  unfolding insert_in
  insert_goes at set atom = goes_bind (lifted_is {R = λ leaf. leaf < l} (atom_at scope params set atom) (λ leaf e. atom_is (Means l a) scope params fields arguments set atom leaf e)) (λ leaf.
      record { goes = λ s t x before e. (goes_bind (unset_goes l a at leaf) (λ _. constant_goes l a leaf (pos 1) before.1 refl)).goes s t x before.0 e })

  change_goes : (c : Change) → Goes (Setting l a) (change_in scope params c) (λ _. Setting l a)
  change_goes (change.Assign path mark v semicolon) = assign_goes path v
  change_goes (change.Insert word atom into_word set semicolon) = insert_goes word.start set atom

  pub sets_in_range : (changes : List Change) (sets : List Set) → sets_of scope params changes ≡ only sets → (list_all (plans.is_set l a) sets ≡ true) × (again_fault [] sets ≡ None)
  unfolding sets_of
  sets_in_range changes sets e =
      let (x, gave) = state_is (changes_in scope params changes []) sets e in
      let all = (goes_each (change_in scope params) change_goes changes).goes [] sets x (record { fine = refl; once = refl }) gave in
      (all.fine, all.once)
