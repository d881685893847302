-- Changes and branches of a transaction.
use Rattle.std.specs.Prelude.{ℕ, ◌==◌, ℤ, pos, List, [], ◌∷◌, ◌++◌, Bool, if◌then◌else◌, Result, Ok, Err}
use Rattle.std.specs.List.{list_any}
use Rattle.lucy_model.specs.declared.terms.Term.{Term}
use Rattle.lucy_model.specs.declared.conditions.Condition.{Condition}
use Rattle.lucy_plan.specs.declared.parts.Set.{Set}
use Rattle.lucy_plan.specs.declared.parts.Branch.{Branch}
use Rattle.lucy_tree.specs.declared.marks.Name.{Name}
use Rattle.lucy_tree.specs.declared.plans.Branch as tree
use Rattle.lucy_tree.specs.declared.plans.Assigned.{Assigned}
use Rattle.lucy_tree.specs.declared.plans.Assigned.TheVariants as assigned'
use Rattle.lucy_tree.specs.declared.plans.Change.{Change}
use Rattle.lucy_tree.specs.declared.plans.Change.TheVariants as change
use Rattle.lucy_gather.specs.declared.error.ElabError.{ElabError}
use Rattle.lucy_gather.specs.declared.error.ElabError.TheVariants as error
use Rattle.lucy_gather.specs.declared.scopes.Meaning.{Meaning}
use Rattle.lucy_gather.specs.declared.scopes.Meaning.TheVariants as meaning
use Rattle.lucy_gather.specs.declared.scopes.Entry.{Entry}
use Rattle.lucy_gather.specs.declared.scopes.Scope.{Scope}
use Rattle.lucy_gather.specs.Steps.{Step, ◌>>=◌, pure, refuse, lifted, each, state_of}
use Rattle.lucy_gather.specs.Scopes.{Path, meaning_at, atom_at, start_of}
use Rattle.lucy_gather.specs.Terms.{term_by, assigned}
use Rattle.lucy_gather.specs.Conditions.{condition_of}

-- the state is the list of changes so far
abbrev pub Changing : Type 0
Changing = Step (List Set) (Unit {0})

abbrev pub constant_term : ℤ → Term
constant_term k = term_by [] [] k

abbrev pub is_set : List Set → ℕ → Bool
is_set sets leaf = list_any (λ earlier. earlier.leaf == leaf) sets

-- a branch sets a leaf once
unfoldable pub unset : ℕ → ℕ → Changing
unset at leaf = λ sets. if is_set sets leaf then Err (error.Twice at) else Ok (tt, sets)

unfoldable pub unset_of : ℕ → Meaning → Changing
unset_of at (meaning.Number leaf) = unset at leaf
unset_of at (meaning.Flag leaf) = unset at leaf
unset_of at _ = pure tt

abbrev pub set_of : ℕ → Term → Set
set_of leaf to = record { leaf = leaf; to = to }

unfoldable pub with_set : ℕ → Term → Changing
with_set leaf to = λ sets. Ok (tt, sets ++ set_of leaf to ∷ [])

-- `at` is the place of the path
unfoldable pub flag_change : ℕ → ℕ → Assigned → Changing
flag_change at leaf (assigned'.On span) = with_set leaf (constant_term (pos 1))
flag_change at leaf (assigned'.Off span) = with_set leaf (constant_term (pos 0))
flag_change at leaf _ = refuse (error.Kind at)

module _ (scope : Scope) (params : List Entry) where
  unfoldable pub number_change : ℕ → ℕ → Assigned → Changing
  number_change at leaf (assigned'.Term term) = lifted (assigned scope params term) >>= λ to. with_set leaf to
  number_change at leaf _ = refuse (error.Kind at)

  unfoldable pub value_change : ℕ → Meaning → Assigned → Changing
  value_change at (meaning.Number leaf) v = number_change at leaf v
  value_change at (meaning.Flag leaf) v = flag_change at leaf v
  value_change at _ v = refuse (error.Kind at)

  unfoldable pub assign_in : Path → Assigned → Changing
  assign_in path v = do
    meant ← lifted (meaning_at scope params path)
    _ ← unset_of (start_of path) meant
    value_change (start_of path) meant v

  -- `at` is the place of `insert`
  unfoldable pub insert_in : ℕ → Path → Name → Changing
  insert_in at set atom = do
    leaf ← lifted (atom_at scope params set atom)
    _ ← unset at leaf
    with_set leaf (constant_term (pos 1))

  abbrev pub change_in : Change → Changing
  change_in (change.Assign path mark v semicolon) = assign_in path v
  change_in (change.Insert word atom into_word set semicolon) = insert_in word.start set atom

  abbrev pub changes_in : List Change → Changing
  changes_in = each change_in

  unfoldable pub sets_of : List Change → Result (List Set) ElabError
  sets_of changes = state_of (changes_in changes [])

  abbrev pub branch_by : Condition → List Set → Branch
  branch_by when sets = record { when = when; sets = sets }

  -- the state is the number of condition nodes so far
  unfoldable pub branch_of : tree.Branch → Step ℕ Branch
  branch_of branch = do
    when ← condition_of scope params branch.cond
    sets ← lifted (sets_of branch.changes)
    pure (branch_by when sets)

  -- the branches behind those that are found
  abbrev pub branches_of : List tree.Branch → List Branch → Step ℕ (List Branch)
  branches_of [] found = pure found
  branches_of (b ∷ bs) found = branch_of b >>= λ made. branches_of bs (found ++ made ∷ [])
