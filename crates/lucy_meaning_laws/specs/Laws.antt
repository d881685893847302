-- Terms and conditions mean what their trees do.
use Rattle.std.specs.Prelude.{◌≡◌, ℕ, ℤ, ◌-ℤ◌, List, length, Ok, IsTrue}
use Rattle.lucy_model.specs.declared.terms.Term.{Term}
use Rattle.lucy_model.specs.declared.conditions.Condition.{Condition}
use Rattle.lucy_model.specs.Terms.{term_value}
use Rattle.lucy_model.specs.Conditions.{holds_at}
use Rattle.lucy_tree.specs.declared.terms.Term as tree
use Rattle.lucy_tree.specs.declared.conditions.Cond.{Cond}
use Rattle.lucy_gather.specs.declared.scopes.Entry.{Entry}
use Rattle.lucy_gather.specs.declared.scopes.Scope.{Scope}
use Rattle.lucy_gather.specs.Terms.{assigned, compared}
use Rattle.lucy_gather.specs.Conditions.{condition_of}
use Rattle.lucy_meaning_laws.specs.Meanings.{tree_value, condition_holds}
use Rattle.lucy_meaning_laws.specs.Named.{term_named, condition_named}

-- there is one number for each leaf, and one argument for each parameter
pub record AreOf (scope : Scope) (params : List Entry) (xs arguments : List ℤ) : Type 0 where
  pub numbers : length xs ≡ length scope.leaves
  pub given : length arguments ≡ length params

-- the term of a change comes to what the tree's term does
abbrev pub AssignedMeans : Type 0
AssignedMeans = (scope : Scope) (params : List Entry) (given : tree.Term) (term : Term) → assigned scope params given ≡ Ok term
    → (xs arguments : List ℤ) → AreOf scope params xs arguments → term_value term xs arguments ≡ tree_value scope params xs arguments given

-- a comparison's term comes to the left side less the right one
abbrev pub ComparedMeans : Type 0
ComparedMeans = (scope : Scope) (params : List Entry) (left right : tree.Term) (term : Term) → compared scope params left right ≡ Ok term
    → (xs arguments : List ℤ) → AreOf scope params xs arguments
    → term_value term xs arguments ≡ tree_value scope params xs arguments left -ℤ tree_value scope params xs arguments right

-- a condition holds exactly where the tree's condition does
abbrev pub ConditionMeans : Type 0
ConditionMeans = (scope : Scope) (params : List Entry) (given : Cond) (n m : ℕ) (made : Condition) → condition_of scope params given n ≡ Ok (made, m)
    → (xs arguments : List ℤ) → AreOf scope params xs arguments → holds_at made xs arguments ≡ condition_holds scope params xs arguments given

-- each name in the term of a change stands for a number or, in a size, for a set; two factors are a number times what is named
abbrev pub AssignedIsNamed : Type 0
AssignedIsNamed = (scope : Scope) (params : List Entry) (given : tree.Term) (term : Term) → assigned scope params given ≡ Ok term → IsTrue (term_named scope params given)

-- so it is in the sides of a comparison
abbrev pub ComparedIsNamed : Type 0
ComparedIsNamed = (scope : Scope) (params : List Entry) (left right : tree.Term) (term : Term) → compared scope params left right ≡ Ok term
    → IsTrue (term_named scope params left) × IsTrue (term_named scope params right)

-- so it is in a condition, where a name also stands for a flag, a set or an atom of that set, as its place needs
abbrev pub ConditionIsNamed : Type 0
ConditionIsNamed = (scope : Scope) (params : List Entry) (given : Cond) (n m : ℕ) (made : Condition) → condition_of scope params given n ≡ Ok (made, m)
    → IsTrue (condition_named scope params given)
