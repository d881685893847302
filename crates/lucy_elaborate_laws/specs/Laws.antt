-- What elaboration gives.
use Rattle.std.specs.Prelude.{◌≡◌, ℕ, ◌+◌, ◌≤◌, nat_lt, ℤ, Option, List, [], length, None, Ok, true}
use Rattle.std.specs.List.{list_all}
use Rattle.lucy_plan.specs.declared.parts.Set.{Set}
use Rattle.lucy_plan.specs.Faults.{again_fault, twice_fault, fault_of}
use Rattle.lucy_plan.specs.Plans.{is_set, is_txn}
use Rattle.lucy_plan.specs.Sizes.{first_version, most_leaves, most_nodes, most_points}
use Rattle.lucy_tree.specs.declared.plans.Change.{Change}
use Rattle.lucy_model.specs.declared.leaves.Leaf.{Leaf}
use Rattle.lucy_model.specs.Ranges.{all_allowed}
use Rattle.lucy_tree.specs.declared.marks.Name.{Name}
use Rattle.lucy_tree.specs.declared.plans.Except.{Except}
use Rattle.lucy_elaborate.specs.Segments.{points_of, listed}
use Rattle.lucy_tree.specs.declared.plans.Txn as tree_txn
use Rattle.lucy_elaborate.specs.Changes.{sets_of}
use Rattle.lucy_elaborate.specs.Txns.{txn_of}
use Rattle.lucy_model.specs.declared.conditions.Condition.{Condition}
use Rattle.lucy_model.specs.Conditions.{is_condition}
use Rattle.lucy_plan.specs.declared.parts.Txn.{Txn}
use Rattle.lucy_plan.specs.Counts.{nodes_of, txn_nodes}
use Rattle.lucy_tree.specs.declared.conditions.Cond.{Cond}
use Rattle.lucy_gather.specs.Conditions.{condition_of}
use Rattle.lucy_elaborate_laws.specs.Meanings.{EachMeans, AllMean, IsTheirs}
use Rattle.lucy_plan.specs.declared.parts.PlanParts.{PlanParts}
use Rattle.lucy_names.specs.Plans.{segment_names, txn_names}
use Rattle.lucy_names.specs.Tables.{differ}
use Rattle.lucy_tree.specs.declared.plans.Tree.{Tree}
use Rattle.lucy_tree.specs.declared.objects.Field.{Field}
use Rattle.lucy_tree.specs.declared.objects.Setting.{Setting}
use Rattle.lucy_elaborate.specs.Objects.{object_of}
use Rattle.lucy_elaborate.specs.Starts.{start_of}
use Rattle.lucy_elaborate.specs.Plans.{parts_of, names_of, elaborated}
use Rattle.lucy_gather.specs.Steps.{then_of}
use Rattle.lucy_model.specs.declared.terms.Term.{Term}
use Rattle.lucy_model.specs.Terms.{is_term}
use Rattle.lucy_tree.specs.declared.terms.Term as tree
use Rattle.lucy_gather.specs.declared.scopes.Entry.{Entry}
use Rattle.lucy_gather.specs.declared.scopes.Scope.{Scope}
use Rattle.lucy_gather.specs.Terms.{compared, assigned}

-- slots ascend below the numbers of leaves and of parameters; no factor is above a million and the constant is at most 2 ^ 62 in size
abbrev pub TermsAreInRange : Type 0
TermsAreInRange = (scope : Scope) (params : List Entry) (left right : tree.Term) (term : Term)
    → compared scope params left right ≡ Ok term → is_term (length scope.leaves) (length params) term ≡ true

abbrev pub AssignedAreInRange : Type 0
AssignedAreInRange = (scope : Scope) (params : List Entry) (given : tree.Term) (term : Term)
    → assigned scope params given ≡ Ok term → is_term (length scope.leaves) (length params) term ≡ true

-- the names of the parts that a tree gives
abbrev pub NamesDiffer : Type 0
NamesDiffer = (tree : Tree) (parts : PlanParts) → parts_of tree ≡ Ok parts → (differ (segment_names parts) ≡ true) × (differ (txn_names parts) ≡ true)

-- a condition over names that stand for what is there: its places are in range, and its nodes are what was counted, at most 4,096 in all
abbrev pub ConditionsAreInRange : Type 0
ConditionsAreInRange = (scope : Scope) (params : List Entry) (given : Cond) (n m : ℕ) (made : Condition)
    → AllMean (length scope.leaves) (length params) scope.entries → AllMean (length scope.leaves) (length params) params
    → condition_of scope params given n ≡ Ok (made, m)
    → (m ≡ n + nodes_of made) × (n ≤ most_nodes → m ≤ most_nodes) × (is_condition (length scope.leaves) (length params) made ≡ true)

-- an object has 1 to 64 leaves, and each of its names stands for what is there
abbrev pub ObjectsAreSound : Type 0
ObjectsAreSound = (fields : List Field) (scope : Scope) → object_of fields ≡ Ok scope
    → (1 ≤ length scope.leaves) × (length scope.leaves ≤ most_leaves first_version) × AllMean (length scope.leaves) 0 scope.entries

-- the leaves that a set of an object stands for are those of its atoms, in text order
abbrev pub SetsAreTheirAtoms : Type 0
SetsAreTheirAtoms = (fields : List Field) (scope : Scope) → object_of fields ≡ Ok scope → EachMeans (IsTheirs scope.entries) scope.entries

-- the changes of a branch set leaves that there are, each once, to terms in range
abbrev pub ChangesAreInRange : Type 0
ChangesAreInRange = (scope : Scope) (params : List Entry) (changes : List Change) (sets : List Set)
    → AllMean (length scope.leaves) (length params) scope.entries → AllMean (length scope.leaves) (length params) params
    → sets_of scope params changes ≡ Ok sets
    → (list_all (is_set (length scope.leaves) (length params)) sets ≡ true) × (again_fault [] sets ≡ None)

-- a transaction is in range, sets no leaf twice in a branch, and its nodes are what was counted, at most 4,096 in all
abbrev pub TxnsAreInRange : Type 0
TxnsAreInRange = (scope : Scope) (given : tree_txn.Txn) (n m : ℕ) (made : Txn) → AllMean (length scope.leaves) 0 scope.entries → txn_of scope given n ≡ Ok (made, m)
    → (m ≡ n + txn_nodes made) × (n ≤ most_nodes → m ≤ most_nodes) × (is_txn (length scope.leaves) made ≡ true) × (twice_fault made ≡ None)

-- the points of a segment are states of the object, and those of all segments together no more than 256
abbrev pub PointsAreStates : Type 0
PointsAreStates = (leaves : List Leaf) (given : Option Except) (n m : ℕ) (points : List (List ℤ)) → points_of leaves given n ≡ Ok (points, m)
    → (m ≡ n + length points) × (n ≤ most_points → m ≤ most_points) × (list_all (all_allowed leaves) points ≡ true)

-- the transactions that a segment lists are there
abbrev pub ListedAreThere : Type 0
ListedAreThere = (txns : List Txn) (names : List Name) (places : List ℕ) → listed txns names ≡ Ok places → list_all (λ place. nat_lt place (length txns)) places ≡ true

-- the start is a state of the object
abbrev pub StartsAreStates : Type 0
StartsAreStates = (fields : List Field) (settings : List Setting) (scope : Scope) (start : List ℤ) → object_of fields ≡ Ok scope → start_of scope settings ≡ Ok start
    → all_allowed scope.leaves start ≡ true

-- there is no fault in the parts that a tree gives
abbrev pub PartsAreAPlan : Type 0
PartsAreAPlan = (tree : Tree) (parts : PlanParts) → parts_of tree ≡ Ok parts → fault_of parts ≡ None

-- what is elaborated is the parts that a tree gives, with their names: what is refused is refused as the parts are gathered, and nothing after that
abbrev pub ElaboratedAreTheParts : Type 0
ElaboratedAreTheParts = (tree : Tree) → elaborated tree ≡ then_of (parts_of tree) (λ parts. Ok (parts, names_of parts))
