-- How records were opened, said over the list of all replicas: safe worlds and legal outcomes share it.
use Rattle.std.specs.Prelude.{◌≡◌, ℕ, zero, suc, List, [], ◌∷◌, ◌++◌, map, Option, Some, None, slice_get}
use Rattle.lucy_plan.specs.declared.parts.Call.{Call}
use Rattle.lucy_expr.specs.Trees.{Tree, Start}
use Rattle.lucy_expr.specs.declared.ids.Id.{Id}
use Rattle.lucy_epochs.specs.declared.causes.By.{By}
use Rattle.lucy_epochs.specs.Records.{Record, Change, next_record, contents}
use Rattle.lucy_replica.specs.Replicas.{Moved, Stay, Replica, stays}

-- what a replica has of the record of this number: its closing, or its present expression; the opening where it has none
abbrev pub tree_at : Option Stay → Tree
tree_at None = Start
tree_at (Some stay) = stay.tree

abbrev pub tree_in : ℕ → Replica → Tree
tree_in number replica = tree_at (slice_get (stays replica) number)

-- what all replicas have of it
abbrev pub trees_in : List Replica → ℕ → List Tree
trees_in replicas number = map (tree_in number) replicas

-- the record was opened from the one before it, by the call of the work that this names
pub record IsOpening (replicas : List Replica) (before after : Record) (by : By) : Type 0 where
  pub opener : Replica
  pub opener_at : slice_get replicas by.replica ≡ Some opener
  pub call : Call
  pub call_is : slice_get opener.calls by.place ≡ Some call
  pub after_is : after ≡ next_record before (trees_in replicas before.number) call by

-- the call that this names has the reply that it opened this record
pub record IsReplied (replicas : List Replica) (epoch : Record) (by : By) : Type 0 where
  pub opener : Replica
  pub opener_at : slice_get replicas by.replica ≡ Some opener
  pub point : Tree
  pub reply_is : slice_get opener.replies by.place ≡ Some (Moved epoch point (record { replica = by.replica; count = by.count }))

-- ---- contents

-- the change that opened a record: what all replicas had of the one before, and the call; none where no call opened it
abbrev pub change_by : List Tree → Option By → List Change
change_by trees None = []
change_by trees (Some by) = record { trees = trees; by = by } ∷ []

abbrev pub change_to : List Tree → Option Record → List Change
change_to trees None = []
change_to trees (Some epoch) = change_by trees epoch.by

-- the changes that led to the record of this number, the oldest first
abbrev pub changes_before : List Replica → List Record → ℕ → List Change
changes_before replicas records zero = []
changes_before replicas records (suc number) =
    changes_before replicas records number ++ change_to (trees_in replicas number) (slice_get records (suc number))

-- the ids of the calls that the opening of the record of this number contains
abbrev pub contents_of : List Replica → List Record → ℕ → List Id
contents_of replicas records number = contents (changes_before replicas records number)
