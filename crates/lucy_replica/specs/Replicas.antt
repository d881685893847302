-- A replica, without pointers.
use Rattle.std.specs.Prelude.{ℕ, ℤ, List, [], ◌∷◌, ◌++◌, Option, None}
use Rattle.lucy_plan.specs.declared.parts.Call.{Call}
use Rattle.lucy_expr.specs.Trees.{Tree, Start, value}
use Rattle.lucy_expr.specs.Expressions.{Expression}
use Rattle.lucy_expr.specs.declared.ids.Id.{Id}
use Rattle.lucy_epochs.specs.Records.{Record}
use Rattle.lucy_epochs.specs.Contributions.{Contribution}

-- a reply to a call
pub data Answer : Type 0 where
  -- the call was accepted in this record, as this id
  Done : (epoch : Record) → (id : Id) → Answer
  -- in this record, at this expression, the call's result breaks the invariant
  Broken : (epoch : Record) → (point : Tree) → Answer
  -- the call, which was wanted at this expression, opened this record, as this id
  Moved : (epoch : Record) → (point : Tree) → (id : Id) → Answer
  -- the call was wanted at this expression, and its result on the merge of these parts breaks the invariant
  Refused : (point : Tree) → (parts : List Contribution) → Answer

-- what a replica has of a record: its state and its expression, the last ones where the record is closed
pub record Stay : Type 0 where
  pub epoch : Record
  pub state : List ℤ
  pub tree : Tree

-- what a replica sends
pub record Message : Type 0 where
  pub epoch : Record
  pub state : List ℤ
  pub expression : Expression

-- a replica
pub record Replica : Type 0 where
  pub number : ℕ
  -- its present record
  pub epoch : Record
  -- its present expression, with room for the ids of so many replicas
  pub expression : Expression
  -- where it wants a change, if it does
  pub wanted : Option Tree
  -- its work, and the replies to the first calls of it
  pub calls : List Call
  pub replies : List Answer
  -- what it had of the records before the present one, the oldest first
  pub closings : List Stay

-- the state is what the expression gives
abbrev pub state_of : Replica → List ℤ
state_of replica = value replica.epoch.plan replica.epoch.opening replica.expression.tree

-- what it has of its present record
abbrev pub present : Replica → Stay
present replica = record { epoch = replica.epoch; state = state_of replica; tree = replica.expression.tree }

-- what it had of each of its records, the present one last
abbrev pub stays : Replica → List Stay
stays replica = replica.closings ++ present replica ∷ []

-- a replica at the first record, one of so many, before its first call
abbrev pub newcomer : ℕ → ℕ → Record → List Call → Replica
newcomer number replicas first calls = record {
  number = number;
  epoch = first;
  expression = record { tree = Start; room = replicas };
  wanted = None;
  calls = calls;
  replies = [];
  closings = [];
}

-- what contracts see of a life: the replica, and for how many changes room is reserved
pub record Seen : Type 0 where
  pub replica : Replica
  pub spare : ℕ
