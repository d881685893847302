-- What a drill runs, and what it counts.
use Rattle.std.specs.Prelude.{ℕ, ◌+◌, Bool, true, false, if◌then◌else◌, List, [], ◌∷◌, length}
use Rattle.lucy_calls.specs.declared.steps.Step.{Step}
use Rattle.lucy_core.specs.Steps.{world_after}
use Rattle.lucy_core.specs.Worlds.{World, opening_world}
use Rattle.lucy_make.specs.Steps.{made_steps}
use Rattle.lucy_make.specs.Work.{made_work}
use Rattle.lucy_make.specs.declared.drills.Drill.{Drill}
use Rattle.lucy_plan.specs.declared.parts.Call.{Call}
use Rattle.lucy_plan.specs.declared.parts.PlanParts.{PlanParts}
use Rattle.lucy_replica.specs.Replicas.{Answer, Done, Broken, Moved, Refused, Replica}
use Rattle.lucy_top.specs.declared.counting.ReplyKind.{ReplyKind}
use Rattle.lucy_top.specs.declared.counting.ReplyKind.TheVariants as kind

-- the work of 4 replicas, with 50 calls each
unfoldable pub drill_work : PlanParts → ℕ → List (List Call)
drill_work plan seed = made_work plan seed 4 50

-- the steps of 200 rounds
unfoldable pub drill_steps : ℕ → List Step
drill_steps seed = made_steps 4 seed 200

-- the world after the steps
unfoldable pub drill_end : PlanParts → ℕ → World
drill_end plan seed = world_after (opening_world plan (drill_work plan seed)) (drill_steps seed)

-- a reply is of this kind
abbrev pub is_of : ReplyKind → Answer → Bool
is_of kind.Done (Done epoch id) = true
is_of kind.Broken (Broken epoch point) = true
is_of kind.Moved (Moved epoch point id) = true
is_of kind.Refused (Refused point parts) = true
is_of kind _ = false

-- how many of the replies are of this kind
abbrev pub how_many : ReplyKind → List Answer → ℕ
how_many kind [] = 0
how_many kind (reply ∷ replies) = if is_of kind reply then how_many kind replies + 1 else how_many kind replies

-- how many of the replies of all replicas are of this kind
abbrev pub over_all : ReplyKind → List Replica → ℕ
over_all kind [] = 0
over_all kind (replica ∷ replicas) = how_many kind replica.replies + over_all kind replicas

-- what is counted of a world after so many steps
unfoldable pub counts : PlanParts → ℕ → ℕ → ℕ → World → Drill
counts plan seed size steps last = record {
  seed = seed;
  size = size;
  leaves = length plan.object;
  steps = steps;
  done = over_all kind.Done last.replicas;
  broken = over_all kind.Broken last.replicas;
  moved = over_all kind.Moved last.replicas;
  refused = over_all kind.Refused last.replicas;
  epochs = length last.records;
}

-- what a drill of a seed and a size counts on a plan
unfoldable pub drill_of : PlanParts → ℕ → ℕ → Drill
drill_of plan seed size = counts plan seed size (length (drill_steps seed)) (drill_end plan seed)
