-- What contracts see of a world, and what its type keeps.
use Rattle.std.specs.Prelude.{◌≤◌, List, length, map}
use Rattle.std.specs.Option.{is_some}
use Rattle.lucy_epochs.specs.Sharing.{ruling_of}
use Rattle.lucy_replica.specs.Replicas.{Seen}
use Rattle.lucy_core.specs.declared.changes.Change.{Change}
use Rattle.lucy_core.specs.declared.changes.Change.TheVariants as change
use Rattle.lucy_core.specs.Worlds.{World, Course, Idle, Freezing, Decided}
use Rattle.lucy_core.specs.Holding.{HasParts, HasGrants}
use Rattle.lucy_core.specs.Safety.{IsSafe, KeepsFacts}
use Rattle.lucy_core.specs.declared.worlds.World.TheInside.{Inside}

-- While replicas are being frozen, one is frozen whose part was collected. When the change was decided, one is frozen whose grant is there.
abbrev pub course_of : Change → Course
course_of change.Idle = Idle
course_of (change.Freezing coordinator collect) = Freezing coordinator (map is_some collect.seats)
course_of (change.Decided coordinator ruling grants) = Decided coordinator (ruling_of ruling) (map is_some grants.items)

-- its records, its packets, how far its change is, and its replicas, without their places in memory
abbrev pub world_of : Inside → World
world_of a = record { records = a.table.records; packets = a.packets.items; course = course_of a.change; replicas = map (λ life. life.replica) a.lives.items }

-- what a change holds fits the replicas
abbrev pub FitsLives : List Seen → Change → Type 0
FitsLives lives change.Idle = Unit {0}
FitsLives lives (change.Freezing coordinator collect) = HasParts lives collect
FitsLives lives (change.Decided coordinator ruling grants) = HasGrants lives (ruling_of ruling) grants.items

-- the world is safe, keeps its facts, what its change holds fits its replicas, and of these there are at most 16
pub record IsWorld (a : Inside) : Type 0 where
  pub safe : IsSafe (world_of a)
  pub facts : KeepsFacts (world_of a)
  pub fits : FitsLives a.lives.items a.change
  pub few : length a.lives.items ≤ 16
