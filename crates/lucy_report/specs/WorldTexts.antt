-- The text of a world.
use Rattle.std.specs.Prelude.{ℕ, Bool, true, false, List, [], ◌∷◌, ◌++◌, Option, Some, None, ◌+◌, ◌<◌, length, All, if◌then◌else◌, codes, decimal}
use Rattle.lucy_names.specs.Tables.{name_at}
use Rattle.lucy_epochs.specs.Records.{Record}
use Rattle.lucy_epochs.specs.declared.causes.By.{By}
use Rattle.lucy_replica.specs.Replicas.{Answer, Done, Broken, Moved, Refused, Replica, state_of}
use Rattle.lucy_report.specs.StepTexts.{state_text, id_text}
use Rattle.lucy_report.specs.declared.world_lines.ReplyKind.{ReplyKind}
use Rattle.lucy_report.specs.declared.world_lines.ReplyKind.TheVariants as kind

-- each record is of a segment that has one of these names
abbrev pub AreNamed : List (List ℕ) → List Record → Type 0
AreNamed names records = All (λ (epoch : Record). epoch.segment < length names) records

-- the call that opened a record, if one did: its replica, and how many calls that one had accepted before
abbrev pub by_text : Option By → List ℕ
by_text None = []
by_text (Some by) = codes " by " ++ id_text by.replica by.count

-- the line of a record: its number, its segment's name, its opening, and the call that opened it
unfoldable pub record_line : List (List ℕ) → Record → List ℕ
record_line names epoch =
    codes "epoch " ++ decimal epoch.number ++ codes " segment " ++ name_at names epoch.segment
    ++ codes " opening " ++ state_text epoch.opening ++ by_text epoch.by ++ codes "\n"

-- a reply is of this kind
abbrev pub is_of : ReplyKind → Answer → Bool
is_of kind.Done (Done epoch id) = true
is_of kind.Broken (Broken epoch point) = true
is_of kind.Moved (Moved epoch point id) = true
is_of kind.Refused (Refused point parts) = true
is_of kind _ = false

-- how many of the replies are of this kind
abbrev pub how_many : ReplyKind → List Answer → ℕ
how_many kind [] = 0
how_many kind (reply ∷ replies) = if is_of kind reply then how_many kind replies + 1 else how_many kind replies

-- how many replies there are of each kind
unfoldable pub counts_text : List Answer → List ℕ
counts_text replies =
    codes " done " ++ decimal (how_many kind.Done replies) ++ codes " broken " ++ decimal (how_many kind.Broken replies)
    ++ codes " moved " ++ decimal (how_many kind.Moved replies) ++ codes " refused " ++ decimal (how_many kind.Refused replies)

-- the line of a replica: its number, its record's number, its state, and its replies by kind
unfoldable pub replica_line : Replica → List ℕ
replica_line replica =
    codes "replica " ++ decimal replica.number ++ codes " epoch " ++ decimal replica.epoch.number ++ codes " state " ++ state_text (state_of replica)
    ++ counts_text replica.replies ++ codes "\n"

abbrev pub record_lines : List (List ℕ) → List Record → List ℕ
record_lines names [] = []
record_lines names (epoch ∷ epochs) = record_line names epoch ++ record_lines names epochs

abbrev pub replica_lines : List Replica → List ℕ
replica_lines [] = []
replica_lines (replica ∷ replicas) = replica_line replica ++ replica_lines replicas

-- the text of a world, with these names of segments: its records, its replicas, and the line `end`
unfoldable pub world_text : List (List ℕ) → List Record → List Replica → List ℕ
world_text names records replicas = record_lines names records ++ replica_lines replicas ++ codes "end\n"
