-- The text of an outcome.
use Rattle.std.specs.Prelude.{ℕ, ◌+◌, Bool, if◌then◌else◌, List, [], ◌∷◌, ◌++◌, map, codes, decimal}
use Rattle.lucy_core.specs.declared.outcome.Outcome.{Outcome}
use Rattle.lucy_epochs.specs.Records.{Record}
use Rattle.lucy_replica.specs.Legal.{records_of}
use Rattle.lucy_replica.specs.Replicas.{Answer, Done, Broken, Moved, Refused, Replica}
use Rattle.lucy_report.specs.WorldTexts.{AreNamed, record_lines, replica_lines}

-- whether threads worked, or one thread alone did
abbrev pub way_line : Bool → List ℕ
way_line threads = if threads then codes "threads\n" else codes "alone\n"

-- the records that were opened: those that the first replica had, the present one last
abbrev pub records_in : List Replica → List Record
records_in [] = []
records_in (replica ∷ replicas) = records_of replica

-- the kind of a reply
abbrev pub kind_word : Answer → List ℕ
kind_word (Done epoch id) = codes " done\n"
kind_word (Broken epoch point) = codes " broken\n"
kind_word (Moved epoch point id) = codes " moved\n"
kind_word (Refused point parts) = codes " refused\n"

-- the line of a reply: its replica's number, its call's place, and its kind
unfoldable pub reply_line : ℕ → ℕ → Answer → List ℕ
reply_line number place answer = codes "reply " ++ decimal number ++ codes " " ++ decimal place ++ kind_word answer

-- a line for each reply of a replica of this number, in order, from this place on
abbrev pub reply_lines : ℕ → ℕ → List Answer → List ℕ
reply_lines number place [] = []
reply_lines number place (answer ∷ replies) = reply_line number place answer ++ reply_lines number (place + 1) replies

-- the lines of all replies, replica after replica
abbrev pub all_reply_lines : List Replica → List ℕ
all_reply_lines [] = []
all_reply_lines (replica ∷ replicas) = reply_lines replica.number 0 replica.replies ++ all_reply_lines replicas

-- the text of what these replicas show: how they were worked, the lines of a world with the records and the replicas, the replies, and the
-- line `end`
unfoldable pub text_of : List (List ℕ) → Bool → List Replica → List ℕ
text_of names threads replicas =
    way_line threads ++ record_lines names (records_in replicas) ++ replica_lines replicas ++ all_reply_lines replicas ++ codes "end\n"

-- the replicas of an outcome
abbrev pub replicas_in : Outcome → List Replica
replicas_in outcome = map (λ life. life.replica) outcome.lives.items

-- the text of an outcome, with these names of segments
abbrev pub outcome_text : List (List ℕ) → Outcome → List ℕ
outcome_text names outcome = text_of names outcome.threads (replicas_in outcome)

-- each record of an outcome is of a segment that has one of these names
abbrev pub IsNamed : List (List ℕ) → Outcome → Type 0
IsNamed names outcome = AreNamed names (records_in (replicas_in outcome))
