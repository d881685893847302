-- A session of labels over a source and a sink: what is shown, what is heard, what is written of it, and how it ends.
use Rattle.std.specs.Prelude.{◌≡◌, ◌≢◌, ◌⊎◌, ℕ, ◌+◌, ◌-◌, ◌*◌, ◌^◌, ◌<◌, ◌≤◌, ◌||◌, if◌then◌else◌, Bool, true, false, IsTrue, ℤ, List, [], ◌∷◌, ◌++◌, length, Option, Some, None, Result, Ok, Err, is_some}
use Rattle.std.specs.Io.{StopsAt}
use Rattle.std.specs.Io.KnownBytes.{Appends, Consumes, IsAtEnd}
use Rattle.lucy_io.specs.Faults.{Rose}
use Rattle.lucy_io.specs.Outcomes.{Outcome}
use Rattle.lucy_io.specs.Pieces.{IsProperFront}
use Rattle.lucy_expr.specs.Expressions.{Expression}
use Rattle.lucy_names.specs.declared.names.Names.{Names}
use Rattle.lucy_plan.specs.declared.parts.PlanParts.{PlanParts}
use Rattle.lucy_report.specs.FaultLines.{source_fault, long_input}
use Rattle.lucy_report.specs.LabelTexts.{pair_line, found_lines, refused_line, undecided, confluent, not_confluent}
use Rattle.lucy_session.specs.Laws.{IsConfluentWithout}
use Rattle.lucy_session.specs.Sessions.{Dialogue, opening, answer_of, IsShown, Follows, Means, labelled, searched, found_of}
use Rattle.lucy_session.specs.declared.answers.LabelError.{LabelError}
use Rattle.lucy_session.specs.declared.answers.Next.{Next}
use Rattle.lucy_session.specs.declared.answers.Next.TheVariants as next
use Rattle.lucy_session.specs.declared.reached.Pair.{Pair}
use Rattle.lucy_top.specs.Hearing.{IsLine, line_bytes, passed}
use Rattle.lucy_top.specs.Writing.{IsCut}

-- ---- what happens in a session

-- the seed and the length of a walk, where one is asked for
abbrev pub Walk : Type 0
Walk = Option (ℕ × ℕ)

-- a pair is shown, or a line is heard, behind which the input may be over
pub data Event : Type 0 where
  shown : Pair → Event
  heard : (line : List ℕ) (over : Bool) → Event

-- something is asked: a pair is shown, and not both its states have an expression
abbrev pub asks : Next → Bool
asks next.Closed = false
asks (next.Pair left right asks_left asks_right) = true
asks (next.Broken left right) = false

-- no pair stands, and this one can be shown
pub record CanShow (d : Dialogue) (p : Pair) : Type 0 where
  pub free : d.pair ≡ None
  pub is : IsShown d.plan d.points p
  pub asked : IsTrue (asks (answer_of d.reached (Some p)))

-- a line is needed, and this can be one
pub record CanHear (d : Dialogue) (line : List ℕ) (over : Bool) : Type 0 where
  pub asked : IsTrue (asks (answer_of d.reached d.pair))
  pub is : IsLine line
  pub last : over ≡ true → line ≢ []

abbrev pub CanCome : Dialogue → Event → Type 0
CanCome d (shown p) = CanShow d p
CanCome d (heard line over) = CanHear d line over

-- two states as a pair
abbrev pub pair_of : List ℤ → List ℤ → Pair
pair_of left right = record { left = left; right = right }

-- with a pair that is shown
unfoldable pub with_pair : Dialogue → Pair → Dialogue
with_pair d p = record d { pair = Some p }

-- with what the walk finds for the pair that is shown
abbrev pub walked : Walk → Dialogue → Pair → Dialogue
walked None d p = d
walked (Some walk) d p = searched d walk.0 walk.1 p

abbrev pub walked_text : Walk → Dialogue → Pair → List ℕ
walked_text None d p = []
walked_text (Some walk) d p = found_lines d.names.txns (found_of d walk.0 walk.1 p)

-- what is written of a pair that is shown
abbrev pub shown_text : Walk → Dialogue → Pair → List ℕ
shown_text walk d p = pair_line p.left p.right ++ walked_text walk d p

-- after a label, which changes nothing where it is refused
abbrev pub or_same : Dialogue → Outcome LabelError Dialogue → Dialogue
or_same d (Ok e) = e
or_same d (Err e) = d

-- an accepted label writes nothing
abbrev pub answer_text : Outcome LabelError Dialogue → List ℕ
answer_text (Ok e) = []
answer_text (Err e) = refused_line e

abbrev pub after : Walk → Dialogue → Event → Dialogue
after walk d (shown p) = walked walk (with_pair d p) p
after walk d (heard line over) = or_same d (labelled d line)

abbrev pub says : Walk → Dialogue → Event → List ℕ
says walk d (shown p) = shown_text walk (with_pair d p) p
says walk d (heard line over) = answer_text (labelled d line)

-- ---- one after another

abbrev pub after_all : Walk → Dialogue → List Event → Dialogue
after_all walk d [] = d
after_all walk d (event ∷ events) = after_all walk (after walk d event) events

-- what is written of them
abbrev pub text_of : Walk → Dialogue → List Event → List ℕ
text_of walk d [] = []
text_of walk d (event ∷ events) = says walk d event ++ text_of walk (after walk d event) events

-- each can come where it comes
abbrev pub AllCome : Walk → Dialogue → List Event → Type 0
AllCome walk d [] = Unit {0}
AllCome walk d (event ∷ events) = CanCome d event × AllCome walk (after walk d event) events

abbrev pub bytes_of : Event → List ℕ
bytes_of (shown p) = []
bytes_of (heard line over) = line_bytes line over

-- the bytes of the lines that are heard
abbrev pub bytes_in : List Event → List ℕ
bytes_in [] = []
bytes_in (event ∷ events) = bytes_of event ++ bytes_in events

abbrev pub is_over : Event → Bool
is_over (shown p) = false
is_over (heard line over) = over

-- behind one of the lines the input is over
abbrev pub has_ended : List Event → Bool
has_ended [] = false
has_ended (event ∷ events) = is_over event || has_ended events

-- the input is over, where it was known at first
abbrev pub IsEndOf : Option (List ℕ) → Option (List ℕ) → Type 0
IsEndOf None left = Unit {0}
IsEndOf (Some bytes) left = IsAtEnd left

-- ---- how it ends

pub data Last : Type 0 where
  closed : Last
  broken : Expression → Expression → Last
  over : Last
  long : ℕ → Last
  fault : Last

-- what is written at the end
abbrev pub last_text : Dialogue → Last → List ℕ
last_text d closed = confluent d.points
last_text d (broken left right) = not_confluent d.names.txns left.tree right.tree
last_text d over = undecided
last_text d (long count) = long_input count
last_text d fault = source_fault

abbrev pub last_status : Last → ℕ
last_status closed = 0
last_status (broken left right) = 1
last_status over = 1
last_status (long count) = 3
last_status fault = 5

-- no two further states have a merge that breaks the invariant: the plan is confluent, if none of the states that were excluded is reached
pub record IsClosed (d : Dialogue) (rest : List ℕ) : Type 0 where
  pub none : rest ≡ []
  pub drawn : Follows d.plan d.points d.pair None
  pub means : IsConfluentWithout d.plan d.points

-- both states of the pair have an expression: both are reached, and their merge breaks the invariant
pub record IsBroken (d : Dialogue) (rest : List ℕ) (left right : Expression) : Type 0 where
  pub none : rest ≡ []
  pub pair : Pair
  pub drawn : Follows d.plan d.points d.pair (Some pair)
  pub both : answer_of d.reached (Some pair) ≡ next.Broken left right
  pub means : Means d.plan d.points (next.Broken left right)

-- a line is needed, and the input is over
pub record IsOver (d : Dialogue) (rest : List ℕ) (left : Option (List ℕ)) : Type 0 where
  pub asked : IsTrue (asks (answer_of d.reached d.pair))
  pub none : rest ≡ []
  pub at_end : IsAtEnd left

-- a line is needed, and it passes a limit with the last byte that was taken; before it so many bytes were taken
pub record IsLong (d : Dialogue) (before : ℕ) (rest : List ℕ) (count : ℕ) : Type 0 where
  pub asked : IsTrue (asks (answer_of d.reached d.pair))
  pub part : List ℕ
  pub byte : ℕ
  pub rest_is : rest ≡ part ++ byte ∷ []
  pub is : IsLine part
  pub few : before + length part ≤ 2 ^ 20
  pub too_long : passed (length part) (2 ^ 20 - (before + length part)) byte ≡ Some count

-- a line is needed, and the source could not be read
pub record IsFault (d : Dialogue) (rest : List ℕ) (faults_old faults_new : ℕ) : Type 0 where
  pub asked : IsTrue (asks (answer_of d.reached d.pair))
  pub is : IsLine rest
  pub rose : Rose faults_old faults_new

abbrev pub IsLast : Dialogue → ℕ → List ℕ → Option (List ℕ) → ℕ → ℕ → Last → Type 0
IsLast d before rest left faults_old faults_new closed = IsClosed d rest
IsLast d before rest left faults_old faults_new (broken e f) = IsBroken d rest e f
IsLast d before rest left faults_old faults_new over = IsOver d rest left
IsLast d before rest left faults_old faults_new (long count) = IsLong d before rest count
IsLast d before rest left faults_old faults_new fault = IsFault d rest faults_old faults_new

-- a write failed: this text was written before it as a whole, and a proper front of that text
pub record IsCutBehind (before text : List ℕ) (held_old held_new : Option (List ℕ)) (faults_old faults_new status : ℕ) : Type 0 where
  pub status_is : status ≡ 6
  pub front : List ℕ
  pub is_front : IsProperFront front text
  pub written : Appends held_old held_new (before ++ front)
  pub rose : Rose faults_old faults_new

-- The whole text was written, and the status is that of the end. Or a write failed: in the last text, or in that of the last event, and then nothing
-- was taken behind this event; all texts before it were written. Or memory ran out, behind the texts of the events so far.
pub data Way : Type 0 where
  whole : Last → Way
  cut_last : Last → Way
  cut : List Event → Event → Way
  no_memory : Way

abbrev pub GoesBy : Walk → Dialogue → List Event → List ℕ → Option (List ℕ) → Option (List ℕ) → Option (List ℕ) → ℕ → ℕ → ℕ → ℕ → ℕ → Way → Type 0
GoesBy walk d events rest left held_old held_new sf0 sf1 kf0 kf1 status (whole last) =
    IsLast (after_all walk d events) (length (bytes_in events)) rest left sf0 sf1 last
    × (status ≡ last_status last) × Appends held_old held_new (text_of walk d events ++ last_text (after_all walk d events) last)
GoesBy walk d events rest left held_old held_new sf0 sf1 kf0 kf1 status (cut_last last) =
    IsLast (after_all walk d events) (length (bytes_in events)) rest left sf0 sf1 last
    × IsCutBehind (text_of walk d events) (last_text (after_all walk d events) last) held_old held_new kf0 kf1 status
GoesBy walk d events rest left held_old held_new sf0 sf1 kf0 kf1 status (cut earlier event) =
    (events ≡ earlier ++ event ∷ []) × (rest ≡ []) × IsCutBehind (text_of walk d earlier) (says walk (after_all walk d earlier) event) held_old held_new kf0 kf1 status
GoesBy walk d events rest left held_old held_new sf0 sf1 kf0 kf1 status no_memory = (status ≡ 7) × Appends held_old held_new (text_of walk d events)

-- A whole session from an opening on: the events that came, the bytes that were taken for the line behind them, which go past no LF, and how it ended.
pub record Converses (walk : Walk) (d : Dialogue) (left_old left_new held_old held_new : Option (List ℕ)) (sf0 sf1 kf0 kf1 status : ℕ) : Type 0 where
  pub events : List Event
  pub come : AllCome walk d events
  pub few : length (bytes_in events) ≤ 2 ^ 20
  pub rest : List ℕ
  pub one : StopsAt rest 10
  pub taken : Consumes left_old left_new (bytes_in events ++ rest)
  pub ended : has_ended events ≡ true → IsEndOf left_old left_new
  pub way : Way
  pub by : GoesBy walk d events rest left_new held_old held_new sf0 sf1 kf0 kf1 status way

-- ---- a session that goes on

pub record Sofar (walk : Walk) (first : Dialogue) (left_old left_new held_old held_new : Option (List ℕ)) (sf0 sf1 kf0 kf1 : ℕ) (d : Dialogue) (room : ℕ) : Type 0 where
  pub events : List Event
  pub come : AllCome walk first events
  pub now : d ≡ after_all walk first events
  pub taken : Consumes left_old left_new (bytes_in events)
  pub ended : has_ended events ≡ true → IsEndOf left_old left_new
  pub room_is : room + length (bytes_in events) ≡ 2 ^ 20
  pub written : Appends held_old held_new (text_of walk first events)
  pub source_later : sf0 ≤ sf1
  pub sink_later : kf0 ≤ kf1

-- a text is given, or its write fails, or there is no memory for it
abbrev pub Gives : List ℕ → Option (List ℕ) → Option (List ℕ) → ℕ → ℕ → Result (Unit {0}) ℕ → Type 0
Gives text held_old held_new faults_old faults_new (Ok u) = Appends held_old held_new text
Gives text held_old held_new faults_old faults_new (Err status) = IsCut text held_old held_new faults_old faults_new status ⊎ ((status ≡ 7) × (held_new ≡ held_old))

-- a text is given with a status
abbrev pub Tells : List ℕ → ℕ → Option (List ℕ) → Option (List ℕ) → ℕ → ℕ → ℕ → Type 0
Tells text wanted held_old held_new faults_old faults_new status =
    ((status ≡ wanted) × Appends held_old held_new text) ⊎ IsCut text held_old held_new faults_old faults_new status ⊎ ((status ≡ 7) × (held_new ≡ held_old))

-- a label is taken or refused, and the answer is written; it is told whether the pair still stands
abbrev pub TakesLabel : Dialogue → List ℕ → Dialogue → Option (List ℕ) → Option (List ℕ) → ℕ → ℕ → Result Bool ℕ → Type 0
TakesLabel d line e held_old held_new faults_old faults_new (Ok stands) =
    (stands ≡ is_some e.pair) × (e ≡ or_same d (labelled d line)) × Appends held_old held_new (answer_text (labelled d line))
TakesLabel d line e held_old held_new faults_old faults_new (Err status) =
    IsCut (answer_text (labelled d line)) held_old held_new faults_old faults_new status ⊎ ((status ≡ 7) × (held_new ≡ held_old))

-- what falls with each step: what is left of the input, and with a pair that is shown
abbrev pub weight : ℕ → Bool → ℕ
weight room stands = 2 * room + (if stands then 0 else 1)

-- Where a step is taken, a session goes on, whatever came before, and it is told whether a pair stands; else it has ended with this status.
abbrev pub Steps : Walk → Dialogue → Dialogue → Bool → ℕ → ℕ → Option (List ℕ) → Option (List ℕ) → Option (List ℕ) → Option (List ℕ) → ℕ → ℕ → ℕ → ℕ → Result Bool ℕ → Type 0
Steps walk d e stood room_old room_new l1 l2 h1 h2 sf1 sf2 kf1 kf2 (Ok stands) =
    (stands ≡ is_some e.pair) × (weight room_new stands < weight room_old stood) ×
    ((first : Dialogue) (l0 h0 : Option (List ℕ)) (sf0 kf0 : ℕ) → Sofar walk first l0 l1 h0 h1 sf0 sf1 kf0 kf1 d room_old → Sofar walk first l0 l2 h0 h2 sf0 sf2 kf0 kf2 e room_new)
Steps walk d e stood room_old room_new l1 l2 h1 h2 sf1 sf2 kf1 kf2 (Err status) =
    (first : Dialogue) (l0 h0 : Option (List ℕ)) (sf0 kf0 : ℕ) → Sofar walk first l0 l1 h0 h1 sf0 sf1 kf0 kf1 d room_old → Converses walk first l0 l2 h0 h2 sf0 sf2 kf0 kf2 status
