-- Laws of records.
use Rattle.std.specs.Prelude.{◌≡◌, ◌↔◌, ℕ, ◌+◌, IsSome, List, ◌++◌, map, Some, slice_get}
use Rattle.lucy_plan.specs.Segments.{IsInSegment, first_segment}
use Rattle.lucy_plan.specs.declared.parts.Call.{Call}
use Rattle.lucy_plan.specs.declared.parts.PlanParts.{PlanParts}
use Rattle.lucy_expr.specs.Trees.{Tree}
use Rattle.lucy_epochs.specs.declared.causes.By.{By}
use Rattle.lucy_epochs.specs.Contributions.{Contribution, IsMade, AreFrom, AreMade}
use Rattle.lucy_epochs.specs.Collections.{parts_of}
use Rattle.lucy_epochs.specs.Records.{Record, Change, first_record, next_record, next_opening, contents}

-- where the start is in a segment, it is in the first record's
abbrev pub FirstRecordIsInSegment : Type 0
FirstRecordIsInSegment = (plan : PlanParts) → IsSome (first_segment plan plan.start) → IsInSegment plan (first_record plan).segment plan.start

-- where the next opening is in a segment, it is in the next record's
abbrev pub NextRecordIsInSegment : Type 0
NextRecordIsInSegment =
    (before : Record) (trees : List Tree) (call : Call) (by : By) → IsSome (first_segment before.plan (next_opening before trees call))
    → let next = next_record before trees call by in IsInSegment next.plan next.segment next.opening

-- what an opening contains, the later ones contain
abbrev pub ContentsGrow : Type 0
ContentsGrow = (earlier later : List Change) → contents (earlier ++ later) ≡ contents earlier ++ contents later

-- each part is that of the replica of its place, counted from a number on, and has this record: said by places
abbrev pub AreFromByPlaces : Type 0
AreFromByPlaces =
    (from : ℕ) (epoch : Record) (parts : List Contribution)
    → AreFrom from epoch parts ↔ ((place : ℕ) (part : Contribution) → slice_get parts place ≡ Some part → (part.replica ≡ from + place) × (part.epoch ≡ epoch))

-- each part was made: said by places
abbrev pub AreMadeByPlaces : Type 0
AreMadeByPlaces =
    (parts : List Contribution)
    → AreMade parts ↔ ((place : ℕ) (part : Contribution) → slice_get parts place ≡ Some part → IsMade part.epoch part.state part.expression.tree)

-- where all seats are taken, the parts are those of the seats
abbrev pub FullSeatsGiveParts : Type 0
FullSeatsGiveParts = (parts : List Contribution) → parts_of (map (λ part. Some part) parts) ≡ parts
