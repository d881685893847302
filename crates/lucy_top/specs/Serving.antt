-- What a call does: a session of labels where the words ask for one, and else what their script says.
use Rattle.std.specs.Prelude.{◌≡◌, ℕ, true, List, Option, Some, None, IfSome}
use Rattle.lucy_core.specs.declared.outcome.Outcome.{Outcome}
use Rattle.lucy_io.specs.Inputs.{Entry, Told}
use Rattle.lucy_io.specs.Outcomes as read
use Rattle.lucy_top.specs.Commands.{script_meant_asked}
use Rattle.lucy_top.specs.Conversing.{Walk}
use Rattle.lucy_top.specs.Ends.{Ends}
use Rattle.lucy_top.specs.Labelling.{Labels, session_in}
use Rattle.lucy_top.specs.Outcomes.{Choice, asks_run}
use Rattle.lucy_words.specs.declared.asked.Command.{Command}
use Rattle.lucy_words.specs.declared.error.WordsError.{WordsError}

-- whichever outcome suits what was kept may be meant; an outcome is kept of a run alone, and the source is as it was
pub record Scripted {S : Type 0} (suits : Choice → Option Outcome → Type 0) (asked : read.Outcome WordsError Command) (slot : Option Outcome) (told : Option Told) (old new : List Entry)
    (source_old source_new : S) (held_old held_new : Option (List ℕ)) (kf0 kf1 status : ℕ) : Type 0 where
  pub ends : (choice : Choice) → suits choice slot → Ends (script_meant_asked choice asked) told old new held_old held_new kf0 kf1 status
  pub only : IfSome slot (λ outcome. asks_run asked ≡ true)
  pub still : source_new ≡ source_old

-- a whole call, by what its words ask for
pub record Serves {S : Type 0} (suits : Choice → Option Outcome → Type 0) (asked : read.Outcome WordsError Command) (slot : Option Outcome) (told : Option Told) (old new : List Entry)
    (source_old source_new : S) (left_old left_new held_old held_new : Option (List ℕ)) (sf0 sf1 kf0 kf1 status : ℕ) : Type 0 where
  pub scripted : session_in asked ≡ None → Scripted suits asked slot told old new source_old source_new held_old held_new kf0 kf1 status
  pub labelled : (plan : List ℕ) (walk : Walk) → session_in asked ≡ Some (plan, walk)
      → Labels plan walk told old new left_old left_new held_old held_new sf0 sf1 kf0 kf1 status × (slot ≡ None)
