-- What words ask for.
use Rattle.std.specs.Prelude.{◌≡◌, ℕ, ◌^◌, ◌<◌, ◌≤◌, if◌then◌else◌, List, [], slice_index_or, Option, Some, None, unwrap_or, codes, bytes_eq, Result, Ok, Err, IfOk}
use Rattle.lucy_io.specs.Outcomes.{Outcome}
use Rattle.lucy_words.specs.declared.asked.Command.{Command}
use Rattle.lucy_words.specs.declared.asked.Command.TheVariants as command
use Rattle.lucy_words.specs.declared.error.WordsError.{WordsError}
use Rattle.lucy_words.specs.declared.error.WordsError.TheVariants.{BadWords, OutOfMemory}
use Rattle.lucy_words.specs.declared.forms.Form.{Form}
use Rattle.lucy_words.specs.declared.forms.Form.TheVariants as form
use Rattle.lucy_words.specs.declared.forms.Bounds.{Bounds}
use Rattle.lucy_words.specs.declared.forms.TheConstants.{SEED, LENGTH, SIZE, REPLICAS, CALLS, ROUNDS}
use Rattle.lucy_words.specs.Grammar.{Word, number_in, form_of, bad_place, IsFirstBad}

-- the word at a place
abbrev pub word_at : List Word → ℕ → Word
word_at words at = slice_index_or words at []

-- the name at a place, or none for a dash
abbrev pub cert_at : List Word → ℕ → Option Word
cert_at words at = if bytes_eq (word_at words at) (codes "-") then None else Some (word_at words at)

-- the number at a place
abbrev pub number_at : Bounds → List Word → ℕ → ℕ
number_at bounds words at = unwrap_or (number_in bounds.least bounds.most (word_at words at)) 0

-- what words of a form ask for
abbrev pub command_by : Form → List Word → Command
command_by form.Check words = command.Check (word_at words 1)
command_by form.Certify words = command.Certify (word_at words 1)
command_by form.Verify words = command.Verify (word_at words 1) (word_at words 2)
command_by form.Label words = command.Label (word_at words 1) None
command_by form.LabelWalk words = command.Label (word_at words 1) (Some (number_at SEED words 2, number_at LENGTH words 3))
command_by form.Replay words = command.Replay (word_at words 1) (cert_at words 2) (word_at words 3) (word_at words 4)
command_by form.Run words = command.Run (word_at words 1) (cert_at words 2) (word_at words 3) (number_at SEED words 4)
command_by form.MakePlan words = command.MakePlan (number_at SEED words 1) (number_at SIZE words 2)
command_by form.MakeWork words = command.MakeWork (word_at words 1) (number_at SEED words 2) (number_at REPLICAS words 3) (number_at CALLS words 4)
command_by form.MakeSteps words = command.MakeSteps (word_at words 1) (word_at words 2) (number_at SEED words 3) (number_at ROUNDS words 4)
command_by form.Drill words = command.Drill (number_at SEED words 1) (number_at SIZE words 2)
command_by form.Help words = command.Help

abbrev pub asked_by : Option Form → List Word → Outcome WordsError Command
asked_by (Some form) words = Ok (command_by form words)
asked_by None words = Err (BadWords (bad_place words))

-- what words ask for, by the first form that they are of
unfoldable pub command_of : List Word → Outcome WordsError Command
command_of words = asked_by (form_of words) words

-- the numbers of a command are within their bounds
abbrev pub IsWithin : Command → Type 0
IsWithin (command.Label plan (Some walk)) = (walk.0 < 2 ^ 64) × (walk.1 ≤ 1000)
IsWithin (command.Run plan cert work seed) = seed < 2 ^ 64
IsWithin (command.MakePlan seed size) = (seed < 2 ^ 64) × (1 ≤ size) × (size ≤ 32)
IsWithin (command.MakeWork plan seed replicas calls) = (seed < 2 ^ 64) × (1 ≤ replicas) × (replicas ≤ 16) × (calls ≤ 4096)
IsWithin (command.MakeSteps plan work seed rounds) = (seed < 2 ^ 64) × (rounds ≤ 1000)
IsWithin (command.Drill seed size) = (seed < 2 ^ 64) × (1 ≤ size) × (size ≤ 32)
IsWithin _ = Unit {0}

-- Words are refused at the first place at fault.
abbrev pub BadWordsAreFirst : Type 0
BadWordsAreFirst = (words : List Word) (n : ℕ) → command_of words ≡ Err (BadWords n) → IsFirstBad words n

-- The numbers of what words ask for are within their bounds.
abbrev pub NumbersAreWithin : Type 0
NumbersAreWithin = (words : List Word) → IfOk (command_of words) IsWithin

-- where words are refused, something is so of the place that is told
abbrev pub IfBad : {T : Type 0} → Result T WordsError → (ℕ → Type 0) → Type 0
IfBad (Ok x) P = Unit {0}
IfBad (Err (BadWords n)) P = P n
IfBad (Err OutOfMemory) P = Unit {0}
