-- The steps that the reading of a line is made of.
use Rattle.std.specs.Prelude.{ℕ, ◌+◌, ◌==◌, Bool, true, false, List, length, take, drop, position, Option, Some, None, if◌then◌else◌, Ok, Err}
use Rattle.std.specs.Cmp.Lexicographic.{pointwise}
use Rattle.lucy_io.specs.Outcomes as outcomes
use Rattle.lucy_io.specs.Steps.{Step}
pub use Rattle.lucy_io.specs.Steps.{and_then, ◌>>=◌, pure}
use Rattle.lucy_session.specs.declared.answers.LabelError.{LabelError}
use Rattle.lucy_session.specs.declared.answers.LabelError.TheVariants.{BadLabel, OutOfMemory}

-- a value and the bytes behind it, or a refusal
abbrev pub Outcome : Type 0 → Type 0
Outcome A = outcomes.Outcome LabelError (A × List ℕ)

abbrev pub Reader : Type 0 → Type 0
Reader A = Step LabelError (List ℕ) A

-- a call answers a reading's outcome, seen by `view`, and leaves the bytes after it; only want of memory is free
abbrev pub Reads : {A B : Type 0} → (B → A) → Outcome A → outcomes.Outcome LabelError B → List ℕ → Type 0
Reads view said result rest = outcomes.Answers OutOfMemory (λ x. (view x, rest)) said result

-- the line is not the text of a label
abbrev pub refuse : {A : Type 0} → Reader A
refuse = λ text. Err BadLabel

-- whether a text begins with a word
abbrev pub begins : List ℕ → List ℕ → Bool
begins word text = pointwise (λ a b. a == b) (take (length word) text) word

-- a word is read if it stands here; whether it does
unfoldable pub eat : List ℕ → Reader Bool
eat word = λ text. if begins word text then Ok (true, drop (length word) text) else Ok (false, text)

abbrev pub expected : Bool → Reader (Unit {0})
expected true = pure tt
expected false = refuse

-- a word, which has to stand here
unfoldable pub expect : List ℕ → Reader (Unit {0})
expect word = eat word >>= expected

-- the place of the first space, if there is one
abbrev pub first_space : List ℕ → Option ℕ
first_space text = position (λ byte. byte == 32) text

abbrev pub field_at : Option ℕ → Reader (List ℕ)
field_at None = refuse
field_at (Some place) = λ text. Ok (take place text, drop (place + 1) text)

-- the bytes up to the next space, which is read too
unfoldable pub field : Reader (List ℕ)
field = λ text. field_at (first_space text) text

-- nothing is left
unfoldable pub ended : Reader (Unit {0})
ended = λ text. if length text == 0 then Ok (tt, text) else Err BadLabel
