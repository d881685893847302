-- Steps in text order: each gives a value and a new state, or the first refusal.
use Rattle.std.specs.Prelude.{◌≡◌, ℕ, ◌+◌, List, [], ◌∷◌, Option, Some, None, Result, Ok, Err}
use Rattle.lucy_io.specs.Outcomes as outcomes
use Rattle.lucy_io.specs.Steps as steps
pub use Rattle.lucy_io.specs.Steps.{and_then, ◌>>=◌, pure}
use Rattle.lucy_gather.specs.declared.error.ElabError.{ElabError}
use Rattle.lucy_gather.specs.declared.error.ElabError.TheVariants.{OutOfMemory}

abbrev pub Outcome : Type 0 → Type 0 → Type 0
Outcome S A = Result (A × S) ElabError

abbrev pub Step : Type 0 → Type 0 → Type 0
Step = steps.Step ElabError

abbrev pub refuse : {S A : Type 0} → ElabError → Step S A
refuse e = λ s. Err e

-- what reads no state
abbrev pub lifted : {S A : Type 0} → Result A ElabError → Step S A
lifted (Ok a) = pure a
lifted (Err e) = refuse e

abbrev pub then_of : {A B : Type 0} → Result A ElabError → (A → Result B ElabError) → Result B ElabError
then_of (Ok a) f = f a
then_of (Err e) f = Err e

-- the value of an outcome, and its state
abbrev pub value_of : {S A : Type 0} → Outcome S A → Result A ElabError
value_of (Ok p) = Ok p.0
value_of (Err e) = Err e

abbrev pub state_of : {S A : Type 0} → Outcome S A → Result S ElabError
state_of (Ok p) = Ok p.1
state_of (Err e) = Err e

-- one after another
abbrev pub each : {S A : Type 0} → (A → Step S (Unit {0})) → List A → Step S (Unit {0})
each f [] = pure tt
each f (x ∷ xs) = f x >>= λ _. each f xs

-- the same with each one's place
abbrev pub each_from : {S A : Type 0} → (ℕ → A → Step S (Unit {0})) → ℕ → List A → Step S (Unit {0})
each_from f at [] = pure tt
each_from f at (x ∷ xs) = f at x >>= λ _. each_from f (at + 1) xs

-- what is there, or a refusal
abbrev pub or_refused : {A : Type 0} → ElabError → Option A → Result A ElabError
or_refused e None = Err e
or_refused e (Some a) = Ok a

-- what code gives, unless memory fails
abbrev pub Gives : {S A : Type 0} → Outcome S A → Result A ElabError → S → Type 0
Gives = steps.Gives OutOfMemory

abbrev pub Answers : {A : Type 0} → Result A ElabError → Result A ElabError → Type 0
Answers = outcomes.Answers OutOfMemory (λ a. a)

-- what holds after a step that is not refused
pub record Goes {S A : Type 0} (P : S → Type 0) (p : Step S A) (Q : A → S → Type 0) : Type 0 where
  pub goes : (s t : S) (a : A) → P s → p s ≡ Ok (a, t) → Q a t
