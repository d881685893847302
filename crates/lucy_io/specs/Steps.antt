-- Steps in order: each gives a value and the state after it, or a refusal.
use Rattle.std.specs.Prelude.{◌≡◌, ◌≢◌, Ok, Err}
use Rattle.lucy_io.specs.Outcomes.{Outcome}

abbrev pub Step : Type 0 → Type 0 → Type 0 → Type 0
Step E S A = S → Outcome E (A × S)

abbrev pub and_then : {E S A B : Type 0} → Outcome E (A × S) → (A → Step E S B) → Outcome E (B × S)
and_then (Ok p) f = f p.0 p.1
and_then (Err e) f = Err e

infixl 10 ◌>>=◌
abbrev pub ◌>>=◌ : {E S A B : Type 0} → Step E S A → (A → Step E S B) → Step E S B
p >>= f = λ s. and_then (p s) f

abbrev pub pure : {E S A : Type 0} → A → Step E S A
pure a = λ s. Ok (a, s)

-- a call answers a step's outcome and leaves the state after it; only want of memory, the error `wanting`, is free
abbrev pub Gives : {E S A : Type 0} → E → Outcome E (A × S) → Outcome E A → S → Type 0
Gives wanting outcome (Ok a) new = outcome ≡ Ok (a, new)
Gives wanting outcome (Err e) new = e ≢ wanting → outcome ≡ Err e
