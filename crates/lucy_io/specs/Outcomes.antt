-- What a text says, or why it is refused.
use Rattle.std.specs.Prelude.{◌≡◌, ◌≢◌, Result, Ok, Err}

-- a value, or a refusal in place of it
abbrev pub Outcome : Type 0 → Type 0 → Type 0
Outcome E A = Result A E

-- goes on with what was read, if it was read
infixl 10 ◌>>=◌
abbrev pub ◌>>=◌ : {E A B : Type 0} → Outcome E A → (A → Outcome E B) → Outcome E B
(Ok x) >>= f = f x
(Err e) >>= f = Err e

-- a call answers what the text says, seen by `view`; only want of memory, the error `wanting`, is free
abbrev pub Answers : {E A B : Type 0} → E → (B → A) → Outcome E A → Outcome E B → Type 0
Answers wanting view said (Ok x) = said ≡ Ok (view x)
Answers wanting view said (Err e) = e ≢ wanting → said ≡ Err e
