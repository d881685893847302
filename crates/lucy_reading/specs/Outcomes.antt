-- What an input says, or the line of its fault.
use Rattle.std.specs.Prelude.{◌≡◌, ℕ, List, Result, Ok, Err, string_bytes}
use Rattle.lucy_io.specs.Outcomes as outcomes
pub use Rattle.lucy_io.specs.Outcomes.{◌>>=◌}
use Rattle.lucy_reading.specs.declared.refusal.Refusal.{Refusal}
use Rattle.lucy_reading.specs.declared.refusal.Refusal.TheVariants.{Bad, OutOfMemory}

-- a value, or a line in place of it
abbrev pub Outcome : Type 0 → Type 0
Outcome A = outcomes.Outcome (List ℕ) A

-- a fault, by its line
abbrev pub told : {A E : Type 0} → (E → List ℕ) → Result A E → Outcome A
told line (Ok a) = Ok a
told line (Err e) = Err (line e)

-- a refusal has this line, unless memory ran out
abbrev pub Tells : List ℕ → Refusal → Type 0
Tells line (Bad text) = string_bytes text ≡ line
Tells line OutOfMemory = Unit {0}

-- a call answers what the input says; only want of memory is free
abbrev pub Reads : {A B : Type 0} → (B → A) → Outcome A → Result B Refusal → Type 0
Reads view meant (Ok x) = meant ≡ Ok (view x)
Reads view meant (Err (Bad text)) = meant ≡ Err (string_bytes text)
Reads view meant (Err OutOfMemory) = Unit {0}
