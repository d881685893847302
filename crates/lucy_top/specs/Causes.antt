-- What follows of the journal and the status, for every script.
use Rattle.std.specs.Prelude.{◌≡◌, ◌≢◌, ◌⊎◌, ℕ, ◌≤◌, List, [], ◌∷◌, ◌++◌, length, Option, Some}
use Rattle.std.specs.Io.KnownBytes.{Appends}
use Rattle.lucy_io.specs.Inputs.{Entry, Told}
use Rattle.lucy_io.specs.declared.inputs.Ending.{Ending}
use Rattle.lucy_io.specs.declared.inputs.Ending.TheVariants.{Given, Failed}
use Rattle.lucy_top.specs.Script.{Script, ends, asks}
use Rattle.lucy_top.specs.Verdicts.{Verdict, Says}

-- the last entry ended so
abbrev pub LastIs : Ending → List Entry → Type 0
LastIs ending [] = ⊥
LastIs ending (e ∷ []) = e.ending ≡ ending
LastIs ending (e ∷ f ∷ es) = LastIs ending (f ∷ es)

-- the entries name the first of these names, in their order, and all but the last were given
abbrev pub AreInOrder : List (List ℕ) → List Entry → Type 0
AreInOrder names [] = Unit {0}
AreInOrder [] (e ∷ es) = ⊥
AreInOrder (name ∷ names) (e ∷ []) = e.name ≡ name
AreInOrder (name ∷ names) (e ∷ f ∷ es) = (e.name ≡ name) × (e.ending ≡ Given) × AreInOrder names (f ∷ es)

-- a script asks for these names at the most, in their order
abbrev pub Asks : List (List ℕ) → Script → Type 0
Asks names (ends v) = Unit {0}
Asks [] (asks name most next) = ⊥
Asks (n ∷ names) (asks name most next) = (name ≡ n) × ((bytes : List ℕ) → Asks names (next bytes))

-- no fetch failed
abbrev pub NoneFailed : List Entry → Type 0
NoneFailed [] = Unit {0}
NoneFailed (e ∷ es) = (e.ending ≢ Failed) × NoneFailed es

-- with these inputs, each of them there and within its limit, a script comes to this verdict
abbrev pub ComesTo : Script → Told → Verdict → Type 0
ComesTo (ends v) t verdict = v ≡ verdict
ComesTo (asks name most next) t verdict = (bytes : List ℕ) × (t name ≡ Some bytes) × (length bytes ≤ most) × ComesTo (next bytes) t verdict

-- the verdict was written as a whole, with its status, or memory ran out
abbrev pub IsAnswered : Verdict → Option (List ℕ) → Option (List ℕ) → ℕ → Type 0
IsAnswered verdict held_old held_new status = ((text : List ℕ) × Says verdict status text × Appends held_old held_new text) ⊎ (status ≡ 7)

-- entries with this property were added
pub record Added (old new : List Entry) (P : List Entry → Type 0) : Type 0 where
  pub added : List Entry
  pub journal : new ≡ old ++ added
  pub holds : P added
