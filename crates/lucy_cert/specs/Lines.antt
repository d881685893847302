-- The first line up to which no text goes on, and texts that are cut into pieces.
use Rattle.std.specs.Prelude.{◌≡◌, ℕ, ◌+◌, Some, None, List, [], ◌∷◌, ◌++◌, Ok, Err, fold}
use Rattle.lucy_cert.specs.declared.entries.Item.{Item}
use Rattle.lucy_cert.specs.declared.error.CertError.TheVariants.{BadLine}
use Rattle.lucy_cert.specs.declared.machine.Machine.{Machine}
use Rattle.lucy_cert.specs.declared.state.State.{State}
use Rattle.lucy_cert.specs.Feeding.{begun, phase_after, ended}
use Rattle.lucy_cert.specs.Reading.{after}

-- behind good lines some text goes on
abbrev pub GoesOn : {T : Type 0} → (T → Item → T) → Type 0
GoesOn {T} take = (s : State T) (m : Machine) → s.machine ≡ Some m → s.carry ≡ [] → (more : List ℕ) × (t : T) × (ended (after take s more) ≡ Ok t)

-- behind a bad line no text goes on, and that line is the one that is told
abbrev pub Stops : {T : Type 0} → (T → Item → T) → Type 0
Stops {T} take = (s : State T) → s.machine ≡ None → (more : List ℕ) → ended (after take s more) ≡ Err (BadLine (s.lines + 1))

abbrev pub joined : List (List ℕ) → List ℕ
joined [] = []
joined (x ∷ xs) = x ++ joined xs

-- however a text is cut, its pieces come to what the whole comes to
abbrev pub CutsDoNotMatter : {T : Type 0} → (T → Item → T) → Type 0
CutsDoNotMatter {T} take = (t : T) (pieces : List (List ℕ)) → fold (phase_after take) (begun t) pieces ≡ phase_after take (begun t) (joined pieces)
