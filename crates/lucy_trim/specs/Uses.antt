-- Where the clauses of steps are last named as hints: how that is found.
use Rattle.std.specs.Prelude.{ℕ, ◌+◌, ◌-◌, nat_lt, nat_le, Bool, List, [], ◌∷◌, slice_index, slice_set, if◌then◌else◌}
use Rattle.lucy_cert.specs.declared.steps.ProofStep.{ProofStep}
use Rattle.lucy_trim.specs.Trimming.{hints_of}

-- Numbers of steps, one for each clause of a step, the first of which has the number `first`. The clause of a number is named by a step behind so
-- many steps.
abbrev pub is_used_behind : ℕ → List ℕ → ℕ → ℕ → Bool
is_used_behind first last steps n = nat_lt steps (slice_index last (n - first))

-- the last of so many steps names a clause
abbrev pub note : ℕ → ℕ → List ℕ → ℕ → List ℕ
note first steps last hint = if nat_le first hint then slice_set last (hint - first) steps else last

abbrev pub noted : ℕ → ℕ → List ℕ → List ℕ → List ℕ
noted first steps last [] = last
noted first steps last (h ∷ hs) = noted first steps (note first steps last h) hs

-- the steps behind so many
abbrev pub noted_from : ℕ → ℕ → List ℕ → List ProofStep → List ℕ
noted_from first passed last [] = last
noted_from first passed last (s ∷ ss) = noted_from first (passed + 1) (noted first (passed + 1) last (hints_of s)) ss

-- a number for each step
abbrev pub zeros : List ProofStep → List ℕ
zeros [] = []
zeros (s ∷ ss) = 0 ∷ zeros ss

-- for each clause of a step the number of steps up to the last that names it, 0 where none does
abbrev pub last_uses : ℕ → List ProofStep → List ℕ
last_uses first steps = noted_from first 0 (zeros steps) steps
