-- How many calls were accepted, record by record.
use Rattle.std.specs.Prelude.{◌≡◌, ℕ, ◌+◌, ◌==◌, Bool, false, List, [], ◌∷◌, Option, Some, None, slice_get}
use Rattle.lucy_replica.specs.Replicas.{Answer, Replica}
use Rattle.lucy_replica.specs.Facts.{accepted_in}
use Rattle.lucy_replica.specs.Legal.{one_if, accepted_to}

-- how many replies accept a call in the record of this number
abbrev pub is_at : ℕ → Option ℕ → Bool
is_at number None = false
is_at number (Some at) = at == number

abbrev pub accepted_at : ℕ → List Answer → ℕ
accepted_at number [] = 0
accepted_at number (answer ∷ replies) = one_if (is_at number (accepted_in answer)) + accepted_at number replies

-- at the place of each number, how many replies accept a call in records up to the one of that number
abbrev pub IsTally : List Answer → List ℕ → Type 0
IsTally replies tally = (number count : ℕ) → slice_get tally number ≡ Some count → count ≡ accepted_to number replies

-- so for each replica, as far as both lists go
abbrev pub AreTallies : List Replica → List (List ℕ) → Type 0
AreTallies replicas tallies =
    (owner : ℕ) (replica : Replica) (tally : List ℕ) → slice_get replicas owner ≡ Some replica → slice_get tallies owner ≡ Some tally → IsTally replica.replies tally

-- what a tally says of the record of this number
abbrev pub look : Option (List ℕ) → ℕ → Option ℕ
look None number = None
look (Some tally) number = slice_get tally number
