-- Counts record by record, and their sums.
use Rattle.std.proofs.Common.{◌≡◌, ◌<◌, ◌≤◌, ◌+◌, ◌++◌, ◌==◌, nat_le, ℕ, zero, suc, Bool, true, false, List, [], ◌∷◌, length, get_or, refl, sym, ap, ◌∙◌, subst, ⊎_elim, arith}
use Rattle.std.specs.Prelude.{Option, Some, None, slice_get, slice_index}
use Rattle.lucy_replica.specs.Replicas.{Answer, Replica}
use Rattle.lucy_replica.specs.Facts.{accepted_in}
use Rattle.lucy_replica.specs.Legal.{one_if, is_up_to, accepted_to}
use Rattle.lucy_audit.specs.Differences.{accepted_by}
use Rattle.lucy_audit.specs.Tallies.{is_at, accepted_at, IsTally, AreTallies, look}
use Rattle.lucy_audit.proofs.Places.{one_at}
use Rattle.lucy_audit.proofs.Reopening.{append_cases}

-- ---- one record more

at_zero : (at : ℕ) → one_if (nat_le at 0) ≡ one_if (at == 0)
at_zero at = grind arith

at_more : (at number : ℕ) → one_if (nat_le at (number + 1)) ≡ one_if (nat_le at number) + one_if (at == number + 1)
at_more at number = grind arith

told_zero : (at : Option ℕ) → one_if (is_up_to 0 at) ≡ one_if (is_at 0 at)
told_zero None = refl
told_zero (Some at) = at_zero at

told_more : (number : ℕ) (at : Option ℕ) → one_if (is_up_to (number + 1) at) ≡ one_if (is_up_to number at) + one_if (is_at (number + 1) at)
told_more number None = refl
told_more number (Some at) = at_more at number

accepted_first : (replies : List Answer) → accepted_to 0 replies ≡ accepted_at 0 replies
accepted_first [] = refl
accepted_first (answer ∷ replies) = let here = told_zero (accepted_in answer) in let rest = accepted_first replies in omega (arith, here, rest)

accepted_more : (number : ℕ) (replies : List Answer) → accepted_to (number + 1) replies ≡ accepted_to number replies + accepted_at (number + 1) replies
accepted_more number [] = refl
accepted_more number (answer ∷ replies) =
    let here = told_more number (accepted_in answer) in let rest = accepted_more number replies in omega (arith, here, rest)

one_at_most : (test : Bool) → one_if test ≤ 1
one_at_most true = omega arith
one_at_most false = omega arith

pub accepted_few : (number : ℕ) (replies : List Answer) → accepted_to number replies ≤ length replies
accepted_few number [] = omega arith
accepted_few number (answer ∷ replies) =
    let here = one_at_most (is_up_to number (accepted_in answer)) in let rest = accepted_few number replies in omega (arith, here, rest)

-- the sum of all records before the one of this number
abbrev pub IsSumBefore : List Answer → ℕ → ℕ → Type 0
IsSumBefore replies zero sum = sum ≡ 0
IsSumBefore replies (suc number) sum = sum ≡ accepted_to number replies

pub sum_up_to : (replies : List Answer) (number sum count : ℕ) → IsSumBefore replies number sum → count ≡ accepted_at number replies → sum + count ≡ accepted_to number replies
sum_up_to replies zero sum count before is = let first = accepted_first replies in omega (arith, before, is, first)
sum_up_to replies (suc number) sum count before is =
    let e : number + 1 ≡ suc number = omega arith in
    let more : accepted_to (suc number) replies ≡ accepted_to number replies + accepted_at (suc number) replies =
    subst (λ (n : ℕ). accepted_to n replies ≡ accepted_to number replies + accepted_at n replies) e (accepted_more number replies) in
    omega (arith, before, is, more)

pub sum_more : (replies : List Answer) (number next : ℕ) → next ≡ accepted_to number replies → IsSumBefore replies (number + 1) next
sum_more replies number next is =
    let e : suc number ≡ number + 1 = omega arith in
    subst (λ (n : ℕ). IsSumBefore replies n next) e is

-- one entry more
pub tally_more : (replies : List Answer) (tally : List ℕ) (number next : ℕ) → IsTally replies tally → length tally ≡ number → next ≡ accepted_to number replies
    → IsTally replies (tally ++ next ∷ [])
tally_more replies tally number next right long is place count at =
    ⊎_elim
    (λ before. right place count before)
    (λ last. sym last.1 ∙ is ∙ ap (λ (n : ℕ). accepted_to n replies) (sym (last.0 ∙ long)))
    (append_cases tally next count place at)

-- one tally more
pub tallies_more : (replicas : List Replica) (tallies : List (List ℕ)) (place : ℕ) (replica : Replica) (tally : List ℕ) → AreTallies replicas tallies → length tallies ≡ place
    → slice_get replicas place ≡ Some replica → IsTally replica.replies tally → AreTallies replicas (tallies ++ tally ∷ [])
tallies_more replicas tallies place replica tally right long at is owner other found other_at found_at =
    ⊎_elim
    (λ before. right owner other found other_at before)
    (λ last.
    let same : replica ≡ other = one_at replicas place replica other at (ap (slice_get replicas) (sym (last.0 ∙ long)) ∙ other_at) in
    subst (IsTally other.replies) last.1 (subst (λ (r : Replica). IsTally r.replies tally) same is))
    (append_cases tallies tally found owner found_at)

-- what tallies say is how many were accepted
look_in : (found : Option (List ℕ)) (replies : List Answer) (number count : ℕ) → ((tally : List ℕ) → found ≡ Some tally → IsTally replies tally) → look found number ≡ Some count
    → count ≡ accepted_to number replies
look_in None replies number count right is = cc
look_in (Some tally) replies number count right is = right tally refl number count is

pub tallied_is : (replicas : List Replica) (tallies : List (List ℕ)) (number owner count : ℕ) (replica : Replica) → AreTallies replicas tallies → slice_get replicas owner ≡ Some replica
    → look (slice_get tallies owner) number ≡ Some count → count ≡ accepted_by number (slice_get replicas owner)
tallied_is replicas tallies number owner count replica right at is =
    look_in (slice_get tallies owner) replica.replies number count (λ tally found. right owner replica tally at found) is ∙ ap (accepted_by number) (sym at)

-- what was read of a list of numbers is the number there
pub number_read : (xs : List ℕ) (place n : ℕ) → place < length xs → n ≡ get_or xs place n → n ≡ slice_index xs place
number_read [] place n below is = absurd (omega (arith, below))
number_read (x ∷ xs) zero n below is = is
number_read (x ∷ xs) (suc place) n below is = number_read xs place n (omega (arith, below)) is
