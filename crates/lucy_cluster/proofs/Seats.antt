-- Seats that are taken one after another.
use Rattle.std.proofs.Common.{◌≡◌, ◌<◌, ◌+◌, ◌⊎◌, ℕ, zero, suc, true, false, List, [], ◌∷◌, length, replicate, refl, sym, ap, ◌∙◌, subst, inl, inr, ⊎_elim, arith}
use Rattle.std.specs.Prelude.{Option, Some, None, slice_get, slice_set, IsTrue}
use Rattle.std.proofs.lemmas.List.{length-replicate}
use Rattle.std.proofs.lemmas.Option.{same_Some}
use Rattle.lucy_epochs.specs.Records.{Record}
use Rattle.lucy_epochs.specs.Contributions.{Contribution}
use Rattle.lucy_epochs.specs.Collections.{Collected, AreSeated, is_full, parts_of, empty, with_part}
use Rattle.lucy_epochs.specs.Rulings.{Ruling, rule}
use Rattle.lucy_epochs.specs.declared.causes.By.{By}
use Rattle.lucy_plan.specs.declared.parts.Call.{Call}
use Rattle.lucy_cluster.specs.Changes.{AreCollected, IsDecided}

-- ---- places of a list in which one element changed
set_length : {X : Type 0} (xs : List X) (i : ℕ) (y : X) → length (slice_set xs i y) ≡ length xs
set_length [] i y = refl
set_length (x ∷ xs) zero y = refl
set_length (x ∷ xs) (suc i) y = let rest = set_length xs i y in omega (arith, rest)

pub set_at : {X : Type 0} (xs : List X) (i : ℕ) (x y : X) → slice_get xs i ≡ Some x → slice_get (slice_set xs i y) i ≡ Some y
set_at [] i x y h = cc
set_at (w ∷ xs) zero x y h = refl
set_at (w ∷ xs) (suc i) x y h = set_at xs i x y h

pub set_other : {X : Type 0} (xs : List X) (i k : ℕ) (y : X) → (k ≡ i → ⊥) → slice_get (slice_set xs i y) k ≡ slice_get xs k
set_other [] i k y apart = refl
set_other (x ∷ xs) zero zero y apart = absurd (apart refl)
set_other (x ∷ xs) zero (suc k) y apart = refl
set_other (x ∷ xs) (suc i) zero y apart = refl
set_other (x ∷ xs) (suc i) (suc k) y apart = set_other xs i k y (λ e. apart (ap (λ n. suc n) e))

-- ---- no seat, one seat more, all seats
empty_at : {X : Type 0} (n place : ℕ) (x : X) → place < n → slice_get (replicate n x) place ≡ Some x
empty_at zero place x below = absurd (omega (arith, below))
empty_at (suc n) zero x below = refl
empty_at (suc n) (suc place) x below = empty_at n place x (omega (arith, below))

pub none_collected : (epoch : Record) (replicas : ℕ) → AreCollected replicas 0 (empty epoch replicas)
none_collected epoch replicas = record {
  many = length-replicate replicas None;
  taken = λ place below. absurd (omega (arith, below));
  free = λ place from below. empty_at replicas place None below;
}

pub more_collected : (replicas number : ℕ) (collected : Collected) (part : Contribution) → number < replicas → part.replica ≡ number → AreCollected replicas number collected
    → AreCollected replicas (number + 1) (with_part collected part)
more_collected replicas number collected part below seat are = record {
  many = set_length collected.seats part.replica (Some part) ∙ are.many;
  taken = λ place less. taken place less (split place number);
  free = λ place from within. set_other collected.seats part.replica place (Some part) (λ e. omega (arith, e, seat, from)) ∙ are.free place (omega (arith, from)) within;
} where
  split : (m n : ℕ) → (m ≡ n) ⊎ (m ≡ n → ⊥)
  split zero zero = inl refl
  split zero (suc n) = inr (λ e. omega (arith, e))
  split (suc m) zero = inr (λ e. omega (arith, e))
  split (suc m) (suc n) = ⊎_elim (λ e. inl (ap (λ k. suc k) e)) (λ ne. inr (λ e. ne (let same : m ≡ n = omega (arith, e) in same))) (split m n)

  taken : (place : ℕ) → place < number + 1 → (place ≡ number) ⊎ (place ≡ number → ⊥) → (at : Contribution) × (slice_get (with_part collected part).seats place ≡ Some (Some at))
  taken place less (inl e) = (
    part,
    subst (λ (n : ℕ). slice_get (slice_set collected.seats part.replica (Some part)) n ≡ Some (Some part)) (seat ∙ sym e)
        (set_at collected.seats part.replica None (Some part) (are.free part.replica (omega (arith, seat)) (omega (arith, seat, below)))),
  )
  taken place less (inr ne) =
      let before : place < number = apart place number less ne in
      let old = are.taken place before in
      (old.0, set_other collected.seats part.replica place (Some part) (λ e. omega (arith, e, seat, before)) ∙ old.1)
    where
      apart : (m n : ℕ) → m < n + 1 → (m ≡ n → ⊥) → m < n
      apart zero zero less ne = absurd (ne refl)
      apart zero (suc n) less ne = omega arith
      apart (suc m) zero less ne = absurd (omega (arith, less))
      apart (suc m) (suc n) less ne = let rest = apart m n (omega (arith, less)) (λ e. ne (ap (λ k. suc k) e)) in omega (arith, rest)

-- each seat is taken
all_taken : (seats : List (Option Contribution)) → ((place : ℕ) → place < length seats → (part : Contribution) × (slice_get seats place ≡ Some (Some part))) → IsTrue (is_full seats)
all_taken [] taken = refl
all_taken (None ∷ seats) taken = let first = taken 0 (omega arith) in let no = first.1 in cc
all_taken (Some part ∷ seats) taken = all_taken seats (λ place below. taken (suc place) (omega (arith, below)))

pub are_full : (replicas : ℕ) (collected : Collected) → AreCollected replicas replicas collected → IsTrue (is_full collected.seats)
are_full replicas collected are = all_taken collected.seats (λ place below. are.taken place (omega (arith, below, are.many)))

-- where all are, the parts are those of the seats
full_at : (seats : List (Option Contribution)) (place : ℕ) (part : Contribution) → IsTrue (is_full seats) → slice_get seats place ≡ Some (Some part) → slice_get (parts_of seats) place ≡ Some part
full_at [] place part full h = cc
full_at (None ∷ seats) place part full h = absurd (let no : false ≡ true = full in cc)
full_at (Some first ∷ seats) zero part full h = same_Some (Some first) (Some part) h
full_at (Some first ∷ seats) (suc place) part full h = full_at seats place part full h

part_at : (seats : List (Option Contribution)) (place : ℕ) (part : Contribution) → IsTrue (is_full seats) → slice_get (parts_of seats) place ≡ Some part → slice_get seats place ≡ Some (Some part)
part_at [] place part full h = cc
part_at (None ∷ seats) place part full h = absurd (let no : false ≡ true = full in cc)
part_at (Some first ∷ seats) zero part full h = ap (λ (p : Option Contribution). Some p) h
part_at (Some first ∷ seats) (suc place) part full h = part_at seats place part full h

-- a change on all parts is decided
pub all_decided : (collected : Collected) (wanted : Option (Call × By)) (ruling : Ruling) → IsTrue (is_full collected.seats) → AreSeated collected → ruling ≡ rule collected.epoch (parts_of collected.seats) wanted
    → IsDecided collected wanted ruling
all_decided collected wanted ruling full seated is = record {
  parts = parts_of collected.seats;
  begins = λ place part h. full_at collected.seats place part full h;
  seats = λ place part h. (seated place part (part_at collected.seats place part full h)).replica_is;
  of_one = λ place part h. (seated place part (part_at collected.seats place part full h)).epoch_is;
  made = λ place part h. (seated place part (part_at collected.seats place part full h)).made;
  ruling_is = is;
}

-- a change is decided with fewer parts in their seats
pub fewer_decided : (collected : Collected) (part : Contribution) (wanted : Option (Call × By)) (ruling : Ruling) → slice_get collected.seats part.replica ≡ Some None
    → IsDecided (with_part collected part) wanted ruling → IsDecided collected wanted ruling
fewer_decided collected part wanted ruling free decided = record {
  parts = decided.parts;
  begins = λ place other h.
      decided.begins place other
      (set_other collected.seats part.replica place (Some part) (λ e. none_there (ap (slice_get collected.seats) e ∙ free) h) ∙ h);
  seats = decided.seats;
  of_one = decided.of_one;
  made = decided.made;
  ruling_is = decided.ruling_is;
} where
  none_there : {X : Type 0} {seat : Option (Option X)} {x : X} → seat ≡ Some None → seat ≡ Some (Some x) → ⊥
  none_there h g = let no : Some None ≡ Some (Some _) = sym h ∙ g in cc
