-- What is known of what steps give.
use Rattle.std.proofs.Common.{◌≡◌, List, [], ◌∷◌, Result, Ok, Err, Bool, true, false, ◌&&◌, refl, ap, subst}
use Rattle.std.specs.List.{list_all}
use Rattle.lucy_gather.specs.declared.error.ElabError.{ElabError}
use Rattle.lucy_gather.specs.Steps.{Step, and_then, refuse, lifted, each}
use Rattle.lucy_meaning_laws.proofs.Adding.{gives, left_with, given_is, step_by_step}

pub record Makes {S A : Type 0} (step : Step S A) (Known : A → Type 0) : Type 0 where
  pub makes : (s t : S) (a : A) → step s ≡ left_with a t → Known a

pub makes_then : {S A B : Type 0} {Known : A → Type 0} {Last : B → Type 0} {step : Step S A} {after : A → Step S B} → Makes step Known → ((a : A) → Known a → Makes (after a) Last)
    → Makes (λ s. and_then (step s) after) Last
makes_then {S} {A} {B} {Known} {Last} {step} {after} first next = record {
  makes = λ s t b e.
      let (a, m, e1, e2) = step_by_step (step s) after (b, t) e in
      (next a (first.makes s m a e1)).makes m t b e2;
}

pub makes_of : {S A : Type 0} {Known : A → Type 0} (a : A) → Known a → Makes (λ (s : S). left_with a s) Known
makes_of {S} {A} {Known} a known = record { makes = λ s t b e. subst Known (ap (λ p. p.0) (given_is e)) known }

pub makes_refused : {S A : Type 0} {Known : A → Type 0} (d : ElabError) → Makes (refuse {S = S} {A = A} d) Known
makes_refused d = record { makes = λ s t a e. absurd cc }

-- what is known of what was looked up
pub makes_found : {S A : Type 0} (r : Result A ElabError) → Makes (lifted {S = S} r) (λ a. r ≡ gives a)
makes_found (Ok a) = makes_of a refl
makes_found (Err d) = makes_refused d

pub makes_any : {S A : Type 0} (step : Step S A) → Makes step (λ a. Unit {0})
makes_any step = record { makes = λ s t a e. tt }

-- what is known before a step
pub makes_known : {S A : Type 0} {Known : A → Type 0} (step : Step S A) → ((a : A) → Known a) → Makes step Known
makes_known step known = record { makes = λ s t a e. known a }

-- what follows from what is known
pub makes_more : {S A : Type 0} {Known More : A → Type 0} {step : Step S A} → Makes step Known → ((a : A) → Known a → More a) → Makes step More
makes_more h more = record { makes = λ s t a e. more a (h.makes s t a e) }

pub both_true : (a b : Bool) → a ≡ true → b ≡ true → (a && b) ≡ true
both_true true b e f = f
both_true false b e f = e

pub both_were : (a b : Bool) → (a && b) ≡ true → (a ≡ true) × (b ≡ true)
both_were true b e = (refl, e)
both_were false b e = absurd cc

-- one after another
pub makes_each : {S X : Type 0} (f : X → Step S (Unit {0})) (test : X → Bool) → ((x : X) → Makes (f x) (λ u. test x ≡ true)) → (xs : List X) → Makes (each f xs) (λ u. list_all test xs ≡ true)
makes_each f test h [] = makes_of tt refl
makes_each f test h (x ∷ xs) = makes_then (h x) (λ u one. makes_more (makes_each f test h xs) (λ v all. both_true (test x) (list_all test xs) one all))
