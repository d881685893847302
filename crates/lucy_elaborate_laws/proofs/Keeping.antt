-- What steps keep.
use Rattle.std.proofs.Common.{◌≡◌, ℕ, ◌<◌, nat_lt, arith, cond as if_then, ◌&&◌, List, [], ◌∷◌, ◌++◌, map, Bool, true, false, Option, None, Some, Result, Ok, Err, refl, ap, subst, ◌∙◌}
use Rattle.std.proofs.lemmas.Bool.Decides.{nat_tests}
use Rattle.std.specs.List.{list_all}
use Rattle.std.specs.Option.{option_or}
use Rattle.lucy_plan.specs.declared.refusal.PlanError.{PlanError}
use Rattle.lucy_plan.specs.Faults.{first_of}
use Rattle.lucy_gather.specs.declared.error.ElabError.{ElabError}
use Rattle.lucy_gather.specs.Steps.{Outcome, Step, and_then, lifted, then_of, each, state_of, Goes}

abbrev pub done : {S A : Type 0} → A × S → Outcome S A
done p = Ok p

pub ok_is : {S A : Type 0} {x y : A × S} → done x ≡ done y → x ≡ y
ok_is e = cc

abbrev pub only : {A : Type 0} → A → Result A ElabError
only a = Ok a

pub only_is : {A : Type 0} {u v : A} → only u ≡ only v → u ≡ v
only_is e = cc

-- a step that was passed: what it gave, and what came of it
pub passed : {S A B : Type 0} (r : Outcome S A) (f : A → Step S B) (y : B × S) → and_then r f ≡ Ok y → (x : A) × (t : S) × (r ≡ Ok (x, t)) × (f x t ≡ Ok y)
passed (Ok x) f y e = (x.0, x.1, refl, e)
passed (Err d) f y e = absurd cc

pub then_passed : {A B : Type 0} (r : Result A ElabError) (f : A → Result B ElabError) (b : B) → then_of r f ≡ only b → (a : A) × (r ≡ only a) × (f a ≡ only b)
then_passed (Ok a) f b e = (a, refl, e)
then_passed (Err d) f b e = absurd cc

pub state_is : {S A : Type 0} (r : Outcome S A) (t : S) → state_of r ≡ only t → (a : A) × (r ≡ Ok (a, t))
state_is (Ok p) t e = (p.0, ap (λ u. done (p.0, u)) (only_is e))
state_is (Err d) t e = absurd cc

pub goes_bind : {S A B : Type 0} {P : S → Type 0} {Q : A → S → Type 0} {R : B → S → Type 0} {p : Step S A} {f : A → Step S B}
    → Goes P p Q → ((a : A) → Goes (Q a) (f a) R) → Goes P (λ s. and_then (p s) f) R
goes_bind {S} {A} {B} {P} {Q} {R} {p} {f} first after = record {
  goes = λ s t b before e.
      let (a, m, gave, gone) = passed (p s) f (b, t) e in
      (after a).goes m t b (first.goes s m a before gave) gone;
}

pub goes_pure : {S A : Type 0} {P : S → Type 0} {Q : A → S → Type 0} (a : A) → ((s : S) → P s → Q a s) → Goes P (λ s. Ok (a, s)) Q
goes_pure {S} {A} {P} {Q} a h = record {
  goes = λ s t b before e.
      let K : A × S → Type 0 = λ p. Q p.0 p.1 in subst K (ok_is e) (h s before);
}

pub goes_err : {S A : Type 0} {P : S → Type 0} {Q : A → S → Type 0} (d : ElabError) → Goes P (λ s. Err d) Q
goes_err d = record { goes = λ s t a before e. absurd cc }

pub goes_lifted : {S A : Type 0} {P : S → Type 0} (r : Result A ElabError) → Goes P (lifted r) (λ _. P)
goes_lifted (Ok a) = goes_pure a (λ s h. h)
goes_lifted (Err d) = goes_err d

pub goes_each : {S A : Type 0} {P : S → Type 0} (f : A → Step S (Unit {0})) → ((x : A) → Goes P (f x) (λ _. P)) → (xs : List A) → Goes P (each f xs) (λ _. P)
goes_each f h [] = goes_pure tt (λ s k. k)
goes_each f h (x ∷ xs) = goes_bind (h x) (λ _. goes_each f h xs)

-- the place of one more, below a limit
pub goes_next : {S : Type 0} {P : S → Type 0} {Q : ℕ → S → Type 0} (count : S → ℕ) (most : ℕ) (d : ElabError) → ((s : S) → P s → count s < most → Q (count s) s)
    → Goes P (λ s. if_then (nat_lt (count s) most) (done (count s, s)) (Err d)) Q
goes_next {S} {P} {Q} count most d here = record { goes = λ s t n before e. by s t n (nat_lt (count s) most) refl before e }
  where
    by : (s t : S) (n : ℕ) (b : Bool) → nat_lt (count s) most ≡ b → P s → if_then b (done (count s, s)) (Err d) ≡ done (n, t) → Q n t
    by s t n true f before e =
        let K : ℕ × S → Type 0 = λ p. Q p.0 p.1 in
        subst K (ok_is e) (here s before (grind (arith, nat_tests, f)))
    by s t n false f before e = absurd cc

-- what does not speak of the state stays beside what is kept
pub goes_beside : {S A : Type 0} {P : S → Type 0} {Q : A → S → Type 0} {R : Type 0} {p : Step S A} → (R → Goes P p Q) → Goes (λ s. P s × R) p (λ a s. Q a s × R)
goes_beside h = record { goes = λ s t a before e. ((h before.1).goes s t a before.0 e, before.1) }

-- ---- one more

pub both : (p q : Bool) → p ≡ true → q ≡ true → (p && q) ≡ true
both p q h e = ap (λ b. b && q) h ∙ e

pub all_push : {X : Type 0} (test : X → Bool) (xs : List X) (x : X) → list_all test xs ≡ true → test x ≡ true → list_all test (xs ++ x ∷ []) ≡ true
all_push test [] x h e = ap (λ b. b && true) e
all_push {X} test (y ∷ xs) x h e = by (test y) (list_all test xs) h (λ k. all_push test xs x k e)
  where
    by : (b r : Bool) → (b && r) ≡ true → (r ≡ true → list_all test (xs ++ x ∷ []) ≡ true) → (b && list_all test (xs ++ x ∷ [])) ≡ true
    by true r h k = k h
    by false r h k = absurd cc

abbrev pub no_fault : Option PlanError
no_fault = None

pub none_push : {X : Type 0} (fault : X → Option PlanError) (xs : List X) (x : X) → first_of (map fault xs) ≡ no_fault → fault x ≡ no_fault → first_of (map fault (xs ++ x ∷ [])) ≡ no_fault
none_push fault [] x h e = ap (λ (o : Option PlanError). option_or o no_fault) e
none_push {X} fault (y ∷ xs) x h e = by (fault y) (first_of (map fault xs)) h (λ k. none_push fault xs x k e)
  where
    by : (o r : Option PlanError) → option_or o r ≡ no_fault → (r ≡ no_fault → first_of (map fault (xs ++ x ∷ [])) ≡ no_fault) → option_or o (first_of (map fault (xs ++ x ∷ []))) ≡ no_fault
    by None r h k = k h
    by (Some f) r h k = absurd cc
