-- Steps that add to a number that is read from a state.
use Rattle.std.proofs.Common.{◌≡◌, ℤ, pos, ◌+ℤ◌, List, [], ◌∷◌, Result, Ok, Err, refl, sym, ap, subst, ◌∙◌}
use Rattle.lucy_gather.specs.declared.error.ElabError.{ElabError}
use Rattle.lucy_gather.specs.Steps.{Outcome, Step, and_then, refuse, lifted, then_of, each, state_of}
use Rattle.lucy_meaning_laws.proofs.Integers.{add_nothing, before_sum}

abbrev pub gives : {A : Type 0} → A → Result A ElabError
gives a = Ok a

-- a value, and the state that is left
abbrev pub left_with : {S A : Type 0} → A → S → Outcome S A
left_with a s = Ok (a, s)

pub given_is : {A : Type 0} {x y : A} → gives x ≡ gives y → x ≡ y
given_is e = cc

-- what came of two steps came of each
pub step_by_step : {S A B : Type 0} (first : Outcome S A) (f : A → Step S B) (end : B × S) → and_then first f ≡ gives end
    → (a : A) × (s : S) × (first ≡ gives (a, s)) × (f a s ≡ gives end)
step_by_step (Ok p) f end e = (p.0, p.1, refl, e)
step_by_step (Err d) f end e = absurd cc

pub one_by_one : {A B : Type 0} (first : Result A ElabError) (f : A → Result B ElabError) (end : B) → then_of first f ≡ gives end
    → (a : A) × (first ≡ gives a) × (f a ≡ gives end)
one_by_one (Ok a) f end e = (a, refl, e)
one_by_one (Err d) f end e = absurd cc

pub state_given : {S A : Type 0} (outcome : Outcome S A) (s : S) → state_of outcome ≡ gives s → (a : A) × (outcome ≡ gives (a, s))
state_given (Ok p) s e = (p.0, ap (λ t. gives (p.0, t)) (given_is e))
state_given (Err d) s e = absurd cc

-- where a state is sound, the step leaves a sound one, and adds this much to what is measured
pub record Adds {S A : Type 0} (Sound : S → Type 0) (measure : S → ℤ) (step : Step S A) (more : ℤ) : Type 0 where
  pub adds : (s t : S) (a : A) → Sound s → step s ≡ gives (a, t) → Sound t × (measure t ≡ measure s +ℤ more)

pub adds_same : {S A : Type 0} {Sound : S → Type 0} {measure : S → ℤ} {step : Step S A} (x y : ℤ) → x ≡ y → Adds Sound measure step x → Adds Sound measure step y
adds_same {S} {A} {Sound} {measure} {step} x y e h = subst (Adds Sound measure step) e h

pub adds_both : {S A B : Type 0} {Sound : S → Type 0} {measure : S → ℤ} {step : Step S A} {after : A → Step S B} (x y : ℤ)
    → Adds Sound measure step x → ((a : A) → Adds Sound measure (after a) y) → Adds Sound measure (λ s. and_then (step s) after) (x +ℤ y)
adds_both {S} {A} {B} {Sound} {measure} {step} {after} x y h k = record {
  adds = λ s t b sound e.
      let (a, m, e1, e2) = step_by_step (step s) after (b, t) e in
      let one = h.adds s m a sound e1 in
      let two = (k a).adds m t b one.0 e2 in
      (two.0, two.1 ∙ ap (λ n. n +ℤ y) one.1 ∙ before_sum (measure s) x y);
}

pub adds_nothing : {S A : Type 0} {Sound : S → Type 0} {measure : S → ℤ} (a : A) → Adds Sound measure (λ s. gives (a, s)) (pos 0)
adds_nothing {S} {A} {Sound} {measure} a = record {
  adds = λ s t b sound e.
      let same : s ≡ t = ap (λ p. p.1) (given_is e) in
      (subst Sound same sound, ap measure (sym same) ∙ add_nothing (measure s));
}

pub adds_refused : {S A : Type 0} {Sound : S → Type 0} {measure : S → ℤ} (d : ElabError) (x : ℤ) → Adds Sound measure (refuse {S = S} {A = A} d) x
adds_refused d x = record { adds = λ s t a sound e. absurd cc }

-- what was looked up, and then a step
pub adds_found : {S A B : Type 0} {Sound : S → Type 0} {measure : S → ℤ} {after : A → Step S B} (found : Result A ElabError) (x : ℤ)
    → ((a : A) → found ≡ gives a → Adds Sound measure (after a) x) → Adds Sound measure (λ s. and_then (lifted found s) after) x
adds_found {S} {A} {B} {Sound} {measure} {after} (Ok a) x h = record { adds = λ s t b sound e. (h a refl).adds s t b sound e }
adds_found {S} {A} {B} {Sound} {measure} {after} (Err d) x h = record { adds = λ s t b sound e. absurd cc }

abbrev pub sum_of : {X : Type 0} → (X → ℤ) → List X → ℤ
sum_of f [] = pos 0
sum_of f (x ∷ xs) = f x +ℤ sum_of f xs

pub adds_each : {S X : Type 0} {Sound : S → Type 0} {measure : S → ℤ} (f : X → Step S (Unit {0})) (worth : X → ℤ) → ((x : X) → Adds Sound measure (f x) (worth x))
    → (xs : List X) → Adds Sound measure (each f xs) (sum_of worth xs)
adds_each f worth h [] = adds_nothing tt
adds_each f worth h (x ∷ xs) = adds_both (worth x) (sum_of worth xs) (h x) (λ u. adds_each f worth h xs)
