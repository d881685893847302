-- What a pivot keeps of a tableau.
use Rattle.std.proofs.Common.{◌≡◌, ◌≢◌, ◌⊎◌, inl, inr, ℕ, zero, suc, ◌*◌, ◌<◌, ℤ, pos, negsuc, neg_ℤ, ◌+ℤ◌, ◌*ℤ◌, ◌≤ℤ◌, ◌<ℤ◌, List, [], ◌∷◌, length, map, slice_get, Some, ap, sym, ◌∙◌, refl, subst, arith}
use Rattle.std.proofs.lemmas.Int.{ints}
use Rattle.std.proofs.Math.IntN.{*ℤ_comm, *ℤ-zero, pos-*ℤ-pos}
use Rattle.lucy_clauses.specs.Sums.{number_at}
use Rattle.lucy_simplex.specs.Tableaus.{Equation, combined, solved_by, solved, eliminated, exchanged, IsEquation, constant}
use Rattle.lucy_simplex.proofs.Statements.{PivotKeepsTableau, PivotKeepsFeasible}
use Rattle.lucy_simplex.proofs.Dots.{neg_times}
use Rattle.lucy_simplex.proofs.Pivots.{solved_below, solved_length}

pub number_at-combined : (d : ℕ) (f : ℤ) (xs ys : List ℤ) (i : ℕ) → length xs ≡ length ys → number_at (combined d f xs ys) i ≡ pos d *ℤ number_at xs i +ℤ f *ℤ number_at ys i
number_at-combined d f [] [] i h = omega (arith, ints, *ℤ-zero (pos d), *ℤ-zero f)
number_at-combined d f [] (y ∷ ys) i h = absurd (omega (arith, h))
number_at-combined d f (x ∷ xs) [] i h = absurd (omega (arith, h))
number_at-combined d f (x ∷ xs) (y ∷ ys) zero h = refl
number_at-combined d f (x ∷ xs) (y ∷ ys) (suc i) h = number_at-combined d f xs ys i (omega (arith, h))

pub length-combined : (d : ℕ) (f : ℤ) (xs ys : List ℤ) → length xs ≡ length ys → length (combined d f xs ys) ≡ length xs
length-combined d f [] ys h = refl
length-combined d f (x ∷ xs) [] h = absurd (omega (arith, h))
length-combined d f (x ∷ xs) (y ∷ ys) h = ap suc (length-combined d f xs ys (omega (arith, h)))

pub number_at-negative : (xs : List ℤ) (i : ℕ) → number_at (map neg_ℤ xs) i ≡ neg_ℤ (number_at xs i)
number_at-negative [] i = refl
number_at-negative (x ∷ xs) zero = refl
number_at-negative (x ∷ xs) (suc i) = number_at-negative xs i

-- where an equation has 0, the solved one has
solved_zero : (e i : ℕ) (f : ℤ) (ns : List ℤ) → number_at ns i ≡ pos 0 → number_at (solved_by e f ns).numbers i ≡ pos 0
solved_zero e i (pos n) ns h = omega (arith, ints, number_at-negative ns i, h)
solved_zero e i (negsuc n) ns h = h

solved_own : (e : ℕ) (f : ℤ) (ns : List ℤ) → number_at ns e ≡ f → number_at (solved_by e f ns).numbers e ≡ neg_ℤ (pos (solved_by e f ns).below)
solved_own e (pos n) ns h = number_at-negative ns e ∙ ap neg_ℤ h
solved_own e (negsuc n) ns h = h

pub solved_basic : (e : ℕ) (f : ℤ) (ns : List ℤ) → (solved_by e f ns).basic ≡ e
solved_basic e (pos n) ns = refl
solved_basic e (negsuc n) ns = refl

solved_is : (n e : ℕ) (q : Equation) → IsEquation n q → number_at q.numbers e ≢ pos 0 → 0 < e → e < n → IsEquation n (solved e q)
solved_is n e q is some above below =
    let f = number_at q.numbers e in
    let b : (solved e q).basic ≡ e = solved_basic e f q.numbers in
    record {
      length_is = solved_length e f q.numbers ∙ is.length_is;
      positive = solved_below e f q.numbers some;
      own = ap (number_at (solved e q).numbers) b ∙ solved_own e f q.numbers refl;
      basic_above = subst (λ (i : ℕ). 0 < i) (sym b) above;
      basic_below = subst (λ (i : ℕ). i < n) (sym b) below;
    }

-- what stands at a place of an exchanged tableau
pub record Others (s : Equation) (e : ℕ) (qs : List Equation) (i : ℕ) (r : Equation) : Type 0 where
  pub was : Equation
  pub there : slice_get qs i ≡ Some was
  pub is : r ≡ eliminated s e was

get-mapped : (s : Equation) (e i : ℕ) (r : Equation) (qs : List Equation) → slice_get (map (eliminated s e) qs) i ≡ Some r → Others s e qs i r
get-mapped s e i r [] h = absurd (cc)
get-mapped s e zero r (p ∷ qs) h = record { was = p; there = refl; is = cc }
get-mapped s e (suc i) r (p ∷ qs) h = let o = get-mapped s e i r qs h in record { was = o.was; there = o.there; is = o.is }

pub get-exchanged : (s : Equation) (e place i : ℕ) (r : Equation) (qs : List Equation) → slice_get (exchanged s e place qs) i ≡ Some r → ((i ≡ place) × (r ≡ s)) ⊎ ((i ≢ place) × Others s e qs i r)
get-exchanged s e place i r [] h = absurd (cc)
get-exchanged s e zero zero r (p ∷ qs) h = inl (refl, cc)
get-exchanged s e zero (suc i) r (p ∷ qs) h =
    let o = get-mapped s e i r qs h in
    inr (λ k. (omega (arith, k)), record { was = o.was; there = o.there; is = o.is })
get-exchanged s e (suc place) zero r (p ∷ qs) h = inr (λ k. (omega (arith, k)), record { was = p; there = refl; is = cc })
get-exchanged s e (suc place) (suc i) r (p ∷ qs) h = further (get-exchanged s e place i r qs h)
  where
    further : ((i ≡ place) × (r ≡ s)) ⊎ ((i ≢ place) × Others s e qs i r) → ((suc i ≡ suc place) × (r ≡ s)) ⊎ ((suc i ≢ suc place) × Others s e (p ∷ qs) (suc i) r)
    further (inl a) = inl (ap suc a.0, a.1)
    further (inr b) = inr (λ k. (b.0 (omega (arith, k))), record { was = b.1.was; there = b.1.there; is = b.1.is })

pub eliminated_at : (s : Equation) (e i : ℕ) (p : Equation) → length p.numbers ≡ length s.numbers → number_at (eliminated s e p).numbers i ≡ pos s.below *ℤ number_at p.numbers i +ℤ number_at p.numbers e *ℤ number_at s.numbers i
eliminated_at s e i p same = number_at-combined s.below (number_at p.numbers e) p.numbers s.numbers i same

-- the entering variable is gone from another equation
gone : (d : ℕ) (f x : ℤ) → x ≡ neg_ℤ (pos d) → pos d *ℤ f +ℤ f *ℤ x ≡ pos 0
gone d f x e = rw e (omega (arith, ints, *ℤ_comm f (neg_ℤ (pos d)), neg_times (pos d) f))

eliminated_is : (n e : ℕ) (s p : Equation) → IsEquation n s → IsEquation n p → number_at s.numbers p.basic ≡ pos 0 → IsEquation n (eliminated s e p)
eliminated_is n e s p hs hp zero_there =
    let same : length p.numbers ≡ length s.numbers = hp.length_is ∙ sym hs.length_is in
    let f = number_at p.numbers e in
    record {
      length_is = length-combined s.below f p.numbers s.numbers same ∙ hp.length_is;
      positive = some_product p.below s.below hp.positive hs.positive;
      own = eliminated_at s e p.basic p same ∙ own_of s.below p.below (number_at p.numbers p.basic) f (number_at s.numbers p.basic) hp.own zero_there;
      basic_above = hp.basic_above;
      basic_below = hp.basic_below;
    }
  where
    some_product : (a b : ℕ) → 0 < a → 0 < b → 0 < a * b
    some_product a b p q = grind arith

    own_of : (d b : ℕ) (x f y : ℤ) → x ≡ neg_ℤ (pos b) → y ≡ pos 0 → pos d *ℤ x +ℤ f *ℤ y ≡ neg_ℤ (pos (b * d))
    own_of d b x f y h k = rw (h, k) (omega (arith, ints, *ℤ-zero f, *ℤ_comm (pos d) (neg_ℤ (pos b)), neg_times (pos b) (pos d), pos-*ℤ-pos b d))

stays_none : (d f x y : ℤ) → x ≡ pos 0 → y ≡ pos 0 → d *ℤ x +ℤ f *ℤ y ≡ pos 0
stays_none d f x y h k = rw (h, k) (omega (arith, ints, *ℤ-zero d, *ℤ-zero f))

pub keeps_tableau : PivotKeepsTableau
keeps_tableau n place e q qs t is some above below = record {
  each = λ i r h. each_of i r (get-exchanged s e place i r qs h);
  apart = λ i j p r hp hr ne. apart_of i j p r ne (get-exchanged s e place i p qs hp) (get-exchanged s e place j r qs hr);
}
  where
    s : Equation
    s = solved e q

    hs : IsEquation n (solved e q)
    hs = solved_is n e q (t.each place q is) some above below

    -- the solved equation has 0 at the basic variable of another
    zero_at : (i : ℕ) (p : Equation) → slice_get qs i ≡ Some p → i ≢ place → number_at (solved e q).numbers p.basic ≡ pos 0
    zero_at i p there ne = solved_zero e p.basic (number_at q.numbers e) q.numbers (t.apart place i q p is there (λ k. ne (sym k)))

    each_of : (i : ℕ) (r : Equation) → ((i ≡ place) × (r ≡ solved e q)) ⊎ ((i ≢ place) × Others (solved e q) e qs i r) → IsEquation n r
    each_of i r (inl a) = subst (λ (x : Equation). IsEquation n x) (sym a.1) hs
    each_of i r (inr b) = subst (λ (x : Equation). IsEquation n x) (sym b.1.is) (eliminated_is n e (solved e q) b.1.was hs (t.each i b.1.was b.1.there) (zero_at i b.1.was b.1.there b.0))

    apart_of : (i j : ℕ) (p r : Equation) → i ≢ j → ((i ≡ place) × (p ≡ solved e q)) ⊎ ((i ≢ place) × Others (solved e q) e qs i p) → ((j ≡ place) × (r ≡ solved e q)) ⊎ ((j ≢ place) × Others (solved e q) e qs j r) → number_at p.numbers r.basic ≡ pos 0
    apart_of i j p r ne (inl a) (inl b) = absurd (ne (a.0 ∙ sym b.0))
    apart_of i j p r ne (inl a) (inr b) =
        ap (λ (x : Equation). number_at x.numbers r.basic) a.1 ∙ ap (λ (x : Equation). number_at (solved e q).numbers x.basic) b.1.is ∙ zero_at j b.1.was b.1.there b.0
    apart_of i j p r ne (inr a) (inl b) =
        ap (λ (x : Equation). number_at x.numbers r.basic) a.1.is ∙ ap (λ (x : Equation). number_at (eliminated (solved e q) e a.1.was).numbers x.basic) b.1
        ∙ ap (number_at (eliminated (solved e q) e a.1.was).numbers) (solved_basic e (number_at q.numbers e) q.numbers)
        ∙ eliminated_at (solved e q) e e a.1.was ((t.each i a.1.was a.1.there).length_is ∙ sym hs.length_is)
        ∙ gone (solved e q).below (number_at a.1.was.numbers e) (number_at (solved e q).numbers e) (solved_own e (number_at q.numbers e) q.numbers refl)
    apart_of i j p r ne (inr a) (inr b) =
        ap (λ (x : Equation). number_at x.numbers r.basic) a.1.is ∙ ap (λ (x : Equation). number_at (eliminated (solved e q) e a.1.was).numbers x.basic) b.1.is
        ∙ eliminated_at (solved e q) e b.1.was.basic a.1.was ((t.each i a.1.was a.1.there).length_is ∙ sym hs.length_is)
        ∙ stays_none (pos (solved e q).below) (number_at a.1.was.numbers e) (number_at a.1.was.numbers b.1.was.basic) (number_at (solved e q).numbers b.1.was.basic)
        (t.apart i j a.1.was b.1.was a.1.there b.1.there ne) (zero_at j b.1.was b.1.there b.0)

-- signs of products

pub not_negative_product : (a b : ℤ) → pos 0 ≤ℤ a → pos 0 ≤ℤ b → pos 0 ≤ℤ (a *ℤ b)
not_negative_product (pos m) (pos n) h k = omega (arith, ints, pos-*ℤ-pos m n)
not_negative_product (pos m) (negsuc n) h k = absurd (omega (arith, ints))
not_negative_product (negsuc m) b h k = absurd (omega (arith, ints))

-- the new constant of another equation, where its quotient is not less or its factor not below 0
new_constant : (d : ℕ) (f c cs fq : ℤ) → pos 0 ≤ℤ c → pos 0 ≤ℤ cs → neg_ℤ fq ≡ pos d → (f <ℤ pos 0 → (cs *ℤ neg_ℤ f) ≤ℤ (c *ℤ neg_ℤ fq)) → pos 0 ≤ℤ (pos d *ℤ c +ℤ f *ℤ cs)
new_constant d (pos n) c cs fq hc hs is least = omega (arith, ints, not_negative_product (pos d) c (omega (arith, ints)) hc, not_negative_product (pos n) cs (omega (arith, ints)) hs)
new_constant d (negsuc n) c cs fq hc hs is least =
    let k : (cs *ℤ neg_ℤ (negsuc n)) ≤ℤ (c *ℤ neg_ℤ fq) = least (omega (arith, ints)) in
    omega (arith, ints, k, ap (λ (x : ℤ). c *ℤ x) is, *ℤ_comm (pos d) c, *ℤ_comm cs (neg_ℤ (negsuc n)), neg_times (negsuc n) cs)

pub solved_constant : (e : ℕ) (f : ℤ) (ns : List ℤ) → f <ℤ pos 0 → (number_at (solved_by e f ns).numbers 0 ≡ number_at ns 0) × (neg_ℤ f ≡ pos (solved_by e f ns).below)
solved_constant e (pos n) ns h = absurd (omega (arith, ints))
solved_constant e (negsuc n) ns h = (refl, refl)

pub keeps_feasible : PivotKeepsFeasible
keeps_feasible n place e q qs t feasible is binds = record { each = λ i r h. each_of i r (get-exchanged (solved e q) e place i r qs h) }
  where
    sc : (number_at (solved e q).numbers 0 ≡ number_at q.numbers 0) × (neg_ℤ (number_at q.numbers e) ≡ pos (solved e q).below)
    sc = solved_constant e (number_at q.numbers e) q.numbers binds.falls

    hc : pos 0 ≤ℤ constant (solved e q)
    hc = subst (λ (x : ℤ). pos 0 ≤ℤ x) (sym sc.0) (feasible.each place q is)

    each_of : (i : ℕ) (r : Equation) → ((i ≡ place) × (r ≡ solved e q)) ⊎ ((i ≢ place) × Others (solved e q) e qs i r) → pos 0 ≤ℤ constant r
    each_of i r (inl a) = subst (λ (x : Equation). pos 0 ≤ℤ constant x) (sym a.1) hc
    each_of i r (inr b) =
        let p = b.1.was in
        let same : length p.numbers ≡ length (solved e q).numbers = (t.each i p b.1.there).length_is ∙ sym (solved_length e (number_at q.numbers e) q.numbers ∙ (t.each place q is).length_is) in
        subst (λ (x : Equation). pos 0 ≤ℤ constant x) (sym b.1.is)
        (subst (λ (x : ℤ). pos 0 ≤ℤ x) (sym (eliminated_at (solved e q) e 0 p same))
        (new_constant (solved e q).below (number_at p.numbers e) (constant p) (constant (solved e q)) (number_at q.numbers e) (feasible.each i p b.1.there) hc sc.1
        (λ below. subst (λ (x : ℤ). (x *ℤ neg_ℤ (number_at p.numbers e)) ≤ℤ (constant p *ℤ neg_ℤ (number_at q.numbers e))) (sym sc.0) (binds.least i p b.1.there below))))
