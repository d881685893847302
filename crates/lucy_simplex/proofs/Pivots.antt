-- A pivot keeps the solutions.
use Rattle.std.proofs.Common.{◌≡◌, ◌≢◌, ℕ, zero, suc, ◌<◌, ℤ, pos, negsuc, neg_ℤ, ◌*ℤ◌, List, [], ◌∷◌, length, map, slice_get, Some, ap, sym, ◌∙◌, refl, subst, arith}
use Rattle.std.proofs.lemmas.Int.{ints}
use Rattle.std.proofs.Math.IntN.{*ℤ-zero}
use Rattle.lucy_clauses.specs.Sums.{number_at}
use Rattle.lucy_simplex.specs.Systems.{dot}
use Rattle.lucy_simplex.specs.Tableaus.{Equation, IsSolution, HaveLength, solved_by, solved, eliminated, exchanged}
use Rattle.lucy_simplex.specs.Laws.{PivotKeepsSolutions}
use Rattle.lucy_simplex.proofs.Dots.{dot-combined, dot-negative, no_factor}

-- an equation holds in the values
Holds : List ℤ → Equation → Type 0
Holds v q = dot q.numbers v ≡ pos 0

solved_holds : (e : ℕ) (f : ℤ) (ns v : List ℤ) → (dot ns v ≡ pos 0 → dot (solved_by e f ns).numbers v ≡ pos 0) × (dot (solved_by e f ns).numbers v ≡ pos 0 → dot ns v ≡ pos 0)
solved_holds e (pos n) ns v = (λ h. omega (arith, ints, h, dot-negative ns v), λ h. omega (arith, ints, h, dot-negative ns v))
solved_holds e (negsuc n) ns v = (λ h. h, λ h. h)

pub solved_below : (e : ℕ) (f : ℤ) (ns : List ℤ) → f ≢ pos 0 → 0 < (solved_by e f ns).below
solved_below e (pos n) ns h = positive n h
  where
    positive : (k : ℕ) → pos k ≢ pos 0 → 0 < k
    positive zero p = absurd (p refl)
    positive (suc k) p = omega arith
solved_below e (negsuc n) ns h = omega arith

pub solved_length : (e : ℕ) (f : ℤ) (ns : List ℤ) → length (solved_by e f ns).numbers ≡ length ns
solved_length e (pos n) ns = mapped ns
  where
    mapped : (xs : List ℤ) → length (map neg_ℤ xs) ≡ length xs
    mapped [] = refl
    mapped (x ∷ xs) = ap suc (mapped xs)
solved_length e (negsuc n) ns = refl

eliminated_holds : (s : Equation) (e : ℕ) (q : Equation) (v : List ℤ) → length q.numbers ≡ length s.numbers → dot s.numbers v ≡ pos 0 → dot q.numbers v ≡ pos 0 → dot (eliminated s e q).numbers v ≡ pos 0
eliminated_holds s e q v same hs hq =
    let f = number_at q.numbers e in
    dot-combined s.below f q.numbers s.numbers v same ∙ rw (hs, hq) (omega (arith, ints, *ℤ-zero (pos s.below), *ℤ-zero f))

eliminated_back : (s : Equation) (e : ℕ) (q : Equation) (v : List ℤ) → 0 < s.below → length q.numbers ≡ length s.numbers → dot s.numbers v ≡ pos 0 → dot (eliminated s e q).numbers v ≡ pos 0 → dot q.numbers v ≡ pos 0
eliminated_back s e q v some same hs h =
    let f = number_at q.numbers e in
    let none : f *ℤ dot s.numbers v ≡ pos 0 = ap (λ (x : ℤ). f *ℤ x) hs ∙ *ℤ-zero f in
    no_factor s.below (dot q.numbers v) some (omega (arith, ints, h, none, dot-combined s.below f q.numbers s.numbers v same))

all_hold : (s : Equation) (e n : ℕ) (qs : List Equation) (v : List ℤ) → HaveLength n qs → length s.numbers ≡ n → dot s.numbers v ≡ pos 0 → IsSolution v qs → IsSolution v (map (eliminated s e) qs)
all_hold s e n [] v h k hs all = tt
all_hold s e n (q ∷ qs) v h k hs all = (eliminated_holds s e q v (h.0 ∙ sym k) hs all.0, all_hold s e n qs v h.1 k hs all.1)

all_back : (s : Equation) (e n : ℕ) (qs : List Equation) (v : List ℤ) → 0 < s.below → HaveLength n qs → length s.numbers ≡ n → dot s.numbers v ≡ pos 0 → IsSolution v (map (eliminated s e) qs) → IsSolution v qs
all_back s e n [] v some h k hs all = tt
all_back s e n (q ∷ qs) v some h k hs all = (eliminated_back s e q v some (h.0 ∙ sym k) hs all.0, all_back s e n qs v some h.1 k hs all.1)

-- the equation at a place is among them
pub holds_at : (place : ℕ) (q : Equation) (qs : List Equation) (v : List ℤ) → slice_get qs place ≡ Some q → IsSolution v qs → dot q.numbers v ≡ pos 0
holds_at place q [] v is all = absurd (cc)
holds_at zero q (p ∷ qs) v is all =
    let same : p ≡ q = cc in
    subst (λ (r : Equation). dot r.numbers v ≡ pos 0) same all.0
holds_at (suc place) q (p ∷ qs) v is all = holds_at place q qs v is all.1

pub length_at : (n place : ℕ) (q : Equation) (qs : List Equation) → slice_get qs place ≡ Some q → HaveLength n qs → length q.numbers ≡ n
length_at n place q [] is all = absurd (cc)
length_at n zero q (p ∷ qs) is all =
    let same : p ≡ q = cc in
    subst (λ (r : Equation). length r.numbers ≡ n) same all.0
length_at n (suc place) q (p ∷ qs) is all = length_at n place q qs is all.1

pub exchanged_holds : (s : Equation) (e n place : ℕ) (qs : List Equation) (v : List ℤ) → HaveLength n qs → length s.numbers ≡ n → dot s.numbers v ≡ pos 0 → IsSolution v qs → IsSolution v (exchanged s e place qs)
exchanged_holds s e n place [] v h k hs all = tt
exchanged_holds s e n zero (q ∷ qs) v h k hs all = (hs, all_hold s e n qs v h.1 k hs all.1)
exchanged_holds s e n (suc place) (q ∷ qs) v h k hs all = (eliminated_holds s e q v (h.0 ∙ sym k) hs all.0, exchanged_holds s e n place qs v h.1 k hs all.1)

-- the solved equation stands at its place
solved_there : (s q : Equation) (e place : ℕ) (qs : List Equation) (v : List ℤ) → slice_get qs place ≡ Some q → IsSolution v (exchanged s e place qs) → dot s.numbers v ≡ pos 0
solved_there s q e place [] v is all = absurd (cc)
solved_there s q e zero (p ∷ qs) v is all = all.0
solved_there s q e (suc place) (p ∷ qs) v is all = solved_there s q e place qs v is all.1

exchanged_back : (s q : Equation) (e n place : ℕ) (qs : List Equation) (v : List ℤ) → slice_get qs place ≡ Some q → 0 < s.below → HaveLength n qs → length s.numbers ≡ n → dot s.numbers v ≡ pos 0 → dot q.numbers v ≡ pos 0 → IsSolution v (exchanged s e place qs) → IsSolution v qs
exchanged_back s q e n place [] v is some h k hs hq all = absurd (cc)
exchanged_back s q e n zero (p ∷ qs) v is some h k hs hq all =
    let same : q ≡ p = cc in
    (subst (λ (r : Equation). dot r.numbers v ≡ pos 0) same hq, all_back s e n qs v some h.1 k hs all.1)
exchanged_back s q e n (suc place) (p ∷ qs) v is some h k hs hq all =
    (eliminated_back s e p v some (h.0 ∙ sym k) hs all.0, exchanged_back s q e n place qs v is some h.1 k hs hq all.1)

pub pivot_keeps : PivotKeepsSolutions
pivot_keeps n place e q qs v is some h =
    let f = number_at q.numbers e in
    let s = solved e q in
    let k : length s.numbers ≡ n = solved_length e f q.numbers ∙ length_at n place q qs is h in
    let both = solved_holds e f q.numbers v in (
      λ all. exchanged_holds s e n place qs v h k (both.0 (holds_at place q qs v is all)) all,
      λ all. (let hs = solved_there s q e place qs v is all in exchanged_back s q e n place qs v is (solved_below e f q.numbers some) h k hs (both.1 hs) all),
    )
