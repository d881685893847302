-- Lines as equations, list by list.
use Rattle.std.proofs.Common.{◌≡◌, ℕ, zero, suc, ◌+◌, ◌<◌, ◌≤◌, List, [], ◌∷◌, ◌++◌, length, take, map, set, get_or, slice_get, Some, ap, sym, ◌∙◌, refl, subst, arith}
use Rattle.std.proofs.lemmas.List.{take_more}
use Rattle.lucy_simplex.specs.Tableaus.{Equation, equation, eliminated, exchanged}
use Rattle.lucy_simplex.specs.declared.lines.Line.{Line}
use Rattle.lucy_simplex.specs.Reading.{Reads, AreRead}

pub length_read : (qs : List Equation) (ls : List Line) → AreRead qs ls → length qs ≡ length ls
length_read [] [] h = refl
length_read [] (l ∷ ls) h = absurd h
length_read (q ∷ qs) [] h = absurd h
length_read (q ∷ qs) (l ∷ ls) h = ap suc (length_read qs ls h.1)

-- the equation of a line
pub record There (qs : List Equation) (i : ℕ) (l : Line) : Type 0 where
  pub q : Equation
  pub there : slice_get qs i ≡ Some q
  pub reads : Reads q l

pub there_in : (qs : List Equation) (ls : List Line) (i : ℕ) (l : Line) → AreRead qs ls → i < length ls → get_or ls i l ≡ l → There qs i l
there_in [] [] i l h below is = absurd (omega (arith, below))
there_in [] (m ∷ ls) i l h below is = absurd h
there_in (q ∷ qs) [] i l h below is = absurd h
there_in (q ∷ qs) (m ∷ ls) zero l h below is = record { q = q; there = refl; reads = subst (λ (x : Line). Reads q x) is h.0 }
there_in (q ∷ qs) (m ∷ ls) (suc i) l h below is = let r = there_in qs ls i l h.1 (omega (arith, below)) is in record { q = r.q; there = r.there; reads = r.reads }

pub push_read : (qs : List Equation) (ls : List Line) (q : Equation) (l : Line) → AreRead qs ls → Reads q l → AreRead (qs ++ q ∷ []) (ls ++ l ∷ [])
push_read [] [] q l h k = (k, tt)
push_read [] (m ∷ ls) q l h k = absurd h
push_read (p ∷ qs) [] q l h k = absurd h
push_read (p ∷ qs) (m ∷ ls) q l h k = (h.0, push_read qs ls q l h.1 k)

pub read_at : (qs : List Equation) (ls : List Line) (i : ℕ) (d : Equation) (l : Line) → AreRead qs ls → i < length ls → get_or ls i l ≡ l → Reads (get_or qs i d) l
read_at [] [] i d l h below is = absurd (omega (arith, below))
read_at [] (m ∷ ls) i d l h below is = absurd h
read_at (q ∷ qs) [] i d l h below is = absurd h
read_at (q ∷ qs) (m ∷ ls) zero d l h below is = subst (λ (x : Line). Reads q x) is h.0
read_at (q ∷ qs) (m ∷ ls) (suc i) d l h below is = read_at qs ls i d l h.1 (omega (arith, below)) is

get_or-there : (qs : List Equation) (i : ℕ) (q d : Equation) → slice_get qs i ≡ Some q → get_or qs i d ≡ q
get_or-there [] i q d h = absurd (cc)
get_or-there (p ∷ qs) zero q d h = cc
get_or-there (p ∷ qs) (suc i) q d h = get_or-there qs i q d h

pub read_there : (qs : List Equation) (ls : List Line) (i : ℕ) (q : Equation) (l : Line) → AreRead qs ls → slice_get qs i ≡ Some q → i < length ls → get_or ls i l ≡ l → Reads q l
read_there qs ls i q l h there below is = subst (λ (p : Equation). Reads p l) (get_or-there qs i q q there) (read_at qs ls i q l h below is)

length-mapped : (s : Equation) (e : ℕ) (qs : List Equation) → length (map (eliminated s e) qs) ≡ length qs
length-mapped s e [] = refl
length-mapped s e (q ∷ qs) = ap suc (length-mapped s e qs)

get_or-mapped : (s : Equation) (e : ℕ) (qs : List Equation) (i : ℕ) (d : Equation) → get_or (map (eliminated s e) qs) i (eliminated s e d) ≡ eliminated s e (get_or qs i d)
get_or-mapped s e [] i d = refl
get_or-mapped s e (q ∷ qs) zero d = refl
get_or-mapped s e (q ∷ qs) (suc i) d = get_or-mapped s e qs i d

pub push_swept : (s : Equation) (e : ℕ) (qs : List Equation) (ls all more : List Line) (line next : Line) (i : ℕ) → i < length ls → get_or ls i line ≡ line → AreRead qs ls → AreRead (take i (map (eliminated s e) qs)) all
    → ((q : Equation) → Reads q line → Reads (eliminated s e q) next) → more ≡ all ++ next ∷ [] → AreRead (take (i + 1) (map (eliminated s e) qs)) more
push_swept s e qs ls all more line next i below is h k step e_is =
    let d : Equation = equation 1 0 [] in
    let there : i < length (map (eliminated s e) qs) = subst (λ (n : ℕ). i < n) (sym (length_read qs ls h) ∙ sym (length-mapped s e qs)) below in
    rw (e_is, take_more (map (eliminated s e) qs) i (eliminated s e d) there, get_or-mapped s e qs i d)
    (push_read (take i (map (eliminated s e) qs)) all (eliminated s e (get_or qs i d)) next k (step (get_or qs i d) (read_at qs ls i d line h below is)))

take_whole : (ps : List Equation) (i : ℕ) → length ps ≤ i → take i ps ≡ ps
take_whole [] zero h = refl
take_whole [] (suc i) h = refl
take_whole (p ∷ ps) zero h = absurd (omega (arith, h))
take_whole (p ∷ ps) (suc i) h = ap (λ (xs : List Equation). p ∷ xs) (take_whole ps i (omega (arith, h)))

pub whole_swept : (s : Equation) (e : ℕ) (qs : List Equation) (ls all : List Line) (i : ℕ) → length ls ≤ i → AreRead qs ls → AreRead (take i (map (eliminated s e) qs)) all → AreRead (map (eliminated s e) qs) all
whole_swept s e qs ls all i big h k =
    let long : length (map (eliminated s e) qs) ≤ i = subst (λ (n : ℕ). n ≤ i) (sym (length_read qs ls h) ∙ sym (length-mapped s e qs)) big in
    subst (λ (ps : List Equation). AreRead ps all) (take_whole (map (eliminated s e) qs) i long) k

read-set : (qs : List Equation) (ls : List Line) (i : ℕ) (s : Equation) (l : Line) → AreRead qs ls → Reads s l → AreRead (set qs i s) (set ls i l)
read-set [] [] i s l h k = tt
read-set [] (m ∷ ls) i s l h k = absurd h
read-set (q ∷ qs) [] i s l h k = absurd h
read-set (q ∷ qs) (m ∷ ls) zero s l h k = (k, h.1)
read-set (q ∷ qs) (m ∷ ls) (suc i) s l h k = (h.0, read-set qs ls i s l h.1 k)

set-mapped : (s : Equation) (e place : ℕ) (qs : List Equation) → set (map (eliminated s e) qs) place s ≡ exchanged s e place qs
set-mapped s e place [] = refl
set-mapped s e zero (q ∷ qs) = refl
set-mapped s e (suc place) (q ∷ qs) = ap (λ (xs : List Equation). eliminated s e q ∷ xs) (set-mapped s e place qs)

pub read_exchanged : (s : Equation) (e place : ℕ) (qs : List Equation) (all : List Line) (by : Line) → AreRead (map (eliminated s e) qs) all → Reads s by → AreRead (exchanged s e place qs) (set all place by)
read_exchanged s e place qs all by h k = subst (λ (ps : List Equation). AreRead ps (set all place by)) (set-mapped s e place qs) (read-set (map (eliminated s e) qs) all place s by h k)

pub length_pushed : (all more : List Line) (l : Line) (i : ℕ) → more ≡ all ++ l ∷ [] → length all ≡ i → length more ≡ i + 1
length_pushed all more l i e h = ap length e ∙ pushed all i h
  where
    pushed : (xs : List Line) (n : ℕ) → length xs ≡ n → length (xs ++ l ∷ []) ≡ n + 1
    pushed [] n k = (omega (arith, k))
    pushed (x ∷ xs) n k = (let r = pushed xs (length xs) refl in omega (arith, r, k))
