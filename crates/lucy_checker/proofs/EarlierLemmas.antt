-- The clauses of steps none of which drops clauses.
use Rattle.std.proofs.Common.{◌≡◌, ℕ, zero, suc, ◌+◌, ◌-◌, ◌<◌, nat_lt, nat_le, Bool, true, false, not, ◌&&◌, List, [], ◌∷◌, ◌++◌, length, map, slice_get, Option, Some, None, if◌then◌else◌, refl, sym, ◌∙◌, ap, subst, arith, append_assoc}
use Rattle.std.specs.List.{list_all}
use Rattle.std.specs.Option.{option_or}
use Rattle.std.proofs.lemmas.Bool.Decides.{nat_tests}
use Rattle.std.proofs.lemmas.List.{append-nil}
use Rattle.std.proofs.Math.Path.{fun_ext}
use Rattle.lucy_clauses.specs.declared.formulas.Clause.{Clause}
use Rattle.lucy_clauses.specs.declared.formulas.Formula.{Formula}
use Rattle.lucy_clauses.specs.Sums.{complement}
use Rattle.lucy_cert.specs.declared.steps.ProofStep.{ProofStep}
use Rattle.lucy_cert.specs.declared.steps.ProofStep.TheVariants.{Lemma, Rup, Drop}
use Rattle.lucy_cert.specs.declared.steps.Why.{Why}
use Rattle.lucy_cert.specs.declared.steps.Why.TheVariants.{Unknown}
use Rattle.lucy_cert.specs.Justified.{Known, nothing, clause_at, rup_fault, where_known, is_held, lemma_fault}
use Rattle.lucy_cert.specs.Justified as rule
use Rattle.lucy_cert.specs.Refuting.{known_after}
use Rattle.lucy_checker.specs.Lookup.{adds, no_drops, added_clause, clause_of_step, among_steps, are_of_steps, numbers_fault}
use Rattle.lucy_checker.proofs.ProgressLemmas.{get_front, get_behind, all_same}

clauses_of : List ProofStep → List Clause
clauses_of [] = []
clauses_of (Lemma clause lines ∷ ss) = clause ∷ clauses_of ss
clauses_of (Rup clause hints ∷ ss) = clause ∷ clauses_of ss
clauses_of (Drop numbers ∷ ss) = clauses_of ss

known_as : List Clause → List ℕ → Known
known_as cs d = record { added = cs; dropped = d }

known_of_steps : (k : Known) (steps : List ProofStep) → no_drops steps ≡ true → known_after k steps ≡ known_as (k.added ++ clauses_of steps) k.dropped
unfolding known_as clauses_of
known_of_steps k [] h = ap (λ (cs : List Clause). known_as cs k.dropped) (sym (append-nil k.added))
known_of_steps k (Lemma clause lines ∷ ss) h =
    known_of_steps (known_as (k.added ++ clause ∷ []) k.dropped) ss h ∙ ap (λ (cs : List Clause). known_as cs k.dropped) (append_assoc k.added (clause ∷ []) (clauses_of ss))
known_of_steps k (Rup clause hints ∷ ss) h =
    known_of_steps (known_as (k.added ++ clause ∷ []) k.dropped) ss h ∙ ap (λ (cs : List Clause). known_as cs k.dropped) (append_assoc k.added (clause ∷ []) (clauses_of ss))
known_of_steps k (Drop numbers ∷ ss) h = absurd (cc)

clause_of_place : (steps : List ProofStep) (j : ℕ) → no_drops steps ≡ true → slice_get (clauses_of steps) j ≡ clause_of_step (slice_get steps j)
unfolding clauses_of
clause_of_place [] j h = refl
clause_of_place (Lemma clause lines ∷ ss) zero h = refl
clause_of_place (Lemma clause lines ∷ ss) (suc j) h = clause_of_place ss j h
clause_of_place (Rup clause hints ∷ ss) zero h = refl
clause_of_place (Rup clause hints ∷ ss) (suc j) h = clause_of_place ss j h
clause_of_place (Drop numbers ∷ ss) j h = absurd (cc)

length_of_clauses : (steps : List ProofStep) → no_drops steps ≡ true → length (clauses_of steps) ≡ length steps
unfolding clauses_of
length_of_clauses [] h = refl
length_of_clauses (Lemma clause lines ∷ ss) h = ap suc (length_of_clauses ss h)
length_of_clauses (Rup clause hints ∷ ss) h = ap suc (length_of_clauses ss h)
length_of_clauses (Drop numbers ∷ ss) h = absurd (cc)

among_is : (clauses : List Clause) (steps : List ProofStep) → no_drops steps ≡ true → (n : ℕ) → among_steps clauses steps n ≡ slice_get (clauses ++ clauses_of steps) n
among_is clauses steps h n = by_test (nat_lt n (length clauses)) refl
  where
    by_test : (b : Bool) → nat_lt n (length clauses) ≡ b → (if b then slice_get clauses n else clause_of_step (slice_get steps (n - length clauses))) ≡ slice_get (clauses ++ clauses_of steps) n
    by_test true e = sym (get_front clauses (clauses_of steps) n (lt_is n (length clauses) e))
      where
        lt_is : (m n : ℕ) → nat_lt m n ≡ true → m < n
        lt_is m n h = grind (arith, nat_tests)
    by_test false e = sym (get_behind clauses (clauses_of steps) n (n - length clauses) (above n (length clauses) e) ∙ clause_of_place steps (n - length clauses) h)
      where
        above : (n m : ℕ) → nat_lt n m ≡ false → n ≡ m + (n - m)
        above n m h = grind (arith, nat_tests)

pub clause_behind : (f : Formula) (steps : List ProofStep) → no_drops steps ≡ true → among_steps f.clauses steps ≡ clause_at f.clauses (known_after nothing steps)
unfolding known_as
clause_behind f steps h = fun_ext (among_is f.clauses steps h) ∙ ap (λ (k : Known). clause_at f.clauses k) (sym (known_of_steps nothing steps h))

or_none : (w : Option Why) → option_or w None ≡ w
or_none None = refl
or_none (Some x) = refl

held_here : (count : ℕ) (k : Known) (more : ℕ) (numbers : List ℕ) → k.dropped ≡ [] → length k.added ≡ more → are_of_steps count more numbers ≡ list_all (is_held count k) numbers
held_here count k more numbers e l = all_same (λ n. nat_le count n && nat_lt n (count + more)) (is_held count k) here numbers
  where
    and_true : (b : Bool) → b ≡ (b && true)
    and_true true = refl
    and_true false = refl

    here : (n : ℕ) → (nat_le count n && nat_lt n (count + more)) ≡ is_held count k n
    here n = rw (e, l) (and_true (nat_le count n && nat_lt n (count + more)))

pub lemma_behind : (f : Formula) (k : Known) (clause : Clause) (lines : _) → where_known (length f.ranges) clause (lemma_fault f.ranges clause.atoms lines) ≡ rule.step_fault f None k (Lemma clause lines)
lemma_behind f k clause lines = sym (or_none (where_known (length f.ranges) clause (lemma_fault f.ranges clause.atoms lines)))

pub rup_behind : (f : Formula) (steps : List ProofStep) (clause : Clause) (hints : List ℕ) → no_drops steps ≡ true → where_known (length f.ranges) clause (rup_fault (among_steps f.clauses steps) (map complement clause.atoms) hints) ≡ rule.step_fault f None (known_after nothing steps) (Rup clause hints)
rup_behind f steps clause hints h =
    ap (λ (at : ℕ → Option Clause). where_known (length f.ranges) clause (rup_fault at (map complement clause.atoms) hints)) (clause_behind f steps h)
    ∙ sym (or_none (where_known (length f.ranges) clause (rup_fault (clause_at f.clauses (known_after nothing steps)) (map complement clause.atoms) hints)))

pub drop_behind : (f : Formula) (steps : List ProofStep) (numbers : List ℕ) → no_drops steps ≡ true → numbers_fault (length f.clauses) (length steps) numbers ≡ rule.step_fault f None (known_after nothing steps) (Drop numbers)
unfolding known_as
drop_behind f steps numbers h =
    let is = known_of_steps nothing steps h in
    let none : (known_after nothing steps).dropped ≡ [] = ap (λ (k : Known). k.dropped) is in
    let all : length (known_after nothing steps).added ≡ length steps = ap (λ (k : Known). length k.added) is ∙ length_of_clauses steps h in
    ap (λ (b : Bool). if b then None else Some Unknown) (held_here (length f.clauses) (known_after nothing steps) (length steps) numbers none all)
    ∙ sym (or_none (if list_all (is_held (length f.clauses) (known_after nothing steps)) numbers then None else Some Unknown))
