-- A proof checked a step at a time has the first fault of the whole proof.
use Rattle.std.proofs.Common.{◌≡◌, ℕ, zero, suc, ◌+◌, ◌-◌, ◌<◌, ◌≤◌, ◌==◌, nat_lt, nat_le, Bool, true, false, not, ◌&&◌, ◌||◌, ◌↔◌, drop, List, [], ◌∷◌, ◌++◌, length, map, fold, slice_get, Option, Some, None, if◌then◌else◌, refl, sym, ◌∙◌, ap, subst, arith, length-append, append_assoc}
use Rattle.std.specs.List.{list_all, list_any}
use Rattle.std.specs.Option.{option_or}
use Rattle.std.proofs.lemmas.Bool.Decides.{nat_tests}
use Rattle.std.proofs.lemmas.List.Folds.{list_any-append}
use Rattle.std.proofs.lemmas.List.{append-nil}
use Rattle.std.proofs.Math.Path.{fun_ext}
use Rattle.lucy_clauses.specs.declared.formulas.Clause.{Clause}
use Rattle.lucy_clauses.specs.declared.formulas.Formula.{Formula}
use Rattle.lucy_clauses.specs.Sums.{complement}
use Rattle.lucy_clauses.proofs.Mapping.{two_tests}
use Rattle.lucy_cert.specs.declared.steps.ProofStep.{ProofStep}
use Rattle.lucy_cert.specs.declared.steps.ProofStep.TheVariants.{Lemma, Rup, Drop}
use Rattle.lucy_cert.specs.declared.steps.Why.{Why}
use Rattle.lucy_cert.specs.declared.steps.Why.TheVariants.{Unknown}
use Rattle.lucy_cert.specs.Numbers.{contains}
use Rattle.lucy_cert.specs.Justified.{Known, nothing, with_clause, without, after, clause_at, rup_fault, where_known, is_held, live_clauses, live_fault}
use Rattle.lucy_cert.specs.Justified as rule
use Rattle.lucy_cert.specs.Refuting.{is_empty, has_empty, fault_or, ending_fault, first_fault}
use Rattle.lucy_checker.specs.declared.progress.Fault.{Fault}
use Rattle.lucy_checker.specs.declared.progress.Progress.{Progress}
use Rattle.lucy_checker.specs.Held.{Kept, named, kept_with, kept_without}
use Rattle.lucy_checker.specs.Checking.{clause_in, all_kept, drop_fault, rule_fault, added_after, dropped_after, live_after, step_fault, kept_after, adds_empty, advanced, failed, by_fault, unless_failed, progressed, begun, end_fault, fault_at_end, progress_of, Says}
use Rattle.lucy_cert.specs.declared.steps.Proof.{Proof}
use Rattle.lucy_cert.specs.Refuting.{Refutes, fault_of}
use Rattle.lucy_cert.proofs.RefutingLemmas.{refutes_exactly}
use Rattle.lucy_checker.specs.declared.checker.Checker.{Checker}
use Rattle.lucy_checker.specs.declared.verdict.Verdict.{Verdict}
use Rattle.lucy_checker.specs.declared.verdict.Verdict.TheVariants.{Refuted, Rejected}
use Rattle.lucy_checker.specs.Checkers.{checker_of, checked, checker_fault, CheckersAreExact}
use Rattle.lucy_checker.proofs.KnownLemmas.{numbers_left, clauses_left, kept_of, named_left, contains_left, left-push, kept_without_all}

-- ---- numbers that were dropped are numbers of clauses of steps

abbrev pub AreOfSteps : ℕ → ℕ → List ℕ → Type 0
AreOfSteps count more [] = Unit {0}
AreOfSteps count more (n ∷ ns) = (count ≤ n) × (n < count + more) × AreOfSteps count more ns

of_steps_more : (count more most : ℕ) (ns : List ℕ) → more ≤ most → AreOfSteps count more ns → AreOfSteps count most ns
of_steps_more count more most [] le h = tt
of_steps_more count more most (n ∷ ns) le h = (h.0, above h.1, of_steps_more count more most ns le h.2)
  where
    above : n < count + more → n < count + most
    above h = omega arith

of_steps_both : (count more : ℕ) (ms ns : List ℕ) → AreOfSteps count more ms → AreOfSteps count more ns → AreOfSteps count more (ms ++ ns)
of_steps_both count more [] ns h k = k
of_steps_both count more (m ∷ ms) ns h k = (h.0, h.1, of_steps_both count more ms ns h.2 k)

of_steps_held : (count : ℕ) (k : Known) (ns : List ℕ) → list_all (is_held count k) ns ≡ true → AreOfSteps count (length k.added) ns
of_steps_held count k [] h = tt
of_steps_held count k (n ∷ ns) h =
    let t = two_tests (is_held count k n) (list_all (is_held count k) ns) h in
    let u = two_tests (nat_le count n && nat_lt n (count + length k.added)) (not (contains n k.dropped)) t.0 in
    let v = two_tests (nat_le count n) (nat_lt n (count + length k.added)) u.0 in
    (le_is count n v.0, lt_is n (count + length k.added) v.1, of_steps_held count k ns t.1)
  where
    le_is : (m n : ℕ) → nat_le m n ≡ true → m ≤ n
    le_is m n h = grind (arith, nat_tests)

    lt_is : (m n : ℕ) → nat_lt m n ≡ true → m < n
    lt_is m n h = grind (arith, nat_tests)

not_below : (count more n : ℕ) (ns : List ℕ) → AreOfSteps count more ns → n < count → contains n ns ≡ false
not_below count more n [] h less = refl
not_below count more n (m ∷ ms) h less = ap (λ (b : Bool). b || contains n ms) (differs n m less h.0) ∙ not_below count more n ms h.2 less
  where
    differs : (n m : ℕ) → n < count → count ≤ m → (n == m) ≡ false
    differs n m p q = grind (arith, nat_tests)

not_next : (count more n : ℕ) (ns : List ℕ) → AreOfSteps count more ns → n ≡ count + more → contains n ns ≡ false
not_next count more n [] h e = refl
not_next count more n (m ∷ ms) h e = ap (λ (b : Bool). b || contains n ms) (differs n m (count + more) e h.1) ∙ not_next count more n ms h.2 e
  where
    differs : (n m k : ℕ) → n ≡ k → m < k → (n == m) ≡ false
    differs n m k p q = grind (arith, nat_tests)

-- ---- clauses by their numbers

pub get_front : {A : Type 0} (xs ys : List A) (n : ℕ) → n < length xs → slice_get (xs ++ ys) n ≡ slice_get xs n
get_front [] ys n h = absurd (omega arith)
get_front (x ∷ xs) ys zero h = refl
get_front (x ∷ xs) ys (suc n) h = get_front xs ys n (omega arith)

pub get_behind : {A : Type 0} (xs ys : List A) (n j : ℕ) → n ≡ length xs + j → slice_get (xs ++ ys) n ≡ slice_get ys j
get_behind [] ys n j e =
    let same : n ≡ j = omega arith in
    ap (slice_get ys) same
get_behind (x ∷ xs) ys zero j e = absurd (omega arith)
get_behind (x ∷ xs) ys (suc n) j e = get_behind xs ys n j (omega arith)

clause_there : (f : Formula) (k : Known) → AreOfSteps (length f.clauses) (length k.added) k.dropped → (n : ℕ) → clause_in f.clauses (kept_of (length f.clauses) k) n ≡ clause_at f.clauses k n
clause_there f k h n = by_test (nat_lt n (length f.clauses)) refl
  where
    by_test : (b : Bool) → nat_lt n (length f.clauses) ≡ b → (if b then slice_get f.clauses n else named (numbers_left (length f.clauses) k.dropped k.added) (clauses_left (length f.clauses) k.dropped k.added) n) ≡ (if contains n k.dropped then None else slice_get (f.clauses ++ k.added) n)
    by_test true e =
        let less = lt_is n (length f.clauses) e in
        sym (get_front f.clauses k.added n less) ∙ sym (ap (λ (b : Bool). if b then None else slice_get (f.clauses ++ k.added) n) (not_below (length f.clauses) (length k.added) n k.dropped h less))
      where
        lt_is : (m n : ℕ) → nat_lt m n ≡ true → m < n
        lt_is m n h = grind (arith, nat_tests)
    by_test false e =
        let j = n - length f.clauses in
        let is = above n (length f.clauses) e in
        named_left (length f.clauses) k.dropped k.added n j is ∙ ap (λ (o : Option Clause). if contains n k.dropped then None else o) (sym (get_behind f.clauses k.added n j is))
      where
        above : (n m : ℕ) → nat_lt n m ≡ false → n ≡ m + (n - m)
        above n m h = grind (arith, nat_tests)

-- ---- one step

pub all_same : {A : Type 0} (p q : A → Bool) → ((x : A) → p x ≡ q x) → (xs : List A) → list_all p xs ≡ list_all q xs
all_same p q h [] = refl
all_same p q h (x ∷ xs) = ap (λ (b : Bool). b && list_all p xs) (h x) ∙ ap (λ (b : Bool). q x && b) (all_same p q h xs)

rule_there : (f : Formula) (k : Known) (s : ProofStep) → AreOfSteps (length f.clauses) (length k.added) k.dropped → rule_fault f (kept_of (length f.clauses) k) s ≡ rule.rule_fault f k s
rule_there f k (Lemma clause lines) h = refl
rule_there f k (Rup clause hints) h =
    ap (λ (at : ℕ → Option Clause). where_known (length f.ranges) clause (rup_fault at (map complement clause.atoms) hints)) (fun_ext (clause_there f k h))
rule_there f k (Drop numbers) h =
    ap (λ (b : Bool). if b then None else Some Unknown) (all_same (λ n. contains n (numbers_left (length f.clauses) k.dropped k.added)) (is_held (length f.clauses) k) (contains_left (length f.clauses) k.dropped k.added) numbers)

added_there : (k : Known) (s : ProofStep) → added_after (length k.added) s ≡ length (after k s).added
added_there k (Lemma clause lines) = sym (length-append k.added (clause ∷ []))
added_there k (Rup clause hints) = sym (length-append k.added (clause ∷ []))
added_there k (Drop numbers) = refl

dropped_there : (k : Known) (s : ProofStep) → dropped_after (length k.dropped) s ≡ length (after k s).dropped
dropped_there k (Lemma clause lines) = refl
dropped_there k (Rup clause hints) = refl
dropped_there k (Drop numbers) = sym (length-append k.dropped numbers)

kept_as : ℕ → List ℕ → List Clause → Kept
kept_as next ms cs = record { next = next; numbers = ms; clauses = cs }

kept_one_more : (count : ℕ) (k : Known) (c : Clause) → AreOfSteps count (length k.added) k.dropped → kept_with (kept_of count k) c ≡ kept_of count (with_clause k c)
unfolding kept_as
kept_one_more count k c h =
    let left = left-push count k.dropped k.added c (count + length k.added) refl (not_next count (length k.added) (count + length k.added) k.dropped h refl) in
    let next : count + length k.added + 1 ≡ count + length (k.added ++ c ∷ []) = group count (length k.added) ∙ ap (λ (n : ℕ). count + n) (sym (length-append k.added (c ∷ []))) in
    ap (λ (n : ℕ). kept_as n (numbers_left count k.dropped k.added ++ (count + length k.added) ∷ []) (clauses_left count k.dropped k.added ++ c ∷ [])) next
    ∙ ap (λ (ms : List ℕ). kept_as (count + length (k.added ++ c ∷ [])) ms (clauses_left count k.dropped k.added ++ c ∷ [])) (sym left.0)
    ∙ ap (λ (cs : List Clause). kept_as (count + length (k.added ++ c ∷ [])) (numbers_left count k.dropped (k.added ++ c ∷ [])) cs) (sym left.1)
  where
    group : (a b : ℕ) → a + b + 1 ≡ a + (b + 1)
    group a b = omega arith

kept_there : (f : Formula) (k : Known) (s : ProofStep) → AreOfSteps (length f.clauses) (length k.added) k.dropped → kept_after (kept_of (length f.clauses) k) s ≡ kept_of (length f.clauses) (after k s)
kept_there f k (Lemma clause lines) h = kept_one_more (length f.clauses) k clause h
kept_there f k (Rup clause hints) h = kept_one_more (length f.clauses) k clause h
kept_there f k (Drop numbers) h = kept_without_all (length f.clauses) k numbers

or_false : (b : Bool) → (b || false) ≡ b
or_false true = refl
or_false false = refl

empty_one_more : (f : Formula) (k : Known) (c : Clause) → (has_empty f k || is_empty c) ≡ has_empty f (with_clause k c)
empty_one_more f k c =
    ap (λ (b : Bool). has_empty f k || b) (sym (or_false (is_empty c)))
    ∙ sym (list_any-append is_empty (f.clauses ++ k.added) (c ∷ []))
    ∙ ap (list_any is_empty) (append_assoc f.clauses k.added (c ∷ []))

empty_there : (f : Formula) (k : Known) (s : ProofStep) → (has_empty f k || adds_empty s) ≡ has_empty f (after k s)
empty_there f k (Lemma clause lines) = empty_one_more f k clause
empty_there f k (Rup clause hints) = empty_one_more f k clause
empty_there f k (Drop numbers) = or_false (has_empty f k)

progress_at : ℕ → ℕ → ℕ → Kept → Bool → Option ℕ → Progress
progress_at steps added dropped held empty live = record {
  most = live;
  steps = steps;
  added = added;
  dropped = dropped;
  held = held;
  empty = empty;
  fault = None;
}

-- what justified steps have come to
standing : Formula → Option ℕ → ℕ → Known → Progress
standing f live at k = progress_at at (length k.added) (length k.dropped) (kept_of (length f.clauses) k) (has_empty f k) live

step_there : (f : Formula) (live : Option ℕ) (at : ℕ) (k : Known) (s : ProofStep) → AreOfSteps (length f.clauses) (length k.added) k.dropped → step_fault f (standing f live at k) s ≡ rule.step_fault f live k s
unfolding standing progress_at
step_there f live at k s h =
    ap (λ (w : Option Why). option_or w (live_fault live (added_after (length k.added) s - dropped_after (length k.dropped) s))) (rule_there f k s h)
    ∙ ap (λ (n : ℕ). option_or (rule.rule_fault f k s) (live_fault live (n - dropped_after (length k.dropped) s))) (added_there k s)
    ∙ ap (λ (n : ℕ). option_or (rule.rule_fault f k s) (live_fault live (length (after k s).added - n))) (dropped_there k s)

advanced_there : (f : Formula) (live : Option ℕ) (at : ℕ) (k : Known) (s : ProofStep) → AreOfSteps (length f.clauses) (length k.added) k.dropped → advanced (standing f live at k) s ≡ standing f live (at + 1) (after k s)
unfolding standing progress_at
advanced_there f live at k s h =
    ap (λ (n : ℕ). progress_at (at + 1) n (dropped_after (length k.dropped) s) (kept_after (kept_of (length f.clauses) k) s) (has_empty f k || adds_empty s) live) (added_there k s)
    ∙ ap (λ (n : ℕ). progress_at (at + 1) (length (after k s).added) n (kept_after (kept_of (length f.clauses) k) s) (has_empty f k || adds_empty s) live) (dropped_there k s)
    ∙ ap (λ (q : Kept). progress_at (at + 1) (length (after k s).added) (length (after k s).dropped) q (has_empty f k || adds_empty s) live) (kept_there f k s h)
    ∙ ap (λ (b : Bool). progress_at (at + 1) (length (after k s).added) (length (after k s).dropped) (kept_of (length f.clauses) (after k s)) b live) (empty_there f k s)

if_held : (b : Bool) → (if b then None else Some Unknown) ≡ None → b ≡ true
if_held true h = refl
if_held false h = absurd (cc)

no_rule : (x y : Option Why) → option_or x y ≡ None → x ≡ None
no_rule None y h = refl
no_rule (Some w) y h = absurd (cc)

of_steps_after : (f : Formula) (live : Option ℕ) (k : Known) (s : ProofStep) → AreOfSteps (length f.clauses) (length k.added) k.dropped → rule.step_fault f live k s ≡ None → AreOfSteps (length f.clauses) (length (after k s).added) (after k s).dropped
of_steps_after f live k (Lemma clause lines) h e = of_steps_more (length f.clauses) (length k.added) (length (k.added ++ clause ∷ [])) k.dropped (one_more k.added clause) h
  where
    one_more : (cs : List Clause) (c : Clause) → length cs ≤ length (cs ++ c ∷ [])
    one_more cs c = omega (arith, length-append cs (c ∷ []))
of_steps_after f live k (Rup clause hints) h e = of_steps_more (length f.clauses) (length k.added) (length (k.added ++ clause ∷ [])) k.dropped (one_more k.added clause) h
  where
    one_more : (cs : List Clause) (c : Clause) → length cs ≤ length (cs ++ c ∷ [])
    one_more cs c = omega (arith, length-append cs (c ∷ []))
of_steps_after f live k (Drop numbers) h e =
    of_steps_both (length f.clauses) (length k.added) k.dropped numbers h
    (of_steps_held (length f.clauses) k numbers (if_held (list_all (is_held (length f.clauses) k) numbers) (no_rule (rule.rule_fault f k (Drop numbers)) (live_fault live (live_clauses (after k (Drop numbers)))) e)))

-- ---- all steps

failed_stays : (f : Formula) (p : Progress) (x : Fault) (steps : List ProofStep) → p.fault ≡ Some x → fold (progressed f) p steps ≡ p
unfolding progressed
failed_stays f p x [] h = refl
failed_stays f p x (s ∷ ss) h =
    let same : progressed f p s ≡ p = ap (λ (o : Option Fault). unless_failed o p (by_fault p s (step_fault f p s))) h in
    ap (λ (q : Progress). fold (progressed f) q ss) same ∙ failed_stays f p x ss h

end_there : (at : ℕ) (b : Bool) → end_fault at b None ≡ ending_fault at b
end_there at true = refl
end_there at false = refl

fault_there : (f : Formula) (live : Option ℕ) (at : ℕ) (k : Known) (steps : List ProofStep) → AreOfSteps (length f.clauses) (length k.added) k.dropped → fault_at_end (fold (progressed f) (standing f live at k) steps) ≡ first_fault f live at k steps
unfolding progressed standing progress_at
fault_there f live at k [] h = end_there at (has_empty f k)
fault_there f live at k (s ∷ ss) h =
    ap (λ (w : Option Why). fault_at_end (fold (progressed f) (by_fault (standing f live at k) s w) ss)) (step_there f live at k s h)
    ∙ by_step (fault_there f live (at + 1) (after k s) ss) (rule.step_fault f live k s) refl
  where
    by_step : (AreOfSteps (length f.clauses) (length (after k s).added) (after k s).dropped → fault_at_end (fold (progressed f) (standing f live (at + 1) (after k s)) ss) ≡ first_fault f live (at + 1) (after k s) ss) → (w : Option Why) → rule.step_fault f live k s ≡ w → fault_at_end (fold (progressed f) (by_fault (standing f live at k) s w) ss) ≡ fault_or at w (first_fault f live (at + 1) (after k s) ss)
    by_step next None e =
        ap (λ (p : Progress). fault_at_end (fold (progressed f) p ss)) (advanced_there f live at k s h)
        ∙ next (of_steps_after f live k s h e)
    by_step next (Some why) e = ap fault_at_end (failed_stays f (failed (standing f live at k) why) (record { step = at; why = why }) ss refl)

begun_there : (f : Formula) (live : Option ℕ) → begun f live ≡ standing f live 0 nothing
unfolding standing progress_at kept_as
begun_there f live =
    ap (λ (n : ℕ). progress_at 0 0 0 (kept_as n [] []) (list_any is_empty f.clauses) live) (none_more (length f.clauses))
    ∙ ap (λ (cs : List Clause). progress_at 0 0 0 (kept_as (length f.clauses + 0) [] []) (list_any is_empty cs) live) (sym (append-nil f.clauses))
  where
    none_more : (n : ℕ) → n ≡ n + 0
    none_more n = omega arith

pub fault_of_progress : (f : Formula) (live : Option ℕ) (steps : List ProofStep) → fault_at_end (progress_of f live steps) ≡ first_fault f live 0 nothing steps
fault_of_progress f live steps =
    ap (λ (p : Progress). fault_at_end (fold (progressed f) p steps)) (begun_there f live) ∙ fault_there f live 0 nothing steps tt

progress_of_checker : (c : Checker) (steps : List ProofStep) → (fold checked c steps).progress ≡ fold (progressed c.formula) c.progress steps
progress_of_checker c [] = refl
progress_of_checker c (s ∷ ss) = progress_of_checker (checked c s) ss

pub checkers_are_exact : CheckersAreExact
checkers_are_exact f live steps = ap fault_at_end (progress_of_checker (checker_of f live) steps) ∙ fault_of_progress f live steps

-- ---- for the check of a whole proof

all_dropped : {A : Type 0} (xs : List A) (i : ℕ) → length xs ≤ i → drop i xs ≡ []
all_dropped [] zero h = refl
all_dropped [] (suc i) h = refl
all_dropped (x ∷ xs) zero h = absurd (omega arith)
all_dropped (x ∷ xs) (suc i) h = all_dropped xs i (omega arith)

pub fault_is : (f : Formula) (live : Option ℕ) (steps items : List ProofStep) (i : ℕ) (p : Progress) → items ≡ steps → length items ≤ i → progress_of f live steps ≡ fold (progressed f) p (drop i items) → fault_at_end p ≡ first_fault f live 0 nothing steps
fault_is f live steps items i p e past same =
    sym (ap fault_at_end (same ∙ ap (λ (ss : List ProofStep). fold (progressed f) p ss) (all_dropped items i past))) ∙ fault_of_progress f live steps

said : (fault : Option (ℕ × Why)) (v : Verdict) → Says fault v → (v ≡ Refuted) ↔ (fault ≡ None)
said fault Refuted h = ((λ e. h), (λ e. refl))
said fault (Rejected step why) h = ((λ e. absurd (cc)), (λ e. absurd (cc)))

pub refuted_exactly : (f : Formula) (proof : Proof) (live : Option ℕ) (v : Verdict) → Says (fault_of f proof live) v → (v ≡ Refuted) ↔ Refutes f proof live
refuted_exactly f proof live v h =
    let a = said (fault_of f proof live) v h in
    let b = refutes_exactly f proof live in
    ((λ e. b.1 (a.0 e)), (λ r. a.1 (b.0 r)))
