-- Trimmed proofs refute what the proofs refute.
use Rattle.std.proofs.Common.{◌≡◌, ℕ, suc, ◌<◌, ◌≤◌, ◌+◌, ◌^◌, ◌==◌, nat_lt, nat_le, Bool, true, false, not, ◌&&◌, List, [], ◌∷◌, ◌++◌, length, map, slice_get, Option, Some, None, if◌then◌else◌, refl, sym, ap, ◌∙◌, subst, arith, length-append, append-nil}
use Rattle.std.specs.List.{list_all}
use Rattle.std.specs.Option.{option_or}
use Rattle.std.proofs.lemmas.Bool.{and_parts, and_from, or_left, or_right, or_from, le-leb, lt-ltb, le-ltb, ltb-false, not-true}
use Rattle.lucy_clauses.specs.declared.formulas.Clause.{Clause}
use Rattle.lucy_clauses.specs.declared.formulas.Formula.{Formula}
use Rattle.lucy_clauses.specs.Sums.{Form, complement}
use Rattle.lucy_cert.specs.declared.steps.ProofStep.{ProofStep}
use Rattle.lucy_cert.specs.declared.steps.ProofStep.TheVariants.{Lemma, Rup, Drop}
use Rattle.lucy_cert.specs.declared.steps.Why.{Why}
use Rattle.lucy_cert.specs.declared.steps.Why.TheVariants.{Unknown, TooMany}
use Rattle.lucy_cert.specs.Numbers.{contains, are_droppable}
use Rattle.lucy_cert.specs.Justified.{Known, nothing, without, after, clause_at, open_atoms, by_clause, by_open, is_last, rup_fault, where_known, is_held, rule_fault, live_clauses, live_fault, step_fault}
use Rattle.lucy_cert.specs.Refuting.{AreJustified, known_after, has_empty}
use Rattle.lucy_cert.specs.Writable.{step_fits, number_fits}
use Rattle.lucy_trim.specs.Trimming.{adds, hints_of, is_hinted, needed, unneeded, adds_empty, with_added, dropping, trimmed_from, trimmed, most_live, live_of}
use Rattle.lucy_trim.specs.Laws.{TrimmedRefutes, MoreLiveRefutes, TrimmedIsWritable}
use Rattle.lucy_trim.proofs.Lists.{Each, each_turned, Each-append, each_passed, each_filtered, each_passes, not_contained, contains-append, same_number, Rise, Rise-push, rise_filtered, rise_droppable}

-- ---- a step is justified by what it names alone

rup_same : (at other : ℕ → Option Clause) (trues : List Form) (hs : List ℕ) → ((n : ℕ) → contains n hs ≡ true → other n ≡ at n) → rup_fault other trues hs ≡ rup_fault at trues hs
rup_same at other trues [] same = refl
rup_same at other trues (h ∷ hs) same =
    ap (λ (o : Option Clause). by_clause o (λ c. by_open (open_atoms trues c.atoms) (is_last hs) (λ t. rup_fault other (trues ++ t ∷ []) hs))) (same h (or_left (h == h) (contains h hs) (same_number h)))
    ∙ by_hint (λ t. rup_same at other (trues ++ t ∷ []) hs (λ n e. same n (or_right (n == h) (contains n hs) e))) (at h)
  where
    by_atoms : ((t : Form) → rup_fault other (trues ++ t ∷ []) hs ≡ rup_fault at (trues ++ t ∷ []) hs) → (ts : List Form) → by_open ts (is_last hs) (λ t. rup_fault other (trues ++ t ∷ []) hs) ≡ by_open ts (is_last hs) (λ t. rup_fault at (trues ++ t ∷ []) hs)
    by_atoms later [] = refl
    by_atoms later (t ∷ []) = later t
    by_atoms later (t ∷ u ∷ ts) = refl

    by_hint : ((t : Form) → rup_fault other (trues ++ t ∷ []) hs ≡ rup_fault at (trues ++ t ∷ []) hs) → (o : Option Clause) → by_clause o (λ c. by_open (open_atoms trues c.atoms) (is_last hs) (λ t. rup_fault other (trues ++ t ∷ []) hs)) ≡ by_clause o (λ c. by_open (open_atoms trues c.atoms) (is_last hs) (λ t. rup_fault at (trues ++ t ∷ []) hs))
    by_hint later None = refl
    by_hint later (Some c) = by_atoms later (open_atoms trues c.atoms)

look_same : (clauses : List Clause) (c e : Known) (n : ℕ) → e.added ≡ c.added → c.dropped ≡ [] → contains n e.dropped ≡ false → clause_at clauses e n ≡ clause_at clauses c n
look_same clauses c e n added whole there =
    ap (λ (b : Bool). if b then None else slice_get (clauses ++ e.added) n) there
    ∙ ap (λ (cs : List Clause). slice_get (clauses ++ cs) n) added
    ∙ sym (ap (λ (ns : List ℕ). if contains n ns then None else slice_get (clauses ++ c.added) n) whole)

rule_same : (f : Formula) (c e : Known) (s : ProofStep) → adds s ≡ true → e.added ≡ c.added → c.dropped ≡ [] → ((n : ℕ) → contains n (hints_of s) ≡ true → contains n e.dropped ≡ false) → rule_fault f e s ≡ rule_fault f c s
rule_same f c e (Lemma clause lines) a added whole there = refl
rule_same f c e (Rup clause hints) a added whole there =
    ap (where_known (length f.ranges) clause) (rup_same (clause_at f.clauses c) (clause_at f.clauses e) (map complement clause.atoms) hints (λ n h. look_same f.clauses c e n added whole (there n h)))
rule_same f c e (Drop numbers) a added whole there = absurd (cc)

-- ---- what steps come to

added_same : (c e : Known) (s : ProofStep) → e.added ≡ c.added → (after e s).added ≡ (after c s).added
added_same c e (Lemma clause lines) h = ap (λ (cs : List Clause). cs ++ clause ∷ []) h
added_same c e (Rup clause hints) h = ap (λ (cs : List Clause). cs ++ clause ∷ []) h
added_same c e (Drop numbers) h = h

dropped_same : (k : Known) (s : ProofStep) → adds s ≡ true → (after k s).dropped ≡ k.dropped
dropped_same k (Lemma clause lines) a = refl
dropped_same k (Rup clause hints) a = refl
dropped_same k (Drop numbers) a = absurd (cc)

one_more : (k : Known) (s : ProofStep) → adds s ≡ true → length (after k s).added ≡ length k.added + 1
one_more k (Lemma clause lines) a = length-append k.added (clause ∷ [])
one_more k (Rup clause hints) a = length-append k.added (clause ∷ [])
one_more k (Drop numbers) a = absurd (cc)

without_nothing : (k : Known) → without k [] ≡ k
without_nothing k = ap (λ (d : List ℕ). known_as k.added d) (append-nil k.dropped)
  where
    known_as : List Clause → List ℕ → Known
    known_as cs d = record { added = cs; dropped = d }

-- ---- clauses of steps that are not dropped

record IsThere (count : ℕ) (k : Known) (n : ℕ) : Type 0 where
  low : count ≤ n
  high : n < count + length k.added
  kept : contains n k.dropped ≡ false

there_held : (count : ℕ) (k : Known) (n : ℕ) → IsThere count k n → is_held count k n ≡ true
there_held count k n there =
    and_from (nat_le count n && nat_lt n (count + length k.added)) (not (contains n k.dropped))
    (and_from (nat_le count n) (nat_lt n (count + length k.added)) (le-leb count n there.low) (lt-ltb n (count + length k.added) there.high))
    (ap not there.kept)

all_held : (count : ℕ) (k : Known) (ns : List ℕ) → Each (IsThere count k) ns → list_all (is_held count k) ns ≡ true
all_held count k [] all = refl
all_held count k (n ∷ ns) all = and_from (is_held count k n) (list_all (is_held count k) ns) (there_held count k n all.0) (all_held count k ns all.1)

there_more : (count : ℕ) (k : Known) (s : ProofStep) → adds s ≡ true → (n : ℕ) → IsThere count k n → IsThere count (after k s) n
there_more count k s a n there =
    let longer = one_more k s a in
    record {
      low = there.low;
      high = higher n (length k.added) (length (after k s).added) there.high longer;
      kept = ap (contains n) (dropped_same k s a) ∙ there.kept;
    }
  where
    higher : (n l m : ℕ) → n < count + l → m ≡ l + 1 → n < count + m
    higher n l m h e = omega arith

there_new : (count : ℕ) (k : Known) (s : ProofStep) → adds s ≡ true → (n : ℕ) → n ≡ count + length k.added → contains n k.dropped ≡ false → IsThere count (after k s) n
there_new count k s a n is free =
    let longer = one_more k s a in
    record {
      low = lower n (length k.added) is;
      high = higher n (length k.added) (length (after k s).added) is longer;
      kept = ap (contains n) (dropped_same k s a) ∙ free;
    }
  where
    lower : (n l : ℕ) → n ≡ count + l → count ≤ n
    lower n l e = omega arith

    higher : (n l m : ℕ) → n ≡ count + l → m ≡ l + 1 → n < count + m
    higher n l m e g = omega arith

there_without : (count : ℕ) (k : Known) (ns : List ℕ) (n : ℕ) → IsThere count k n → contains n ns ≡ false → IsThere count (without k ns) n
there_without count k ns n there free = record { low = there.low; high = there.high; kept = contains-append n k.dropped ns ∙ or_from (contains n k.dropped) (contains n ns) there.kept free }

-- ---- drops

no_drop_fault : (f : Formula) (k : Known) (ns : List ℕ) → Each (IsThere (length f.clauses) k) ns → step_fault f None k (Drop ns) ≡ None
no_drop_fault f k ns there = ap (λ (b : Bool). option_or (if b then None else Some Unknown) None) (all_held (length f.clauses) k ns there)

drop_passes : (f : Formula) (k : Known) (ns : List ℕ) (rest : List ProofStep) → Each (IsThere (length f.clauses) k) ns → AreJustified f None (without k ns) rest → AreJustified f None k (dropping ns rest)
drop_passes f k [] rest there next = subst (λ (q : Known). AreJustified f None q rest) (without_nothing k) next
drop_passes f k (n ∷ ns) rest there next = (no_drop_fault f k (n ∷ ns) there, next)

added_each : (P : ℕ → Type 0) (held : List ℕ) (at : ℕ) (s : ProofStep) → Each P held → P at → Each P (with_added held at s)
added_each P held at s all p = by_test (adds_empty s)
  where
    by_test : (b : Bool) → Each P (if b then held else (held ++ at ∷ []))
    by_test true = all
    by_test false = Each-append P held (at ∷ []) all (p, tt)

hinted_stays : (ss : List ProofStep) (ns : List ℕ) (n : ℕ) → is_hinted ss n ≡ true → contains n (unneeded ss ns) ≡ false
hinted_stays ss ns n h = not_contained (λ m. not (is_hinted ss m) ≡ true) n (unneeded ss ns) (each_passes (λ m. not (is_hinted ss m)) ns) (λ e. clash (sym h ∙ not-true (is_hinted ss n) e))
  where
    clash : true ≡ false → ⊥
    clash e = absurd (cc)

-- e knows what c knows, but for clauses that none of the steps names
record Lean (ss : List ProofStep) (c e : Known) : Type 0 where
  added : e.added ≡ c.added
  whole : c.dropped ≡ []
  there : (n : ℕ) → is_hinted ss n ≡ true → contains n e.dropped ≡ false

no_fault : (r : Option Why) → option_or r None ≡ None → r ≡ None
no_fault None h = refl
no_fault (Some w) h = h

below_next : (x n : ℕ) → n < x → n < x + 1
below_next x n h = omega arith

trims : (f : Formula) (ss : List ProofStep) (held : List ℕ) (at : ℕ) (c e : Known) → list_all adds ss ≡ true → Lean ss c e → at ≡ length f.clauses + length e.added
    → Each (IsThere (length f.clauses) e) held → Each (λ n. n < at) e.dropped → AreJustified f None c ss → AreJustified f None e (trimmed_from held at ss)
trims f [] held at c e all lean size there low each = tt
trims f (s ∷ ss) held at c e all lean size there low each =
    let a = and_parts (adds s) (list_all adds ss) all in
    let more = with_added held at s in
    let same : rule_fault f e s ≡ rule_fault f c s = rule_same f c e s a.0 lean.added lean.whole (λ n h. lean.there n (or_left (contains n (hints_of s)) (is_hinted ss n) h)) in
    let free : contains at e.dropped ≡ false = not_contained (λ n. n < at) at e.dropped low (λ h. never at h) in
    let have : Each (IsThere (length f.clauses) (after e s)) more =
    added_each (IsThere (length f.clauses) (after e s)) held at s
    (each_turned (IsThere (length f.clauses) e) (IsThere (length f.clauses) (after e s)) (there_more (length f.clauses) e s a.0) held there)
    (there_new (length f.clauses) e s a.0 at size free)
    in
    let few : Each (λ n. n < at + 1) more =
    added_each (λ n. n < at + 1) held at s
    (each_turned (IsThere (length f.clauses) e) (λ n. n < at + 1) (λ n t. high_next (length f.clauses) (length e.added) at n size t.high) held there)
    (at_next at)
    in (
      ap (λ (r : Option Why). option_or r None) (same ∙ no_fault (rule_fault f c s) each.0),
      drop_passes f (after e s) (unneeded ss more) (trimmed_from (needed ss more) (at + 1) ss)
          (each_filtered (IsThere (length f.clauses) (after e s)) (λ n. not (is_hinted ss n)) more have)
          (trims f ss (needed ss more) (at + 1) (after c s) (without (after e s) (unneeded ss more)) a.1
          (record {
            added = added_same c e s lean.added;
            whole = dropped_same c s a.0 ∙ lean.whole;
            there = λ n h.
                contains-append n (after e s).dropped (unneeded ss more)
                ∙ or_from (contains n (after e s).dropped) (contains n (unneeded ss more))
                (ap (contains n) (dropped_same e s a.0) ∙ lean.there n (or_right (contains n (hints_of s)) (is_hinted ss n) h))
                (hinted_stays ss more n h);
          })
          (longer (length f.clauses) (length e.added) (length (after e s).added) at size (one_more e s a.0))
          (each_passed (IsThere (length f.clauses) (after e s)) (IsThere (length f.clauses) (without (after e s) (unneeded ss more))) (is_hinted ss)
          (λ n t h. there_without (length f.clauses) (after e s) (unneeded ss more) n t (hinted_stays ss more n h)) more have)
          (Each-append (λ n. n < at + 1) (after e s).dropped (unneeded ss more)
          (subst (Each (λ n. n < at + 1)) (sym (dropped_same e s a.0)) (each_turned (λ n. n < at) (λ n. n < at + 1) (below_next at) e.dropped low))
          (each_filtered (λ n. n < at + 1) (λ n. not (is_hinted ss n)) more few))
          each.1),
    )
  where
    never : (n : ℕ) → n < n → ⊥
    never n h = omega arith

    at_next : (n : ℕ) → n < n + 1
    at_next n = omega arith

    high_next : (c l at n : ℕ) → at ≡ c + l → n < c + l → n < at + 1
    high_next c l at n e h = omega arith

    longer : (c l m at : ℕ) → at ≡ c + l → m ≡ l + 1 → at + 1 ≡ c + m
    longer c l m at e g = omega arith

-- ---- the clauses that are added

dropping_added : (ns : List ℕ) (rest : List ProofStep) (k : Known) (cs : List Clause) → ((q : Known) → q.added ≡ k.added → (known_after q rest).added ≡ cs) → (known_after k (dropping ns rest)).added ≡ cs
dropping_added [] rest k cs next = next k refl
dropping_added (n ∷ ns) rest k cs next = next (without k (n ∷ ns)) refl

trims_added : (ss : List ProofStep) (held : List ℕ) (at : ℕ) (c e : Known) → e.added ≡ c.added → (known_after e (trimmed_from held at ss)).added ≡ (known_after c ss).added
trims_added [] held at c e h = h
trims_added (s ∷ ss) held at c e h =
    dropping_added (unneeded ss (with_added held at s)) (trimmed_from (needed ss (with_added held at s)) (at + 1) ss) (after e s) (known_after (after c s) ss).added
    (λ q g. trims_added ss (needed ss (with_added held at s)) (at + 1) (after c s) q (g ∙ added_same c e s h))

-- ---- live clauses

few_live : (r : Option Why) (most count : ℕ) → option_or r None ≡ None → count ≤ most → option_or r (live_fault (Some most) count) ≡ None
few_live None most count h le = ap (λ (b : Bool). if b then Some TooMany else None) (le-ltb most count le)
few_live (Some w) most count h le = h

pub live_justified : (f : Formula) (k : Known) (ss : List ProofStep) (most : ℕ) → most_live k ss ≤ most → AreJustified f None k ss → AreJustified f (Some most) k ss
live_justified f k [] most le each = tt
live_justified f k (s ∷ ss) most le each =
    let left : live_clauses (after k s) ≤ most = omega arith in
    let right : most_live (after k s) ss ≤ most = omega arith in
    (few_live (rule_fault f k s) most (live_clauses (after k s)) each.0 left, live_justified f (after k s) ss most right each.1)

raised_live : (r : Option Why) (few more count : ℕ) → few ≤ more → option_or r (live_fault (Some few) count) ≡ None → option_or r (live_fault (Some more) count) ≡ None
raised_live None few more count le h = by_test (nat_lt few count) refl h
  where
    by_test : (b : Bool) → nat_lt few count ≡ b → (if b then Some TooMany else None) ≡ None → (if nat_lt more count then Some TooMany else None) ≡ None
    by_test true e h = absurd (cc)
    by_test false e h = ap (λ (b : Bool). if b then Some TooMany else None) (le-ltb more count (reach few more count le (ltb-false few count e)))
      where
        reach : (few more count : ℕ) → few ≤ more → count ≤ few → count ≤ more
        reach few more count g h = omega arith
raised_live (Some w) few more count le h = h

raised : (f : Formula) (k : Known) (ss : List ProofStep) (few more : ℕ) → few ≤ more → AreJustified f (Some few) k ss → AreJustified f (Some more) k ss
raised f k [] few more le each = tt
raised f k (s ∷ ss) few more le each = (raised_live (rule_fault f k s) few more (live_clauses (after k s)) le each.0, raised f (after k s) ss few more le each.1)

-- ---- the laws

pub trimmed_refutes : TrimmedRefutes
trimmed_refutes f p all refutes =
    let each : AreJustified f None nothing (trimmed f p).steps =
    trims f p.steps [] (length f.clauses) nothing nothing all (record { added = refl; whole = refl; there = λ n h. refl }) (plus_none (length f.clauses)) tt tt refutes.justified
    in
    record {
      justified = live_justified f nothing (trimmed f p).steps (live_of (trimmed f p)) (own (live_of (trimmed f p))) each;
      empty = ap (λ (cs : List Clause). has_empty f (record { added = cs; dropped = (known_after nothing (trimmed f p).steps).dropped })) (trims_added p.steps [] (length f.clauses) nothing nothing refl) ∙ refutes.empty;
    }
  where
    plus_none : (n : ℕ) → n ≡ n + 0
    plus_none n = omega arith

    own : (n : ℕ) → n ≤ n
    own n = omega arith

pub more_live_refutes : MoreLiveRefutes
more_live_refutes f p few more le refutes = record { justified = raised f nothing p.steps few more le refutes.justified; empty = refutes.empty }

-- ---- trimmed proofs can be written

fits_either : (s : ProofStep) → step_fits false s ≡ true → step_fits true s ≡ true
fits_either (Lemma clause lines) h = h
fits_either (Rup clause hints) h = h
fits_either (Drop numbers) h = absurd (cc)

all_fit : (ns : List ℕ) → Each (λ n. n < 2 ^ 64) ns → list_all number_fits ns ≡ true
all_fit [] all = refl
all_fit (n ∷ ns) all = and_from (number_fits n) (list_all number_fits ns) (lt-ltb n (2 ^ 64) all.0) (all_fit ns all.1)

dropping_fits : (ns : List ℕ) (rest : List ProofStep) → Each (λ n. n < 2 ^ 64) ns → Rise ns → list_all (step_fits true) rest ≡ true → list_all (step_fits true) (dropping ns rest) ≡ true
dropping_fits [] rest below rise h = h
dropping_fits (n ∷ ns) rest below rise h =
    and_from (step_fits true (Drop (n ∷ ns))) (list_all (step_fits true) rest)
    (and_from (are_droppable (n ∷ ns)) (list_all number_fits (n ∷ ns)) (rise_droppable n ns rise) (all_fit (n ∷ ns) below)) h

added_rise : (held : List ℕ) (at : ℕ) (s : ProofStep) → Rise held → Each (λ n. n < at) held → Rise (with_added held at s)
added_rise held at s rise below = by_test (adds_empty s)
  where
    by_test : (b : Bool) → Rise (if b then held else (held ++ at ∷ []))
    by_test true = rise
    by_test false = Rise-push held at rise below

trims_fit : (most : ℕ) (ss : List ProofStep) (held : List ℕ) (at : ℕ) → most ≤ 2 ^ 64 → list_all (step_fits false) ss ≡ true → Rise held → Each (λ n. n < at) held → at + length ss ≤ most → list_all (step_fits true) (trimmed_from held at ss) ≡ true
trims_fit most [] held at small all rise below few = refl
trims_fit most (s ∷ ss) held at small all rise below few =
    let a = and_parts (step_fits false s) (list_all (step_fits false) ss) all in
    let more = with_added held at s in
    let low : Each (λ n. n < at + 1) more = added_each (λ n. n < at + 1) held at s (each_turned (λ n. n < at) (λ n. n < at + 1) (below_next at) held below) (at_next at) in
    let up : Rise more = added_rise held at s rise below in
    and_from (step_fits true s) (list_all (step_fits true) (dropping (unneeded ss more) (trimmed_from (needed ss more) (at + 1) ss))) (fits_either s a.0)
    (dropping_fits (unneeded ss more) (trimmed_from (needed ss more) (at + 1) ss)
    (each_filtered (λ n. n < 2 ^ 64) (λ n. not (is_hinted ss n)) more (each_turned (λ n. n < at + 1) (λ n. n < 2 ^ 64) (λ n h. narrow at n (length ss) small few h) more low))
    (rise_filtered (λ n. not (is_hinted ss n)) more up)
    (trims_fit most ss (needed ss more) (at + 1) small a.1 (rise_filtered (is_hinted ss) more up) (each_filtered (λ n. n < at + 1) (is_hinted ss) more low) (passed at (length ss) few)))
  where
    at_next : (n : ℕ) → n < n + 1
    at_next n = omega arith

    narrow : (at n l : ℕ) → most ≤ 2 ^ 64 → at + suc l ≤ most → n < at + 1 → n < 2 ^ 64
    narrow at n l small few h = omega arith

    passed : (at l : ℕ) → at + suc l ≤ most → at + 1 + l ≤ most
    passed at l few = omega arith

pub trimmed_is_writable : TrimmedIsWritable
trimmed_is_writable f p few all = trims_fit (length f.clauses + length p.steps) p.steps [] (length f.clauses) few all tt tt (own (length f.clauses + length p.steps))
  where
    own : (n : ℕ) → n ≤ n
    own n = omega arith
