-- A proof that is trimmed a step at a time is the trimmed proof.
use Rattle.std.proofs.Common.{◌≡◌, ℕ, suc, ◌<◌, ◌≤◌, ◌+◌, ◌-◌, Bool, true, false, not, List, [], ◌∷◌, ◌++◌, length, drop, if◌then◌else◌, refl, sym, ap, ◌∙◌, arith, length-append, append_assoc, append-nil}
use Rattle.lucy_clauses.specs.declared.formulas.Formula.{Formula}
use Rattle.lucy_cert.specs.declared.steps.Proof.{Proof}
use Rattle.lucy_cert.specs.declared.steps.ProofStep.{ProofStep}
use Rattle.lucy_cert.specs.declared.steps.ProofStep.TheVariants.{Drop}
use Rattle.lucy_trim.specs.declared.trimming.Trimming.{Trimming}
use Rattle.lucy_trim.specs.Trimming.{is_hinted, needed, unneeded, adds_empty, with_added, dropping, trimmed_from, trimmed}
use Rattle.lucy_trim.specs.Uses.{is_used_behind, last_uses}
use Rattle.lucy_trim.specs.Steps.{drop_of, still_used, used_up, with_step, with_steps, begun}
use Rattle.lucy_trim.proofs.Lists.{Each, each_turned, Each-append, each_filtered, same_kept, Rise, Rise-push, rise_filtered, rise_droppable}
use Rattle.lucy_trim.proofs.Naming.{Tells, last_uses_tell, length-last_uses}

drop_is : (ns : List ℕ) (rest : List ProofStep) → Rise ns → drop_of ns ++ rest ≡ dropping ns rest
drop_is [] rest rise = refl
drop_is (n ∷ ns) rest rise = ap (λ (b : Bool). (if b then Drop (n ∷ ns) ∷ [] else []) ++ rest) (rise_droppable n ns rise)

-- the number of a clause that a step added
record IsBetween (first at n : ℕ) : Type 0 where
  low : first ≤ n
  high : n < at

drop-front : (xs ys : List ProofStep) (n : ℕ) → n ≡ length xs → drop n (xs ++ ys) ≡ ys
drop-front [] ys n e = ap (λ (m : ℕ). drop m ys) e
drop-front (x ∷ xs) ys n e = ap (λ (m : ℕ). drop m (x ∷ xs ++ ys)) e ∙ drop-front xs ys (length xs) refl

below_all : (first l m k a p at n : ℕ) → k ≡ a → a ≡ l + m → p ≡ l → at ≡ first + p → first ≤ n → n < at → n - first < k
below_all first l m k a p at n e f g h low high = omega arith

used_same : (first : ℕ) (last : List ℕ) (all seen ss : List ProofStep) (passed at n : ℕ) → Tells first all last → all ≡ seen ++ ss → passed ≡ length seen → length last ≡ length all → at ≡ first + passed
    → IsBetween first at n → is_used_behind first last passed n ≡ is_hinted ss n
used_same first last all seen ss passed at n told split size long place between =
    told.tells (n - first) passed (below_all first (length seen) (length ss) (length last) (length all) passed at n long (ap length split ∙ length-append seen ss) size place between.low between.high)
    ∙ ap (λ (xs : List ProofStep). is_hinted (drop passed xs) (first + (n - first))) split
    ∙ ap (λ (xs : List ProofStep). is_hinted xs (first + (n - first))) (drop-front seen ss passed size)
    ∙ ap (is_hinted ss) (back first n between.low)
  where
    back : (first n : ℕ) → first ≤ n → first + (n - first) ≡ n
    back first n le = omega arith

added_each : (P : ℕ → Type 0) (held : List ℕ) (at : ℕ) (s : ProofStep) → Each P held → P at → Each P (with_added held at s)
added_each P held at s all p = by_test (adds_empty s)
  where
    by_test : (b : Bool) → Each P (if b then held else (held ++ at ∷ []))
    by_test true = all
    by_test false = Each-append P held (at ∷ []) all (p, tt)

added_rise : (held : List ℕ) (at : ℕ) (s : ProofStep) → Rise held → Each (λ n. n < at) held → Rise (with_added held at s)
added_rise held at s rise below = by_test (adds_empty s)
  where
    by_test : (b : Bool) → Rise (if b then held else (held ++ at ∷ []))
    by_test true = rise
    by_test false = Rise-push held at rise below

-- what a state keeps behind some steps
record Fits (first passed : ℕ) (t : Trimming) : Type 0 where
  place : t.at ≡ first + passed
  between : Each (IsBetween first t.at) t.held
  rise : Rise t.held

more_between : (first at passed : ℕ) → at ≡ first + passed → (n : ℕ) → IsBetween first at n → IsBetween first (at + 1) n
more_between first at passed place n b = record { low = b.low; high = up at n b.high }
  where
    up : (at n : ℕ) → n < at → n < at + 1
    up at n h = omega arith

own_between : (first at passed : ℕ) → at ≡ first + passed → IsBetween first (at + 1) at
own_between first at passed place = record { low = reach first at passed place; high = over at }
  where
    reach : (first at passed : ℕ) → at ≡ first + passed → first ≤ at
    reach first at passed e = omega arith

    over : (at : ℕ) → at < at + 1
    over at = omega arith

steps_are : (first : ℕ) (last : List ℕ) (all seen ss : List ProofStep) (passed : ℕ) (t : Trimming) → Tells first all last → all ≡ seen ++ ss → passed ≡ length seen → length last ≡ length all → Fits first passed t
    → (with_steps first last passed t ss).steps ≡ t.steps ++ trimmed_from t.held t.at ss
steps_are first last all seen [] passed t told split size long fits = sym (append-nil t.steps)
steps_are first last all seen (s ∷ ss) passed t told split size long fits =
    let more = with_added t.held t.at s in
    let next = with_step first last (passed + 1) t s in
    let whole : all ≡ (seen ++ s ∷ []) ++ ss = split ∙ sym (append_assoc seen (s ∷ []) ss) in
    let longer : passed + 1 ≡ length (seen ++ s ∷ []) = one passed (length seen) (length (seen ++ s ∷ [])) size (length-append seen (s ∷ [])) in
    let place : t.at + 1 ≡ first + (passed + 1) = along first t.at passed fits.place in
    let range : Each (IsBetween first (t.at + 1)) more =
    added_each (IsBetween first (t.at + 1)) t.held t.at s
    (each_turned (IsBetween first t.at) (IsBetween first (t.at + 1)) (more_between first t.at passed fits.place) t.held fits.between)
    (own_between first t.at passed fits.place)
    in
    let up : Rise more = added_rise t.held t.at s fits.rise (each_turned (IsBetween first t.at) (λ n. n < t.at) (λ n b. b.high) t.held fits.between) in
    let same = λ (n : ℕ) (b : IsBetween first (t.at + 1) n). used_same first last all (seen ++ s ∷ []) ss (passed + 1) (t.at + 1) n told whole longer long place b in
    let kept : still_used first last (passed + 1) more ≡ needed ss more = same_kept (IsBetween first (t.at + 1)) (is_used_behind first last (passed + 1)) (is_hinted ss) same more range in
    let gone : used_up first last (passed + 1) more ≡ unneeded ss more =
    same_kept (IsBetween first (t.at + 1)) (λ n. not (is_used_behind first last (passed + 1) n)) (λ n. not (is_hinted ss n)) (λ n b. ap not (same n b)) more range
    in
    steps_are first last all (seen ++ s ∷ []) ss (passed + 1) next told whole longer long
    (record {
      place = place;
      between = each_filtered (IsBetween first (t.at + 1)) (is_used_behind first last (passed + 1)) more range;
      rise = rise_filtered (is_used_behind first last (passed + 1)) more up;
    })
    ∙ ap (λ (ns : List ℕ). next.steps ++ trimmed_from ns (t.at + 1) ss) kept
    ∙ ap (λ (ns : List ℕ). (t.steps ++ s ∷ [] ++ drop_of ns) ++ trimmed_from (needed ss more) (t.at + 1) ss) gone
    ∙ regroup t.steps s (drop_of (unneeded ss more)) (trimmed_from (needed ss more) (t.at + 1) ss)
    ∙ ap (λ (xs : List ProofStep). t.steps ++ s ∷ xs) (drop_is (unneeded ss more) (trimmed_from (needed ss more) (t.at + 1) ss) (rise_filtered (λ n. not (is_hinted ss n)) more up))
  where
    one : (p l m : ℕ) → p ≡ l → m ≡ l + 1 → p + 1 ≡ m
    one p l m e g = omega arith

    along : (first at p : ℕ) → at ≡ first + p → at + 1 ≡ first + (p + 1)
    along first at p e = omega arith

    regroup : (xs : List ProofStep) (x : ProofStep) (ys zs : List ProofStep) → (xs ++ x ∷ [] ++ ys) ++ zs ≡ xs ++ x ∷ (ys ++ zs)
    regroup xs x ys zs = simp append_assoc

pub steps_are_trimmed : (first : ℕ) (steps : List ProofStep) → (with_steps first (last_uses first steps) 0 (begun first) steps).steps ≡ trimmed_from [] first steps
steps_are_trimmed first steps =
    steps_are first (last_uses first steps) steps [] steps 0 (begun first) (last_uses_tell first steps) refl refl (length-last_uses first steps)
    (record { place = none first; between = tt; rise = tt })
  where
    none : (n : ℕ) → n ≡ n + 0
    none n = omega arith

-- the number of the next clause
pub steps_at : (first : ℕ) (last : List ℕ) (passed : ℕ) (t : Trimming) (ss : List ProofStep) → (with_steps first last passed t ss).at ≡ t.at + length ss
steps_at first last passed t [] = none t.at
  where
    none : (n : ℕ) → n ≡ n + 0
    none n = omega arith
steps_at first last passed t (s ∷ ss) = steps_at first last (passed + 1) (with_step first last (passed + 1) t s) ss ∙ next t.at (length ss)
  where
    next : (n l : ℕ) → n + 1 + l ≡ n + suc l
    next n l = omega arith

pub trimmed_is : (f : Formula) (p : Proof) (first own : ℕ) (last : List ℕ) (one two : List ProofStep) (t : Trimming) → first ≡ length f.clauses → one ≡ p.steps → two ≡ p.steps → own ≡ first → last ≡ last_uses first one
    → t ≡ with_steps own last 0 (begun own) two → t.steps ≡ (trimmed f p).steps
trimmed_is f p first own last one two t at same again here table is =
    ap (λ (t : Trimming). t.steps) is
    ∙ ap (λ (n : ℕ). (with_steps n last 0 (begun n) two).steps) here
    ∙ ap (λ (us : List ℕ). (with_steps first us 0 (begun first) two).steps) table
    ∙ ap (λ (ss : List ProofStep). (with_steps first (last_uses first ss) 0 (begun first) two).steps) same
    ∙ ap (λ (ss : List ProofStep). (with_steps first (last_uses first p.steps) 0 (begun first) ss).steps) again
    ∙ steps_are_trimmed first p.steps
    ∙ ap (λ (n : ℕ). trimmed_from [] n p.steps) at

pub few_steps : (f : Formula) (p : Proof) (first own : ℕ) (last : List ℕ) (two : List ProofStep) (t : Trimming) → first ≡ length f.clauses → two ≡ p.steps → own ≡ first
    → t ≡ with_steps own last 0 (begun own) two → t.at ≡ length f.clauses + length p.steps
few_steps f p first own last two t at again here is =
    ap (λ (t : Trimming). t.at) is ∙ steps_at own last 0 (begun own) two ∙ ap (λ (n : ℕ). n + length two) (here ∙ at) ∙ ap (λ (ss : List ProofStep). length f.clauses + length ss) again
