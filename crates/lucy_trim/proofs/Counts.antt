-- How many clauses are live, by counts alone.
use Rattle.std.proofs.Common.{◌≡◌, ℕ, zero, suc, ◌<◌, ◌≤◌, ◌+◌, ◌-◌, max, nat_lt, false, List, [], ◌∷◌, length, drop, get_or, slice_get, None, refl, sym, ap, ◌∙◌, arith, length-append}
use Rattle.lucy_clauses.proofs.Mapping.{drop-at}
use Rattle.std.specs.Prelude.{slice_index}
use Rattle.std.proofs.lemmas.Bool.{le-ltb}
use Rattle.lucy_cert.specs.declared.steps.ProofStep.{ProofStep}
use Rattle.lucy_cert.specs.declared.steps.ProofStep.TheVariants.{Lemma, Rup, Drop}
use Rattle.lucy_cert.specs.Justified.{Known, nothing, after}
use Rattle.lucy_trim.specs.Trimming.{most_live, added_by, dropped_by}

abbrev pub counted_most : ℕ → ℕ → List ProofStep → ℕ
counted_most a d [] = 0
counted_most a d (s ∷ ss) = max ((a + added_by s) - (d + dropped_by s)) (counted_most (a + added_by s) (d + dropped_by s) ss)

added_length : (k : Known) (s : ProofStep) → length (after k s).added ≡ length k.added + added_by s
added_length k (Lemma clause lines) = length-append k.added (clause ∷ [])
added_length k (Rup clause hints) = length-append k.added (clause ∷ [])
added_length k (Drop numbers) = none (length k.added)
  where
    none : (n : ℕ) → n ≡ n + 0
    none n = omega arith

dropped_length : (k : Known) (s : ProofStep) → length (after k s).dropped ≡ length k.dropped + dropped_by s
dropped_length k (Lemma clause lines) = none (length k.dropped)
  where
    none : (n : ℕ) → n ≡ n + 0
    none n = omega arith
dropped_length k (Rup clause hints) = none (length k.dropped)
  where
    none : (n : ℕ) → n ≡ n + 0
    none n = omega arith
dropped_length k (Drop numbers) = length-append k.dropped numbers

pub counted : (k : Known) (ss : List ProofStep) (a d : ℕ) → length k.added ≡ a → length k.dropped ≡ d → most_live k ss ≡ counted_most a d ss
counted k [] a d e g = refl
counted k (s ∷ ss) a d e g =
    let more : length (after k s).added ≡ a + added_by s = added_length k s ∙ ap (λ (n : ℕ). n + added_by s) e in
    let gone : length (after k s).dropped ≡ d + dropped_by s = dropped_length k s ∙ ap (λ (n : ℕ). n + dropped_by s) g in
    ap (λ (n : ℕ). max (n - length (after k s).dropped) (most_live (after k s) ss)) more
    ∙ ap (λ (n : ℕ). max ((a + added_by s) - n) (most_live (after k s) ss)) gone
    ∙ ap (λ (n : ℕ). max ((a + added_by s) - (d + dropped_by s)) n) (counted (after k s) ss (a + added_by s) (d + dropped_by s) more gone)

past_end : (xs : List ℕ) (k : ℕ) → slice_get xs k ≡ None → slice_index xs k ≡ 0
past_end [] k h = refl
past_end (x ∷ xs) zero h = absurd (cc)
past_end (x ∷ xs) (suc k) h = past_end xs k h

pub none_past : (xs : List ℕ) (k n : ℕ) → slice_get xs k ≡ None → false ≡ nat_lt n (slice_index xs k)
none_past xs k n h = sym (ap (nat_lt n) (past_end xs k h) ∙ le-ltb n 0 (low n))
  where
    low : (n : ℕ) → 0 ≤ n
    low n = omega arith

pub ended : (steps items : List ProofStep) (i a d most : ℕ) → items ≡ steps → length items ≤ i → max most (counted_most a d (drop i items)) ≡ counted_most 0 0 steps → most ≡ most_live nothing steps
ended steps items i a d most same past left =
    let none : drop i items ≡ [] = none_left items i past in
    let all : most ≡ counted_most 0 0 steps = only most ∙ sym (ap (λ (ss : List ProofStep). max most (counted_most a d ss)) none) ∙ left in
    all ∙ sym (counted nothing steps 0 0 refl refl)
  where
    only : (n : ℕ) → n ≡ max n 0
    only n = omega arith

    none_left : (xs : List ProofStep) (i : ℕ) → length xs ≤ i → drop i xs ≡ []
    none_left [] zero le = refl
    none_left [] (suc i) le = refl
    none_left (x ∷ xs) zero le = absurd (omega arith)
    none_left (x ∷ xs) (suc i) le = none_left xs i (omega arith)

pub turned : (items : List ProofStep) (i : ℕ) (s : ProofStep) (a d aa dd most more whole : ℕ) → i < length items → s ≡ get_or items i s → aa ≡ a + added_by s → dd ≡ d + dropped_by s → more ≡ max (aa - dd) most
    → max most (counted_most a d (drop i items)) ≡ whole → max more (counted_most aa dd (drop (i + 1) items)) ≡ whole
turned items i s a d aa dd most more whole lt here add gone is left =
    let front : drop i items ≡ s ∷ drop (i + 1) items = drop-at items i s lt ∙ ap (λ (x : ProofStep). x ∷ drop (i + 1) items) (sym here) in
    let rest : ℕ = counted_most aa dd (drop (i + 1) items) in
    ap (λ (n : ℕ). max n rest) is ∙ turn (aa - dd) most rest
    ∙ ap (λ (n : ℕ). max most (max (n - dd) (counted_most n dd (drop (i + 1) items)))) add
    ∙ ap (λ (n : ℕ). max most (max ((a + added_by s) - n) (counted_most (a + added_by s) n (drop (i + 1) items)))) gone
    ∙ sym (ap (λ (ss : List ProofStep). max most (counted_most a d ss)) front)
    ∙ left
  where
    turn : (x m r : ℕ) → max (max x m) r ≡ max m (max x r)
    turn x m r = omega arith

pub begun : (steps items : List ProofStep) → items ≡ steps → max 0 (counted_most 0 0 items) ≡ counted_most 0 0 steps
begun steps items same = none (counted_most 0 0 items) ∙ ap (counted_most 0 0) same
  where
    none : (n : ℕ) → max 0 n ≡ n
    none n = omega arith
