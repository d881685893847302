-- Proofs whose steps let go of each clause that no later step needs.
use Rattle.std.specs.Prelude.{ℕ, ◌+◌, max, ◌||◌, not, Bool, true, false, List, [], ◌∷◌, ◌++◌, length, if◌then◌else◌}
use Rattle.std.specs.List.{list_all, filter}
use Rattle.lucy_clauses.specs.declared.formulas.Formula.{Formula}
use Rattle.lucy_cert.specs.declared.steps.Proof.{Proof}
use Rattle.lucy_cert.specs.declared.steps.ProofStep.{ProofStep}
use Rattle.lucy_cert.specs.declared.steps.ProofStep.TheVariants.{Lemma, Rup, Drop}
use Rattle.lucy_cert.specs.Numbers.{contains}
use Rattle.lucy_cert.specs.Justified.{Known, nothing, after, live_clauses}
use Rattle.lucy_cert.specs.Refuting.{is_empty}

-- ---- proofs without drops

-- a step adds a clause
abbrev pub adds : ProofStep → Bool
adds (Lemma clause lines) = true
adds (Rup clause hints) = true
adds (Drop numbers) = false

-- each step of a proof does
abbrev pub has_no_drops : Proof → Bool
has_no_drops p = list_all adds p.steps

-- ---- what later steps need

-- the numbers of the clauses that a step names as hints
abbrev pub hints_of : ProofStep → List ℕ
hints_of (Lemma clause lines) = []
hints_of (Rup clause hints) = hints
hints_of (Drop numbers) = []

-- one of the steps names the clause of a number as a hint
abbrev pub is_hinted : List ProofStep → ℕ → Bool
is_hinted [] n = false
is_hinted (s ∷ ss) n = contains n (hints_of s) || is_hinted ss n

-- of some numbers, those that one of the steps names, and those that none does
abbrev pub needed : List ProofStep → List ℕ → List ℕ
needed ss ns = filter (is_hinted ss) ns

abbrev pub unneeded : List ProofStep → List ℕ → List ℕ
unneeded ss ns = filter (λ n. not (is_hinted ss n)) ns

-- ---- trimmed proofs

-- the clause that a step adds is empty
abbrev pub adds_empty : ProofStep → Bool
adds_empty (Lemma clause lines) = is_empty clause
adds_empty (Rup clause hints) = is_empty clause
adds_empty (Drop numbers) = false

-- the numbers that may be dropped behind a step that adds the clause of the number `at`; an empty clause is never dropped
abbrev pub with_added : List ℕ → ℕ → ProofStep → List ℕ
with_added held at s = if adds_empty s then held else (held ++ at ∷ [])

-- a drop of these numbers, where there is one, before the other steps
abbrev pub dropping : List ℕ → List ProofStep → List ProofStep
dropping [] rest = rest
dropping (n ∷ ns) rest = Drop (n ∷ ns) ∷ rest

-- Each step, and behind it a drop of the clauses that no later step names. `held` are the numbers of the clauses, none of them empty, that earlier
-- steps added and no drop has named; `at` is the number of the clause that the first step adds.
abbrev pub trimmed_from : List ℕ → ℕ → List ProofStep → List ProofStep
trimmed_from held at [] = []
trimmed_from held at (s ∷ ss) = s ∷ dropping (unneeded ss (with_added held at s)) (trimmed_from (needed ss (with_added held at s)) (at + 1) ss)

-- a proof of a formula, trimmed: the clauses of steps are numbered behind those of the formula
abbrev pub trimmed : Formula → Proof → Proof
trimmed f p = record { steps = trimmed_from [] (length f.clauses) p.steps }

-- ---- how many clauses are live

-- the greatest number of clauses that are added and not dropped after any of the steps
abbrev pub most_live : Known → List ProofStep → ℕ
most_live k [] = 0
most_live k (s ∷ ss) = max (live_clauses (after k s)) (most_live (after k s) ss)

abbrev pub live_of : Proof → ℕ
live_of p = most_live nothing p.steps

-- how many clauses a step adds, and how many it drops
abbrev pub added_by : ProofStep → ℕ
added_by (Lemma clause lines) = 1
added_by (Rup clause hints) = 1
added_by (Drop numbers) = 0

abbrev pub dropped_by : ProofStep → ℕ
dropped_by (Lemma clause lines) = 0
dropped_by (Rup clause hints) = 0
dropped_by (Drop numbers) = length numbers
