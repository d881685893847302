-- A proof refutes a formula exactly where it has no fault; and steps that are justified may be gone on with.
use Rattle.std.proofs.Common.{◌≡◌, ℕ, ◌+◌, Bool, true, false, List, [], ◌∷◌, ◌++◌, Option, Some, None, refl, ◌∙◌, ap, arith}
use Rattle.lucy_clauses.specs.declared.formulas.Formula.{Formula}
use Rattle.lucy_cert.specs.declared.steps.ProofStep.{ProofStep}
use Rattle.lucy_cert.specs.declared.steps.Why.{Why}
use Rattle.lucy_cert.specs.Justified.{Known, nothing, after, step_fault}
use Rattle.lucy_cert.specs.Refuting.{AreJustified, known_after, has_empty, fault_or, ending_fault, first_fault}
use Rattle.lucy_cert.specs.Laws.{RefutesExactly, StepsGoOn}

pub no_fault : (f : Formula) (live : Option ℕ) (at : ℕ) (k : Known) (steps : List ProofStep)
    → AreJustified f live k steps → has_empty f (known_after k steps) ≡ true → first_fault f live at k steps ≡ None
no_fault f live at k [] u e = ap (ending_fault at) e
no_fault f live at k (s ∷ ss) j e = ap (λ w. fault_or at w (first_fault f live (at + 1) (after k s) ss)) j.0 ∙ no_fault f live (at + 1) (after k s) ss j.1 e

-- what is left where a step has no fault
passed : (at : ℕ) (w : Option Why) (others : Option (ℕ × Why)) → fault_or at w others ≡ None → (w ≡ None) × (others ≡ None)
passed at None others e = (refl, e)
passed at (Some w) others e = absurd (grind (arith, e))

ended : (at : ℕ) (b : Bool) → ending_fault at b ≡ None → b ≡ true
ended at true e = refl
ended at false e = absurd (grind (arith, e))

pub none_are_justified : (f : Formula) (live : Option ℕ) (at : ℕ) (k : Known) (steps : List ProofStep)
    → first_fault f live at k steps ≡ None → AreJustified f live k steps × (has_empty f (known_after k steps) ≡ true)
none_are_justified f live at k [] e = (tt, ended at (has_empty f k) e)
none_are_justified f live at k (s ∷ ss) e =
    let p = passed at (step_fault f live k s) (first_fault f live (at + 1) (after k s) ss) e in
    let more = none_are_justified f live (at + 1) (after k s) ss p.1 in
    ((p.0, more.0), more.1)

pub known_after-push : (k : Known) (steps : List ProofStep) (s : ProofStep) → known_after k (steps ++ s ∷ []) ≡ after (known_after k steps) s
known_after-push k [] s = refl
known_after-push k (t ∷ ts) s = known_after-push (after k t) ts s

pub justified_push : (f : Formula) (live : Option ℕ) (k : Known) (steps : List ProofStep) (s : ProofStep)
    → AreJustified f live k steps → step_fault f live (known_after k steps) s ≡ None → AreJustified f live k (steps ++ s ∷ [])
justified_push f live k [] s j e = (e, tt)
justified_push f live k (t ∷ ts) s j e = (j.0, justified_push f live (after k t) ts s j.1 e)

pub steps_go_on : StepsGoOn
steps_go_on f live steps s j e = record { each = justified_push f live nothing steps s j.each e }

pub refutes_exactly : RefutesExactly
refutes_exactly f proof live =
    ((λ r. no_fault f live 0 nothing proof.steps r.justified r.empty), (λ e. let p = none_are_justified f live 0 nothing proof.steps e in record { justified = p.0; empty = p.1 }))
