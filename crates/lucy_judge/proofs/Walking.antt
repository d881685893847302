-- A certificate that is judged a part and a step at a time is refused as the whole is.
use Rattle.std.proofs.Common.{◌≡◌, ℕ, Bool, true, false, cond, List, [], ◌∷◌, Option, Some, None, refl, sym, ap, ◌∙◌}
use Rattle.std.specs.Prelude.{fold}
use Rattle.std.specs.List.{list_all}
use Rattle.std.specs.Option.{option_or}
use Rattle.std.proofs.Math.Path.{subst}
use Rattle.std.proofs.lemmas.Bool.{and_parts}
use Rattle.lucy_plan.specs.declared.parts.PlanParts.{PlanParts}
use Rattle.lucy_cert.specs.declared.names.PartName.{PartName}
use Rattle.lucy_cert.specs.declared.steps.ProofStep.{ProofStep}
use Rattle.lucy_cert.specs.Certificates.{Part, part_names}
use Rattle.lucy_cert.specs.Names.{is_before, ascend}
use Rattle.lucy_cert.specs.Refuting.{fault_of}
use Rattle.lucy_checker.specs.Checkers.{CheckersAreExact, checker_of, checked}
use Rattle.lucy_judge.specs.declared.refusal.Refusal.{Refusal}
use Rattle.lucy_judge.specs.declared.refusal.Refusal.TheVariants.{Missing}
use Rattle.lucy_judge.specs.declared.trial.Present.{Present}
use Rattle.lucy_judge.specs.declared.trial.Trial.{Trial}
use Rattle.lucy_judge.specs.Judging.{needed, formula_of, is_same, proof_of, rejected, part_refusal, first_refusal, start_refusal}
use Rattle.lucy_judge.specs.Trials.{trial, refusal_so_far, present, passed, begun, step_taken, missing, refusal_at_end, whole_part_taken}
use Rattle.lucy_judge.specs.Laws.{JudgedInParts}
use Rattle.lucy_judge.proofs.Orders.{before_other, before_other', behind, same_is, all_behind, both_true, needed_ascend}

-- ---- first refusals

pub or_none : (r : Option Refusal) → option_or r None ≡ r
or_none None = refl
or_none (Some x) = refl

pub or_assoc : (r s t : Option Refusal) → option_or (option_or r s) t ≡ option_or r (option_or s t)
or_assoc None s t = refl
or_assoc (Some x) s t = refl

-- ---- the steps of one part

unread : (due : List PartName) (r : Option Refusal) (ss : List ProofStep) → fold step_taken (trial due None r) ss ≡ trial due None r
unread due r [] = refl
unread due r (s ∷ ss) = unread due r ss

read : (due : List PartName) (r : Option Refusal) (p : Present) (ss : List ProofStep)
    → fold step_taken (trial due (Some p) r) ss ≡ trial due (Some (record { name = p.name; checker = fold checked p.checker ss })) r
read due r p [] = refl
read due r p (s ∷ ss) = read due r (record { name = p.name; checker = checked p.checker s }) ss

-- ---- several parts

module _ (exact : CheckersAreExact) (plan : PlanParts) (live : Option ℕ) where
  abbrev after : Trial → List Part → Option Refusal
  after t ps = refusal_at_end (fold (whole_part_taken plan live) t ps)

  -- a part whose steps are over
  closes : (t : Trial) (ps : List Part) → after t ps ≡ after (trial t.due None (refusal_so_far t)) ps
  closes t [] = ap (λ r. option_or r (missing t.due)) (sym (or_none (refusal_so_far t)))
  closes t (p ∷ ps) =
      ap (λ r. after (fold step_taken (let left = passed p.0 r t.due in begun plan live p.0 left.0 left.1) p.1.steps) ps) (sym (or_none (refusal_so_far t)))

  absent : (n : PartName) (ps : List Part) → list_all (is_before n) (part_names ps) ≡ true → proof_of n ps ≡ None
  absent n [] up = refl
  absent n (p ∷ ps) up =
      let parts = and_parts (is_before n p.0) (list_all (is_before n) (part_names ps)) up in
      ap (λ b. cond b (Some p.1) (proof_of n ps)) (before_other' n p.0 parts.0) ∙ absent n ps parts.1

  skips : (x : Part) (ps : List Part) (ns : List PartName) → list_all (is_before x.0) ns ≡ true → first_refusal plan live ns (x ∷ ps) ≡ first_refusal plan live ns ps
  skips x ps [] up = refl
  skips x ps (n ∷ ns) up =
      let parts = and_parts (is_before x.0 n) (list_all (is_before x.0) ns) up in
      ap (λ b. option_or (part_refusal plan live n (cond b (Some x.1) (proof_of n ps))) (first_refusal plan live ns (x ∷ ps))) (before_other x.0 n parts.0)
      ∙ ap (λ q. option_or (part_refusal plan live n (proof_of n ps)) q) (skips x ps ns parts.1)

  abbrev IsOver : List Part → Type 0
  IsOver ps = (due : List PartName) → ascend due ≡ true → (r : Option Refusal) → after (trial due None r) ps ≡ option_or r (first_refusal plan live due ps)

  abbrev begins : Part → List Part → Option Refusal → List PartName → Option Refusal
  begins x ps r due = after (fold step_taken (let left = passed x.0 r due in begun plan live x.0 left.0 left.1) x.1.steps) ps

  -- the part is the next one that is due
  takes : (x : Part) (ps : List Part) → IsOver ps → (n : PartName) (ns : List PartName) → is_same n x.0 ≡ true → list_all (is_before n) ns ≡ true → ascend ns ≡ true → (r : Option Refusal)
      → after (fold step_taken (trial ns (Some (present plan live n)) r) x.1.steps) ps ≡ option_or r (first_refusal plan live (n ∷ ns) (x ∷ ps))
  takes x ps over n ns same up asc r =
      ap (λ t. after t ps) (read ns r (present plan live n) x.1.steps)
      ∙ closes (trial ns (Some (record { name = n; checker = fold checked (checker_of (formula_of plan n) live) x.1.steps })) r) ps
      ∙ ap (λ f. after (trial ns None (option_or r (rejected n f))) ps) (exact (formula_of plan n) live x.1.steps)
      ∙ over ns asc (option_or r (rejected n (fault_of (formula_of plan n) x.1 live)))
      ∙ or_assoc r (rejected n (fault_of (formula_of plan n) x.1 live)) (first_refusal plan live ns ps)
      ∙ ap (λ q. option_or r (option_or (rejected n (fault_of (formula_of plan n) x.1 live)) q)) (sym (skips x ps ns (subst (λ m. list_all (is_before m) ns ≡ true) (same_is n x.0 same) up)))
      ∙ ap (λ b. option_or r (option_or (part_refusal plan live n (cond b (Some x.1) (proof_of n ps))) (first_refusal plan live ns (x ∷ ps)))) (sym same)

  -- the part is none that is due
  passes : (x : Part) (ps : List Part) → IsOver ps → (n : PartName) (ns : List PartName) → is_before x.0 n ≡ true → list_all (is_before n) ns ≡ true → ascend ns ≡ true → (r : Option Refusal)
      → after (fold step_taken (trial (n ∷ ns) None r) x.1.steps) ps ≡ option_or r (first_refusal plan live (n ∷ ns) (x ∷ ps))
  passes x ps over n ns before up asc r =
      ap (λ t. after t ps) (unread (n ∷ ns) r x.1.steps)
      ∙ over (n ∷ ns) (both_true (list_all (is_before n) ns) (ascend ns) up asc) r
      ∙ ap (λ q. option_or r q) (sym (skips x ps (n ∷ ns) (both_true (is_before x.0 n) (list_all (is_before x.0) ns) before (all_behind x.0 n ns before up))))

  goes : (x : Part) (ps : List Part) → list_all (is_before x.0) (part_names ps) ≡ true → IsOver ps → (due : List PartName) → ascend due ≡ true → (r : Option Refusal)
      → begins x ps r due ≡ option_or r (first_refusal plan live due (x ∷ ps))
  goes x ps first over [] asc r = ap (λ t. after t ps) (unread [] r x.1.steps) ∙ over [] refl r
  goes x ps first over (n ∷ ns) asc r =
      let parts = and_parts (list_all (is_before n) ns) (ascend ns) asc in
      by_before (is_before n x.0) refl parts.0 parts.1 (goes x ps first over ns parts.1 (option_or r (Some (Missing n))))
    where
      by_same : (b : Bool) → is_same n x.0 ≡ b → is_before n x.0 ≡ false → list_all (is_before n) ns ≡ true → ascend ns ≡ true
          → after (fold step_taken (cond b (trial ns (Some (present plan live n)) r) (trial (n ∷ ns) None r)) x.1.steps) ps ≡ option_or r (first_refusal plan live (n ∷ ns) (x ∷ ps))
      by_same true e before up asc = takes x ps over n ns e up asc r
      by_same false e before up asc = passes x ps over n ns (behind n x.0 before e) up asc r

      by_before : (b : Bool) → is_before n x.0 ≡ b → list_all (is_before n) ns ≡ true → ascend ns ≡ true
          → begins x ps (option_or r (Some (Missing n))) ns ≡ option_or (option_or r (Some (Missing n))) (first_refusal plan live ns (x ∷ ps))
          → after (fold step_taken (let left = cond b (passed x.0 (option_or r (Some (Missing n))) ns) (r, n ∷ ns) in begun plan live x.0 left.0 left.1) x.1.steps) ps
          ≡ option_or r (first_refusal plan live (n ∷ ns) (x ∷ ps))
      by_before true e up asc later =
          later
          ∙ or_assoc r (Some (Missing n)) (first_refusal plan live ns (x ∷ ps))
          ∙ ap (λ p. option_or r (option_or (part_refusal plan live n p) (first_refusal plan live ns (x ∷ ps))))
          (sym (absent n (x ∷ ps) (both_true (is_before n x.0) (list_all (is_before n) (part_names ps)) e (all_behind n x.0 (part_names ps) e first))))
      by_before false e up asc later = by_same (is_same n x.0) refl e up asc

  pub is_over : (ps : List Part) → ascend (part_names ps) ≡ true → IsOver ps
  is_over [] up [] asc r = ap (λ q. option_or q None) (or_none r)
  is_over [] up (n ∷ ns) asc r = ap (λ q. option_or q (Some (Missing n))) (or_none r)
  is_over (p ∷ ps) up due asc r =
      let parts = and_parts (list_all (is_before p.0) (part_names ps)) (ascend (part_names ps)) up in
      ap (λ q. begins p ps q due) (or_none r) ∙ goes p ps parts.0 (is_over ps parts.1) due asc r

pub in_parts : CheckersAreExact → JudgedInParts
in_parts exact plan certificate up =
    is_over exact plan certificate.live certificate.parts up (needed plan) (needed_ascend plan) (start_refusal plan)
