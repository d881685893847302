-- What a trial keeps: where nothing is refused, the needed parts that are over are refuted.
use Rattle.std.specs.Prelude.{◌≡◌, ℕ, nat_lt, ◌||◌, Bool, true, false, List, [], ◌∷◌, fold, length, Option, Some, None}
use Rattle.std.specs.List.{list_all}
use Rattle.lucy_clauses.specs.Formulas.{HasNoModel}
use Rattle.lucy_plan.specs.declared.parts.PlanParts.{PlanParts}
use Rattle.lucy_plan.specs.Segments.{IsWhole}
use Rattle.lucy_cert.specs.declared.names.PartName.{PartName}
use Rattle.lucy_cert.specs.declared.names.PartName.TheVariants.{Closure, Cover}
use Rattle.lucy_cert.specs.declared.steps.ProofStep.{ProofStep}
use Rattle.lucy_checker.specs.Checkers.{checker_of, checked}
use Rattle.lucy_judge.specs.declared.trial.Present.{Present}
use Rattle.lucy_judge.specs.declared.trial.Trial.{Trial}
use Rattle.lucy_judge.specs.Judging.{needed, formula_of, is_same}

abbrev pub contains : PartName → List PartName → Bool
contains name [] = false
contains name (n ∷ ns) = is_same name n || contains name ns

-- a closure is that of one of so many segments
abbrev pub name_fits : ℕ → PartName → Bool
name_fits segments (Closure k) = nat_lt k segments
name_fits segments Cover = true

abbrev pub names_fit : PlanParts → List PartName → Bool
names_fit plan names = list_all (name_fits (length plan.segments)) names

-- the checker of the present part was given some steps of a proof of its formula
pub record IsPresent (plan : PlanParts) (p : Present) : Type 0 where
  pub live : Option ℕ
  pub steps : List ProofStep
  pub is : p.checker ≡ fold checked (checker_of (formula_of plan p.name) live) steps

abbrev pub IsPresentOr : PlanParts → Option Present → Type 0
IsPresentOr plan None = Unit {0}
IsPresentOr plan (Some p) = IsPresent plan p

-- the parts that are not over
abbrev pub waiting : Option Present → List PartName → List PartName
waiting None due = due
waiting (Some p) due = p.name ∷ due

pub record IsTrial (plan : PlanParts) (t : Trial) : Type 0 where
  pub due : names_fit plan t.due ≡ true
  pub present : IsPresentOr plan t.present
  -- where nothing is refused, the start satisfies the invariant
  pub start : t.refusal ≡ None → IsWhole plan plan.start
  -- and the formulas of the needed parts that are over have no model
  pub over : t.refusal ≡ None → (name : PartName) → contains name (needed plan) ≡ true → contains name (waiting t.present t.due) ≡ false → HasNoModel (formula_of plan name)

abbrev pub IsTrialOr : PlanParts → Option Trial → Type 0
IsTrialOr plan None = Unit {0}
IsTrialOr plan (Some t) = IsTrial plan t
