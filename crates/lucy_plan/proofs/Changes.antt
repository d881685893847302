-- The leaves that a list of changes sets.
use Rattle.std.proofs.Common.{◌≡◌, ℕ, ◌+◌, ◌<◌, ◌==◌, true, false, if◌then◌else◌, List, [], ◌∷◌, ◌++◌, length, Some, take, drop, get_or, ap, sym, ◌∙◌}
use Rattle.std.specs.List.{list_any}
use Rattle.std.proofs.lemmas.List.{take_more}
use Rattle.lucy_plan.specs.declared.parts.Set.{Set}
use Rattle.lucy_plan.specs.declared.refusal.PlanError.TheVariants.{BadIndex}
use Rattle.lucy_plan.specs.Faults.{again_fault}
use Rattle.lucy_plan.proofs.Found.{rest_at}

now : (before : List Set) (x : Set) (sets : List Set) → list_any (λ earlier. earlier.leaf == x.leaf) before ≡ true → again_fault before (x ∷ sets) ≡ Some (BadIndex x.leaf)
now before x sets h = ap (λ b. if b then Some (BadIndex x.leaf) else again_fault (before ++ x ∷ []) sets) h

later : (before : List Set) (x : Set) (sets : List Set) → list_any (λ earlier. earlier.leaf == x.leaf) before ≡ false → again_fault before (x ∷ sets) ≡ again_fault (before ++ x ∷ []) sets
later before x sets h = ap (λ b. if b then Some (BadIndex x.leaf) else again_fault (before ++ x ∷ []) sets) h

pub again_now : (sets : List Set) (i : ℕ) (x : Set) → i < length sets → x ≡ get_or sets i x → list_any (λ earlier. earlier.leaf == x.leaf) (take i sets) ≡ true → again_fault (take i sets) (drop i sets) ≡ Some (BadIndex x.leaf)
again_now sets i x h e t = ap (again_fault (take i sets)) (rest_at sets i x h e) ∙ now (take i sets) x (drop (i + 1) sets) t

pub again_later : (sets : List Set) (i : ℕ) (x : Set) → i < length sets → x ≡ get_or sets i x → list_any (λ earlier. earlier.leaf == x.leaf) (take i sets) ≡ false → again_fault (take i sets) (drop i sets) ≡ again_fault (take (i + 1) sets) (drop (i + 1) sets)
again_later sets i x h e t =
    ap (again_fault (take i sets)) (rest_at sets i x h e) ∙ later (take i sets) x (drop (i + 1) sets) t
    ∙ ap (λ before. again_fault before (drop (i + 1) sets)) (ap (λ y. take i sets ++ y ∷ []) e ∙ sym (take_more sets i x h))
