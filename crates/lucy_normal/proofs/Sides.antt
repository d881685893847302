-- The sides of conditions, as the parts of what joins them.
use Rattle.std.proofs.Common.{◌≡◌, ℕ, ◌+◌, ◌<◌, Bool, true, false, not, List, [], ◌∷◌, ◌++◌, map, drop, length, get_or, refl, sym, ap, ◌∙◌, subst, append_assoc}
use Rattle.std.specs.Prelude.{IfOk, Result}
use Rattle.std.specs.declared.alloc.AllocError.{AllocError}
use Rattle.std.specs.List.{list_all}
use Rattle.std.proofs.lemmas.List.{append-nil}
use Rattle.lucy_clauses.proofs.Mapping.{drop-at}
use Rattle.lucy_model.specs.declared.conditions.Condition.{Condition}
use Rattle.lucy_model.specs.declared.conditions.Condition.TheVariants.{Implies, rolls-Implies}
use Rattle.lucy_model.specs.declared.conditions.Condition.TheOpen.{Condition-F}
use Rattle.lucy_model.specs.declared.conditions.Condition.TheFolds.{fold-roll-Condition}
use Rattle.lucy_model.specs.Conditions.{is_condition}
use Rattle.lucy_normal.specs.declared.joints.Joint.{Joint}
use Rattle.lucy_normal.specs.declared.joints.Joint.TheVariants as joint
use Rattle.lucy_normal.specs.declared.normals.Normal.{Normal}
use Rattle.lucy_normal.specs.Joints.{within, flat, one, joined, other, implied_joint}
use Rattle.lucy_normal.specs.Normals.{Sided, side, normal_step, normal_of}
use Rattle.lucy_normal.proofs.Tests.{two}
use Rattle.lucy_normal.proofs.ProperForms.{list_parts, two_parts}

abbrev pub sides_of : ℕ → Bool → List Condition → List Normal
sides_of first positive cs = side positive (map (normal_of first) cs)

abbrev pub are_conditions : ℕ → List Condition → Bool
are_conditions leaves cs = list_all (λ (b : Bool). b) (map (is_condition leaves 0) cs)

at : (cs : List Condition) (i : ℕ) (c : Condition) → i < length cs → c ≡ get_or cs i c → drop i cs ≡ c ∷ drop (i + 1) cs
at cs i c lt is = drop-at cs i c lt ∙ ap (λ (d : Condition). d ∷ drop (i + 1) cs) (sym is)

flat_cons : (j : Joint) (p : Normal) (ps : List Normal) → flat j (p ∷ ps) ≡ within j p ++ flat j ps
flat_cons joint.All p ps = refl
flat_cons joint.Any p ps = refl

flat_two : (j : Joint) (p q : Normal) → flat j (p ∷ q ∷ []) ≡ within j p ++ within j q
flat_two joint.All p q = ap (λ ns. within joint.All p ++ ns) (append-nil (within joint.All q))
flat_two joint.Any p q = ap (λ ns. within joint.Any p ++ ns) (append-nil (within joint.Any q))

-- one condition after another
pub sides_more : (first : ℕ) (positive : Bool) (j : Joint) (cs : List Condition) (i : ℕ) (c : Condition) (all before new : List Normal) → i < length cs → c ≡ get_or cs i c →
    all ≡ before ++ flat j (sides_of first positive (drop i cs)) → new ≡ before ++ within j (normal_of first c positive) → all ≡ new ++ flat j (sides_of first positive (drop (i + 1) cs))
sides_more first positive j cs i c all before new lt is so_far new_is =
    so_far ∙ ap (λ ds. before ++ flat j (sides_of first positive ds)) (at cs i c lt is)
    ∙ ap (λ ns. before ++ ns) (flat_cons j (normal_of first c positive) (sides_of first positive (drop (i + 1) cs)))
    ∙ sym (append_assoc before (within j (normal_of first c positive)) (flat j (sides_of first positive (drop (i + 1) cs))))
    ∙ ap (λ ns. ns ++ flat j (sides_of first positive (drop (i + 1) cs))) (sym new_is)

pub conditions_more : (leaves : ℕ) (cs : List Condition) (i : ℕ) (c : Condition) → i < length cs → c ≡ get_or cs i c → are_conditions leaves (drop i cs) ≡ true → are_conditions leaves (drop (i + 1) cs) ≡ true
conditions_more leaves cs i c lt is h =
    (two (is_condition leaves 0 c) (are_conditions leaves (drop (i + 1) cs)) (ap (are_conditions leaves) (sym (at cs i c lt is)) ∙ h)).1

-- what joins the sides likewise has them as its parts
pub list_likewise : (first : ℕ) (positive : Bool) (own j : Joint) (cs : List Condition) (old new : List Normal) (result : Result (Unit {0}) AllocError) → own ≡ j →
    IfOk result (λ _. new ≡ old ++ flat j (sides_of first positive cs)) → IfOk result (λ _. new ≡ old ++ within j (joined own (sides_of first positive cs)))
list_likewise first positive own j cs old new result e h =
    subst (λ (o : Joint). IfOk result (λ _. new ≡ old ++ within j (joined o (sides_of first positive cs)))) (sym e)
    (subst (λ (ns : List Normal). IfOk result (λ _. new ≡ old ++ ns)) (sym (list_parts first positive j cs)) h)

implied_is : (first : ℕ) (positive : Bool) (l r : Condition) →
    joined (implied_joint positive) (normal_of first l (not positive) ∷ normal_of first r positive ∷ []) ≡ normal_step first (Condition-F.Implies (normal_of first l) (normal_of first r)) positive
implied_is first true l r = refl
implied_is first false l r = refl

implication : (first : ℕ) (l r : Condition) → normal_of first (Implies l r) ≡ normal_step first (Condition-F.Implies (normal_of first l) (normal_of first r))
implication first l r = ap (normal_of first) (sym (rolls-Implies l r)) ∙ fold-roll-Condition Sided (normal_step first) (Condition-F.Implies l r)

-- what joins the two sides of an implication is its normal condition
implied_whole : (first : ℕ) (positive : Bool) (j : Joint) (c l r : Condition) → c ≡ Implies l r → j ≡ implied_joint positive →
    joined j (normal_of first l (not positive) ∷ normal_of first r positive ∷ []) ≡ normal_of first c positive
implied_whole first positive j c l r c_is j_is =
    ap (λ o. joined o (normal_of first l (not positive) ∷ normal_of first r positive ∷ [])) j_is ∙ implied_is first positive l r
    ∙ ap (λ (n : Sided). n positive) (sym (implication first l r)) ∙ ap (λ d. normal_of first d positive) (sym c_is)

-- an implication that is joined likewise has its two sides as its parts
pub implied_likewise : (first : ℕ) (positive : Bool) (own j : Joint) (c l r : Condition) (old between new : List Normal) (result : Result (Unit {0}) AllocError) →
    c ≡ Implies l r → own ≡ implied_joint positive → own ≡ j → between ≡ old ++ within j (normal_of first l (not positive)) →
    IfOk result (λ _. new ≡ between ++ within j (normal_of first r positive)) → IfOk result (λ _. new ≡ old ++ within j (normal_of first c positive))
implied_likewise first positive own j c l r old between new result c_is own_is same between_is h =
    let x : Normal = normal_of first l (not positive) in
    let y : Normal = normal_of first r positive in
    let parts : within j x ++ within j y ≡ within j (normal_of first c positive) =
    sym (flat_two j x y) ∙ sym (two_parts first (not positive) positive j l r) ∙ ap (within j) (implied_whole first positive j c l r c_is (sym same ∙ own_is)) in
    subst (λ (ns : List Normal). IfOk result (λ _. new ≡ ns))
    (ap (λ ns. ns ++ within j y) between_is ∙ append_assoc old (within j x) (within j y) ∙ ap (λ ns. old ++ ns) parts) h

-- an implication that is joined otherwise is what joins its two sides
pub implied_otherwise : (first : ℕ) (positive : Bool) (own j : Joint) (c l r : Condition) → c ≡ Implies l r → own ≡ implied_joint positive → own ≡ other j →
    within j (one (other j) (within (other j) (normal_of first l (not positive)) ++ within (other j) (normal_of first r positive))) ≡ within j (normal_of first c positive)
implied_otherwise first positive own j c l r c_is own_is otherwise =
    ap (λ ns. within j (one (other j) ns)) (sym (flat_two (other j) (normal_of first l (not positive)) (normal_of first r positive)))
    ∙ ap (within j) (implied_whole first positive (other j) c l r c_is (sym otherwise ∙ own_is))
