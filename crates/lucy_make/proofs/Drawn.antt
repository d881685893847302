-- One more draw in a loop, and the end of the loop.
use Rattle.std.proofs.Common.{◌≡◌, ℕ, suc, ◌+◌, ◌-◌, ◌<◌, ◌≤◌, List, [], ◌∷◌, ◌++◌, length, drop, get_or, drop-cons, add-one, append_assoc, sym, ◌∙◌, ap, subst, arith}
use Rattle.rand_pcg.specs.Lcg.{Lcg}
use Rattle.lucy_calls.specs.declared.steps.Step.TheVariants.{Thaw}
use Rattle.lucy_make.specs.declared.steps.Script.{Script}
use Rattle.lucy_make.specs.Drawing.{Drawing, many}
use Rattle.lucy_make.specs.PlanTexts.{each_place}
use Rattle.lucy_make.specs.Steps.{with_step, submits, freeze_at, freezes, thaws, round, rounds}

-- one more made is one fewer left
pub many_more : {A : Type 0} (draw : Drawing A) (n i : ℕ) (made next : List A) (g after : Lcg) (x : A) (whole : List A × Lcg) → i < n → next ≡ made ++ x ∷ [] → (x, after) ≡ draw g → many draw (n - i) made g ≡ whole → many draw (n - (i + 1)) next after ≡ whole
many_more {A} draw n i made next g after x whole less grown h before =
    let e : n - i ≡ suc (n - (i + 1)) = omega arith in
    let stepped : many draw (suc (n - (i + 1))) made g ≡ whole = subst (λ m. many draw m made g ≡ whole) e before in
    let drawn : many draw (n - (i + 1)) (made ++ x ∷ []) after ≡ whole = subst (λ (p : A × Lcg). many draw (n - (i + 1)) (made ++ p.0 ∷ []) p.1 ≡ whole) (sym h) stepped in
    subst (λ xs. many draw (n - (i + 1)) xs after ≡ whole) (sym grown) drawn

-- none is left at the end
pub many_end : {A : Type 0} (draw : Drawing A) (n i : ℕ) (made : List A) (g : Lcg) (whole : List A × Lcg) → n ≤ i → many draw (n - i) made g ≡ whole → (made, g) ≡ whole
many_end draw n i made g whole all before =
    let e : n - i ≡ 0 = omega arith in subst (λ m. many draw m made g ≡ whole) e before

pub freeze_more : (replicas n i : ℕ) (made next whole : Script × Lcg) → i < n → next ≡ freeze_at i (submits replicas made.0 made.1) → freezes replicas (n - i) i made ≡ whole → freezes replicas (n - (i + 1)) (i + 1) next ≡ whole
freeze_more replicas n i made next whole less h before =
    let e : n - i ≡ suc (n - (i + 1)) = omega arith in
    let one : i + 1 ≡ suc i = omega arith in
    let stepped : freezes replicas (suc (n - (i + 1))) i made ≡ whole = subst (λ m. freezes replicas m i made ≡ whole) e before in
    let frozen : freezes replicas (n - (i + 1)) (suc i) next ≡ whole = subst (λ p. freezes replicas (n - (i + 1)) (suc i) p ≡ whole) (sym h) stepped in
    subst (λ k. freezes replicas (n - (i + 1)) k next ≡ whole) (sym one) frozen

pub freeze_end : (replicas n i : ℕ) (made whole : Script × Lcg) → n ≤ i → freezes replicas (n - i) i made ≡ whole → made ≡ whole
freeze_end replicas n i made whole all before =
    let e : n - i ≡ 0 = omega arith in subst (λ m. freezes replicas m i made ≡ whole) e before

pub thaw_more : (n i : ℕ) (made next whole : Script) → i < n → next ≡ with_step (Thaw i) made → thaws (n - i) i made ≡ whole → thaws (n - (i + 1)) (i + 1) next ≡ whole
thaw_more n i made next whole less h before =
    let e : n - i ≡ suc (n - (i + 1)) = omega arith in
    let one : i + 1 ≡ suc i = omega arith in
    let stepped : thaws (suc (n - (i + 1))) i made ≡ whole = subst (λ m. thaws m i made ≡ whole) e before in
    let thawed : thaws (n - (i + 1)) (suc i) next ≡ whole = subst (λ p. thaws (n - (i + 1)) (suc i) p ≡ whole) (sym h) stepped in
    subst (λ k. thaws (n - (i + 1)) k next ≡ whole) (sym one) thawed

pub thaw_end : (n i : ℕ) (made whole : Script) → n ≤ i → thaws (n - i) i made ≡ whole → made ≡ whole
thaw_end n i made whole all before =
    let e : n - i ≡ 0 = omega arith in subst (λ m. thaws m i made ≡ whole) e before

pub round_more : (replicas n i : ℕ) (made next whole : Script × Lcg) → i < n → next ≡ round replicas made.0 made.1 → rounds replicas (n - i) made ≡ whole → rounds replicas (n - (i + 1)) next ≡ whole
round_more replicas n i made next whole less h before =
    let e : n - i ≡ suc (n - (i + 1)) = omega arith in
    let stepped : rounds replicas (suc (n - (i + 1))) made ≡ whole = subst (λ m. rounds replicas m made ≡ whole) e before in
    subst (λ p. rounds replicas (n - (i + 1)) p ≡ whole) (sym h) stepped

pub round_end : (replicas n i : ℕ) (made whole : Script × Lcg) → n ≤ i → rounds replicas (n - i) made ≡ whole → made ≡ whole
round_end replicas n i made whole all before =
    let e : n - i ≡ 0 = omega arith in subst (λ m. rounds replicas m made ≡ whole) e before

-- one more place written is one fewer left
pub place_more : (text : ℕ → List ℕ) (xs : List ℕ) (i : ℕ) (out next whole : List ℕ) → i < length xs → next ≡ out ++ text i → out ++ each_place text i (drop i xs) ≡ whole → next ++ each_place text (i + 1) (drop (i + 1) xs) ≡ whole
place_more text xs i out next whole less grown before =
    let e : drop i xs ≡ get_or xs i 0 ∷ drop (i + 1) xs = rw add-one (drop-cons xs i 0 less) in
    let stepped : out ++ (text i ++ each_place text (i + 1) (drop (i + 1) xs)) ≡ whole = subst (λ ys. out ++ each_place text i ys ≡ whole) e before in
    ap (λ t. t ++ each_place text (i + 1) (drop (i + 1) xs)) grown ∙ append_assoc out (text i) (each_place text (i + 1) (drop (i + 1) xs)) ∙ stepped
