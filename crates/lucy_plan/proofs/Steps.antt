-- One step over the leaves of an object and the numbers beside them.
use Rattle.std.proofs.Common.{◌≡◌, ℕ, ◌+◌, ◌<◌, ◌≤◌, ℤ, pos, negsuc, Bool, true, ◌&&◌, if◌then◌else◌, List, [], ◌∷◌, ◌++◌, length, get_or, take, drop, Some, None, refl, ap, subst, sym, ◌∙◌, arith}
use mir.Syntax.{w64, w128}
use mir.Val.{SFits, to_z, of_z}
use Rattle.std.proofs.Math.Facts.{sfits_widen}
use Rattle.std.proofs.lemmas.Int.{ints, to_z-of_z}
use Rattle.std.proofs.lemmas.List.{drop_all, drop_more, take_more}
use Rattle.lucy_model.specs.Ranges.{allows, all_allowed}
use Rattle.lucy_model.specs.declared.leaves.Leaf.{Leaf}
use Rattle.lucy_plan.specs.declared.refusal.PlanError.TheVariants.{BadStart}
use Rattle.lucy_plan.specs.Faults.{range_fault}
use Rattle.lucy_plan.specs.Segments.{IsStateNumber}
use Rattle.lucy_plan.proofs.Found.{rest_at}

-- a number of 128 bits that was tested
pub asked : (leaf : Leaf) (x : ℤ) (result b : Bool) → SFits w128 x → result ≡ allows leaf (to_z w128 (of_z w128 x)) → result ≡ b → allows leaf x ≡ b
asked leaf x result b fits is_result is_b = sym (ap (allows leaf) (to_z-of_z w128 x fits)) ∙ sym is_result ∙ is_b

-- a number of 64 bits that was widened and tested
pub tested : (leaf : Leaf) (x wide : ℤ) (result b : Bool) → SFits w64 x → SFits w128 wide → wide ≡ to_z w64 (of_z w64 x) → result ≡ allows leaf (to_z w128 (of_z w128 wide)) → result ≡ b → allows leaf x ≡ b
tested leaf x wide result b fits wide_fits is_wide is_result is_b =
    let back : to_z w128 (of_z w128 wide) ≡ x = to_z-of_z w128 wide wide_fits ∙ is_wide ∙ to_z-of_z w64 x fits in
    sym (ap (allows leaf) back) ∙ sym is_result ∙ is_b

-- a function of two lists, at the elements of one place
at_both : {X Y Z : Type 0} (f : List X → List Y → Z) (xs : List X) (ys : List Y) (i : ℕ) (x : X) (y d : Y) → i < length xs → x ≡ get_or xs i x → i < length ys → y ≡ get_or ys i d
    → f (drop i xs) (drop i ys) ≡ f (x ∷ drop (i + 1) xs) (y ∷ drop (i + 1) ys)
at_both f xs ys i x y d in_xs is_x in_ys is_y =
    ap (λ rest. f rest (drop i ys)) (rest_at xs i x in_xs is_x) ∙ ap (f (x ∷ drop (i + 1) xs)) (drop_more ys i d in_ys ∙ ap (λ z. z ∷ drop (i + 1) ys) (sym is_y))

-- what is left of the numbers is allowed, if the number here and the rest are
pub allowed_here : (object : List Leaf) (xs : List ℤ) (i : ℕ) (leaf : Leaf) (x d : ℤ) (b : Bool) → i < length object → leaf ≡ get_or object i leaf → i < length xs → x ≡ get_or xs i d → allows leaf x ≡ b
    → all_allowed (drop i object) (drop i xs) ≡ (b && all_allowed (drop (i + 1) object) (drop (i + 1) xs))
allowed_here object xs i leaf x d b in_object is_leaf in_xs is_x test =
    at_both all_allowed object xs i leaf x d in_object is_leaf in_xs is_x ∙ ap (λ t. t && all_allowed (drop (i + 1) object) (drop (i + 1) xs)) test

-- the same, where the number was widened and tested
pub next_allowed : (object : List Leaf) (xs : List ℤ) (i : ℕ) (leaf : Leaf) (wide : ℤ) (result b : Bool) → i < length object → leaf ≡ get_or object i leaf → i < length xs
    → SFits w64 (get_or xs i (pos 0)) → SFits w128 wide → wide ≡ to_z w64 (of_z w64 (get_or xs i (pos 0))) → result ≡ allows leaf (to_z w128 (of_z w128 wide)) → result ≡ b
    → all_allowed (drop i object) (drop i xs) ≡ (b && all_allowed (drop (i + 1) object) (drop (i + 1) xs))
next_allowed object xs i leaf wide result b in_object is_leaf in_xs fits wide_fits is_wide is_result is_b =
    let x = get_or xs i (pos 0) in
    allowed_here object xs i leaf x (pos 0) b in_object is_leaf in_xs refl (tested leaf x wide result b fits wide_fits is_wide is_result is_b)

-- after the last place nothing is left to test
pub allowed_end : (object : List Leaf) (xs : List ℤ) (i : ℕ) → length object ≤ i → length xs ≤ i → all_allowed (drop i object) (drop i xs) ≡ true
allowed_end object xs i object_done xs_done = ap (λ rest. all_allowed rest (drop i xs)) (drop_all i object object_done) ∙ ap (all_allowed []) (drop_all i xs xs_done)

-- the first fault in what is left of the numbers is here, or is that of the rest
pub fault_here : (object : List Leaf) (xs : List ℤ) (i : ℕ) (leaf : Leaf) (x d : ℤ) (b : Bool) → i < length object → leaf ≡ get_or object i leaf → i < length xs → x ≡ get_or xs i d → allows leaf x ≡ b
    → range_fault i (drop i object) (drop i xs) ≡ (if b then range_fault (i + 1) (drop (i + 1) object) (drop (i + 1) xs) else Some (BadStart i))
fault_here object xs i leaf x d b in_object is_leaf in_xs is_x test =
    at_both (range_fault i) object xs i leaf x d in_object is_leaf in_xs is_x
    ∙ ap (λ t. if t then range_fault (i + 1) (drop (i + 1) object) (drop (i + 1) xs) else Some (BadStart i)) test

no_numbers : (from : ℕ) (leaves : List Leaf) → range_fault from leaves [] ≡ None
no_numbers from [] = refl
no_numbers from (leaf ∷ leaves) = refl

-- after the last number there is no fault
pub fault_past_numbers : (object : List Leaf) (xs : List ℤ) (i : ℕ) → length xs ≤ i → range_fault i (drop i object) (drop i xs) ≡ None
fault_past_numbers object xs i done = ap (range_fault i (drop i object)) (drop_all i xs done) ∙ no_numbers i (drop i object)

-- after the last leaf there is no fault
pub fault_past_leaves : (object : List Leaf) (xs : List ℤ) (i : ℕ) → length object ≤ i → range_fault i (drop i object) (drop i xs) ≡ None
fault_past_leaves object xs i done = ap (λ rest. range_fault i rest (drop i xs)) (drop_all i object done)

-- a number of a state has 64 bits
pub state_fits : (x : ℤ) → IsStateNumber x → SFits w64 x
state_fits (pos n) h = record { sfits = omega (arith, ints, h.1) }
state_fits (negsuc n) h = record { sfits = omega (arith, ints, h.0) }

-- so it can be cast to 64 bits
pub cast_fits : (x : ℤ) → SFits w64 x → SFits w64 (to_z w128 (of_z w128 x))
cast_fits x fits = subst (SFits w64) (sym (to_z-of_z w128 x (sfits_widen tt fits))) fits

-- what is copied so far, and one number more
pub copied_more : (copied longer xs : List ℤ) (i : ℕ) (x : ℤ) → copied ≡ take i xs → i < length xs → x ≡ get_or xs i (pos 0) → SFits w64 x → longer ≡ copied ++ to_z w64 (of_z w64 (to_z w128 (of_z w128 x))) ∷ [] → longer ≡ take (i + 1) xs
copied_more copied longer xs i x so_far below is fits pushed =
    let back : to_z w64 (of_z w64 (to_z w128 (of_z w128 x))) ≡ x = ap (λ z. to_z w64 (of_z w64 z)) (to_z-of_z w128 x (sfits_widen tt fits)) ∙ to_z-of_z w64 x fits in
    pushed ∙ ap (λ zs. zs ++ to_z w64 (of_z w64 (to_z w128 (of_z w128 x))) ∷ []) so_far ∙ ap (λ z. take i xs ++ z ∷ []) (back ∙ is) ∙ sym (take_more xs i (pos 0) below)
