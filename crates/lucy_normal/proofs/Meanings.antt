-- The normal conditions of a condition hold where it does, and where it does not.
use Rattle.std.proofs.Common.{◌≡◌, ℕ, ◌+◌, ◌≤◌, ◌^◌, Bool, true, false, not, ◌||◌, ◌&&◌, ℤ, List, [], ◌∷◌, map, refl, sym, ap, ◌∙◌, subst}
use Rattle.std.specs.List.{list_all, list_any}
use Rattle.lucy_model.specs.declared.conditions.Condition.{Condition}
use Rattle.lucy_model.specs.declared.conditions.Condition.TheViews.{roll-Condition}
use Rattle.lucy_model.specs.declared.conditions.Condition.TheOpen.{Condition-F}
use Rattle.lucy_model.specs.declared.conditions.Condition.TheFolds.{fold-roll-Condition, ind-Condition, map-Condition}
use Rattle.lucy_model.specs.Conditions.{Test, test_step, holds_at, range_step, is_condition}
use Rattle.std.proofs.lemmas.List.Folds.{list_all-map}
use Rattle.lucy_normal.specs.declared.normals.Normal.{Normal}
use Rattle.lucy_normal.specs.Normals.{Sided, side, normal_step, normal_of, constant}
use Rattle.lucy_normal.specs.Shapes.{true_at, all_true_at, any_true_at}
use Rattle.lucy_normal.specs.Laws.{SaysState, signed, NormalMeans}
use Rattle.lucy_normal.proofs.Tests.{two, and_true, or_false}
use Rattle.lucy_normal.proofs.FlatLists.{list_any-map, true_all, true_any, all_of_is, any_of_is}
use Rattle.lucy_normal.proofs.Comparisons.{comparison_means, flag_means}

-- an assignment that says a state, over variables with room
pub record At (first leaves : ℕ) (xs a : List ℤ) : Type 0 where
  pub room : first + leaves ≤ 2 ^ 32
  pub state : SaysState first leaves xs a

-- both sides of a condition, of the test that it is, where its range test is passed
pub record Reads (xs a : List ℤ) (n : Sided) (h : Test) (ok : Bool) : Type 0 where
  pub is : ok ≡ true → (s : Bool) → true_at (n s) a ≡ signed s (h xs [])

abbrev EachThree : List ℤ → List ℤ → List Sided → List Test → List Bool → Type 0
EachThree xs a [] [] [] = Unit {0}
EachThree xs a (n ∷ ns) (h ∷ hs) (k ∷ ks) = Reads xs a n h k × EachThree xs a ns hs ks
EachThree xs a _ _ _ = ⊥

abbrev all_ok : List Bool → Bool
all_ok ks = list_all (λ (k : Bool). k) ks

abbrev all_hold : List ℤ → List Test → Bool
all_hold xs hs = list_all (λ (h : Test). h xs []) hs

abbrev any_holds : List ℤ → List Test → Bool
any_holds xs hs = list_any (λ (h : Test). h xs []) hs

-- what the sides of a list say, one after another
read_side : (xs a : List ℤ) (s : Bool) (ns : List Sided) (hs : List Test) (ks : List Bool) → EachThree xs a ns hs ks → all_ok ks ≡ true →
    map (λ (p : Normal). true_at p a) (side s ns) ≡ map (λ (h : Test). signed s (h xs [])) hs
read_side xs a s [] [] [] e ok = refl
read_side xs a s [] [] (k ∷ ks) e ok = absurd e
read_side xs a s [] (h ∷ hs) ks e ok = absurd e
read_side xs a s (n ∷ ns) [] ks e ok = absurd e
read_side xs a s (n ∷ ns) (h ∷ hs) [] e ok = absurd e
read_side xs a s (n ∷ ns) (h ∷ hs) (k ∷ ks) e ok =
    let t = two k (all_ok ks) ok in
    ap (λ (x : Bool). x ∷ map (λ (p : Normal). true_at p a) (side s ns)) (e.0.is t.0 s) ∙ ap (λ (ts : List Bool). signed s (h xs []) ∷ ts) (read_side xs a s ns hs ks e.1 t.1)

all_read : (xs a : List ℤ) (s : Bool) (ns : List Sided) (hs : List Test) (ks : List Bool) → EachThree xs a ns hs ks → all_ok ks ≡ true → all_true_at a (side s ns) ≡ list_all (λ (h : Test). signed s (h xs [])) hs
all_read xs a s ns hs ks e ok =
    sym (list_all-map (λ (b : Bool). b) (λ (p : Normal). true_at p a) (side s ns)) ∙ ap (list_all (λ (b : Bool). b)) (read_side xs a s ns hs ks e ok) ∙ list_all-map (λ (b : Bool). b) (λ (h : Test). signed s (h xs [])) hs

any_read : (xs a : List ℤ) (s : Bool) (ns : List Sided) (hs : List Test) (ks : List Bool) → EachThree xs a ns hs ks → all_ok ks ≡ true → any_true_at a (side s ns) ≡ list_any (λ (h : Test). signed s (h xs [])) hs
any_read xs a s ns hs ks e ok =
    sym (list_any-map (λ (b : Bool). b) (λ (p : Normal). true_at p a) (side s ns)) ∙ ap (list_any (λ (b : Bool). b)) (read_side xs a s ns hs ks e ok) ∙ list_any-map (λ (b : Bool). b) (λ (h : Test). signed s (h xs [])) hs

not_and : (x y : Bool) → (not x || not y) ≡ not (x && y)
not_and true y = refl
not_and false y = refl

not_or : (x y : Bool) → (not x && not y) ≡ not (x || y)
not_or true y = refl
not_or false y = refl

none_holds : (xs : List ℤ) (hs : List Test) → list_all (λ (h : Test). not (h xs [])) hs ≡ not (any_holds xs hs)
none_holds xs [] = refl
none_holds xs (h ∷ hs) = ap (λ (x : Bool). not (h xs []) && x) (none_holds xs hs) ∙ not_or (h xs []) (any_holds xs hs)

not_all_hold : (xs : List ℤ) (hs : List Test) → list_any (λ (h : Test). not (h xs [])) hs ≡ not (all_hold xs hs)
not_all_hold xs [] = refl
not_all_hold xs (h ∷ hs) = ap (λ (x : Bool). not (h xs []) || x) (not_all_hold xs hs) ∙ not_and (h xs []) (all_hold xs hs)

not_not : (x : Bool) → not (not x) ≡ x
not_not true = refl
not_not false = refl

always : (a : List ℤ) (s : Bool) → true_at (constant s) a ≡ signed s true
always a true = true_all a []
always a false = true_any a []

never : (a : List ℤ) (s : Bool) → true_at (constant (not s)) a ≡ signed s false
never a true = true_any a []
never a false = true_all a []

by_sign : (xs a : List ℤ) (n : Sided) (h : Test) (ok : Bool) → (ok ≡ true → true_at (n true) a ≡ h xs []) → (ok ≡ true → true_at (n false) a ≡ not (h xs [])) → Reads xs a n h ok
by_sign xs a n h ok e f = record { is = is }
  where
    is : ok ≡ true → (s : Bool) → true_at (n s) a ≡ signed s (h xs [])
    is k true = e k
    is k false = f k

turned : (xs a : List ℤ) (n : Sided) (h : Test) (ok : Bool) → Reads xs a n h ok → ok ≡ true → (s : Bool) → true_at (n (not s)) a ≡ signed s (not (h xs []))
turned xs a n h ok r k true = r.is k false
turned xs a n h ok r k false = r.is k true ∙ sym (not_not (h xs []))

-- a part and what holds of it
abbrev Part : ℕ → ℕ → List ℤ → List ℤ → Type 0
Part first leaves xs a = (c : Condition) × Reads xs a (normal_of first c) (holds_at c) (is_condition leaves 0 c)

abbrev conditions : (first leaves : ℕ) (xs a : List ℤ) → List (Part first leaves xs a) → List Condition
conditions first leaves xs a ys = map (λ (e : Part first leaves xs a). e.0) ys

pairs : (first leaves : ℕ) (xs a : List ℤ) (ys : List (Part first leaves xs a)) →
    EachThree xs a (map (normal_of first) (conditions first leaves xs a ys)) (map holds_at (conditions first leaves xs a ys)) (map (is_condition leaves 0) (conditions first leaves xs a ys))
pairs first leaves xs a [] = tt
pairs first leaves xs a (y ∷ ys) = (y.1, pairs first leaves xs a ys)

implied : (x y : Bool) → (x && not y) ≡ not (not x || y)
implied true y = refl
implied false y = refl

made : (first leaves : ℕ) (xs a : List ℤ) → At first leaves xs a → (y : Condition-F (Part first leaves xs a)) →
    Reads xs a (normal_step first (map-Condition Condition Sided (normal_of first) (map-Condition (Part first leaves xs a) Condition (λ e. e.0) y)))
    (test_step (map-Condition Condition Test holds_at (map-Condition (Part first leaves xs a) Condition (λ e. e.0) y)))
    (range_step leaves 0 (map-Condition Condition Bool (is_condition leaves 0) (map-Condition (Part first leaves xs a) Condition (λ e. e.0) y)))
made first leaves xs a at Condition-F.True = record { is = λ k s. always a s }
made first leaves xs a at Condition-F.False = record { is = λ k s. never a s }
made first leaves xs a at (Condition-F.Compare term op) = record { is = λ k s. comparison_means first leaves term op s xs a at.room k at.state }
made first leaves xs a at (Condition-F.Is leaf) = record { is = λ k s. flag_means first leaves leaf s xs a k at.state }
made first leaves xs a at (Condition-F.Not y) = record { is = turned xs a (normal_of first y.0) (holds_at y.0) (is_condition leaves 0 y.0) y.1 }
made first leaves xs a at (Condition-F.And ys) =
    let cs = conditions first leaves xs a ys in
    let ns = map (normal_of first) cs in
    let hs = map holds_at cs in
    let ks = map (is_condition leaves 0) cs in
    by_sign xs a (normal_step first (Condition-F.And ns)) (test_step (Condition-F.And hs)) (range_step leaves 0 (Condition-F.And ks))
    (λ k. (all_of_is a (side true ns) ∙ all_read xs a true ns hs ks (pairs first leaves xs a ys) k))
    (λ k. (any_of_is a (side false ns) ∙ any_read xs a false ns hs ks (pairs first leaves xs a ys) k ∙ not_all_hold xs hs))
made first leaves xs a at (Condition-F.Or ys) =
    let cs = conditions first leaves xs a ys in
    let ns = map (normal_of first) cs in
    let hs = map holds_at cs in
    let ks = map (is_condition leaves 0) cs in
    by_sign xs a (normal_step first (Condition-F.Or ns)) (test_step (Condition-F.Or hs)) (range_step leaves 0 (Condition-F.Or ks))
    (λ k. (any_of_is a (side true ns) ∙ any_read xs a true ns hs ks (pairs first leaves xs a ys) k))
    (λ k. (all_of_is a (side false ns) ∙ all_read xs a false ns hs ks (pairs first leaves xs a ys) k ∙ none_holds xs hs))
made first leaves xs a at (Condition-F.Implies y z) =
    let n = normal_of first y.0 in
    let m = normal_of first z.0 in
    let hy = holds_at y.0 in
    let hz = holds_at z.0 in
    let ky = is_condition leaves 0 y.0 in
    let kz = is_condition leaves 0 z.0 in
    by_sign xs a (normal_step first (Condition-F.Implies n m)) (test_step (Condition-F.Implies hy hz)) (ky && kz)
    (λ k. (any_of_is a (n false ∷ m true ∷ []) ∙ ap (λ (x : Bool). x || (true_at (m true) a || false)) (y.1.is (two ky kz k).0 false)
    ∙ ap (λ (x : Bool). not (hy xs []) || x) (or_false (true_at (m true) a) ∙ z.1.is (two ky kz k).1 true)))
    (λ k. (all_of_is a (n true ∷ m false ∷ []) ∙ ap (λ (x : Bool). x && (true_at (m false) a && true)) (y.1.is (two ky kz k).0 true)
    ∙ ap (λ (x : Bool). hy xs [] && x) (and_true (true_at (m false) a) ∙ z.1.is (two ky kz k).1 false) ∙ implied (hy xs []) (hz xs [])))

reads : (first leaves : ℕ) (xs a : List ℤ) → At first leaves xs a → (c : Condition) → Reads xs a (normal_of first c) (holds_at c) (is_condition leaves 0 c)
reads first leaves xs a at = ind-Condition (λ (c : Condition). Reads xs a (normal_of first c) (holds_at c) (is_condition leaves 0 c)) (λ x y e.
    subst (λ (n : Sided). Reads xs a n (holds_at (roll-Condition x)) (is_condition leaves 0 (roll-Condition x))) (sym (fold-roll-Condition Sided (normal_step first) x))
    (subst (λ (h : Test). Reads xs a (normal_step first (map-Condition Condition Sided (normal_of first) x)) h (is_condition leaves 0 (roll-Condition x))) (sym (fold-roll-Condition Test test_step x))
    (subst (λ (k : Bool). Reads xs a (normal_step first (map-Condition Condition Sided (normal_of first) x)) (test_step (map-Condition Condition Test holds_at x)) k) (sym (fold-roll-Condition Bool (range_step leaves 0) x))
    (subst (λ (z : Condition-F Condition). Reads xs a (normal_step first (map-Condition Condition Sided (normal_of first) z)) (test_step (map-Condition Condition Test holds_at z)) (range_step leaves 0 (map-Condition Condition Bool (is_condition leaves 0) z))) e
    (made first leaves xs a at y)))))

pub normal_means : NormalMeans
normal_means first leaves c positive state a room is says = (reads first leaves state a (record { room = room; state = says }) c).is is positive
