-- Lists of which a front is mapped, as a loop leaves them.
use Rattle.std.proofs.Common.{◌≡◌, ℕ, zero, suc, ◌+◌, ◌<◌, ◌≤◌, List, [], ◌∷◌, map, length, drop, get_or, set, ap, refl, sym, ◌∙◌, arith, add-one, drop-cons, Bool, true, false, ◌&&◌}

-- the first i elements mapped, the others as they are
abbrev pub front_mapped : {A : Type 0} → (A → A) → ℕ → List A → List A
front_mapped f zero xs = xs
front_mapped f (suc i) [] = []
front_mapped f (suc i) (x ∷ xs) = f x ∷ front_mapped f i xs

pub length-front_mapped : {A : Type 0} (f : A → A) (i : ℕ) (xs : List A) → length (front_mapped f i xs) ≡ length xs
length-front_mapped f zero xs = refl
length-front_mapped f (suc i) [] = refl
length-front_mapped f (suc i) (x ∷ xs) = ap suc (length-front_mapped f i xs)

-- the element behind the front is as it was
pub get-front_mapped : {A : Type 0} (f : A → A) (i : ℕ) (xs : List A) (d : A) → get_or (front_mapped f i xs) i d ≡ get_or xs i d
get-front_mapped f zero xs d = refl
get-front_mapped f (suc i) [] d = refl
get-front_mapped f (suc i) (x ∷ xs) d = get-front_mapped f i xs d

-- mapping one element more
pub set-front_mapped : {A : Type 0} (f : A → A) (i : ℕ) (xs : List A) (d : A) → i < length xs → set (front_mapped f i xs) i (f (get_or xs i d)) ≡ front_mapped f (suc i) xs
set-front_mapped f i [] d h = absurd (omega arith)
set-front_mapped f zero (x ∷ xs) d h = refl
set-front_mapped f (suc i) (x ∷ xs) d h = ap (λ ys. f x ∷ ys) (set-front_mapped f i xs d (omega arith))

pub front_mapped-all : {A : Type 0} (f : A → A) (i : ℕ) (xs : List A) → length xs ≤ i → front_mapped f i xs ≡ map f xs
front_mapped-all f zero [] h = refl
front_mapped-all f zero (x ∷ xs) h = absurd (omega arith)
front_mapped-all f (suc i) [] h = refl
front_mapped-all f (suc i) (x ∷ xs) h = ap (λ ys. f x ∷ ys) (front_mapped-all f i xs (omega arith))

pub two_tests : (a b : Bool) → (a && b) ≡ true → (a ≡ true) × (b ≡ true)
two_tests true b h = (refl, h)
two_tests false b h = (h, absurd (cc))

pub both_tests : (a b : Bool) → a ≡ true → b ≡ true → (a && b) ≡ true
both_tests a b p q = ap (λ (x : Bool). x && b) p ∙ q

pub drop-at : {A : Type 0} (xs : List A) (i : ℕ) (d : A) → i < length xs → drop i xs ≡ get_or xs i d ∷ drop (i + 1) xs
drop-at xs i d below = rw (add-one, drop-cons xs i d) refl

-- a loop's turn: the element at i is replaced by what f makes of it
pub mapped_step : {A : Type 0} (f : A → A) (i : ℕ) (old now : List A) (x y : A) → i < length now → now ≡ front_mapped f i old → get_or now i x ≡ x → y ≡ f x → set now i y ≡ front_mapped f (i + 1) old
mapped_step f i old now x y lt is at made =
    let size = ap length is ∙ length-front_mapped f i old in
    let found = sym at ∙ ap (λ zs. get_or zs i x) is ∙ get-front_mapped f i old x in
    ap (λ zs. set zs i y) is ∙ ap (λ z. set (front_mapped f i old) i z) (made ∙ ap f found)
    ∙ set-front_mapped f i old x (omega (arith, size))
    ∙ ap (λ n. front_mapped f n old) (sym (add-one i))

pub mapped_end : {A : Type 0} (f : A → A) (i : ℕ) (old now : List A) → length now ≤ i → now ≡ front_mapped f i old → now ≡ map f old
mapped_end f i old now ends is = is ∙ front_mapped-all f i old (omega (arith, ap length is ∙ length-front_mapped f i old))

pub no_element : {A : Type 0} (xs : List A) → length xs ≡ 0 → xs ≡ []
no_element [] h = refl
no_element (x ∷ xs) h = absurd (omega (arith, h))
