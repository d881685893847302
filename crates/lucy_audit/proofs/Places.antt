-- Places of lists, and what holds below a number.
use Rattle.std.proofs.Common.{◌≡◌, ◌⊎◌, ◌<◌, ◌+◌, ℕ, zero, suc, List, [], ◌∷◌, length, map, ◌++◌, refl, sym, ap, ◌∙◌, subst, inl, inr, ⊎_elim, arith}
use Rattle.std.specs.Prelude.{Some, slice_get, Contains}
use Rattle.std.proofs.lemmas.List.{length-map}
use Rattle.std.proofs.lemmas.Option.{same_Some, slice_get_within, slice_get-get_or, get_or_from_slice_get}
use Rattle.lucy_audit.specs.Checks.{Below}

pub below_none : (Is : ℕ → Type 0) → Below 0 Is
below_none Is number h = absurd (omega (arith, h))

below_or_at : (number most : ℕ) → number < most + 1 → (number < most) ⊎ (number ≡ most)
below_or_at zero zero h = inr refl
below_or_at zero (suc most) h = inl (omega arith)
below_or_at (suc number) zero h = absurd (omega (arith, h))
below_or_at (suc number) (suc most) h = ⊎_elim (λ l. inl (omega (arith, l))) (λ e. inr (ap suc e)) (below_or_at number most (omega (arith, h)))

-- one more
pub below_more : (Is : ℕ → Type 0) (most : ℕ) → Below most Is → Is most → Below (most + 1) Is
below_more Is most below here number h = ⊎_elim (λ l. below number l) (λ e. subst Is (sym e) here) (below_or_at number most h)

-- lists of one length are the same where they are so place by place
pub same_lists : {A : Type 0} (xs ys : List A) → length xs ≡ length ys → Below (length xs) (λ place. slice_get xs place ≡ slice_get ys place) → xs ≡ ys
same_lists [] [] long below = refl
same_lists [] (y ∷ ys) long below = absurd (omega (arith, long))
same_lists (x ∷ xs) [] long below = absurd (omega (arith, long))
same_lists (x ∷ xs) (y ∷ ys) long below =
    let here : x ≡ y = same_Some x y (below 0 (omega arith)) in
    let rest = same_lists xs ys (omega (arith, long)) (λ place h. below (suc place) (omega (arith, h))) in
    ap (λ z. z ∷ xs) here ∙ ap (λ zs. y ∷ zs) rest

-- what stands in a mapped list is what something gives that stands in the list
pub from_map : {A B : Type 0} (f : A → B) (xs : List A) (place : ℕ) (y : B) → slice_get (map f xs) place ≡ Some y → (x : A) × (slice_get xs place ≡ Some x) × (f x ≡ y)
from_map f [] place y h = cc
from_map f (x ∷ xs) zero y h = (x, refl, same_Some (f x) y h)
from_map f (x ∷ xs) (suc place) y h = from_map f xs place y h

pub to_map : {A B : Type 0} (f : A → B) (xs : List A) (place : ℕ) (x : A) → slice_get xs place ≡ Some x → slice_get (map f xs) place ≡ Some (f x)
to_map f [] place x h = cc
to_map f (first ∷ xs) zero x h = ap (λ z. Some (f z)) (same_Some first x h)
to_map f (first ∷ xs) (suc place) x h = to_map f xs place x h

-- one place has one element
pub one_at : {A : Type 0} (xs : List A) (place : ℕ) (x y : A) → slice_get xs place ≡ Some x → slice_get xs place ≡ Some y → x ≡ y
one_at xs place x y h g = same_Some x y (sym h ∙ g)

-- a place below the length has an element
pub exists_at : {A : Type 0} (xs : List A) (place : ℕ) → place < length xs → (x : A) × (slice_get xs place ≡ Some x)
exists_at [] place h = absurd (omega (arith, h))
exists_at (x ∷ xs) zero h = (x, refl)
exists_at (x ∷ xs) (suc place) h = exists_at xs place (omega (arith, h))

-- what stands at a place is in the list, and what is in it stands at some place
pub contains_at : {A : Type 0} (xs : List A) (place : ℕ) (x : A) → slice_get xs place ≡ Some x → Contains xs x
contains_at xs place x h = (place, slice_get_within xs place x h, get_or_from_slice_get xs place x x h)

pub place_of : {A : Type 0} (xs : List A) (x : A) → Contains xs x → (place : ℕ) × (slice_get xs place ≡ Some x)
place_of xs x h = (h.0, slice_get-get_or xs h.0 x h.1 ∙ ap (λ y. Some y) h.2)

-- ---- a list with one more at its end
pub front_at : {A : Type 0} (xs ys : List A) (place : ℕ) (x : A) → slice_get xs place ≡ Some x → slice_get (xs ++ ys) place ≡ Some x
front_at [] ys place x h = cc
front_at (first ∷ xs) ys zero x h = h
front_at (first ∷ xs) ys (suc place) x h = front_at xs ys place x h

pub last_at : {A : Type 0} (xs : List A) (last : A) → slice_get (xs ++ last ∷ []) (length xs) ≡ Some last
last_at [] last = refl
last_at (first ∷ xs) last = last_at xs last

-- ---- a list that another is mapped to
pub mapped_many : {A B : Type 0} (f : A → B) (xs : List A) (ys : List B) → map f xs ≡ ys → length xs ≡ length ys
mapped_many f xs ys is = sym (length-map xs f) ∙ ap (λ list. length list) is

pub mapped_at : {A B : Type 0} (f : A → B) (xs : List A) (ys : List B) (place : ℕ) (x : A) → map f xs ≡ ys → slice_get xs place ≡ Some x → slice_get ys place ≡ Some (f x)
mapped_at f xs ys place x is at = subst (λ list. slice_get list place ≡ Some (f x)) is (to_map f xs place x at)
