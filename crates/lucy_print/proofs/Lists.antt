-- The text of a list, as a loop writes it.
use Rattle.std.proofs.Common.{◌≡◌, ℕ, zero, suc, ◌+◌, ◌<◌, ◌≤◌, List, [], ◌∷◌, ◌++◌, length, drop, get_or, refl, sym, ap, ◌∙◌, append_assoc, arith}
use Rattle.std.proofs.lemmas.List.{append-nil}
use Rattle.lucy_tree.specs.Words.{Words}
use Rattle.lucy_print.specs.Layout.{laid, texts}

-- what was written, and then the text of the items from `at` on, is the whole
pub record Writing {A : Type 0} (f : A → Words) (xs : List A) (at : ℕ) (out whole : List ℕ) : Type 0 where
  pub so_far : out ++ texts f (drop at xs) ≡ whole

pub begins : {A : Type 0} (f : A → Words) (xs : List A) (out : List ℕ) → Writing f xs 0 out (out ++ texts f xs)
begins f xs out = record { so_far = refl }

-- the text from an item on is that of the item and of those after it
texts_from : {A : Type 0} (f : A → Words) (at : ℕ) (xs : List A) (x : A) → at < length xs → x ≡ get_or xs at x → texts f (drop at xs) ≡ laid (f x) ++ texts f (drop (suc at) xs)
texts_from f at [] x below is = absurd (omega arith)
texts_from f zero (y ∷ ys) x below is = ap (λ z. laid (f z) ++ texts f ys) (sym is)
texts_from f (suc at) (y ∷ ys) x below is = texts_from f at ys x (omega arith) is

module _ {A : Type 0} {f : A → Words} {xs : List A} {at : ℕ} {out whole : List ℕ} (writing : Writing f xs at out whole) where
  -- after an item the list goes on
  pub goes_on : (x : A) (more : List ℕ) → at < length xs → x ≡ get_or xs at x → more ≡ out ++ laid (f x) → Writing f xs (at + 1) more whole
  goes_on x more below is put =
      let next : suc at ≡ at + 1 = omega arith in
      record {
        so_far = ap (λ n. more ++ texts f (drop n xs)) (sym next) ∙ ap (λ o. o ++ texts f (drop (suc at) xs)) put ∙ append_assoc out (laid (f x)) (texts f (drop (suc at) xs))
            ∙ ap (λ t. out ++ t) (sym (texts_from f at xs x below is)) ∙ writing.so_far;
      }

  -- no item is left
  pub is_over : length xs ≤ at → out ≡ whole
  is_over done = sym (append-nil out) ∙ ap (λ ys. out ++ texts f ys) (sym (none at xs done)) ∙ writing.so_far
    where
      none : (n : ℕ) (ys : List A) → length ys ≤ n → drop n ys ≡ []
      none zero [] h = refl
      none zero (y ∷ ys) h = absurd (omega arith)
      none (suc n) [] h = refl
      none (suc n) (y ∷ ys) h = none n ys (omega arith)

-- two pieces after a text
pub two : (o p q a b : List ℕ) → p ≡ o ++ a → q ≡ p ++ b → q ≡ o ++ (a ++ b)
two o p q a b e f = f ∙ ap (λ t. t ++ b) e ∙ append_assoc o a b
