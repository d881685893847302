-- Lists of items, as a loop reads them.
use Rattle.std.proofs.Common.{◌≡◌, ◌≢◌, ℕ, suc, ◌+◌, ◌-◌, ◌<◌, ◌≤◌, List, [], ◌∷◌, ◌++◌, length, Option, Some, None, Ok, Err, sym, ap, ◌∙◌, arith}
use Rattle.lucy_syntax.specs.declared.error.SyntaxError.{SyntaxError}
use Rattle.lucy_syntax.specs.declared.error.SyntaxError.TheVariants.{OutOfMemory}
use Rattle.lucy_syntax.specs.Input.{Input, Outcome, Parser, and_then}
use Rattle.lucy_syntax.specs.Lists.{many_from, many_step, many}

-- after `at` of `n` turns, with these items found, the whole is what is read from here on
pub record Turning {S A B : Type 0} (mark : Parser (Option S)) (build : S → A → B) (item : Parser A) (n at : ℕ) (found : List B) (i : Input) (total : Outcome (List B)) : Type 0 where
  pub so_far : many_from mark build item (n - at) found i ≡ total

pub begins : {S A B : Type 0} (mark : Parser (Option S)) (build : S → A → B) (item : Parser A) (i : Input) → Turning mark build item (length i.words) 0 [] i (many mark build item i)
unfolding many
begins mark build item i = let none : length i.words - 0 ≡ length i.words = omega arith in record { so_far = ap (λ m. many_from mark build item m [] i) none }

module _ {S A B : Type 0} {mark : Parser (Option S)} {build : S → A → B} {item : Parser A} {n at : ℕ} {found : List B} {i : Input} {total : Outcome (List B)} (turning : Turning mark build item n at found i total) where
  one_turn : at < n → and_then (mark i) (many_step build item (many_from mark build item (n - (at + 1))) found) ≡ total
  unfolding many_from
  one_turn below =
      let turn : n - at ≡ suc (n - (at + 1)) = omega arith in
      ap (λ m. many_from mark build item m found i) (sym turn) ∙ turning.so_far

  -- after an item the list goes on
  pub goes_on : at < n → (j m : Input) (s : S) (x : A) → mark i ≡ Ok (Some s, j) → item j ≡ Ok (x, m) → Turning mark build item n (at + 1) (found ++ build s x ∷ []) m total
  goes_on below j m s x eaten read = record {
    so_far = sym (ap (λ e. and_then e (many_step build item (many_from mark build item (n - (at + 1))) found)) eaten
        ∙ ap (λ r. and_then r (λ y. many_from mark build item (n - (at + 1)) (found ++ build s y ∷ []))) read) ∙ one_turn below;
  }

  -- without a mark it ends
  pub ends : at < n → (j : Input) → mark i ≡ Ok (None, j) → total ≡ Ok (found, j)
  ends below j eaten = sym (one_turn below) ∙ ap (λ e. and_then e (many_step build item (many_from mark build item (n - (at + 1))) found)) eaten

  -- an item that stops the reading stops the list
  pub fails : at < n → (j : Input) (s : S) (e : SyntaxError) → mark i ≡ Ok (Some s, j) → (e ≢ OutOfMemory → item j ≡ Err e) → e ≢ OutOfMemory → total ≡ Err e
  fails below j s e eaten read other =
      sym (one_turn below) ∙ ap (λ r. and_then r (many_step build item (many_from mark build item (n - (at + 1))) found)) eaten
      ∙ ap (λ r. and_then r (λ y. many_from mark build item (n - (at + 1)) (found ++ build s y ∷ []))) (read other)

  -- no turn is left
  pub is_over : n ≤ at → total ≡ Ok (found, i)
  unfolding many_from
  is_over done =
      let none : n - at ≡ 0 = omega arith in
      sym turning.so_far ∙ ap (λ m. many_from mark build item m found i) none
