-- Any number of items, each after a mark that says that it comes.
use Rattle.std.specs.Prelude.{ℕ, zero, suc, List, [], ◌∷◌, ◌++◌, length, Option, Some, None}
use Rattle.lucy_tree.specs.declared.marks.Span.{Span}
use Rattle.lucy_tree.specs.declared.marks.Then.{Then}
use Rattle.lucy_tree.specs.declared.marks.Chain.{Chain}
use Rattle.lucy_syntax.specs.Input.{Parser, ◌>>=◌, pure}

-- without a mark the list ends; after one an item has to come
abbrev pub many_step : {S A B : Type 0} → (S → A → B) → Parser A → (List B → Parser (List B)) → List B → Option S → Parser (List B)
many_step build item again found None = pure found
many_step build item again found (Some s) = item >>= λ x. again (found ++ build s x ∷ [])

-- the number bounds the turns: each reads a token at least
unfoldable pub many_from : {S A B : Type 0} → Parser (Option S) → (S → A → B) → Parser A → ℕ → List B → Parser (List B)
many_from mark build item zero found = pure found
many_from mark build item (suc n) found = mark >>= many_step build item (many_from mark build item n) found

unfoldable pub many : {S A B : Type 0} → Parser (Option S) → (S → A → B) → Parser A → Parser (List B)
many mark build item = λ i. many_from mark build item (length i.words) [] i

-- an item with the mark before it
abbrev pub then_of : {A : Type 0} → Span → A → Then A
then_of s x = record { mark = s; item = x }

-- an item whose mark is its own first token
abbrev pub alone : {A : Type 0} → Span → A → A
alone s x = x

-- an item, and then those with a mark before each
abbrev pub chain : {A : Type 0} → Parser A → Parser (List (Then A)) → Parser (Chain A)
chain item others = do
  first ← item
  more ← others
  pure (record { first = first; others = more })
