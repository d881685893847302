-- A name's text.
use Rattle.std.proofs.Common.{◌≡◌, ℕ, List, Bool, true, false, refl, sym, ap, ◌∙◌, cond as if_then, Result, Ok, Err}
use Rattle.std.specs.Str.{is_utf8}
use Rattle.std.specs.Prelude.{IsUtf8}
use Rattle.std.proofs.lemmas.Str.{IsUtf8-from_is_utf8, is_utf8-from_IsUtf8}
use Rattle.lucy_tree.specs.declared.marks.Name.{Name}
use Rattle.lucy_gather.specs.declared.error.ElabError.{ElabError}
use Rattle.lucy_gather.specs.declared.error.ElabError.TheVariants as error
use Rattle.lucy_elaborate.specs.Txns.{text_of}

abbrev pub by_test : Name → Bool → Result (List ℕ) ElabError
by_test name b = if_then b (Ok name.text) (Err (error.UnknownName name.span.start))

no_text : (bs : List ℕ) → (IsUtf8 bs → ⊥) → is_utf8 bs ≡ false
no_text bs h = by (is_utf8 bs) refl
  where
    by : (b : Bool) → is_utf8 bs ≡ b → b ≡ false
    by false e = refl
    by true e = absurd (h (IsUtf8-from_is_utf8 bs e))

pub text_no : (name : Name) (bs : List ℕ) → bs ≡ name.text → (IsUtf8 bs → ⊥) → text_of name ≡ Err (error.UnknownName name.span.start)
unfolding text_of
text_no name bs e h = ap (by_test name) (ap is_utf8 (sym e) ∙ no_text bs h)

pub text_yes : (name : Name) (bs text made : List ℕ) → bs ≡ name.text → IsUtf8 bs → text ≡ bs → made ≡ text → text_of name ≡ Ok made
unfolding text_of
text_yes name bs text made e h f g = ap (by_test name) (ap is_utf8 (sym e) ∙ is_utf8-from_IsUtf8 bs h) ∙ ap (λ (t : List ℕ). by_ok t) (sym e ∙ sym f ∙ sym g)
  where
    by_ok : List ℕ → Result (List ℕ) ElabError
    by_ok t = Ok t
