-- Words that are laid out one after the other.
use Rattle.std.proofs.Common.{◌≡◌, List, [], ◌∷◌, ◌++◌, refl, ap, sym, ◌∙◌, append_assoc, codes}
use Rattle.lucy_lexer.specs.Laws.{separator_byte}
use Rattle.lucy_lexer.specs.declared.token.TokenKind.TheVariants as k
use Rattle.lucy_tree.specs.declared.plans.Segment.{Segment}
use Rattle.lucy_tree.specs.Words.{Words, one, each, maybe}
use Rattle.lucy_tree.specs.Spelling.{name_words, cond_words, except_words, segment_words}
use Rattle.lucy_print.specs.Layout.{laid, texts, listed_words, written_word}

pub laid_append : (us vs : Words) → laid (us ++ vs) ≡ laid us ++ laid vs
laid_append [] vs = refl
laid_append (w ∷ us) vs =
    ap (λ t. (written_word w).text ++ separator_byte (written_word w).after ∷ t) (laid_append us vs)
    ∙ sym (append_assoc (written_word w).text (separator_byte (written_word w).after ∷ laid us) (laid vs))

pub texts_are : {A : Type 0} (f : A → Words) (xs : List A) → texts f xs ≡ laid (each f xs)
texts_are f [] = refl
texts_are f (x ∷ xs) = ap (λ t. laid (f x) ++ t) (texts_are f xs) ∙ sym (laid_append (f x) (each f xs))

pub segment_laid : (s : Segment) → laid (segment_words s) ≡ codes "segment " ++ (s.name.text ++ (codes " when " ++ (laid (cond_words s.cond) ++ laid (listed_words s))))
segment_laid s =
    let e = maybe except_words s.except in
    let d = one k.Do s.do_word in
    let ns = each name_words s.txns in
    let m = one k.Semicolon s.semicolon in
    let c = cond_words s.cond in
    let apart : c ++ e ++ d ++ ns ++ m ≡ c ++ (e ++ d ++ ns ++ m) = simp append_assoc in
    ap (λ z. codes "segment " ++ (s.name.text ++ (codes " when " ++ z))) (ap laid apart ∙ laid_append c (e ++ d ++ ns ++ m))
