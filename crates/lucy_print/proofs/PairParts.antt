-- The text of a set and of a pair.
use Rattle.std.proofs.Common.{◌≡◌, List, ◌++◌, sym, ap, ◌∙◌, append_assoc, codes}
use Rattle.lucy_lexer.specs.declared.token.TokenKind.TheVariants as k
use Rattle.lucy_tree.specs.declared.marks.Span.{Span}
use Rattle.lucy_tree.specs.declared.marks.Name.{Name}
use Rattle.lucy_tree.specs.declared.objects.Field.{Field}
use Rattle.lucy_tree.specs.declared.objects.Field.TheVariants as the_field
use Rattle.lucy_tree.specs.declared.objects.Field.TheVariants.{rolls-Set, rolls-Pair}
use Rattle.lucy_tree.specs.Words.{one, each}
use Rattle.lucy_tree.proofs.Spelled.{set_field_is, pair_field_is}
use Rattle.lucy_print.specs.Layout.{laid, texts}
use Rattle.lucy_print.proofs.Laying.{laid_append, texts_are}
use Rattle.lucy_tree.specs.Spelling.{name_words, field_words}

pub pair_text : (s : Span) (n : Name) (a : Span) (xs : List Field) (b : Span)
    → laid (field_words (the_field.Pair s n a xs b)) ≡ codes "pair " ++ (laid (name_words n) ++ (codes "{\n" ++ (texts field_words xs ++ codes "}\n")))
pair_text s n a xs b = ap laid (pair_field_is s n a xs b)
    ∙ ap (λ z. codes "pair " ++ (n.text ++ (codes " {\n" ++ z))) (laid_append (each field_words xs) (one k.CloseBrace b) ∙ ap (λ z. z ++ codes "}\n") (sym (texts_are field_words xs)))
    ∙ simp append_assoc

pub set_text : (s : Span) (n : Name) (a : Span) (xs : List Name) (b e : Span)
    → laid (field_words (the_field.Set s n a xs b e)) ≡ codes "set " ++ (laid (name_words n) ++ (codes "{\n" ++ (laid (each name_words xs) ++ codes "}\n;\n")))
set_text s n a xs b e = ap laid (set_field_is s n a xs b e)
    ∙ ap (λ z. codes "set " ++ (n.text ++ (codes " {\n" ++ z)))
    (laid_append (each name_words xs ++ one k.CloseBrace b) (one k.Semicolon e) ∙ ap (λ z. z ++ codes ";\n") (laid_append (each name_words xs) (one k.CloseBrace b))
    ∙ append_assoc (laid (each name_words xs)) (codes "}\n") (codes ";\n"))
    ∙ simp append_assoc
