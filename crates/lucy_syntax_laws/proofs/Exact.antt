-- The place of a fault is exact.
use Rattle.std.proofs.Common.{◌≡◌, ◌⊎◌, inl, inr, ℕ, ◌≤◌, List, [], ◌∷◌, ◌++◌, length, Ok, Err, sym, ap, subst, ◌∙◌}
use Rattle.std.proofs.lemmas.List.{append-nil}
use Rattle.lucy_lexer.specs.declared.token.Token.{Token}
use Rattle.lucy_lexer.specs.Reading.{Tokens, tokens_of}
use Rattle.lucy_tree.specs.declared.plans.Tree.{Tree}
use Rattle.lucy_tree.specs.Words.{Words}
use Rattle.lucy_tree.specs.Spelling.{spelling}
use Rattle.lucy_tree.specs.Nesting.{nesting}
use Rattle.lucy_syntax.specs.declared.error.SyntaxError.{SyntaxError}
use Rattle.lucy_syntax.specs.declared.error.SyntaxError.TheVariants.{Syntax, TooDeep}
use Rattle.lucy_syntax.specs.Input.{here_in, words_of}
use Rattle.lucy_syntax.specs.Parsing.{tree_of}
use Rattle.lucy_syntax.specs.Laws.{ReadIsSpelled, ReadIsWithin}
use Rattle.lucy_syntax_laws.specs.Laws.{AreSame, SameWordsAreRead, NoTreeGoesOn, NoTreeGoesDeeper, SomeTextGoesOn, GoesFurther, FaultsAreExact}
use Rattle.lucy_syntax_laws.proofs.Faults.{refused, no_tree}

abbrev lexed : List Token → Tokens
lexed ts = Ok ts

one_list : (ts us : List Token) → lexed ts ≡ lexed us → ts ≡ us
one_list ts us e = cc

-- the words of a text that is read are those of its tree
words_are : ReadIsSpelled → (other : List ℕ) (others : List Token) (tree : Tree) → tokens_of other ≡ Ok others → tree_of other ≡ Ok tree → words_of other others ≡ spelling tree
words_are spells other others tree lexes h = let r = spells other tree h in ap (words_of other) (one_list others r.0 (sym lexes ∙ r.1)) ∙ r.2

module _ (same : SameWordsAreRead) (none : NoTreeGoesOn) (deep : NoTreeGoesDeeper) (text : List ℕ) (tokens : List Token) (e : SyntaxError) (lexes : tokens_of text ≡ Ok tokens) (fault : tree_of text ≡ Err e) where
  no_further : (before rest : Words) → words_of text tokens ≡ before ++ rest → (e ≡ Syntax (here_in rest (length text))) ⊎ (e ≡ TooDeep (here_in rest (length text)))
      → (tree : Tree) → nesting tree ≤ 64 → GoesFurther before rest (spelling tree) → ⊥
  no_further before [] words told tree fit further =
      let P : Words → Type 0 = λ ws. AreSame ws (spelling tree) in
      let r = same text tokens tree fit lexes (subst P (sym (append-nil before) ∙ sym words) further) in
      no_tree r.0 e (sym r.1 ∙ fault)
  no_further before (w ∷ ws) words (inl told) tree fit further = none text tokens before ws w tree lexes words (fault ∙ ap (λ d. refused d) told) fit further
  no_further before (w ∷ ws) words (inr told) tree fit further = deep text tokens before ws w tree lexes words (fault ∙ ap (λ d. refused d) told) fit further

pub exact : ReadIsSpelled → ReadIsWithin → SameWordsAreRead → NoTreeGoesOn → NoTreeGoesDeeper → SomeTextGoesOn → FaultsAreExact
exact spells within same none deep some text tokens e lexes fault =
    let g = some text tokens e lexes fault in (
      g,
      λ other others tree read h further.
          let P : Words → Type 0 = GoesFurther g.before g.rest in
          no_further same none deep text tokens e lexes fault g.before g.rest g.words g.told tree (within other tree h) (subst P (words_are spells other others tree read h) further),
    )
