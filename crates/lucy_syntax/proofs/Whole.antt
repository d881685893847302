-- A text that is read as a tree is spelled by it.
use Rattle.std.proofs.Common.{◌≡◌, ℕ, ◌≤◌, List, [], ◌∷◌, ◌++◌, length, Result, Ok, Err, refl, sym, ap, ◌∙◌}
use Rattle.std.proofs.lemmas.List.{append-nil}
use Rattle.lucy_lexer.specs.declared.token.Token.{Token}
use Rattle.lucy_lexer.specs.Laws.{EqualKinds}
use Rattle.lucy_lexer.specs.Reading.{Tokens, tokens_of}
use Rattle.lucy_tree.specs.declared.plans.Tree.{Tree}
use Rattle.lucy_tree.specs.Words.{Words}
use Rattle.lucy_tree.specs.Spelling.{spelling}
use Rattle.lucy_tree.specs.Nesting.{nesting}
use Rattle.lucy_syntax.specs.declared.error.SyntaxError.{SyntaxError}
use Rattle.lucy_syntax.specs.Input.{Input, Outcome, input_of, words_of}
use Rattle.lucy_syntax.specs.Plans.{plan}
use Rattle.lucy_syntax.specs.Parsing.{only, ended, read, lexed, tree_of}
use Rattle.lucy_syntax.specs.Laws.{ReadIsSpelled, ReadIsWithin, SpelledIsRead}
use Rattle.lucy_syntax.proofs.Taking.{whole}
use Rattle.lucy_syntax.proofs.PlansComplete.{plan_completes}
use Rattle.lucy_syntax.proofs.PlansGiven.{plan_back}

abbrev made : Tree → Result Tree SyntaxError
made t = Ok t

abbrev refused : SyntaxError → Result Tree SyntaxError
refused e = Err e

abbrev read_as : Tree → Input → Outcome Tree
read_as t j = Ok (t, j)

-- where a tree is read, nothing is left
ended_is : (r : Outcome Tree) (tree : Tree) → ended r ≡ Ok tree → (j : Input) × (r ≡ read_as tree j) × (j.words ≡ [])
ended_is (Err e) tree h = absurd cc
ended_is (Ok p) tree h = by p.0 p.1 h
  where
    by : (t : Tree) (j : Input) → only t j.words ≡ Ok tree → (l : Input) × (read_as t j ≡ read_as tree l) × (l.words ≡ [])
    by t j h = at j.words j.end h
      where
        at : (ws : Words) (end : ℕ) → only t ws ≡ made tree → (l : Input) × (read_as t (input_of ws end) ≡ read_as tree l) × (l.words ≡ [])
        at [] end h = (input_of [] end, ap (λ u. read_as u (input_of [] end)) (same h), refl)
          where
            same : made t ≡ made tree → t ≡ tree
            same e = cc
        at (w ∷ ws) end h = absurd cc

read_is : (equal : EqualKinds) (text : List ℕ) (tokens : List Token) (tree : Tree) → read text tokens ≡ Ok tree → (words_of text tokens ≡ spelling tree) × (nesting tree ≤ 64)
unfolding read
read_is equal text tokens tree h =
    let e = ended_is (plan (input_of (words_of text tokens) (length text))) tree h in
    let t = (whole (plan_completes equal).reads).takes (input_of (words_of text tokens) (length text)) e.0 tree e.1 in
    (t.0.words ∙ ap (λ ws. spelling tree ++ ws) e.2 ∙ append-nil (spelling tree), t.1)

lexed_is : (equal : EqualKinds) (text : List ℕ) (ts : Tokens) (tree : Tree) → lexed text ts ≡ Ok tree
    → (tokens : List Token) × (ts ≡ Ok tokens) × (words_of text tokens ≡ spelling tree) × (nesting tree ≤ 64)
lexed_is equal text (Err e) tree h = absurd cc
lexed_is equal text (Ok tokens) tree h = let r = read_is equal text tokens tree h in (tokens, refl, r.0, r.1)

pub spelled : EqualKinds → ReadIsSpelled
unfolding tree_of
spelled equal text tree h = let r = lexed_is equal text (tokens_of text) tree h in (r.0, r.1, r.2)

pub within : EqualKinds → ReadIsWithin
unfolding tree_of
within equal text tree h = (lexed_is equal text (tokens_of text) tree h).3

given_back : (r : Outcome Tree) (tree : Tree) (end : ℕ) → r ≡ read_as tree (input_of [] end) → ended r ≡ Ok tree
given_back r tree end e = ap ended e

read_again : (text : List ℕ) (tokens : List Token) (tree : Tree) → nesting tree ≤ 64 → words_of text tokens ≡ spelling tree → read text tokens ≡ Ok tree
unfolding read
read_again text tokens tree fit e =
    given_back (plan (input_of (words_of text tokens) (length text))) tree (length text)
    (ap (λ ws. plan (input_of ws (length text))) (e ∙ sym (append-nil (spelling tree))) ∙ (plan_back tree [] fit).reads (length text))

pub again : SpelledIsRead
unfolding tree_of
again text tokens tree fit lexes e = ap (lexed text) lexes ∙ read_again text tokens tree fit e
