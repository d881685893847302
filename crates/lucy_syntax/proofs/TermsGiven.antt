-- Names, numbers and terms that are spelled are read back.
use Rattle.std.proofs.Common.{◌≡◌, List, [], ◌∷◌, ◌++◌, true, false, Option, Some, None, refl, ap, ◌∙◌, append_assoc, arith}
use Rattle.lucy_lexer.specs.declared.token.TokenKind.TheVariants as k
use Rattle.lucy_tree.specs.declared.marks.Span.{Span}
use Rattle.lucy_tree.specs.declared.marks.Name.{Name}
use Rattle.lucy_tree.specs.declared.marks.Int.{Int}
use Rattle.lucy_tree.specs.declared.marks.Then.{Then}
use Rattle.lucy_tree.specs.declared.marks.Chain.{Chain}
use Rattle.lucy_tree.specs.declared.marks.Bounds.{Bounds}
use Rattle.lucy_tree.specs.declared.terms.Factor.{Factor}
use Rattle.lucy_tree.specs.declared.terms.Factor.TheVariants as the_factor
use Rattle.lucy_tree.specs.declared.terms.Product.{Product}
use Rattle.lucy_tree.specs.declared.terms.Sign.{Sign}
use Rattle.lucy_tree.specs.declared.terms.Sign.TheVariants as the_sign
use Rattle.lucy_tree.specs.declared.terms.Added.{Added}
use Rattle.lucy_tree.specs.declared.terms.Term.{Term}
use Rattle.lucy_tree.specs.Words.{Words, one, maybe_one, each, maybe, then_words}
use Rattle.lucy_tree.specs.Spelling.{name_words, path_words, number_words, int_words, bounds_words, factor_words, product_words, sign_kind, added_words, term_words}
use Rattle.lucy_syntax.specs.Input.{and_then, kind_in, eat, name}
use Rattle.lucy_syntax.specs.Terms.{names, steps, path, int, bounds, size, factor, factor_by, times, product_after, product, sign, sign_by, minus_by, added, added_of, term_after, term}
use Rattle.lucy_syntax.proofs.Giving.{Gives, AllOf, is_there, starts, gives_bind, gives_last, gives_pure, gives_none, gives_as, gives_look, name_gives, number_gives, eat_some, eat_none, expect_gives, many_back, chain_back, listed_back}
use Rattle.lucy_syntax.proofs.Follows.{ends_path, ends_product, ends_term, no_dot, no_star, no_plus, no_minus, within}

abbrev pub Anything : {A : Type 0} → A → Type 0
Anything a = Unit {0}

pub all_any : {A : Type 0} (xs : List A) → AllOf Anything xs
all_any [] = tt
all_any (x ∷ xs) = (tt, all_any xs)

pub names_back : (ns : List Name) (rest : Words) → starts (k.Name ∷ []) rest ≡ false → Gives names (each name_words ns) ns rest
unfolding names
names_back ns rest stop = listed_back (k.Name ∷ []) name name_words Anything (λ n. record { first = _; others = []; are = refl; is = refl }) (λ n more _. name_gives n) ns rest (all_any ns) stop

pub path_back : (p : Chain Name) (rest : Words) → ends_path (kind_in rest) ≡ true → Gives path (path_words p) p rest
unfolding path steps
path_back p rest ok = chain_back k.Dot refl name name_words Anything Anything (λ n more _ _. name_gives n) (λ s more. tt) p rest tt (all_any p.others) tt (no_dot (kind_in rest) ok)

pub int_back : (i : Int) (rest : Words) → Gives int (int_words i) i rest
unfolding int
int_back i rest = by i.minus
  where
    by : (m : Option Span) → Gives int (maybe_one k.Minus m ++ number_words i.number) (record { minus = m; number = i.number }) rest
    by None = gives_none _ (eat_none k.Minus (number_words i.number ++ rest) refl) (gives_last _ (number_gives i.number))
    by (Some s) = gives_bind _ (eat_some k.Minus refl s) (gives_last _ (number_gives i.number))

pub bounds_back : (b : Bounds) (rest : Words) → Gives bounds (bounds_words b) b rest
unfolding bounds
bounds_back b rest =
    gives_as (gives_bind _ (expect_gives k.In refl b.in_word) (gives_bind _ (int_back b.low _) (gives_bind _ (expect_gives k.DotDot refl b.dots) (gives_last _ (int_back b.high rest))))) (simp append_assoc)

size_back : (w a : Span) (p : Chain Name) (b : Span) (rest : Words) → Gives size (factor_words (the_factor.Size w a p b)) (the_factor.Size w a p b) rest
unfolding size
size_back w a p b rest =
    gives_as (gives_bind _ (expect_gives k.Size refl w) (gives_bind _ (expect_gives k.OpenParen refl a) (gives_bind _ (path_back p _ refl) (gives_last _ (expect_gives k.CloseParen refl b))))) (simp append_assoc)

pub factor_back : (f : Factor) (rest : Words) → ends_path (kind_in rest) ≡ true → Gives factor (factor_words f) f rest
unfolding factor
factor_back (the_factor.Number n) rest ok = gives_look factor_by (Some (k.Number n.value)) refl (gives_last _ (number_gives n))
factor_back (the_factor.Path p) rest ok = gives_look factor_by (Some k.Name) refl (gives_last _ (path_back p rest ok))
factor_back (the_factor.Size w a p b) rest ok = gives_look factor_by (Some k.Size) refl (size_back w a p b rest)

times_back : (second : Option (Then Factor)) (rest : Words) → ends_product (kind_in rest) ≡ true → Gives times (maybe (then_words k.Star factor_words) second) second rest
unfolding times
times_back None rest ok = gives_none _ (eat_none k.Star rest (no_star (kind_in rest) ok)) gives_pure
times_back (Some t) rest ok = gives_bind _ (eat_some k.Star refl t.mark) (gives_last _ (factor_back t.item rest (within 0 (kind_in rest) ok)))

-- after the first factor comes `*`, or what ends a product
pub after_first : (second : Option (Then Factor)) (rest : Words) → ends_product (kind_in rest) ≡ true → ends_path (kind_in (maybe (then_words k.Star factor_words) second ++ rest)) ≡ true
after_first None rest ok = within 0 (kind_in rest) ok
after_first (Some t) rest ok = refl

pub product_after_back : (first : Factor) (second : Option (Then Factor)) (rest : Words) → ends_product (kind_in rest) ≡ true
    → Gives (product_after first) (maybe (then_words k.Star factor_words) second) (record { first = first; second = second }) rest
unfolding product_after
product_after_back first second rest ok = gives_last _ (times_back second rest ok)

product_back : (p : Product) (rest : Words) → ends_product (kind_in rest) ≡ true → Gives product (product_words p) p rest
unfolding product
product_back p rest ok = gives_bind _ (factor_back p.first _ (after_first p.second rest ok)) (product_after_back p.first p.second rest ok)

sign_back : (sign' : Sign) (s : Span) (rest : Words) → Gives sign (one (sign_kind sign') s) (Some (sign', s)) rest
unfolding sign
sign_back the_sign.Plus s rest = gives_last' (eat_some k.Plus refl s)
  where
    gives_last' : Gives (eat k.Plus) (one k.Plus s) (Some s) rest → Gives sign (one k.Plus s) (Some (the_sign.Plus, s)) rest
    gives_last' g = record { reads = λ end. ap (λ r. and_then r sign_by) (g.reads end) }
sign_back the_sign.Minus s rest = gives_none _ (eat_none k.Plus (one k.Minus s ++ rest) refl) (minus (eat_some k.Minus refl s))
  where
    minus : Gives (eat k.Minus) (one k.Minus s) (Some s) rest → Gives (sign_by None) (one k.Minus s) (Some (the_sign.Minus, s)) rest
    minus g = record { reads = λ end. ap (λ r. and_then r minus_by) (g.reads end) }

no_sign : (rest : Words) → ends_term (kind_in rest) ≡ true → Gives sign [] None rest
unfolding sign
no_sign rest ok = gives_none _ (eat_none k.Plus rest (no_plus (kind_in rest) ok)) (gives_none _ (eat_none k.Minus rest (no_minus (kind_in rest) ok)) gives_pure)

-- after a product comes another sign, or what ends a term
pub after_product : (others : List Added) (rest : Words) → ends_term (kind_in rest) ≡ true → ends_product (kind_in (each added_words others ++ rest)) ≡ true
after_product [] rest ok = within 1 (kind_in rest) ok
after_product (a ∷ as') rest ok = by a.sign
  where
    by : (sign' : Sign) → ends_product (Some (sign_kind sign')) ≡ true
    by the_sign.Plus = refl
    by the_sign.Minus = refl

after_sign : (sign' : Sign) → ends_product (Some (sign_kind sign')) ≡ true
after_sign the_sign.Plus = refl
after_sign the_sign.Minus = refl

added_back : (as' : List Added) (rest : Words) → ends_term (kind_in rest) ≡ true → Gives added (each added_words as') as' rest
unfolding added
added_back as' rest ok =
    many_back sign added_of product added_words Anything (λ ws. ends_product (kind_in ws) ≡ true) (λ a. omega arith)
    (λ a more _ next. record { sign = (a.sign, a.mark); words = product_words a.product; value = a.product; marks = λ end. (sign_back a.sign a.mark (product_words a.product ++ more)).reads end; items = product_back a.product more next; built = refl })
    (λ a more. after_sign a.sign) as' rest (all_any as') (within 1 (kind_in rest) ok) (no_sign rest ok)

pub term_after_back : (minus : Option Span) (first : Product) (others : List Added) (rest : Words) → ends_term (kind_in rest) ≡ true
    → Gives (term_after minus first) (each added_words others) (record { minus = minus; first = first; others = others }) rest
unfolding term_after
term_after_back minus first others rest ok = gives_last _ (added_back others rest ok)

factor_begins : (f : Factor) (ws : Words) → is_there (kind_in (factor_words f ++ ws)) k.Minus ≡ false
factor_begins (the_factor.Number n) ws = refl
factor_begins (the_factor.Path p) ws = refl
factor_begins (the_factor.Size w a p b) ws = refl

pub term_back : (t : Term) (rest : Words) → ends_term (kind_in rest) ≡ true → Gives term (term_words t) t rest
unfolding term
term_back t rest ok = by t.minus
  where
    by : (m : Option Span) → Gives term (maybe_one k.Minus m ++ product_words t.first ++ each added_words t.others) (record { minus = m; first = t.first; others = t.others }) rest
    by None = gives_none _ (eat_none k.Minus (product_words t.first ++ each added_words t.others ++ rest) (ap (λ ws. is_there (kind_in ws) k.Minus) (append_assoc (product_words t.first) (each added_words t.others) rest) ∙ no_minus_first (each added_words t.others ++ rest)))
        (gives_bind _ (product_back t.first _ (after_product t.others rest ok)) (term_after_back None t.first t.others rest ok))
      where
        no_minus_first : (ws : Words) → is_there (kind_in (product_words t.first ++ ws)) k.Minus ≡ false
        no_minus_first ws = ap (λ us. is_there (kind_in us) k.Minus) (append_assoc (factor_words t.first.first) (maybe (then_words k.Star factor_words) t.first.second) ws) ∙ factor_begins t.first.first _
    by (Some s) = gives_as (gives_bind _ (eat_some k.Minus refl s) (gives_bind _ (product_back t.first _ (after_product t.others rest ok)) (term_after_back (Some s) t.first t.others rest ok))) (simp append_assoc)
