-- What a tree spells is read back, whatever stands after it that does not go on with it.
use Rattle.std.proofs.Common.{◌≡◌, ℕ, zero, suc, ◌+◌, ◌≤◌, ◌<◌, List, [], ◌∷◌, ◌++◌, ◌==◌, length, Bool, true, false, Option, Some, None, Ok, refl, sym, ap, subst, ◌∙◌, append_assoc, length-append, arith}
use Rattle.std.proofs.lemmas.List.{append-nil}
use Rattle.std.proofs.lemmas.Bool.Decides.{nat_tests}
use Rattle.std.specs.List.{list_any}
use Rattle.lucy_lexer.specs.declared.token.TokenKind.{TokenKind}
use Rattle.lucy_lexer.specs.Kind.{is_kind}
use Rattle.lucy_tree.specs.declared.marks.Span.{Span}
use Rattle.lucy_tree.specs.declared.marks.Name.{Name}
use Rattle.lucy_tree.specs.declared.marks.Number.{Number}
use Rattle.lucy_tree.specs.declared.marks.Then.{Then}
use Rattle.lucy_tree.specs.declared.marks.Chain.{Chain}
use Rattle.lucy_tree.specs.Words.{Word, Words, plain, kind_of, span_of, one, each, then_words, chain_words}
use Rattle.lucy_tree.specs.Spelling.{name_words, number_words}
use Rattle.lucy_syntax.specs.Input.{Parser, and_then, input_of, kind_in, look, peek, eat, expect, ahead, name, number, opened}
use Rattle.lucy_syntax.specs.Lists.{many, many_from, many_step, then_of, alone, chain}

-- the parser reads the words as the value, and leaves the rest
pub record Gives {A : Type 0} (p : Parser A) (ws : Words) (a : A) (rest : Words) : Type 0 where
  pub reads : (end : ℕ) → p (input_of (ws ++ rest) end) ≡ Ok (a, input_of rest end)

pub gives_bind : {A B : Type 0} {p : Parser A} (q : A → Parser B) {us vs : Words} {a : A} {b : B} {rest : Words}
    → Gives p us a (vs ++ rest) → Gives (q a) vs b rest → Gives (λ i. and_then (p i) q) (us ++ vs) b rest
gives_bind {A} {B} {p} q {us} {vs} {a} {b} {rest} first then = record {
  reads = λ end.
      ap (λ ws. and_then (p (input_of ws end)) q) (append_assoc us vs rest) ∙ ap (λ r. and_then r q) (first.reads end) ∙ then.reads end;
}

pub gives_last : {A B : Type 0} {p : Parser A} (make : A → B) {us : Words} {a : A} {rest : Words} → Gives p us a rest → Gives (λ i. and_then (p i) (λ x j. Ok (make x, j))) us (make a) rest
gives_last {A} {B} {p} make {us} {a} {rest} first = record { reads = λ end. ap (λ r. and_then r (λ x j. Ok (make x, j))) (first.reads end) }

pub gives_pure : {A : Type 0} {a : A} {rest : Words} → Gives (λ i. Ok (a, i)) [] a rest
gives_pure = record { reads = λ end. refl }

-- nothing is read at first
pub gives_none : {A B : Type 0} {p : Parser A} (q : A → Parser B) {vs : Words} {a : A} {b : B} {rest : Words}
    → Gives p [] a (vs ++ rest) → Gives (q a) vs b rest → Gives (λ i. and_then (p i) q) vs b rest
gives_none {A} {B} {p} q {vs} {a} {b} {rest} first then = record { reads = λ end. ap (λ r. and_then r q) (first.reads end) ∙ then.reads end }

pub gives_words : {A : Type 0} {p : Parser A} {us vs : Words} {a : A} {rest : Words} → vs ≡ us → Gives p us a rest → Gives p vs a rest
gives_words {A} {p} {us} {vs} {a} {rest} e g = let P : Words → Type 0 = λ ws. Gives p ws a rest in subst P (sym e) g

pub gives_look : {B : Type 0} (q : Option TokenKind → Parser B) {vs : Words} {b : B} {rest : Words} (kind : Option TokenKind) → kind_in (vs ++ rest) ≡ kind → Gives (q kind) vs b rest
    → Gives (λ i. and_then (look i) q) vs b rest
unfolding peek
gives_look {B} q {vs} {b} {rest} kind e g = record { reads = λ end. ap (λ n. q n (input_of (vs ++ rest) end)) e ∙ g.reads end }

-- the same words, written otherwise
pub gives_as : {A : Type 0} {p : Parser A} {us vs : Words} {a : A} {rest : Words} → Gives p us a rest → vs ≡ us → Gives p vs a rest
gives_as {A} {p} {us} {vs} {a} {rest} g e = let P : Words → Type 0 = λ ws. Gives p ws a rest in subst P (sym e) g

-- parts that are grouped to the left, grouped to the right
pub right4 : (a b c d : Words) → a ++ b ++ c ++ d ≡ a ++ (b ++ (c ++ d))
right4 a b c d = simp append_assoc

pub right8 : (a b c d e f g h : Words) → a ++ b ++ c ++ d ++ e ++ f ++ g ++ h ≡ a ++ (b ++ ((c ++ d ++ e) ++ (f ++ g ++ h)))
right8 a b c d e f g h = simp append_assoc

pub right9 : (a b c d e f g h i : Words) → a ++ b ++ c ++ d ++ e ++ f ++ g ++ h ++ i ≡ a ++ (b ++ ((c ++ d ++ e) ++ (f ++ g ++ h ++ i)))
right9 a b c d e f g h i = simp append_assoc

-- ---- the steps

pub name_gives : (n : Name) {rest : Words} → Gives name (name_words n) n rest
unfolding name
name_gives n = record { reads = λ end. refl }

pub number_gives : (n : Number) {rest : Words} → Gives number (number_words n) n rest
unfolding number
number_gives n = record { reads = λ end. refl }

pub eat_some : (kind : TokenKind) → is_kind kind kind ≡ true → (s : Span) {rest : Words} → Gives (eat kind) (one kind s) (Some s) rest
unfolding eat
eat_some kind self s {rest} = record { reads = λ end. rw self refl }

pub expect_gives : (kind : TokenKind) → is_kind kind kind ≡ true → (s : Span) {rest : Words} → Gives (expect kind) (one kind s) s rest
unfolding expect eat
expect_gives kind self s {rest} = record { reads = λ end. rw self refl }

-- whether a kind is there and is this one
abbrev pub is_there : Option TokenKind → TokenKind → Bool
is_there None kind = false
is_there (Some next) kind = is_kind next kind

pub eat_none : (kind : TokenKind) (rest : Words) → is_there (kind_in rest) kind ≡ false → Gives (eat kind) [] None rest
unfolding eat
eat_none kind [] h = record { reads = λ end. refl }
eat_none kind (w ∷ ws) h = record { reads = λ end. rw h refl }

pub opened_gives : (depth : ℕ) (kind : TokenKind) → is_kind kind kind ≡ true → 0 < depth → (s : Span) {rest : Words} → Gives (opened depth kind) (one kind s) s rest
unfolding opened
opened_gives depth kind self some s {rest} =
    let e : (depth == 0) ≡ false = grind (arith, nat_tests) in
    record { reads = λ end. rw e ((expect_gives kind self s).reads end) }

-- ---- lists

-- each item of the list
abbrev pub AllOf : {B : Type 0} → (B → Type 0) → List B → Type 0
AllOf Q [] = Unit {0}
AllOf Q (x ∷ xs) = Q x × AllOf Q xs

-- a turn of a loop: the mark, and then the item
pub record Turn {S A B : Type 0} (mark : Parser (Option S)) (build : S → A → B) (item : Parser A) (h : B → Words) (b : B) (rest : Words) : Type 0 where
  pub sign : S
  pub words : Words
  pub value : A
  pub marks : (end : ℕ) → mark (input_of (h b ++ rest) end) ≡ Ok (Some sign, input_of (words ++ rest) end)
  pub items : Gives item words value rest
  pub built : build sign value ≡ b

module _ {S A B : Type 0} (mark : Parser (Option S)) (build : S → A → B) (item : Parser A) (h : B → Words) (fits : B → Type 0) (follows : Words → Type 0)
    (some : (b : B) → 1 ≤ length (h b)) (turn : (b : B) (rest : Words) → fits b → follows rest → Turn mark build item h b rest)
    (goes : (b : B) (rest : Words) → follows (h b ++ rest)) where
  enough : (xs : List B) (rest : Words) → length xs ≤ length (each h xs ++ rest)
  enough [] rest = omega arith
  enough (x ∷ xs) rest =
      let e : length (each h (x ∷ xs) ++ rest) ≡ length (h x) + length (each h xs ++ rest) = simp (append_assoc, length-append) refl in
      let a = some x in let b = enough xs rest in omega (arith, e, a, b)

  after : (xs : List B) (rest : Words) → follows rest → follows (each h xs ++ rest)
  after [] rest ok = ok
  after (x ∷ xs) rest ok = let P : Words → Type 0 = follows in subst P (sym (append_assoc (h x) (each h xs) rest)) (goes x (each h xs ++ rest))

  many_from_back : (n : ℕ) (found xs : List B) (rest : Words) (end : ℕ) → length xs ≤ n → AllOf fits xs → follows rest
      → mark (input_of rest end) ≡ Ok (None, input_of rest end) → many_from mark build item n found (input_of (each h xs ++ rest) end) ≡ Ok (found ++ xs, input_of rest end)
  unfolding many_from
  many_from_back zero found [] rest end room all ok stop = ap (λ (ys : List B). Ok (ys, input_of rest end)) (sym (append-nil found))
  many_from_back zero found (x ∷ xs) rest end room all ok stop = absurd (omega arith)
  many_from_back (suc n) found [] rest end room all ok stop =
      ap (λ r. and_then r (many_step build item (many_from mark build item n) found)) stop ∙ ap (λ (ys : List B). Ok (ys, input_of rest end)) (sym (append-nil found))
  many_from_back (suc n) found (x ∷ xs) rest end room all ok stop =
      let later = each h xs ++ rest in
      let t = turn x later all.0 (after xs rest ok) in
      ap (λ ws. many_from mark build item (suc n) found (input_of ws end)) (append_assoc (h x) (each h xs) rest)
      ∙ ap (λ r. and_then r (many_step build item (many_from mark build item n) found)) (t.marks end)
      ∙ ap (λ r. and_then r (λ y. many_from mark build item n (found ++ build t.sign y ∷ []))) (t.items.reads end)
      ∙ ap (λ b. many_from mark build item n (found ++ b ∷ []) (input_of later end)) t.built
      ∙ many_from_back n (found ++ x ∷ []) xs rest end (omega arith) all.1 ok stop
      ∙ ap (λ (ys : List B). Ok (ys, input_of rest end)) (simp append_assoc)

  pub many_back : (xs : List B) (rest : Words) → AllOf fits xs → follows rest → Gives mark [] None rest → Gives (many mark build item) (each h xs) xs rest
  unfolding many
  many_back xs rest all ok stop = record { reads = λ end. many_from_back (length (each h xs ++ rest)) [] xs rest end (enough xs rest) all ok (stop.reads end) }

-- { mark item }
pub others_back : {A : Type 0} (kind : TokenKind) → is_kind kind kind ≡ true → (item : Parser A) (f : A → Words) (fits : A → Type 0) (follows : Words → Type 0)
    → ((a : A) (rest : Words) → fits a → follows rest → Gives item (f a) a rest) → ((s : Span) (rest : Words) → follows (plain kind s ∷ rest))
    → (xs : List (Then A)) (rest : Words) → AllOf (λ t. fits t.item) xs → follows rest → is_there (kind_in rest) kind ≡ false
    → Gives (many (eat kind) then_of item) (each (then_words kind f) xs) xs rest
others_back {A} kind self item f fits follows back goes xs rest all ok stop =
    many_back (eat kind) then_of item (then_words kind f) (λ t. fits t.item) follows (λ t. omega arith)
    (λ t more fit next. record { sign = t.mark; words = f t.item; value = t.item; marks = λ end. (eat_some kind self t.mark).reads end; items = back t.item more fit next; built = refl })
    (λ t more. goes t.mark (f t.item ++ more)) xs rest all ok (eat_none kind rest stop)

-- item { mark item }
pub chain_back : {A : Type 0} (kind : TokenKind) → is_kind kind kind ≡ true → (item : Parser A) (f : A → Words) (fits : A → Type 0) (follows : Words → Type 0)
    → ((a : A) (rest : Words) → fits a → follows rest → Gives item (f a) a rest) → ((s : Span) (rest : Words) → follows (plain kind s ∷ rest))
    → (c : Chain A) (rest : Words) → fits c.first → AllOf (λ t. fits t.item) c.others → follows rest → is_there (kind_in rest) kind ≡ false
    → Gives (chain item (many (eat kind) then_of item)) (chain_words kind f c) c rest
chain_back {A} kind self item f fits follows back goes c rest first all ok stop =
    gives_bind _ (back c.first (each (then_words kind f) c.others ++ rest) first (next c.others)) (gives_last _ (others_back kind self item f fits follows back goes c.others rest all ok stop))
  where
    next : (ts : List (Then A)) → follows (each (then_words kind f) ts ++ rest)
    next [] = ok
    next (t ∷ ts) = goes t.mark (f t.item ++ each (then_words kind f) ts ++ rest)

-- the first word is of one of these kinds
abbrev pub starts : List TokenKind → Words → Bool
starts kinds [] = false
starts kinds (w ∷ ws) = list_any (is_kind (kind_of w)) kinds

pub ahead_none : (kinds : List TokenKind) (rest : Words) → starts kinds rest ≡ false → Gives (ahead kinds) [] None rest
unfolding ahead
ahead_none kinds [] h = record { reads = λ end. refl }
ahead_none kinds (w ∷ ws) h = record { reads = λ end. rw h refl }

-- the words begin with one of these kinds
pub record Begins (kinds : List TokenKind) (ws : Words) : Type 0 where
  pub first : Word
  pub others : Words
  pub are : ws ≡ first ∷ others
  pub is : list_any (is_kind (kind_of first)) kinds ≡ true

-- { item }, where each item begins with one of these kinds
pub listed_back : {A : Type 0} (kinds : List TokenKind) (item : Parser A) (f : A → Words) (fits : A → Type 0)
    → ((a : A) → Begins kinds (f a)) → ((a : A) (rest : Words) → fits a → Gives item (f a) a rest)
    → (xs : List A) (rest : Words) → AllOf fits xs → starts kinds rest ≡ false → Gives (many (ahead kinds) alone item) (each f xs) xs rest
unfolding ahead
listed_back {A} kinds item f fits begins back xs rest all stop =
    many_back (ahead kinds) alone item f fits (λ ws. Unit {0}) (λ a. long (f a) (begins a))
    (λ a more fit next. record { sign = span_of (begins a).first; words = f a; value = a; marks = λ end. seen (f a) (begins a) more end; items = back a more fit; built = refl })
    (λ a more. tt) xs rest all tt (ahead_none kinds rest stop)
  where
    long : (ws : Words) → Begins kinds ws → 1 ≤ length ws
    long ws b = let e = ap length b.are in omega (arith, e)

    seen : (ws : Words) (b : Begins kinds ws) (more : Words) (end : ℕ) → ahead kinds (input_of (ws ++ more) end) ≡ Ok (Some (span_of b.first), input_of (ws ++ more) end)
    seen ws b more end = ap (λ us. ahead kinds (input_of (us ++ more) end)) b.are ∙ here ∙ ap (λ us. Ok (Some (span_of b.first), input_of (us ++ more) end)) (sym b.are)
      where
        here : ahead kinds (input_of (b.first ∷ b.others ++ more) end) ≡ Ok (Some (span_of b.first), input_of (b.first ∷ b.others ++ more) end)
        here = rw b.is refl
