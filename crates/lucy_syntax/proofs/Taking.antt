-- What a parser reads is spelled: the words of its value stand at the place, and then those that are left.
use Rattle.std.proofs.Common.{◌≡◌, ℕ, List, [], ◌∷◌, ◌++◌, Bool, true, false, cond as if_then, Option, Some, None, Ok, Err, ◌==◌, refl, sym, ap, subst, ◌∙◌, append_assoc}
use Rattle.std.proofs.lemmas.List.{append-nil}
use Rattle.std.specs.List.{list_any}
use Rattle.lucy_lexer.specs.declared.token.TokenKind.{TokenKind}
use Rattle.lucy_lexer.specs.declared.token.TokenKind.TheVariants as k
use Rattle.lucy_lexer.specs.Kind.{is_kind}
use Rattle.lucy_lexer.specs.Laws.{EqualKinds}
use Rattle.lucy_tree.specs.declared.marks.Span.{Span}
use Rattle.lucy_tree.specs.declared.marks.Name.{Name}
use Rattle.lucy_tree.specs.declared.marks.Number.{Number}
use Rattle.lucy_tree.specs.Words.{Word, Words, called, plain, kind_of, span_of, one, maybe_one, each, maybe}
use Rattle.lucy_tree.specs.Spelling.{name_words, number_words}
use Rattle.lucy_syntax.specs.declared.error.SyntaxError.{SyntaxError}
use Rattle.lucy_syntax.specs.Input.{Input, Outcome, Parser, and_then, input_of, refuse, refusal, look, peek, eat, eat_in, expect, expected, ahead, ahead_in, name, name_in, number, number_in, opened, here}
use Rattle.lucy_syntax.specs.declared.error.SyntaxError.TheVariants.{TooDeep}

-- the words of the first place are these, and then those of the second
pub record Takes (ws : Words) (i j : Input) : Type 0 where
  pub words : i.words ≡ ws ++ j.words
  pub end : i.end ≡ j.end

abbrev pub done : {A : Type 0} → A × Input → Outcome A
done p = Ok p

abbrev refused : {A : Type 0} → SyntaxError → Outcome A
refused e = Err e

ok_is : {A : Type 0} {x y : A × Input} → done x ≡ done y → x ≡ y
ok_is e = cc

no_ok : {A : Type 0} {x : A × Input} (e : SyntaxError) → refused e ≡ done x → ⊥
no_ok e h = cc

-- a step that was passed: what it gave, and what came of it
passed : {A B : Type 0} (r : Outcome A) (f : A → Parser B) (y : B × Input) → and_then r f ≡ Ok y → (x : A) × (j : Input) × (r ≡ Ok (x, j)) × (f x j ≡ Ok y)
passed (Ok x) f y e = (x.0, x.1, refl, e)
passed (Err d) f y e = absurd cc

nothing : (i : Input) → Takes [] i i
nothing i = record { words = refl; end = refl }

both : (us vs : Words) (i j l : Input) → Takes us i j → Takes vs j l → Takes (us ++ vs) i l
both us vs i j l a b = record { words = a.words ∙ ap (λ ws. us ++ ws) b.words ∙ sym (append_assoc us vs l.words); end = a.end ∙ b.end }

-- of what nothing more is said
abbrev pub Any : {A : Type 0} → A → Type 0
Any a = Unit {0}

-- what the parser reads is spelled by f and has Q
pub record Sound {A : Type 0} (f : A → Words) (Q : A → Type 0) (p : Parser A) : Type 0 where
  pub takes : (i j : Input) (a : A) → p i ≡ Ok (a, j) → Takes (f a) i j × Q a

-- what q reads is spelled by f, after the words us, and has Q
pub record After {A : Type 0} (us : Words) (f : A → Words) (Q : A → Type 0) (q : Parser A) : Type 0 where
  pub more : (i j : Input) (a : A) → q i ≡ Ok (a, j) → (vs : Words) × Takes vs i j × (f a ≡ us ++ vs) × Q a

pub whole : {A : Type 0} {f : A → Words} {Q : A → Type 0} {q : Parser A} → After [] f Q q → Sound f Q q
whole {A} {f} {Q} {q} after = record { takes = λ i j a e. let m = after.more i j a e in let P : Words → Type 0 = λ ws. Takes ws i j in (subst P (sym m.2) m.1, m.3) }

given_takes : {A : Type 0} (i : Input) (x : A × Input) (a : A) (j : Input) → done x ≡ done (a, j) → Takes [] i x.1 → Takes [] i j
given_takes {A} i x a j e t = let P : A × Input → Type 0 = λ p. Takes [] i p.1 in subst P (ok_is e) t

given_kept : {A : Type 0} (Q : A → Type 0) (x : A × Input) (a : A) (j : Input) → done x ≡ done (a, j) → Q x.0 → Q a
given_kept {A} Q x a j e q = let P : A × Input → Type 0 = λ p. Q p.0 in subst P (ok_is e) q

pub after_pure : {A : Type 0} {us : Words} {f : A → Words} {Q : A → Type 0} (a : A) → f a ≡ us → Q a → After us f Q (λ i. Ok (a, i))
after_pure {A} {us} {f} {Q} a e q = record { more = λ i j b h. ([], given_takes i (a, i) b j h (nothing i), ap (λ p. f p.0) (sym (ok_is h)) ∙ e ∙ sym (append-nil us), given_kept Q (a, i) b j h q) }

pub after_refuse : {A : Type 0} {us : Words} {f : A → Words} {Q : A → Type 0} → After us f Q refuse
after_refuse = record { more = λ i j b e. absurd (no_ok (refusal i) e) }

pub after_bind : {A B : Type 0} {us : Words} {g : A → Words} {P : A → Type 0} {f : B → Words} {Q : B → Type 0} {p : Parser A} {q : A → Parser B}
    → Sound g P p → ((a : A) → P a → After (us ++ g a) f Q (q a)) → After us f Q (λ i. and_then (p i) q)
after_bind {A} {B} {us} {g} {P} {f} {Q} {p} {q} sound after = record {
  more = λ i l b e.
      let (a, j, read, gone) = passed (p i) q (b, l) e in
      let t = sound.takes i j a read in
      let m = (after a t.1).more j l b gone in
      (g a ++ m.0, both (g a) m.0 i j l t.0 m.1, m.2 ∙ append_assoc us (g a) m.0, m.3);
}

pub after_look : {B : Type 0} {us : Words} {f : B → Words} {Q : B → Type 0} {q : Option TokenKind → Parser B}
    → ((kind : Option TokenKind) → After us f Q (q kind)) → After us f Q (λ i. and_then (look i) q)
after_look after = record { more = λ i l b e. (after (peek i)).more i l b e }

-- the same words, written otherwise
pub after_words : {B : Type 0} {us vs : Words} {f : B → Words} {Q : B → Type 0} {q : Parser B} → us ≡ vs → After us f Q q → After vs f Q q
after_words {B} {us} {vs} {f} {Q} {q} e after = let P : Words → Type 0 = λ ws. After ws f Q q in subst P e after

-- what is sound, with nothing before it
pub after_sound : {A : Type 0} {f : A → Words} {Q : A → Type 0} {p : Parser A} → Sound f Q p → After [] f Q p
after_sound {A} {f} {Q} {p} sound = record { more = λ i j a e. let t = sound.takes i j a e in (f a, t.0, refl, t.1) }

-- what is read first, after the words us, and then more
pub after_after : {A B : Type 0} {us : Words} {g : A → Words} {P : A → Type 0} {f : B → Words} {Q : B → Type 0} {p : Parser A} {q : A → Parser B}
    → After us g P p → ((a : A) → P a → After (g a) f Q (q a)) → After us f Q (λ i. and_then (p i) q)
after_after {A} {B} {us} {g} {P} {f} {Q} {p} {q} first after = record {
  more = λ i l b e.
      let (a, j, read, gone) = passed (p i) q (b, l) e in
      let t = first.more i j a read in
      let m = (after a t.3).more j l b gone in
      (t.0 ++ m.0, both t.0 m.0 i j l t.1 m.1, m.2 ∙ ap (λ ws. ws ++ m.0) t.2 ∙ append_assoc us t.0 m.0, m.3);
}

-- what has P has Q too
pub sound_kept : {A : Type 0} {f : A → Words} {P Q : A → Type 0} {p : Parser A} → ((a : A) → P a → Q a) → Sound f P p → Sound f Q p
sound_kept keeps sound = record { takes = λ i j a e. let t = sound.takes i j a e in (t.0, keeps a t.1) }

-- what is sound, as a last part
pub after_last : {A B : Type 0} {us : Words} {g : A → Words} {P : A → Type 0} {f : B → Words} {Q : B → Type 0} {p : Parser A} (make : A → B)
    → Sound g P p → ((a : A) → f (make a) ≡ us ++ g a) → ((a : A) → P a → Q (make a)) → After us f Q (λ i. and_then (p i) (λ a j. Ok (make a, j)))
after_last make sound e keeps = after_bind sound (λ a h. after_pure (make a) (e a) (keeps a h))

-- ---- the steps

eaten_by : (b : Bool) (kind : TokenKind) (w : Word) (ws : Words) (end : ℕ) (j : Input) (a : Option Span) → EqualKinds → is_kind k.Name kind ≡ false → is_kind (kind_of w) kind ≡ b
    → if_then b (done (Some (span_of w), input_of ws end)) (done (None, input_of (w ∷ ws) end)) ≡ Ok (a, j) → Takes (maybe_one kind a) (input_of (w ∷ ws) end) j
eaten_by true kind (called text s) ws end j a equal other same e = absurd (no_both (sym other ∙ same))
  where
    no_both : false ≡ true → ⊥
    no_both h = cc
eaten_by true kind (plain next s) ws end j a equal other same e =
    let P : Option Span × Input → Type 0 = λ p. Takes (maybe_one kind p.0) (input_of (plain next s ∷ ws) end) p.1 in
    subst P (ok_is e) (record { words = ap (λ n. plain n s ∷ ws) (equal next kind same); end = refl })
eaten_by false kind w ws end j a equal other same e =
    let P : Option Span × Input → Type 0 = λ p. Takes (maybe_one kind p.0) (input_of (w ∷ ws) end) p.1 in
    subst P (ok_is e) (nothing _)

eaten : (kind : TokenKind) (ws : Words) (end : ℕ) (j : Input) (a : Option Span) → EqualKinds → is_kind k.Name kind ≡ false → eat_in kind ws end ≡ Ok (a, j) → Takes (maybe_one kind a) (input_of ws end) j
eaten kind [] end j a equal other e =
    let P : Option Span × Input → Type 0 = λ p. Takes (maybe_one kind p.0) (input_of [] end) p.1 in
    subst P (ok_is e) (nothing _)
eaten kind (w ∷ ws) end j a equal other e = eaten_by (is_kind (kind_of w) kind) kind w ws end j a equal other refl e

seen_by : (b : Bool) (w : Word) (ws : Words) (end : ℕ) (j : Input) (a : Option Span)
    → if_then b (done (Some (span_of w), input_of (w ∷ ws) end)) (done (None, input_of (w ∷ ws) end)) ≡ Ok (a, j) → Takes [] (input_of (w ∷ ws) end) j
seen_by true w ws end j a e = given_takes _ (Some (span_of w), input_of (w ∷ ws) end) a j e (nothing _)
seen_by false w ws end j a e = given_takes _ (None, input_of (w ∷ ws) end) a j e (nothing _)

seen : (kinds : List TokenKind) (ws : Words) (end : ℕ) (j : Input) (a : Option Span) → ahead_in kinds ws end ≡ Ok (a, j) → Takes [] (input_of ws end) j
seen kinds [] end j a e = given_takes _ (None, input_of [] end) a j e (nothing _)
seen kinds (w ∷ ws) end j a e = seen_by (list_any (is_kind (kind_of w)) kinds) w ws end j a e

-- nothing is read
abbrev pub silent : {S : Type 0} → S → Words
silent s = []

no_words : (a : Option Span) → [] ≡ maybe silent a
no_words None = refl
no_words (Some s) = refl

pub ahead_takes : (kinds : List TokenKind) → Sound (maybe silent) Any (ahead kinds)
unfolding ahead
ahead_takes kinds = record { takes = λ i j a e. let P : Words → Type 0 = λ ws. Takes ws i j in (subst P (no_words a) (seen kinds i.words i.end j a e), tt) }

named_in : (ws : Words) (end : ℕ) (j : Input) (n : Name) → name_in ws end ≡ Ok (n, j) → Takes (name_words n) (input_of ws end) j
named_in [] end j n e = absurd cc
named_in (called text s ∷ ws) end j n e =
    let P : Name × Input → Type 0 = λ p. Takes (name_words p.0) (input_of (called text s ∷ ws) end) p.1 in
    subst P (ok_is e) (record { words = refl; end = refl })
named_in (plain kind s ∷ ws) end j n e = absurd cc

pub name_takes : Sound name_words Any name
unfolding name
name_takes = record { takes = λ i j a e. (named_in i.words i.end j a e, tt) }

numbered_in : (ws : Words) (end : ℕ) (j : Input) (n : Number) → number_in ws end ≡ Ok (n, j) → Takes (number_words n) (input_of ws end) j
numbered_in [] end j n e = absurd cc
numbered_in (called text s ∷ ws) end j n e = absurd cc
numbered_in (plain (k.Number value) s ∷ ws) end j n e =
    let P : Number × Input → Type 0 = λ p. Takes (number_words p.0) (input_of (plain (k.Number value) s ∷ ws) end) p.1 in
    subst P (ok_is e) (record { words = refl; end = refl })
numbered_in (plain kind s ∷ ws) end j n e = absurd (no_ok _ e)

pub number_takes : Sound number_words Any number
unfolding number
number_takes = record { takes = λ i j a e. (numbered_in i.words i.end j a e, tt) }

-- ---- lists

abbrev pub AllOf : {B : Type 0} → (B → Type 0) → List B → Type 0
AllOf Q [] = Unit {0}
AllOf Q (x ∷ xs) = Q x × AllOf Q xs

pub each-push : {B : Type 0} (h : B → Words) (found : List B) (x : B) → each h (found ++ x ∷ []) ≡ each h found ++ h x
each-push h [] x = append-nil (h x)
each-push h (y ∷ ys) x = ap (λ ws. h y ++ ws) (each-push h ys x) ∙ sym (append_assoc (h y) (each h ys) (h x))

module _ (equal : EqualKinds) where
  pub eat_takes : (kind : TokenKind) → is_kind k.Name kind ≡ false → Sound (maybe_one kind) Any (eat kind)
  unfolding eat
  eat_takes kind other = record { takes = λ i j a e. (eaten kind i.words i.end j a equal other e, tt) }

  wanted : (kind : TokenKind) (s : Option Span) → After ([] ++ maybe_one kind s) (one kind) Any (expected s)
  wanted kind None = after_refuse
  wanted kind (Some s) = after_pure s refl tt

  pub expect_takes : (kind : TokenKind) → is_kind k.Name kind ≡ false → Sound (one kind) Any (expect kind)
  unfolding expect
  expect_takes kind other = whole (after_bind (eat_takes kind other) (λ s _. wanted kind s))

module _ (equal : EqualKinds) where
  pub opened_takes : (depth : ℕ) (kind : TokenKind) → is_kind k.Name kind ≡ false → Sound (one kind) Any (opened depth kind)
  unfolding opened
  opened_takes depth kind other = record { takes = λ i j a e. by (depth == 0) i j a e }
    where
      by : (b : Bool) (i j : Input) (a : Span) → if_then b (Err (TooDeep (here i))) (expect kind i) ≡ Ok (a, j) → Takes (one kind a) i j × Any a
      by true i j a e = absurd (no_ok _ e)
      by false i j a e = (expect_takes equal kind other).takes i j a e
