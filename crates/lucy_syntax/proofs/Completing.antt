-- What a parser has read before it stops goes on: some value is spelled by those words and more.
use Rattle.std.proofs.Common.{◌≡◌, ◌⊎◌, inl, inr, ℕ, zero, suc, List, [], ◌∷◌, ◌++◌, length, Bool, true, false, cond as if_then, Option, Some, None, Ok, Err, ◌==◌, refl, sym, ap, subst, ◌∙◌, append_assoc}
use Rattle.std.proofs.lemmas.List.{append-nil}
use Rattle.std.specs.List.{AllByRecursion, list_any}
use Rattle.lucy_lexer.specs.declared.token.TokenKind.{TokenKind}
use Rattle.lucy_lexer.specs.declared.token.TokenKind.TheVariants as k
use Rattle.lucy_lexer.specs.Kind.{is_kind}
use Rattle.lucy_lexer.specs.Laws.{EqualKinds}
use Rattle.lucy_tree.specs.declared.marks.Span.{Span}
use Rattle.lucy_tree.specs.Words.{Word, Words, called, plain, kind_of, span_of, one, maybe_one, each, maybe, then_words, chain_words}
use Rattle.lucy_tree.specs.Spelling.{name_words, number_words}
use Rattle.lucy_syntax.specs.declared.error.SyntaxError.{SyntaxError}
use Rattle.lucy_syntax.specs.declared.error.SyntaxError.TheVariants.{Syntax, TooDeep}
use Rattle.lucy_syntax.specs.Input.{Input, Outcome, Parser, and_then, input_of, here_in, here, refusal, refuse, peek, look, eat_in, eat, expected, expect, ahead_in, ahead, name_in, name, number_in, number, opened}
use Rattle.lucy_syntax.specs.Lists.{many, many_from, many_step, then_of, alone, chain}
use Rattle.lucy_syntax.proofs.Writable.{Proper, is_sign, sign_is_no_name, sign_is_plain, nowhere, some_name, some_number, some_name_proper, some_number_proper, all_both}
use Rattle.lucy_syntax.proofs.Taking.{After, Any, AllOf, silent, whole, after_pure, after_refuse, after_after, after_look, after_sound, eat_takes, expect_takes, opened_takes, name_takes, number_takes, ahead_takes, each-push}

-- some value that is kept is spelled by these words and more, which can be written
pub record Goes {A : Type 0} (us : Words) (f : A → Words) (Q : A → Type 0) : Type 0 where
  pub value : A
  pub more : Words
  pub spelled : f value ≡ us ++ more
  pub proper : AllByRecursion Proper more
  pub kept : Q value

-- the place of a fault is where the rest begins
abbrev pub IsAt : SyntaxError → Words → ℕ → Type 0
IsAt e rest end = (e ≡ Syntax (here_in rest end)) ⊎ (e ≡ TooDeep (here_in rest end))

-- the words before the place of the fault, after the words us, go on
pub record Stopped {A : Type 0} (us : Words) (f : A → Words) (Q : A → Type 0) (i : Input) (e : SyntaxError) : Type 0 where
  pub front : Words
  pub rest : Words
  pub are : i.words ≡ front ++ rest
  pub told : IsAt e rest i.end
  pub goes : Goes (us ++ front) f Q

pub record Completes {A : Type 0} (us : Words) (f : A → Words) (Q : A → Type 0) (q : Parser A) : Type 0 where
  pub reads : After us f Q q
  pub some : Goes us f Q
  pub stops : (i : Input) (e : SyntaxError) → q i ≡ Err e → Stopped us f Q i e

abbrev done : {A : Type 0} → A × Input → Outcome A
done p = Ok p

abbrev refused : {A : Type 0} → SyntaxError → Outcome A
refused e = Err e

no_err : {A : Type 0} {x : A × Input} {e : SyntaxError} → done x ≡ refused e → ⊥
no_err h = cc

err_is : {A : Type 0} (d e : SyntaxError) → refused {A = A} d ≡ refused e → d ≡ e
err_is d e h = cc

-- ---- steps

goes_nil : {A : Type 0} {us : Words} {f : A → Words} {Q : A → Type 0} → Goes us f Q → Goes (us ++ []) f Q
goes_nil {A} {us} {f} {Q} g = let P : Words → Type 0 = λ ws. Goes ws f Q in subst P (sym (append-nil us)) g

-- nothing was read, and the fault is told here
here_stopped : {A : Type 0} {us : Words} {f : A → Words} {Q : A → Type 0} (i : Input) (e : SyntaxError) → Goes us f Q → IsAt e i.words i.end → Stopped us f Q i e
here_stopped i e g told = record { front = []; rest = i.words; are = refl; told = told; goes = goes_nil g }

pub gives : {A : Type 0} {us : Words} {f : A → Words} {Q : A → Type 0} (a : A) → f a ≡ us → Q a → Completes us f Q (λ i. Ok (a, i))
gives {A} {us} {f} {Q} a e q = record {
  reads = after_pure a e q;
  some = record { value = a; more = []; spelled = e ∙ sym (append-nil us); proper = tt; kept = q };
  stops = λ i d h. absurd (no_err h);
}

pub refuses : {A : Type 0} {us : Words} {f : A → Words} {Q : A → Type 0} → Goes us f Q → Completes us f Q refuse
unfolding refusal here
refuses {A} {us} {f} {Q} g = record {
  reads = after_refuse;
  some = g;
  stops = λ i e h. here_stopped i e g (inl (sym (err_is (Syntax (here_in i.words i.end)) e h)));
}

-- no more may be opened
pub too_deep : {A B : Type 0} {us : Words} {f : B → Words} {Q : B → Type 0} (kind : TokenKind) (q : A → Parser B) (p : Parser A) → ((i : Input) → p i ≡ Err (TooDeep (here i))) → Goes us f Q
    → Completes us f Q (λ i. and_then (p i) q)
unfolding here
too_deep {A} {B} {us} {f} {Q} kind q p deep g = record {
  reads = record { more = λ i j a e. absurd (no_err (sym e ∙ ap (λ o. and_then o q) (deep i))) };
  some = g;
  stops = λ i e h. here_stopped i e g (inr (sym (err_is (TooDeep (here_in i.words i.end)) e (sym (ap (λ o. and_then o q) (deep i)) ∙ h))));
}

longer : (us vs ws xs ys : Words) → vs ≡ us ++ ws → (vs ++ xs) ++ ys ≡ (us ++ (ws ++ xs)) ++ ys
longer us vs ws xs ys e = ap (λ zs. (zs ++ xs) ++ ys) e ∙ ap (λ zs. zs ++ ys) (append_assoc us ws xs)

module _ {A B : Type 0} {us : Words} {g : A → Words} {P : A → Type 0} {f : B → Words} {Q : B → Type 0} {p : Parser A} {q : A → Parser B}
    (first : Completes us g P p) (then : (a : A) → P a → Completes (g a) f Q (q a)) where
  -- where the first part goes on, the whole does
  both_go : (vs : Words) → Goes (us ++ vs) g P → Goes (us ++ vs) f Q
  both_go vs h =
      let r = (then h.value h.kept).some in
      record { value = r.value; more = h.more ++ r.more; spelled = r.spelled ∙ ap (λ ws. ws ++ r.more) h.spelled ∙ append_assoc (us ++ vs) h.more r.more; proper = all_both h.more r.more h.proper r.proper; kept = r.kept }

  stops_by : (i : Input) (e : SyntaxError) (o : Outcome A) → p i ≡ o → and_then o q ≡ Err e → Stopped us f Q i e
  stops_by i e (Err d) read h =
      let s = first.stops i e (read ∙ ap (λ c. refused c) (err_is d e h)) in
      record { front = s.front; rest = s.rest; are = s.are; told = s.told; goes = both_go s.front s.goes }
  stops_by i e (Ok x) read h =
      let m = first.reads.more i x.1 x.0 read in
      let s = (then x.0 m.3).stops x.1 e h in
      let E : ℕ → Type 0 = λ end. IsAt e s.rest end in
      record {
        front = m.0 ++ s.front;
        rest = s.rest;
        are = m.1.words ∙ ap (λ ws. m.0 ++ ws) s.are ∙ sym (append_assoc m.0 s.front s.rest);
        told = subst E (sym m.1.end) s.told;
        goes = record { value = s.goes.value; more = s.goes.more; spelled = s.goes.spelled ∙ longer us (g x.0) m.0 s.front s.goes.more m.2; proper = s.goes.proper; kept = s.goes.kept };
      }

  whole_goes : Goes us f Q
  whole_goes =
      let h = first.some in
      let r = (then h.value h.kept).some in
      record { value = r.value; more = h.more ++ r.more; spelled = r.spelled ∙ ap (λ ws. ws ++ r.more) h.spelled ∙ append_assoc us h.more r.more; proper = all_both h.more r.more h.proper r.proper; kept = r.kept }

  -- what is read first, after the words us, and then more
  pub onward : Completes us f Q (λ i. and_then (p i) q)
  onward = record { reads = after_after first.reads (λ a h. (then a h).reads); some = whole_goes; stops = λ i e h. stops_by i e (p i) refl h }

-- the words us before what the parser reads
pub shifted : {A : Type 0} (us : Words) {g : A → Words} {P : A → Type 0} {p : Parser A} → Completes [] g P p → Completes us (λ a. us ++ g a) P p
shifted {A} us {g} {P} {p} c = record {
  reads = record { more = λ i j a e. let t = (whole c.reads).takes i j a e in (g a, t.0, refl, t.1) };
  some = record { value = c.some.value; more = c.some.more; spelled = ap (λ ws. us ++ ws) c.some.spelled; proper = c.some.proper; kept = c.some.kept };
  stops = λ i e h.
      let s = c.stops i e h in
      record {
        front = s.front;
        rest = s.rest;
        are = s.are;
        told = s.told;
        goes = record { value = s.goes.value; more = s.goes.more; spelled = ap (λ ws. us ++ ws) s.goes.spelled ∙ sym (append_assoc us s.front s.goes.more); proper = s.goes.proper; kept = s.goes.kept };
      };
}

pub bind : {A B : Type 0} {us : Words} {g : A → Words} {P : A → Type 0} {f : B → Words} {Q : B → Type 0} {p : Parser A} {q : A → Parser B}
    → Completes [] g P p → ((a : A) → P a → Completes (us ++ g a) f Q (q a)) → Completes us f Q (λ i. and_then (p i) q)
bind {A} {B} {us} {g} {P} {f} {Q} {p} {q} first then = onward (shifted us first) then

pub looks : {B : Type 0} {us : Words} {f : B → Words} {Q : B → Type 0} {q : Option TokenKind → Parser B}
    → ((kind : Option TokenKind) → Completes us f Q (q kind)) → Completes us f Q (λ i. and_then (look i) q)
looks then = record { reads = after_look (λ kind. (then kind).reads); some = (then None).some; stops = λ i e h. (then (peek i)).stops i e h }

-- as a last part
pub last : {A B : Type 0} {us : Words} {g : A → Words} {P : A → Type 0} {f : B → Words} {Q : B → Type 0} {p : Parser A} (make : A → B)
    → Completes [] g P p → ((a : A) → f (make a) ≡ us ++ g a) → ((a : A) → P a → Q (make a)) → Completes us f Q (λ i. and_then (p i) (λ a j. Ok (make a, j)))
last make c e keeps = bind c (λ a h. gives (make a) (e a) (keeps a h))

-- the same words before, written otherwise
pub reworded : {B : Type 0} {us vs : Words} {f : B → Words} {Q : B → Type 0} {q : Parser B} → us ≡ vs → Completes us f Q q → Completes vs f Q q
reworded {B} {us} {vs} {f} {Q} {q} e c = let P : Words → Type 0 = λ ws. Completes ws f Q q in subst P e c

goes_kept : {A : Type 0} {us : Words} {f h : A → Words} {P Q : A → Type 0} → ((a : A) → h a ≡ f a) → ((a : A) → P a → Q a) → Goes us f P → Goes us h Q
goes_kept same keeps g = record { value = g.value; more = g.more; spelled = same g.value ∙ g.spelled; proper = g.proper; kept = keeps g.value g.kept }

-- what has P has Q too, and is spelled likewise
pub respelled : {A : Type 0} {us : Words} {f h : A → Words} {P Q : A → Type 0} {p : Parser A} → ((a : A) → h a ≡ f a) → ((a : A) → P a → Q a) → Completes us f P p → Completes us h Q p
respelled {A} {us} {f} {h} {P} {Q} {p} same keeps c = record {
  reads = record { more = λ i j a e. let m = c.reads.more i j a e in (m.0, m.1, same a ∙ m.2, keeps a m.3) };
  some = goes_kept same keeps c.some;
  stops = λ i e d. let s = c.stops i e d in record { front = s.front; rest = s.rest; are = s.are; told = s.told; goes = goes_kept same keeps s.goes };
}

pub kept : {A : Type 0} {us : Words} {f : A → Words} {P Q : A → Type 0} {p : Parser A} → ((a : A) → P a → Q a) → Completes us f P p → Completes us f Q p
kept keeps c = respelled (λ a. refl) keeps c

pub any_item : {A : Type 0} {us : Words} {f : A → Words} {Q : A → Type 0} {p : Parser A} → Completes us f Q p → Completes us f Any p
any_item c = kept (λ _ _. tt) c

-- ---- tokens

eaten_stops : (b : Bool) (x y : Option Span × Input) (e : SyntaxError) → if_then b (done x) (done y) ≡ Err e → ⊥
eaten_stops true x y e h = no_err h
eaten_stops false x y e h = no_err h

eat_stops : (kind : TokenKind) (ws : Words) (end : ℕ) (e : SyntaxError) → eat_in kind ws end ≡ Err e → ⊥
eat_stops kind [] end e h = no_err h
eat_stops kind (w ∷ ws) end e h = eaten_stops (is_kind (kind_of w) kind) (Some (span_of w), input_of ws end) (None, input_of (w ∷ ws) end) e h

ahead_stops : (kinds : List TokenKind) (ws : Words) (end : ℕ) (e : SyntaxError) → ahead_in kinds ws end ≡ Err e → ⊥
ahead_stops kinds [] end e h = no_err h
ahead_stops kinds (w ∷ ws) end e h = eaten_stops (list_any (is_kind (kind_of w)) kinds) (Some (span_of w), input_of (w ∷ ws) end) (None, input_of (w ∷ ws) end) e h

pub ahead_completes : (kinds : List TokenKind) → Completes [] (maybe silent) Any (ahead kinds)
unfolding ahead
ahead_completes kinds = record {
  reads = after_sound (ahead_takes kinds);
  some = record { value = None; more = []; spelled = refl; proper = tt; kept = tt };
  stops = λ i e h. absurd (ahead_stops kinds i.words i.end e h);
}

name_stops : (ws : Words) (end : ℕ) (e : SyntaxError) → name_in ws end ≡ Err e → e ≡ Syntax (here_in ws end)
name_stops [] end e h = sym (err_is (Syntax end) e h)
name_stops (called text s ∷ ws) end e h = absurd (no_err h)
name_stops (plain kind s ∷ ws) end e h = sym (err_is (Syntax s.start) e h)

name_goes : Goes [] name_words Any
name_goes = record { value = some_name; more = name_words some_name; spelled = refl; proper = (some_name_proper, tt); kept = tt }

pub name_completes : Completes [] name_words Any name
unfolding name
name_completes = record { reads = after_sound name_takes; some = name_goes; stops = λ i e h. here_stopped i e name_goes (inl (name_stops i.words i.end e h)) }

number_stops : (ws : Words) (end : ℕ) (e : SyntaxError) → number_in ws end ≡ Err e → e ≡ Syntax (here_in ws end)
number_stops [] end e h = sym (err_is (Syntax end) e h)
number_stops (called text s ∷ ws) end e h = sym (err_is (Syntax s.start) e h)
number_stops (plain (k.Number value) s ∷ ws) end e h = absurd (no_err h)
number_stops (plain kind s ∷ ws) end e h = sym (err_is (Syntax s.start) e h)

number_goes : Goes [] number_words Any
number_goes = record { value = some_number; more = number_words some_number; spelled = refl; proper = (some_number_proper, tt); kept = tt }

pub number_completes : Completes [] number_words Any number
unfolding number
number_completes = record { reads = after_sound number_takes; some = number_goes; stops = λ i e h. here_stopped i e number_goes (inl (number_stops i.words i.end e h)) }

one_goes : (kind : TokenKind) → is_sign kind ≡ true → Goes [] (one kind) Any
one_goes kind sign = record { value = nowhere; more = one kind nowhere; spelled = refl; proper = (sign_is_plain kind sign, tt); kept = tt }

wanted_by : (b : Bool) (w : Word) (ws : Words) (end : ℕ) (e : SyntaxError) → and_then (if_then b (done (Some (span_of w), input_of ws end)) (done (None, input_of (w ∷ ws) end))) expected ≡ Err e
    → e ≡ Syntax (span_of w).start
unfolding refusal here
wanted_by true w ws end e h = absurd (no_err h)
wanted_by false w ws end e h = sym (err_is (Syntax (span_of w).start) e h)

wanted : (kind : TokenKind) (ws : Words) (end : ℕ) (e : SyntaxError) → and_then (eat_in kind ws end) expected ≡ Err e → e ≡ Syntax (here_in ws end)
unfolding refusal here
wanted kind [] end e h = sym (err_is (Syntax end) e h)
wanted kind (w ∷ ws) end e h = wanted_by (is_kind (kind_of w) kind) w ws end e h

expect_stops : (kind : TokenKind) (i : Input) (e : SyntaxError) → expect kind i ≡ Err e → e ≡ Syntax (here_in i.words i.end)
unfolding expect eat
expect_stops kind i e h = wanted kind i.words i.end e h

module _ (equal : EqualKinds) where
  same_mark : (kind : TokenKind) (s : Option Span) → maybe (one kind) s ≡ maybe_one kind s
  same_mark kind None = refl
  same_mark kind (Some s) = refl

  pub eat_completes : (kind : TokenKind) → is_kind k.Name kind ≡ false → Completes [] (maybe_one kind) Any (eat kind)
  unfolding eat
  eat_completes kind other = record {
    reads = after_sound (eat_takes equal kind other);
    some = record { value = None; more = []; spelled = refl; proper = tt; kept = tt };
    stops = λ i e h. absurd (eat_stops kind i.words i.end e h);
  }

  eat_marks : (kind : TokenKind) → is_kind k.Name kind ≡ false → Completes [] (maybe (one kind)) Any (eat kind)
  eat_marks kind other = respelled (same_mark kind) (λ _ _. tt) (eat_completes kind other)

  pub expect_completes : (kind : TokenKind) → is_sign kind ≡ true → Completes [] (one kind) Any (expect kind)
  expect_completes kind sign = record {
    reads = after_sound (expect_takes equal kind (sign_is_no_name kind sign));
    some = one_goes kind sign;
    stops = λ i e h. here_stopped i e (one_goes kind sign) (inl (expect_stops kind i e h));
  }

  open_stops : (b : Bool) (kind : TokenKind) (i : Input) (e : SyntaxError) → if_then b (Err (TooDeep (here i))) (expect kind i) ≡ Err e → IsAt e i.words i.end
  unfolding here
  open_stops true kind i e h = inr (sym (err_is (TooDeep (here_in i.words i.end)) e h))
  open_stops false kind i e h = inl (expect_stops kind i e h)

  pub opened_completes : (depth : ℕ) (kind : TokenKind) → is_sign kind ≡ true → Completes [] (one kind) Any (opened depth kind)
  unfolding opened
  opened_completes depth kind sign = record {
    reads = after_sound (opened_takes equal depth kind (sign_is_no_name kind sign));
    some = one_goes kind sign;
    stops = λ i e h. here_stopped i e (one_goes kind sign) (open_stops (depth == 0) kind i e h);
  }

-- none may be opened
pub none_opened : (kind : TokenKind) (i : Input) → opened 0 kind i ≡ Err (TooDeep (here i))
unfolding opened
none_opened kind i = refl

-- ---- lists

all-push : {B : Type 0} (Q : B → Type 0) (found : List B) (x : B) → AllOf Q found → Q x → AllOf Q (found ++ x ∷ [])
all-push Q [] x all q = (q, tt)
all-push Q (y ∷ ys) x all q = (all.0, all-push Q ys x all.1 q)

module _ {S A B : Type 0} (mark : Parser (Option S)) (build : S → A → B) (item : Parser A) (g : S → Words) (f : A → Words) (P : A → Type 0) (h : B → Words) (Q : B → Type 0)
    (marks : Completes [] (maybe g) Any mark) (items : Completes [] f P item) (spelled : (s : S) (x : A) → h (build s x) ≡ g s ++ f x) (keeps : (s : S) (x : A) → P x → Q (build s x)) where
  pushed_words : (found : List B) (s : S) (x : A) → each h (found ++ build s x ∷ []) ≡ (each h found ++ g s) ++ f x
  pushed_words found s x = each-push h found (build s x) ∙ ap (λ ws. each h found ++ ws) (spelled s x) ∙ sym (append_assoc (each h found) (g s) (f x))

  step_completes : (again : List B → Parser (List B)) → ((found : List B) → AllOf Q found → Completes (each h found) (each h) (AllOf Q) (again found))
      → (found : List B) → AllOf Q found → (s : Option S) → Completes (each h found ++ maybe g s) (each h) (AllOf Q) (many_step build item again found s)
  step_completes again after found all None = gives found (sym (append-nil (each h found))) all
  step_completes again after found all (Some s) =
      bind items (λ x p. reworded (pushed_words found s x) (after (found ++ build s x ∷ []) (all-push Q found (build s x) all (keeps s x p))))

  from_completes : (n : ℕ) (found : List B) → AllOf Q found → Completes (each h found) (each h) (AllOf Q) (many_from mark build item n found)
  unfolding many_from
  from_completes zero found all = gives found refl all
  from_completes (suc n) found all = bind marks (λ s _. step_completes (many_from mark build item n) (λ more. λ q. from_completes n more q) found all s)

  pub many_completes : Completes [] (each h) (AllOf Q) (many mark build item)
  unfolding many
  many_completes = record {
    reads = record { more = λ i j a e. (from_completes (length i.words) [] tt).reads.more i j a e };
    some = record { value = []; more = []; spelled = refl; proper = tt; kept = tt };
    stops = λ i e d. (from_completes (length i.words) [] tt).stops i e d;
  }

-- { item }, where each item begins with one of these kinds
pub listed_completes : {A : Type 0} (kinds : List TokenKind) (f : A → Words) (Q : A → Type 0) (item : Parser A) → Completes [] f Q item → Completes [] (each f) (AllOf Q) (many (ahead kinds) alone item)
listed_completes kinds f Q item c = many_completes (ahead kinds) alone item silent f Q f Q (ahead_completes kinds) c (λ s x. refl) (λ s x q. q)

module _ (equal : EqualKinds) where
  -- { mark item }
  pub others_complete : {A : Type 0} (kind : TokenKind) → is_kind k.Name kind ≡ false → (f : A → Words) (Q : A → Type 0) (item : Parser A) → Completes [] f Q item
      → Completes [] (each (then_words kind f)) (AllOf (λ t. Q t.item)) (many (eat kind) then_of item)
  others_complete kind other f Q item c = many_completes (eat kind) then_of item (one kind) f Q (then_words kind f) (λ t. Q t.item) (eat_marks equal kind other) c (λ s x. refl) (λ s x q. q)

  -- item { mark item }
  pub chain_completes : {A : Type 0} (kind : TokenKind) → is_kind k.Name kind ≡ false → (f : A → Words) (Q : A → Type 0) (item : Parser A) → Completes [] f Q item
      → Completes [] (chain_words kind f) (λ c. Q c.first × AllOf (λ t. Q t.item) c.others) (chain item (many (eat kind) then_of item))
  chain_completes kind other f Q item c =
      bind c (λ a p. bind (others_complete kind other f Q item c) (λ more q. gives (record { first = a; others = more }) refl (p, q)))
