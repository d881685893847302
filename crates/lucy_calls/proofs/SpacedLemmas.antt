-- Lines that were written, as they are read.
use Rattle.std.proofs.Common.{◌≡◌, ℕ, ◌+◌, Bool, true, false, cond, eqb, nat_le, not, ◌&&◌, ◌||◌, List, [], ◌∷◌, ◌++◌, filter, Ok, refl, ap, ◌∙◌, arith}
use Rattle.std.proofs.lemmas.Bool.{and_parts}
use Rattle.std.proofs.lemmas.Bool.Decides.{nat_tests}
use Rattle.std.proofs.lemmas.List.{append-nil}
use Rattle.std.specs.List.{list_all}
use Rattle.std.specs.Prelude.{bytes_eq, codes}
use Rattle.lucy_calls.specs.Lines.{lines_of, onto, is_skipped, line, listed, listing, up_to_end}
use Rattle.lucy_calls.specs.Fields.{pieces, words, has_bytes, begins_spaced, ends_spaced, has_tab, is_even, fields_of}
use Rattle.lucy_calls.specs.Laws.{is_field}
use Rattle.lucy_calls.specs.declared.error.CallsError.{CallsError}
use Rattle.lucy_io.specs.Outcomes.{Outcome, ◌>>=◌}
use Rattle.lucy_calls.specs.Texts.{behind_spaces, spaced}

both : (s t : Bool) → s ≡ true → t ≡ true → (s && t) ≡ true
both s t h k = rw (h, k) refl

-- bytes of lines: the space, and those above it
abbrev pub is_plain : List ℕ → Bool
is_plain text = list_all (nat_le 32) text

no_lf : (b : ℕ) → nat_le 32 b ≡ true → eqb b 10 ≡ false
no_lf b h = grind (arith, nat_tests)

no_cr : (b : ℕ) → nat_le 32 b ≡ true → eqb b 13 ≡ false
no_cr b h = grind (arith, nat_tests)

no_tab : (b : ℕ) → nat_le 32 b ≡ true → eqb b 9 ≡ false
no_tab b h = grind (arith, nat_tests)

no_space : (b : ℕ) → nat_le 33 b ≡ true → eqb b 32 ≡ false
no_space b h = grind (arith, nat_tests)

lower : (b : ℕ) → nat_le 33 b ≡ true → nat_le 32 b ≡ true
lower b h = grind (arith, nat_tests)

-- a line that is ended by an LF
pub line_cut : (l rest : List ℕ) → is_plain l ≡ true → lines_of (l ++ 10 ∷ rest) ≡ l ∷ lines_of rest
line_cut [] rest h = refl
line_cut (b ∷ bs) rest h =
    let p = and_parts (nat_le 32 b) (is_plain bs) h in
    rw (no_lf b p.0, no_cr b p.0) (ap (onto b) (line_cut bs rest p.1))

plain_append : (xs ys : List ℕ) → is_plain xs ≡ true → is_plain ys ≡ true → is_plain (xs ++ ys) ≡ true
plain_append [] ys h k = k
plain_append (x ∷ xs) ys h k =
    let p = and_parts (nat_le 32 x) (is_plain xs) h in
    both (nat_le 32 x) (is_plain (xs ++ ys)) p.0 (plain_append xs ys p.1 k)

bytes_plain : (f : List ℕ) → list_all (nat_le 33) f ≡ true → is_plain f ≡ true
bytes_plain [] h = refl
bytes_plain (b ∷ bs) h =
    let p = and_parts (nat_le 33 b) (list_all (nat_le 33) bs) h in
    both (nat_le 32 b) (is_plain bs) (lower b p.0) (bytes_plain bs p.1)

abbrev pub are_fields : List (List ℕ) → Bool
are_fields fs = list_all is_field fs

behind_plain : (fs : List (List ℕ)) → are_fields fs ≡ true → is_plain (behind_spaces fs) ≡ true
behind_plain [] h = refl
behind_plain (f ∷ fs) h =
    let p = and_parts (is_field f) (are_fields fs) h in
    plain_append f (behind_spaces fs) (bytes_plain f (and_parts (has_bytes f) (list_all (nat_le 33) f) p.0).1) (behind_plain fs p.1)

pub spaced_plain : (f : List ℕ) (fs : List (List ℕ)) → are_fields (f ∷ fs) ≡ true → is_plain (spaced (f ∷ fs)) ≡ true
spaced_plain f fs h = behind_plain (f ∷ fs) h

pieces_cut : (f rest : List ℕ) → list_all (nat_le 33) f ≡ true → pieces (f ++ 32 ∷ rest) ≡ f ∷ pieces rest
pieces_cut [] rest h = refl
pieces_cut (b ∷ bs) rest h =
    let p = and_parts (nat_le 33 b) (list_all (nat_le 33) bs) h in
    rw (no_space b p.0) (ap (onto b) (pieces_cut bs rest p.1))

pieces_one : (f : List ℕ) → list_all (nat_le 33) f ≡ true → pieces f ≡ f ∷ []
pieces_one [] h = refl
pieces_one (b ∷ bs) h =
    let p = and_parts (nat_le 33 b) (list_all (nat_le 33) bs) h in
    rw (no_space b p.0) (ap (onto b) (pieces_one bs p.1))

kept : (f : List ℕ) (ps : List (List ℕ)) → has_bytes f ≡ true → filter has_bytes (f ∷ ps) ≡ f ∷ filter has_bytes ps
kept f ps h = ap (λ (t : Bool). cond t (f ∷ filter has_bytes ps) (filter has_bytes ps)) h

words_back : (f : List ℕ) (fs : List (List ℕ)) → are_fields (f ∷ fs) ≡ true → words (f ++ behind_spaces fs) ≡ f ∷ fs
words_back f [] h =
    let p = and_parts (has_bytes f) (list_all (nat_le 33) f) (and_parts (is_field f) true h).0 in
    ap words (append-nil f) ∙ ap (filter has_bytes) (pieces_one f p.1) ∙ kept f [] p.0
words_back f (g ∷ fs) h =
    let q = and_parts (is_field f) (are_fields (g ∷ fs)) h in
    let p = and_parts (has_bytes f) (list_all (nat_le 33) f) q.0 in
    ap (filter has_bytes) (pieces_cut f (g ++ behind_spaces fs) p.1) ∙ kept f (pieces (g ++ behind_spaces fs)) p.0 ∙ ap (λ (ws : List (List ℕ)). f ∷ ws) (words_back g fs q.1)

ends_later : (xs : List ℕ) (b : ℕ) (ys : List ℕ) → ends_spaced (xs ++ b ∷ ys) ≡ ends_spaced (b ∷ ys)
ends_later [] b ys = refl
ends_later (x ∷ []) b ys = refl
ends_later (x ∷ y ∷ xs) b ys = ends_later (y ∷ xs) b ys

ends_one : (f : List ℕ) → list_all (nat_le 33) f ≡ true → ends_spaced f ≡ false
ends_one [] h = refl
ends_one (b ∷ []) h = no_space b (and_parts (nat_le 33 b) true h).0
ends_one (b ∷ c ∷ bs) h = ends_one (c ∷ bs) (and_parts (nat_le 33 b) (list_all (nat_le 33) (c ∷ bs)) h).1

ends_even : (f : List ℕ) (fs : List (List ℕ)) → are_fields (f ∷ fs) ≡ true → ends_spaced (f ++ behind_spaces fs) ≡ false
ends_even f [] h =
    ap ends_spaced (append-nil f) ∙ ends_one f (and_parts (has_bytes f) (list_all (nat_le 33) f) (and_parts (is_field f) true h).0).1
ends_even f ([] ∷ fs) h = absurd (empty_field (and_parts (is_field f) (are_fields ([] ∷ fs)) h).1)
  where
    empty_field : false ≡ true → ⊥
    empty_field e = cc
ends_even f ((c ∷ cs) ∷ fs) h =
    ends_later f 32 (c ∷ cs ++ behind_spaces fs) ∙ ends_even (c ∷ cs) fs (and_parts (is_field f) (are_fields ((c ∷ cs) ∷ fs)) h).1

no_tabs : (text : List ℕ) → is_plain text ≡ true → has_tab text ≡ false
no_tabs [] h = refl
no_tabs (b ∷ bs) h =
    let p = and_parts (nat_le 32 b) (is_plain bs) h in
    rw (no_tab b p.0) (no_tabs bs p.1)

begins_even : (f : List ℕ) (rest : List ℕ) → is_field f ≡ true → begins_spaced (f ++ rest) ≡ false
begins_even [] rest h = absurd (cc)
begins_even (b ∷ bs) rest h = no_space b (and_parts (nat_le 33 b) (list_all (nat_le 33) bs) h).0

even_by : (s t u : Bool) → s ≡ false → t ≡ false → u ≡ false → not (s || t || u) ≡ true
even_by s t u h k j = rw (h, k, j) refl

pub spaced_even : (f : List ℕ) (fs : List (List ℕ)) → are_fields (f ∷ fs) ≡ true → is_even (spaced (f ∷ fs)) ≡ true
spaced_even f fs h =
    even_by (begins_spaced (spaced (f ∷ fs))) (ends_spaced (spaced (f ∷ fs))) (has_tab (spaced (f ∷ fs)))
    (begins_even f (behind_spaces fs) (and_parts (is_field f) (are_fields fs) h).0) (ends_even f fs h) (no_tabs (spaced (f ∷ fs)) (spaced_plain f fs h))

-- the fields of a line that was written
pub fields_back : (n : ℕ) (f : List ℕ) (fs : List (List ℕ)) → are_fields (f ∷ fs) ≡ true → fields_of n (spaced (f ∷ fs)) ≡ Ok (f ∷ fs)
unfolding fields_of
fields_back n f fs h = rw (spaced_even f fs h) (ap (λ (ws : List (List ℕ)). Ok ws) (words_back f fs h))

listed_by : (n : ℕ) (l : List ℕ) (ls : List (List ℕ)) → is_skipped l ≡ false → listed n (l ∷ ls) ≡ line n l (listed (n + 1) ls)
listed_by n l ls e = ap (λ (t : Bool). cond t (listed (n + 1) ls) (line n l (listed (n + 1) ls))) e

-- the next line of a text
pub line_listed : (n : ℕ) (l rest : List ℕ) → is_plain l ≡ true → is_skipped l ≡ false → listing n (l ++ 10 ∷ rest) ≡ line n l (listing (n + 1) rest)
line_listed n l rest h e = ap (listed n) (line_cut l rest h) ∙ listed_by n l (lines_of rest) e

-- one more line before the line `end`
pub one_more : {A : Type 0} (more : ℕ → List ℕ → A → Outcome CallsError A) (x y : A) (n : ℕ) (l rest : List ℕ) → is_plain l ≡ true → is_skipped l ≡ false → bytes_eq l (codes "end") ≡ false → more n l x ≡ Ok y
    → up_to_end more x (listing n (l ++ 10 ∷ rest)) ≡ up_to_end more y (listing (n + 1) rest)
unfolding up_to_end
one_more {A} more x y n l rest h e other is =
    ap (up_to_end more x) (line_listed n l rest h e) ∙ rw (other) (ap (λ (o : Outcome CallsError A). o >>= λ z. up_to_end more z (listing (n + 1) rest)) is)
