-- A line that is read is the line that is written of what was read.
use Rattle.std.proofs.Common.{◌≡◌, ◌≢◌, ℕ, ◌^◌, Bool, true, false, cond, eqb, nat_lt, ◌&&◌, ◌⊎◌, inl, inr, ℤ, pos, negsuc, List, [], ◌∷◌, ◌++◌, Option, Some, None, refl, ap, sym, ◌∙◌, subst, append_assoc}
use Rattle.std.proofs.lemmas.Bool.{eqb-true}
use Rattle.std.proofs.lemmas.List.{append-nil, map-append}
use Rattle.std.proofs.lemmas.Slice.Eq.{bytes_eq-Decides}
use Rattle.std.specs.Fmt.{decimal, signed_decimal}
use Rattle.std.specs.List.{list_all}
use Rattle.std.specs.Option.{option_map}
use Rattle.std.specs.Prelude.{bytes_eq, codes, map, int_lt}
use Rattle.lucy_clauses.specs.declared.lines.Ref.{Ref}
use Rattle.lucy_clauses.specs.declared.lines.Ref.TheVariants.{Negated, Low, High, Derived}
use Rattle.lucy_clauses.specs.declared.lines.Times.{Times}
use Rattle.lucy_clauses.specs.declared.lines.Line.TheVariants.{Sum, Divide}
use Rattle.lucy_clauses.specs.declared.parts.Part.{Part}
use Rattle.lucy_clauses.specs.Normal.{is_normal}
use Rattle.lucy_clauses.specs.Parts.{is_within}
use Rattle.lucy_clauses.specs.Sums.{Form, form}
use Rattle.lucy_io.specs.Decimals.{number_of, ReadIsWritten}
use Rattle.lucy_cert.specs.declared.entries.Entry.{Entry}
use Rattle.lucy_cert.specs.declared.entries.Entry.TheVariants as entry
use Rattle.lucy_cert.specs.declared.names.PartName.TheVariants.{Closure, Cover}
use Rattle.lucy_cert.specs.declared.tokens.Bound.{Bound}
use Rattle.lucy_cert.specs.Cutting.{behind_byte, cut, onto, pieces, behind_spaces, spaced}
use Rattle.lucy_cert.specs.Entries.{Pieces, Found, behind, at_end, last_piece, counts_of, atom_of, with_atom, atoms_of, clause_of, clause, times, times_of, sum_of, last_times, lemma_in, rup_in, droppable, drop_in, sum_in, quotient_in, closure_in, part_in, live_in, version_in, header_in, entry_in, entry_of}
use Rattle.lucy_cert.specs.Numbers.{are_droppable}
use Rattle.lucy_cert.specs.Options.{◌>>=◌}
use Rattle.lucy_cert.specs.Texts.{atom_pieces, comma_before, clause_pieces, sum_pieces, entry_pieces, entry_text}
use Rattle.lucy_cert.specs.Tokens.{count_in, count_of, where_within, size_of, where_positive, positive_of, part_of, part_text, no_bytes, bound_by, bound_in, bound_of, ref_by, ref_of, ref_text}
use Rattle.lucy_cert.specs.Writable.{part_fits, atom_fits, ref_fits, times_fits, number_fits, entry_fits}
use Rattle.lucy_cert.proofs.CutLemmas.{some_piece}
use Rattle.lucy_cert.proofs.Tests.{both, all_append}

-- ---- what an answer came from

pub bind_some : {A B : Type 0} (o : Option A) (f : A → Option B) (r : B) → (o >>= f) ≡ Some r → (x : A) × (o ≡ Some x) × (f x ≡ Some r)
bind_some None f r e = absurd (cc)
bind_some (Some x) f r e = (x, refl, e)

pub some_is : {A : Type 0} (x r : A) → Some x ≡ Some r → x ≡ r
some_is x r e = cc

pub if_some : {A : Type 0} (b : Bool) (x : Option A) (r : A) → cond b x None ≡ Some r → (b ≡ true) × (x ≡ Some r)
if_some true x r e = (refl, e)
if_some false x r e = absurd (cc)

chosen : {A : Type 0} (b : Bool) (x y : Option A) (r : A) → cond b x y ≡ Some r → ((b ≡ true) × (x ≡ Some r)) ⊎ ((b ≡ false) × (y ≡ Some r))
chosen true x y r e = inl (refl, e)
chosen false x y r e = inr (refl, e)

-- ---- pieces

spaced-onto : (c : ℕ) (ps : Pieces) → spaced (onto c ps) ≡ c ∷ spaced ps
spaced-onto c [] = refl
spaced-onto c (p ∷ ps) = refl

behind_some : (ps : Pieces) → ps ≢ [] → behind_spaces ps ≡ 32 ∷ spaced ps
behind_some [] some = absurd (some refl)
behind_some (p ∷ ps) some = refl

cut_space : (c : ℕ) (cs : List ℕ) (t : Bool) → eqb c 32 ≡ t → spaced (pieces cs) ≡ cs → spaced (cond t ([] ∷ pieces cs) (onto c (pieces cs))) ≡ c ∷ cs
cut_space c cs true is rest = behind_some (pieces cs) (some_piece cs) ∙ ap (λ (ds : List ℕ). 32 ∷ ds) rest ∙ ap (λ (d : ℕ). d ∷ cs) (sym (eqb-true c 32 is))
cut_space c cs false is rest = spaced-onto c (pieces cs) ∙ ap (λ (ds : List ℕ). c ∷ ds) rest

-- a text is its pieces with a space between them
pub pieces_whole : (text : List ℕ) → spaced (pieces text) ≡ text
pieces_whole [] = refl
pieces_whole (c ∷ cs) = cut_space c cs (eqb c 32) refl (pieces_whole cs)

cut_by : (b c : ℕ) (cs : List ℕ) (p : List ℕ × List ℕ) (t : Bool) → eqb c b ≡ t → ((q : List ℕ × List ℕ) → cut b cs ≡ Some q → cs ≡ q.0 ++ b ∷ q.1)
    → cond t (Some ([], cs)) (option_map (behind_byte c) (cut b cs)) ≡ Some p → c ∷ cs ≡ p.0 ++ b ∷ p.1
cut_by b c cs p true is later e =
    let same : ([], cs) ≡ p = some_is ([], cs) p e in
    ap (λ (d : ℕ). d ∷ cs) (eqb-true c b is) ∙ ap (λ (q : List ℕ × List ℕ). q.0 ++ b ∷ q.1) same
cut_by b c cs p false is later e = from (cut b cs) refl e
  where
    from : (o : Option (List ℕ × List ℕ)) → cut b cs ≡ o → option_map (behind_byte c) o ≡ Some p → c ∷ cs ≡ p.0 ++ b ∷ p.1
    from None at e' = absurd (cc)
    from (Some q) at e' =
        let same : behind_byte c q ≡ p = some_is (behind_byte c q) p e' in
        ap (λ (ds : List ℕ). c ∷ ds) (later q at) ∙ ap (λ (r : List ℕ × List ℕ). r.0 ++ b ∷ r.1) same

cut_said : (b : ℕ) (text : List ℕ) (p : List ℕ × List ℕ) → cut b text ≡ Some p → text ≡ p.0 ++ b ∷ p.1
cut_said b [] p e = absurd (cc)
cut_said b (c ∷ cs) p e = cut_by b c cs p (eqb c b) refl (cut_said b cs) e

abbrev commas : Bool → List ℕ
commas true = 44 ∷ []
commas false = []

no_bytes_is : (bs : List ℕ) → no_bytes bs ≡ true → bs ≡ []
no_bytes_is [] e = refl
no_bytes_is (b ∷ bs) e = absurd (cc)

word_is : (p word : List ℕ) → bytes_eq p word ≡ true → p ≡ word
word_is p word e = (bytes_eq-Decides p word).0 e

abbrev part : ℤ → ℕ → Part
part by v = record { variable = v; by = by }

abbrev made : Bool → ℤ → Bound
made more z = record { bound = z; more = more }

module _ (written : ReadIsWritten) where
  count_said : (most : ℕ) (text : List ℕ) (n : ℕ) → count_of most text ≡ Some n → (text ≡ decimal n) × (nat_lt n most ≡ true)
  count_said most text n e = from (number_of text) refl e
    where
      from : (o : Option ℤ) → number_of text ≡ o → count_in most o ≡ Some n → (text ≡ decimal n) × (nat_lt n most ≡ true)
      from None is e' = absurd (cc)
      from (Some (pos m)) is e' =
          let t = if_some (nat_lt m most) (Some m) n e' in
          let same : m ≡ n = some_is m n t.1 in
          ((written text (pos m) is).0 ∙ ap (λ (k : ℕ). decimal k) same, ap (λ (k : ℕ). nat_lt k most) (sym same) ∙ t.0)
      from (Some (negsuc m)) is e' = absurd (cc)

  size_said : (text : List ℕ) (z : ℤ) → size_of text ≡ Some z → (text ≡ signed_decimal z) × (is_within z ≡ true)
  size_said text z e = from (number_of text) refl e
    where
      from : (o : Option ℤ) → number_of text ≡ o → where_within o ≡ Some z → (text ≡ signed_decimal z) × (is_within z ≡ true)
      from None is e' = absurd (cc)
      from (Some y) is e' =
          let t = if_some (is_within y) (Some y) z e' in
          let same : y ≡ z = some_is y z t.1 in
          ((written text y is).0 ∙ ap (λ (k : ℤ). signed_decimal k) same, ap (λ (k : ℤ). is_within k) (sym same) ∙ t.0)

  positive_said : (text : List ℕ) (z : ℤ) → positive_of text ≡ Some z → (text ≡ signed_decimal z) × (is_within z ≡ true) × (int_lt (pos 0) z ≡ true)
  positive_said text z e = from (size_of text) refl e
    where
      from : (o : Option ℤ) → size_of text ≡ o → where_positive o ≡ Some z → (text ≡ signed_decimal z) × (is_within z ≡ true) × (int_lt (pos 0) z ≡ true)
      from None is e' = absurd (cc)
      from (Some y) is e' =
          let t = if_some (int_lt (pos 0) y) (Some y) z e' in
          let same : y ≡ z = some_is y z t.1 in
          let s = size_said text y is in
          (s.0 ∙ ap (λ (k : ℤ). signed_decimal k) same, ap (λ (k : ℤ). is_within k) (sym same) ∙ s.1, ap (λ (k : ℤ). int_lt (pos 0) k) (sym same) ∙ t.0)

  part_said : (text : List ℕ) (p : Part) → part_of text ≡ Some p → (text ≡ part_text p) × (part_fits p ≡ true)
  part_said text p e =
      let a = bind_some (cut 42 text) (λ (q : List ℕ × List ℕ). size_of q.0 >>= λ by. count_of (2 ^ 32) q.1 >>= λ v. Some (part by v)) p e in
      let b = bind_some (size_of a.0.0) (λ (by : ℤ). count_of (2 ^ 32) a.0.1 >>= λ v. Some (part by v)) p a.2 in
      let c = bind_some (count_of (2 ^ 32) a.0.1) (λ (v : ℕ). Some (part b.0 v)) p b.2 in
      let s = size_said a.0.0 b.0 b.1 in
      let n = count_said (2 ^ 32) a.0.1 c.0 c.1 in
      let same : part b.0 c.0 ≡ p = some_is (part b.0 c.0) p c.2 in (
        cut_said 42 text a.0 a.1 ∙ ap (λ (x : List ℕ). x ++ 42 ∷ a.0.1) s.0 ∙ ap (λ (x : List ℕ). signed_decimal b.0 ++ 42 ∷ x) n.0 ∙ ap part_text same,
        ap part_fits (sym same) ∙ both (is_within b.0) (nat_lt c.0 (2 ^ 32)) s.1 n.1,
      )

  bound_said : (text : List ℕ) (b : Bound) → bound_of text ≡ Some b → (text ≡ signed_decimal b.bound ++ commas b.more) × (is_within b.bound ≡ true)
  bound_said text b e = from (cut 44 text) refl e
    where
      sized : (more : Bool) (digits : List ℕ) → bound_by more digits ≡ Some b → (digits ++ commas more ≡ signed_decimal b.bound ++ commas b.more) × (is_within b.bound ≡ true)
      sized more digits e' =
          let a = bind_some (size_of digits) (λ (z : ℤ). Some (made more z)) b e' in
          let s = size_said digits a.0 a.1 in
          let same : made more a.0 ≡ b = some_is (made more a.0) b a.2 in
          (ap (λ (x : List ℕ). x ++ commas more) s.0 ∙ ap (λ (x : Bound). signed_decimal x.bound ++ commas x.more) same, ap (λ (x : Bound). is_within x.bound) (sym same) ∙ s.1)

      from : (o : Option (List ℕ × List ℕ)) → cut 44 text ≡ o → bound_in text o ≡ Some b → (text ≡ signed_decimal b.bound ++ commas b.more) × (is_within b.bound ≡ true)
      from None is e' = let t = sized false text e' in (sym (append-nil text) ∙ t.0, t.1)
      from (Some p) is e' =
          let t = if_some (no_bytes p.1) (bound_by true p.0) b e' in
          let s = sized true p.0 t.1 in
          (cut_said 44 text p is ∙ ap (λ (x : List ℕ). p.0 ++ 44 ∷ x) (no_bytes_is p.1 t.0) ∙ s.0, s.1)

  -- ---- references

  ref_made : (c k n : ℕ) (q r : Ref) → eqb c k ≡ true → Some q ≡ Some r → k ∷ decimal n ≡ ref_text q → ref_fits q ≡ nat_lt n (2 ^ 32)
      → (c ∷ decimal n ≡ ref_text r) × (ref_fits r ≡ nat_lt n (2 ^ 32))
  ref_made c k n q r is e text fits =
      let same : q ≡ r = some_is q r e in
      (ap (λ (d : ℕ). d ∷ decimal n) (eqb-true c k is) ∙ text ∙ ap ref_text same, ap ref_fits (sym same) ∙ fits)

  ref_by_said : (c n : ℕ) (r : Ref) → ref_by c n ≡ Some r → (c ∷ decimal n ≡ ref_text r) × (ref_fits r ≡ nat_lt n (2 ^ 32))
  ref_by_said c n r e = negated (eqb c 110) refl e
    where
      derived : (t : Bool) → eqb c 100 ≡ t → cond t (Some (Derived n)) None ≡ Some r → (c ∷ decimal n ≡ ref_text r) × (ref_fits r ≡ nat_lt n (2 ^ 32))
      derived true is e' = ref_made c 100 n (Derived n) r is e' refl refl
      derived false is e' = absurd (cc)

      high : (t : Bool) → eqb c 104 ≡ t → cond t (Some (High n)) (cond (eqb c 100) (Some (Derived n)) None) ≡ Some r → (c ∷ decimal n ≡ ref_text r) × (ref_fits r ≡ nat_lt n (2 ^ 32))
      high true is e' = ref_made c 104 n (High n) r is e' refl refl
      high false is e' = derived (eqb c 100) refl e'

      low : (t : Bool) → eqb c 108 ≡ t → cond t (Some (Low n)) (cond (eqb c 104) (Some (High n)) (cond (eqb c 100) (Some (Derived n)) None)) ≡ Some r → (c ∷ decimal n ≡ ref_text r) × (ref_fits r ≡ nat_lt n (2 ^ 32))
      low true is e' = ref_made c 108 n (Low n) r is e' refl refl
      low false is e' = high (eqb c 104) refl e'

      negated : (t : Bool) → eqb c 110 ≡ t → cond t (Some (Negated n)) (cond (eqb c 108) (Some (Low n)) (cond (eqb c 104) (Some (High n)) (cond (eqb c 100) (Some (Derived n)) None))) ≡ Some r
          → (c ∷ decimal n ≡ ref_text r) × (ref_fits r ≡ nat_lt n (2 ^ 32))
      negated true is e' = ref_made c 110 n (Negated n) r is e' refl refl
      negated false is e' = low (eqb c 108) refl e'

  ref_said : (text : List ℕ) (r : Ref) → ref_of text ≡ Some r → (text ≡ ref_text r) × (ref_fits r ≡ true)
  ref_said [] r e = absurd (cc)
  ref_said (c ∷ cs) r e =
      let a = bind_some (count_of (2 ^ 32) cs) (ref_by c) r e in
      let n = count_said (2 ^ 32) cs a.0 a.1 in
      let s = ref_by_said c a.0 r a.2 in
      (ap (λ (ds : List ℕ). c ∷ ds) n.0 ∙ s.0, s.1 ∙ n.1)

  pair_said : (p q : List ℕ) (t : Times) → times_of p q ≡ Some t → (p ≡ signed_decimal t.by) × (q ≡ ref_text t.of) × (times_fits t ≡ true)
  pair_said p q t e =
      let a = bind_some (positive_of p) (λ (by : ℤ). ref_of q >>= λ of. Some (times by of)) t e in
      let b = bind_some (ref_of q) (λ (of : Ref). Some (times a.0 of)) t a.2 in
      let s = positive_said p a.0 a.1 in
      let r = ref_said q b.0 b.1 in
      let same : times a.0 b.0 ≡ t = some_is (times a.0 b.0) t b.2 in (
        s.0 ∙ ap (λ (x : Times). signed_decimal x.by) same,
        r.0 ∙ ap (λ (x : Times). ref_text x.of) same,
        ap times_fits (sym same) ∙ both (is_within a.0 && int_lt (pos 0) a.0) (ref_fits b.0) (both (is_within a.0) (int_lt (pos 0) a.0) s.1 s.2) r.1,
      )

  -- ---- lists

  record CountsSaid (found : List ℕ) (ps : Pieces) (numbers : List ℕ) : Type 0 where
    more : List ℕ
    are : numbers ≡ found ++ more
    said : ps ≡ map decimal more
    fit : list_all number_fits more ≡ true

  counts_said : (found : List ℕ) (ps : Pieces) (numbers : List ℕ) → counts_of found ps ≡ Some numbers → CountsSaid found ps numbers
  counts_said found [] numbers e = record { more = []; are = sym (some_is found numbers e) ∙ sym (append-nil found); said = refl; fit = refl }
  counts_said found (p ∷ ps) numbers e =
      let a = bind_some (count_of (2 ^ 64) p) (λ (n : ℕ). counts_of (found ++ n ∷ []) ps) numbers e in
      let n = count_said (2 ^ 64) p a.0 a.1 in
      let s = counts_said (found ++ a.0 ∷ []) ps numbers a.2 in
      record {
        more = a.0 ∷ s.more;
        are = s.are ∙ append_assoc found (a.0 ∷ []) s.more;
        said = ap (λ (x : List ℕ). x ∷ ps) n.0 ∙ ap (λ (xs : Pieces). decimal a.0 ∷ xs) s.said;
        fit = both (number_fits a.0) (list_all number_fits s.more) n.1 s.fit;
      }

  record SumSaid (found : List Times) (ps : Pieces) (terms : List Times) : Type 0 where
    more : List Times
    are : terms ≡ found ++ more
    said : ps ≡ sum_pieces more
    fit : list_all times_fits more ≡ true

  sum_said : (found : List Times) (ps : Pieces) (terms : List Times) → sum_of found ps ≡ Some terms → SumSaid found ps terms
  sum_said found [] terms e = record { more = []; are = sym (some_is found terms e) ∙ sym (append-nil found); said = refl; fit = refl }
  sum_said found (p ∷ []) terms e = absurd (cc)
  sum_said found (p ∷ q ∷ ps) terms e =
      let a = bind_some (times_of p q) (λ (t : Times). sum_of (found ++ t ∷ []) ps) terms e in
      let t = pair_said p q a.0 a.1 in
      let s = sum_said (found ++ a.0 ∷ []) ps terms a.2 in
      record {
        more = a.0 ∷ s.more;
        are = s.are ∙ append_assoc found (a.0 ∷ []) s.more;
        said = ap (λ (x : List ℕ). x ∷ q ∷ ps) t.0 ∙ ap (λ (x : List ℕ). signed_decimal a.0.by ∷ x ∷ ps) t.1 ∙ ap (λ (xs : Pieces). signed_decimal a.0.by ∷ ref_text a.0.of ∷ xs) s.said;
        fit = both (times_fits a.0) (list_all times_fits s.more) t.2 s.fit;
      }

  -- ---- clauses

  -- the pieces of a clause, grouped to the right
  grouped : (t : Form) (ts : List Form) (rest : Pieces)
      → clause_pieces (t ∷ ts) ++ rest ≡ map part_text t.parts ++ (codes "<=" ∷ (signed_decimal t.bound ++ comma_before ts) ∷ (clause_pieces ts ++ rest))
  grouped t ts rest =
      append_assoc (atom_pieces (comma_before ts) t) (clause_pieces ts) rest
      ∙ append_assoc (map part_text t.parts) (codes "<=" ∷ (signed_decimal t.bound ++ comma_before ts) ∷ []) (clause_pieces ts ++ rest)

  -- the pieces of the parts that were found, before the bound or behind `<=`
  abbrev front : Bool → List Part → Pieces
  front false parts = map part_text parts
  front true parts = map part_text parts ++ codes "<=" ∷ []

  record AtomsSaid (atoms : List Form) (ps : Pieces) (found : Found) : Type 0 where
    first : Form
    more : List Form
    are : found.0 ≡ atoms ++ first ∷ more
    said : ps ≡ clause_pieces (first ∷ more) ++ found.1
    fit : list_all atom_fits (first ∷ more) ≡ true

  moved : (atoms : List Form) (ps qs : Pieces) (found : Found) → ps ≡ qs → AtomsSaid atoms ps found → AtomsSaid atoms qs found
  moved atoms ps qs found e s = record { first = s.first; more = s.more; are = s.are; said = sym e ∙ s.said; fit = s.fit }

  one_fits : (parts : List Part) (z : ℤ) → is_normal parts ≡ true → is_within z ≡ true → list_all part_fits parts ≡ true → atom_fits (form parts z) ≡ true
  one_fits parts z n w f = both (is_normal parts && is_within z) (list_all part_fits parts) (both (is_normal parts) (is_within z) n w) f

  -- an atom, and others behind it
  with_more : (atoms : List Form) (parts : List Part) (z : ℤ) (p : List ℕ) (ps : Pieces) (found : Found) → p ≡ signed_decimal z ++ 44 ∷ [] → atom_fits (form parts z) ≡ true
      → AtomsSaid (atoms ++ form parts z ∷ []) ps found → AtomsSaid atoms ((map part_text parts ++ codes "<=" ∷ []) ++ p ∷ ps) found
  with_more atoms parts z p ps found is fits s = record {
    first = form parts z;
    more = s.first ∷ s.more;
    are = s.are ∙ append_assoc atoms (form parts z ∷ []) (s.first ∷ s.more);
    said =
        append_assoc (map part_text parts) (codes "<=" ∷ []) (p ∷ ps)
        ∙ ap (λ (x : List ℕ). map part_text parts ++ codes "<=" ∷ x ∷ ps) is
        ∙ ap (λ (xs : Pieces). map part_text parts ++ codes "<=" ∷ (signed_decimal z ++ 44 ∷ []) ∷ xs) s.said
        ∙ sym (grouped (form parts z) (s.first ∷ s.more) found.1);
    fit = both (atom_fits (form parts z)) (list_all atom_fits (s.first ∷ s.more)) fits s.fit;
  }

  with_none : (atoms : List Form) (parts : List Part) (z : ℤ) (p : List ℕ) (ps : Pieces) (found : Found) → p ≡ signed_decimal z ++ [] → atom_fits (form parts z) ≡ true
      → (atoms ++ form parts z ∷ [], ps) ≡ found → AtomsSaid atoms ((map part_text parts ++ codes "<=" ∷ []) ++ p ∷ ps) found
  with_none atoms parts z p ps found is fits e = record {
    first = form parts z;
    more = [];
    are = ap (λ (f : Found). f.0) (sym e);
    said =
        append_assoc (map part_text parts) (codes "<=" ∷ []) (p ∷ ps)
        ∙ ap (λ (x : List ℕ). map part_text parts ++ codes "<=" ∷ x ∷ ps) is
        ∙ sym (grouped (form parts z) [] ps)
        ∙ ap (λ (f : Found). clause_pieces (form parts z ∷ []) ++ f.1) e;
    fit = both (atom_fits (form parts z)) true fits refl;
  }

  -- an atom ends with its bound
  bounded : (atoms : List Form) (parts : List Part) (p : List ℕ) (ps : Pieces) (found : Found) → list_all part_fits parts ≡ true
      → ((more : List Form) → atoms_of false more [] ps ≡ Some found → AtomsSaid more ps found)
      → (bound_of p >>= λ b. with_atom atoms parts b ps (λ more. atoms_of false more [] ps)) ≡ Some found → AtomsSaid atoms ((map part_text parts ++ codes "<=" ∷ []) ++ p ∷ ps) found
  bounded atoms parts p ps found fits later e =
      let a = bind_some (bound_of p) (λ (b : Bound). with_atom atoms parts b ps (λ more. atoms_of false more [] ps)) found e in
      let b = bind_some (atom_of parts a.0.bound) (λ (t : Form). cond a.0.more (atoms_of false (atoms ++ t ∷ []) [] ps) (Some (atoms ++ t ∷ [], ps))) found a.2 in
      let n = if_some (is_normal parts) (Some (form parts a.0.bound)) b.0 b.1 in
      let same : form parts a.0.bound ≡ b.0 = some_is (form parts a.0.bound) b.0 n.1 in
      let s = bound_said p a.0 a.1 in
      by a.0.more a.0.bound s.0 (one_fits parts a.0.bound n.0 s.1 fits)
      (ap (λ (t : Form). cond a.0.more (atoms_of false (atoms ++ t ∷ []) [] ps) (Some (atoms ++ t ∷ [], ps))) same ∙ b.2)
    where
      by : (more : Bool) (z : ℤ) → p ≡ signed_decimal z ++ commas more → atom_fits (form parts z) ≡ true
          → cond more (atoms_of false (atoms ++ form parts z ∷ []) [] ps) (Some (atoms ++ form parts z ∷ [], ps)) ≡ Some found
          → AtomsSaid atoms ((map part_text parts ++ codes "<=" ∷ []) ++ p ∷ ps) found
      by true z is fit e' = with_more atoms parts z p ps found is fit (later (atoms ++ form parts z ∷ []) e')
      by false z is fit e' = with_none atoms parts z p ps found is fit (some_is (atoms ++ form parts z ∷ [], ps) found e')

  -- a part, or `<=`
  parted : (atoms : List Form) (parts : List Part) (p : List ℕ) (ps : Pieces) (found : Found) → list_all part_fits parts ≡ true
      → (atoms_of true atoms parts ps ≡ Some found → AtomsSaid atoms ((map part_text parts ++ codes "<=" ∷ []) ++ ps) found)
      → ((x : Part) → part_fits x ≡ true → atoms_of false atoms (parts ++ x ∷ []) ps ≡ Some found → AtomsSaid atoms (map part_text (parts ++ x ∷ []) ++ ps) found)
      → (t : Bool) → bytes_eq p (codes "<=") ≡ t → cond t (atoms_of true atoms parts ps) (part_of p >>= λ x. atoms_of false atoms (parts ++ x ∷ []) ps) ≡ Some found
      → AtomsSaid atoms (map part_text parts ++ p ∷ ps) found
  parted atoms parts p ps found fits at_bound at_part true is e =
      moved atoms ((map part_text parts ++ codes "<=" ∷ []) ++ ps) (map part_text parts ++ p ∷ ps) found
      (append_assoc (map part_text parts) (codes "<=" ∷ []) ps ∙ ap (λ (x : List ℕ). map part_text parts ++ x ∷ ps) (sym (word_is p (codes "<=") is))) (at_bound e)
  parted atoms parts p ps found fits at_bound at_part false is e =
      let a = bind_some (part_of p) (λ (x : Part). atoms_of false atoms (parts ++ x ∷ []) ps) found e in
      let s = part_said p a.0 a.1 in
      moved atoms (map part_text (parts ++ a.0 ∷ []) ++ ps) (map part_text parts ++ p ∷ ps) found
      (ap (λ (xs : Pieces). xs ++ ps) (map-append part_text parts (a.0 ∷ [])) ∙ append_assoc (map part_text parts) (part_text a.0 ∷ []) ps ∙ ap (λ (x : List ℕ). map part_text parts ++ x ∷ ps) (sym s.0))
      (at_part a.0 s.1 a.2)

  atoms_said : (at_bound : Bool) (atoms : List Form) (parts : List Part) (ps : Pieces) (found : Found) → list_all part_fits parts ≡ true
      → atoms_of at_bound atoms parts ps ≡ Some found → AtomsSaid atoms (front at_bound parts ++ ps) found
  atoms_said false atoms parts [] found fits e = absurd (cc)
  atoms_said true atoms parts [] found fits e = absurd (cc)
  atoms_said false atoms parts (p ∷ ps) found fits e =
      parted atoms parts p ps found fits (λ e'. atoms_said true atoms parts ps found fits e')
      (λ x fit e'. atoms_said false atoms (parts ++ x ∷ []) ps found (all_append part_fits parts (x ∷ []) fits (both (part_fits x) true fit refl)) e')
      (bytes_eq p (codes "<=")) refl e
  atoms_said true atoms parts (p ∷ ps) found fits e = bounded atoms parts p ps found fits (λ more e'. atoms_said false more [] ps found refl e') e

  clause_said : (ps : Pieces) (found : Found) → clause_of ps ≡ Some found → (ps ≡ clause_pieces found.0 ++ found.1) × (list_all atom_fits found.0 ≡ true)
  clause_said [] found e =
      let same : ([], []) ≡ found = some_is ([], []) found e in
      (ap (λ (f : Found). clause_pieces f.0 ++ f.1) same, ap (λ (f : Found). list_all atom_fits f.0) (sym same))
  clause_said (p ∷ ps) found e = from (bytes_eq p (codes "by")) e
    where
      from : (t : Bool) → cond t (Some ([], p ∷ ps)) (atoms_of false [] [] (p ∷ ps)) ≡ Some found → (p ∷ ps ≡ clause_pieces found.0 ++ found.1) × (list_all atom_fits found.0 ≡ true)
      from true e' =
          let same : ([], p ∷ ps) ≡ found = some_is ([], p ∷ ps) found e' in
          (ap (λ (f : Found). clause_pieces f.0 ++ f.1) same, ap (λ (f : Found). list_all atom_fits f.0) (sym same))
      from false e' =
          let s = atoms_said false [] [] (p ∷ ps) found refl e' in
          (s.said ∙ ap (λ (ts : List Form). clause_pieces ts ++ found.1) (sym s.are), ap (λ (ts : List Form). list_all atom_fits ts) s.are ∙ s.fit)

  -- ---- lines

  abbrev Said : Pieces → Entry → Type 0
  Said ps e = (ps ≡ entry_pieces e) × (entry_fits e ≡ true)

  -- the entry that was made is the one that is told
  told : (ps : Pieces) (made e : Entry) → Some made ≡ Some e → Said ps made → Said ps e
  told ps made e same s = subst (λ (x : Entry). Said ps x) (some_is made e same) s

  ended_by : (word : List ℕ) (made e : Entry) (ps : Pieces) → at_end made ps ≡ Some e → Said (word ∷ []) made → Said (word ∷ ps) e
  ended_by word made e [] h s = told (word ∷ []) made e h s
  ended_by word made e (p ∷ ps) h s = absurd (cc)

  behind_said : (word : List ℕ) (ps qs : Pieces) → behind word ps ≡ Some qs → ps ≡ word ∷ qs
  behind_said word [] qs e = absurd (cc)
  behind_said word (p ∷ ps) qs e =
      let t = if_some (bytes_eq p word) (Some ps) qs e in
      ap (λ (x : List ℕ). x ∷ ps) (word_is p word t.0) ∙ ap (λ (xs : Pieces). word ∷ xs) (some_is ps qs t.1)

  last_said : (ps : Pieces) (p : List ℕ) → last_piece ps ≡ Some p → ps ≡ p ∷ []
  last_said [] p e = absurd (cc)
  last_said (q ∷ []) p e = ap (λ (x : List ℕ). x ∷ []) (some_is q p e)
  last_said (q ∷ r ∷ ps) p e = absurd (cc)

  lemma_said : (ps : Pieces) (e : Entry) → lemma_in ps ≡ Some e → Said (codes "lemma" ∷ ps) e
  lemma_said ps e h =
      let a = bind_some (clause_of ps) (λ (f : Found). at_end (entry.Lemma (clause f.0)) f.1) e h in
      let s = clause_said ps a.0 a.1 in
      from a.0.0 a.0.1 s.0 s.1 a.2
    where
      from : (ts : List Form) (rest : Pieces) → ps ≡ clause_pieces ts ++ rest → list_all atom_fits ts ≡ true → at_end (entry.Lemma (clause ts)) rest ≡ Some e → Said (codes "lemma" ∷ ps) e
      from ts [] is fits h' = told (codes "lemma" ∷ ps) (entry.Lemma (clause ts)) e h' (ap (λ (xs : Pieces). codes "lemma" ∷ xs) (is ∙ append-nil (clause_pieces ts)), fits)
      from ts (p ∷ qs) is fits h' = absurd (cc)

  rup_said : (ps : Pieces) (e : Entry) → rup_in ps ≡ Some e → Said (codes "rup" ∷ ps) e
  rup_said ps e h =
      let a = bind_some (clause_of ps) (λ (f : Found). behind (codes "by") f.1 >>= λ hints. counts_of [] hints >>= λ numbers. Some (entry.Rup (clause f.0) numbers)) e h in
      let b = bind_some (behind (codes "by") a.0.1) (λ (hints : Pieces). counts_of [] hints >>= λ numbers. Some (entry.Rup (clause a.0.0) numbers)) e a.2 in
      let c = bind_some (counts_of [] b.0) (λ (numbers : List ℕ). Some (entry.Rup (clause a.0.0) numbers)) e b.2 in
      let s = clause_said ps a.0 a.1 in
      let n = counts_said [] b.0 c.0 c.1 in
      told (codes "rup" ∷ ps) (entry.Rup (clause a.0.0) c.0) e c.2 (
        ap (λ (xs : Pieces). codes "rup" ∷ xs) (s.0 ∙ ap (λ (xs : Pieces). clause_pieces a.0.0 ++ xs) (behind_said (codes "by") a.0.1 b.0 b.1 ∙ ap (λ (xs : Pieces). codes "by" ∷ xs) (n.said ∙ ap (map decimal) (sym n.are)))),
        both (list_all atom_fits a.0.0) (list_all number_fits c.0) s.1 (ap (list_all number_fits) n.are ∙ n.fit),
      )

  drop_said : (ps : Pieces) (e : Entry) → drop_in ps ≡ Some e → Said (codes "drop" ∷ ps) e
  drop_said ps e h =
      let a = bind_some (counts_of [] ps) droppable e h in
      let n = counts_said [] ps a.0 a.1 in
      let t = if_some (are_droppable a.0) (Some (entry.Drop a.0)) e a.2 in
      told (codes "drop" ∷ ps) (entry.Drop a.0) e t.1
      (ap (λ (xs : Pieces). codes "drop" ∷ xs) (n.said ∙ ap (map decimal) (sym n.are)), both (are_droppable a.0) (list_all number_fits a.0) t.0 (ap (list_all number_fits) n.are ∙ n.fit))

  sum_in_said : (ps : Pieces) (e : Entry) → sum_in ps ≡ Some e → Said (codes "+" ∷ ps) e
  sum_in_said ps e h =
      let a = bind_some (sum_of [] ps) (λ (ts : List Times). Some (entry.Derivation (Sum ts))) e h in
      let s = sum_said [] ps a.0 a.1 in
      told (codes "+" ∷ ps) (entry.Derivation (Sum a.0)) e a.2
      (ap (λ (xs : Pieces). codes "+" ∷ xs) (s.said ∙ ap sum_pieces (sym s.are)), ap (list_all times_fits) s.are ∙ s.fit)

  quotient_said : (ps : Pieces) (e : Entry) → quotient_in ps ≡ Some e → Said (codes "/" ∷ ps) e
  quotient_said [] e h = absurd (cc)
  quotient_said (p ∷ ps) e h =
      let a = bind_some (last_times (p ∷ ps)) (λ (t : Times). Some (entry.Derivation (Divide t.by t.of))) e h in
      let b = bind_some (last_piece ps) (times_of p) a.0 a.1 in
      let t = pair_said p b.0 a.0 b.2 in
      told (codes "/" ∷ p ∷ ps) (entry.Derivation (Divide a.0.by a.0.of)) e a.2
      (ap (λ (x : List ℕ). codes "/" ∷ x ∷ ps) t.0 ∙ ap (λ (xs : Pieces). codes "/" ∷ signed_decimal a.0.by ∷ xs) (last_said ps b.0 b.1 ∙ ap (λ (x : List ℕ). x ∷ []) t.1), t.2)

  closure_said : (ps : Pieces) (e : Entry) → closure_in ps ≡ Some e → Said (codes "part" ∷ codes "closure" ∷ ps) e
  closure_said ps e h =
      let a = bind_some (last_piece ps) (λ (p : List ℕ). count_of 16 p >>= λ k. Some (entry.Part (Closure k))) e h in
      let b = bind_some (count_of 16 a.0) (λ (k : ℕ). Some (entry.Part (Closure k))) e a.2 in
      let n = count_said 16 a.0 b.0 b.1 in
      told (codes "part" ∷ codes "closure" ∷ ps) (entry.Part (Closure b.0)) e b.2
      (ap (λ (xs : Pieces). codes "part" ∷ codes "closure" ∷ xs) (last_said ps a.0 a.1 ∙ ap (λ (x : List ℕ). x ∷ []) n.0), n.1)

  -- a line with this word in front
  worded : (front_pieces : Pieces) (p word : List ℕ) (ps : Pieces) (e : Entry) → bytes_eq p word ≡ true → Said (front_pieces ++ word ∷ ps) e → Said (front_pieces ++ p ∷ ps) e
  worded before p word ps e is s = (ap (λ (x : List ℕ). before ++ x ∷ ps) (word_is p word is) ∙ s.0, s.1)

  part_in_said : (ps : Pieces) (e : Entry) → part_in ps ≡ Some e → Said (codes "part" ∷ ps) e
  part_in_said [] e h = absurd (cc)
  part_in_said (p ∷ ps) e h = cover (bytes_eq p (codes "cover")) refl h
    where
      closure : (t : Bool) → bytes_eq p (codes "closure") ≡ t → cond t (closure_in ps) None ≡ Some e → Said (codes "part" ∷ p ∷ ps) e
      closure true is h' = worded (codes "part" ∷ []) p (codes "closure") ps e is (closure_said ps e h')
      closure false is h' = absurd (cc)

      cover : (t : Bool) → bytes_eq p (codes "cover") ≡ t → cond t (at_end (entry.Part Cover) ps) (cond (bytes_eq p (codes "closure")) (closure_in ps) None) ≡ Some e → Said (codes "part" ∷ p ∷ ps) e
      cover true is h' = worded (codes "part" ∷ []) p (codes "cover") ps e is (at_last ps h')
        where
          at_last : (qs : Pieces) → at_end (entry.Part Cover) qs ≡ Some e → Said (codes "part" ∷ codes "cover" ∷ qs) e
          at_last [] h'' = told (codes "part" ∷ codes "cover" ∷ []) (entry.Part Cover) e h'' (refl, refl)
          at_last (q ∷ qs) h'' = absurd (cc)
      cover false is h' = closure (bytes_eq p (codes "closure")) refl h'

  live_said : (ps : Pieces) (e : Entry) → live_in ps ≡ Some e → Said (codes "lucy" ∷ codes "certificate" ∷ codes "2" ∷ ps) e
  live_said ps e h =
      let a = bind_some (behind (codes "live") ps) (λ (rest : Pieces). last_piece rest >>= λ p. count_of (2 ^ 64) p >>= λ n. Some (entry.Header (Some n))) e h in
      let b = bind_some (last_piece a.0) (λ (p : List ℕ). count_of (2 ^ 64) p >>= λ n. Some (entry.Header (Some n))) e a.2 in
      let c = bind_some (count_of (2 ^ 64) b.0) (λ (n : ℕ). Some (entry.Header (Some n))) e b.2 in
      let n = count_said (2 ^ 64) b.0 c.0 c.1 in
      told (codes "lucy" ∷ codes "certificate" ∷ codes "2" ∷ ps) (entry.Header (Some c.0)) e c.2 (
        ap (λ (xs : Pieces). codes "lucy" ∷ codes "certificate" ∷ codes "2" ∷ xs)
            (behind_said (codes "live") ps a.0 a.1 ∙ ap (λ (xs : Pieces). codes "live" ∷ xs) (last_said a.0 b.0 b.1 ∙ ap (λ (x : List ℕ). x ∷ []) n.0)),
        n.1,
      )

  version_said : (ps : Pieces) (e : Entry) → version_in ps ≡ Some e → Said (codes "lucy" ∷ codes "certificate" ∷ ps) e
  version_said [] e h = absurd (cc)
  version_said (p ∷ ps) e h = first (bytes_eq p (codes "1")) refl h
    where
      second : (t : Bool) → bytes_eq p (codes "2") ≡ t → cond t (live_in ps) None ≡ Some e → Said (codes "lucy" ∷ codes "certificate" ∷ p ∷ ps) e
      second true is h' = worded (codes "lucy" ∷ codes "certificate" ∷ []) p (codes "2") ps e is (live_said ps e h')
      second false is h' = absurd (cc)

      first : (t : Bool) → bytes_eq p (codes "1") ≡ t → cond t (at_end (entry.Header None) ps) (cond (bytes_eq p (codes "2")) (live_in ps) None) ≡ Some e → Said (codes "lucy" ∷ codes "certificate" ∷ p ∷ ps) e
      first true is h' = worded (codes "lucy" ∷ codes "certificate" ∷ []) p (codes "1") ps e is (at_last ps h')
        where
          at_last : (qs : Pieces) → at_end (entry.Header None) qs ≡ Some e → Said (codes "lucy" ∷ codes "certificate" ∷ codes "1" ∷ qs) e
          at_last [] h'' = told (codes "lucy" ∷ codes "certificate" ∷ codes "1" ∷ []) (entry.Header None) e h'' (refl, refl)
          at_last (q ∷ qs) h'' = absurd (cc)
      first false is h' = second (bytes_eq p (codes "2")) refl h'

  header_said : (ps : Pieces) (e : Entry) → header_in ps ≡ Some e → Said (codes "lucy" ∷ ps) e
  header_said ps e h =
      let a = bind_some (behind (codes "certificate") ps) version_in e h in
      let s = version_said a.0 e a.2 in
      (ap (λ (xs : Pieces). codes "lucy" ∷ xs) (behind_said (codes "certificate") ps a.0 a.1) ∙ s.0, s.1)

  -- one of two kinds of line
  either : (p word : List ℕ) (ps : Pieces) (e : Entry) (this others : Option Entry) → (this ≡ Some e → Said (word ∷ ps) e) → (others ≡ Some e → Said (p ∷ ps) e)
      → cond (bytes_eq p word) this others ≡ Some e → Said (p ∷ ps) e
  either p word ps e this others here there h = by (bytes_eq p word) refl h
    where
      by : (t : Bool) → bytes_eq p word ≡ t → cond t this others ≡ Some e → Said (p ∷ ps) e
      by true is h' = worded [] p word ps e is (here h')
      by false is h' = there h'

  no_entry : (e : Entry) (ps : Pieces) → None ≡ Some e → Said ps e
  no_entry e ps h = absurd (cc)

  entry_in_said : (ps : Pieces) (e : Entry) → entry_in ps ≡ Some e → Said ps e
  entry_in_said [] e h = absurd (cc)
  entry_in_said (p ∷ ps) e h =
      either p (codes "+") ps e (sum_in ps) _ (sum_in_said ps e)
      (either p (codes "/") ps e (quotient_in ps) _ (quotient_said ps e)
      (either p (codes "qed") ps e (at_end entry.Qed ps) _ (λ h'. ended_by (codes "qed") entry.Qed e ps h' (refl, refl))
      (either p (codes "rup") ps e (rup_in ps) _ (rup_said ps e)
      (either p (codes "lemma") ps e (lemma_in ps) _ (lemma_said ps e)
      (either p (codes "drop") ps e (drop_in ps) _ (drop_said ps e)
      (either p (codes "part") ps e (part_in ps) _ (part_in_said ps e)
      (either p (codes "lucy") ps e (header_in ps) _ (header_said ps e)
      (either p (codes "end") ps e (at_end entry.End ps) None (λ h'. ended_by (codes "end") entry.End e ps h' (refl, refl)) (no_entry e (p ∷ ps))))))))))
      h

  -- a line that is read is the one that is written of what was read
  pub entry_said : (line : List ℕ) (e : Entry) → entry_of line ≡ Some e → (line ≡ entry_text e) × (entry_fits e ≡ true)
  unfolding entry_of
  entry_said line e h =
      let s = entry_in_said (pieces line) e h in
      (sym (pieces_whole line) ∙ ap spaced s.0, s.1)
