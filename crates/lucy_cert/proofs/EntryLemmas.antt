-- Lines that were written, as they are read.
use Rattle.std.proofs.Common.{◌≡◌, ℕ, ◌^◌, ◌<◌, true, false, nat_lt, nat_le, ◌&&◌, ℤ, pos, List, [], ◌∷◌, ◌++◌, Option, Some, None, refl, ap, sym, ◌∙◌, arith, append_assoc}
use Rattle.std.proofs.lemmas.List.{append-nil}
use Rattle.std.specs.Fmt.{decimal, signed_decimal}
use Rattle.std.specs.List.{list_all}
use Rattle.std.specs.Prelude.{bytes_eq, codes, map, int_lt}
use Rattle.lucy_clauses.specs.declared.lines.Ref.{Ref}
use Rattle.lucy_clauses.specs.declared.lines.Times.{Times}
use Rattle.lucy_clauses.specs.declared.lines.Line.TheVariants.{Sum, Divide}
use Rattle.lucy_clauses.specs.declared.parts.Part.{Part}
use Rattle.lucy_clauses.specs.Normal.{is_normal}
use Rattle.lucy_clauses.specs.Parts.{is_within}
use Rattle.lucy_clauses.specs.Sums.{Form}
use Rattle.lucy_io.specs.Decimals.{WrittenIsRead}
use Rattle.lucy_cert.specs.declared.entries.Entry.{Entry}
use Rattle.lucy_cert.specs.declared.entries.Entry.TheVariants as entry
use Rattle.lucy_cert.specs.declared.names.PartName.TheVariants.{Closure, Cover}
use Rattle.lucy_cert.specs.Cutting.{pieces, spaced}
use Rattle.lucy_cert.specs.Entries.{Pieces, Found, counts_of, atoms_of, clause_of, clause, times_of, sum_of, at_end, behind, droppable, entry_in, entry_of}
use Rattle.lucy_cert.specs.Numbers.{are_droppable}
use Rattle.lucy_cert.specs.Options.{◌>>=◌}
use Rattle.lucy_cert.specs.Texts.{atom_pieces, comma_before, clause_pieces, sum_pieces, entry_pieces, entry_text}
use Rattle.lucy_cert.specs.Tokens.{part_text, ref_text}
use Rattle.lucy_cert.specs.Writable.{part_fits, atom_fits, clause_fits, ref_fits, pair_fits, times_fits, number_fits, entry_fits}
use Rattle.lucy_cert.proofs.PieceLemmas.{is_solid, are_solid, pieces_back, lacks, spaced_lacks}
use Rattle.lucy_cert.proofs.Tests.{both, parts_of, all_append}
use Rattle.lucy_cert.proofs.TokenLemmas as token

module _ (read : WrittenIsRead) where
  wide : (n : ℕ) → number_fits n ≡ true → n < 2 ^ 64
  wide n e = token.is_below read n (2 ^ 64) e

  counts_back : (found ns : List ℕ) → list_all number_fits ns ≡ true → counts_of found (map decimal ns) ≡ Some (found ++ ns)
  counts_back found [] e = ap (λ (xs : List ℕ). Some xs) (sym (append-nil found))
  counts_back found (n ∷ ns) e =
      let t = parts_of (number_fits n) (list_all number_fits ns) e in
      rw (token.count_back read (2 ^ 64) n (omega arith) (wide n t.0)) (counts_back (found ++ n ∷ []) ns t.1 ∙ ap (λ (xs : List ℕ). Some xs) (append_assoc found (n ∷ []) ns))

  pair_back : (by : ℤ) (of : Ref) → pair_fits by of ≡ true → times_of (signed_decimal by) (ref_text of) ≡ Some (record { by = by; of = of })
  pair_back by of e =
      let t = parts_of (is_within by && int_lt (pos 0) by) (ref_fits of) e in
      let s = parts_of (is_within by) (int_lt (pos 0) by) t.0 in
      rw (token.positive_back read by s.0 s.1, token.ref_back read of t.1) refl

  sum_back : (found ts : List Times) → list_all times_fits ts ≡ true → sum_of found (sum_pieces ts) ≡ Some (found ++ ts)
  sum_back found [] e = ap (λ (xs : List Times). Some xs) (sym (append-nil found))
  sum_back found (t ∷ ts) e =
      let h = parts_of (times_fits t) (list_all times_fits ts) e in
      rw (pair_back t.by t.of h.0) (sum_back (found ++ t ∷ []) ts h.1 ∙ ap (λ (xs : List Times). Some xs) (append_assoc found (t ∷ []) ts))

  -- no part is this word, whose first byte is in no number
  part_no_word : (p : Part) (w : ℕ) (ws : List ℕ) → part_fits p ≡ true → token.is_plain w ≡ false → bytes_eq (part_text p) (w ∷ ws) ≡ false
  part_no_word p w ws e h = token.no_word (signed_decimal p.by) (42 ∷ decimal p.variable) p.by w ws (token.signed_back read p.by (parts_of (is_within p.by) (nat_lt p.variable (2 ^ 32)) e).0) h

  parts_back : (atoms : List Form) (ps qs : List Part) (more : Pieces) → list_all part_fits qs ≡ true
      → atoms_of false atoms ps (map part_text qs ++ more) ≡ atoms_of false atoms (ps ++ qs) more
  parts_back atoms ps [] more e = ap (λ (xs : List Part). atoms_of false atoms xs more) (sym (append-nil ps))
  parts_back atoms ps (q ∷ qs) more e =
      let t = parts_of (part_fits q) (list_all part_fits qs) e in
      rw (part_no_word q 60 (61 ∷ []) t.0 refl, token.part_back read q t.0)
      (parts_back atoms (ps ++ q ∷ []) qs more t.1 ∙ ap (λ (xs : List Part). atoms_of false atoms xs more) (append_assoc ps (q ∷ []) qs))

  record AtomFits (t : Form) : Type 0 where
    normal : is_normal t.parts ≡ true
    bound : is_within t.bound ≡ true
    parts : list_all part_fits t.parts ≡ true

  atom_facts : (t : Form) → atom_fits t ≡ true → AtomFits t
  atom_facts t e =
      let s = parts_of (is_normal t.parts && is_within t.bound) (list_all part_fits t.parts) e in
      let r = parts_of (is_normal t.parts) (is_within t.bound) s.0 in
      record { normal = r.0; bound = r.1; parts = s.1 }

  -- the pieces of a clause, grouped to the right
  grouped : (t : Form) (ts : List Form) (rest : Pieces)
      → clause_pieces (t ∷ ts) ++ rest ≡ map part_text t.parts ++ (codes "<=" ∷ (signed_decimal t.bound ++ comma_before ts) ∷ (clause_pieces ts ++ rest))
  grouped t ts rest =
      append_assoc (atom_pieces (comma_before ts) t) (clause_pieces ts) rest
      ∙ append_assoc (map part_text t.parts) (codes "<=" ∷ (signed_decimal t.bound ++ comma_before ts) ∷ []) (clause_pieces ts ++ rest)

  atoms_back : (atoms : List Form) (t : Form) (ts : List Form) (rest : Pieces) → list_all atom_fits (t ∷ ts) ≡ true
      → atoms_of false atoms [] (clause_pieces (t ∷ ts) ++ rest) ≡ Some (atoms ++ t ∷ ts, rest)
  atoms_back atoms t [] rest e =
      let f = atom_facts t (parts_of (atom_fits t) true e).0 in
      ap (atoms_of false atoms []) (grouped t [] rest)
      ∙ parts_back atoms [] t.parts (codes "<=" ∷ (signed_decimal t.bound ++ []) ∷ rest) f.parts
      ∙ rw (token.bound_last read t.bound f.bound, f.normal) refl
  atoms_back atoms t (u ∷ us) rest e =
      let h = parts_of (atom_fits t) (list_all atom_fits (u ∷ us)) e in
      let f = atom_facts t h.0 in
      ap (atoms_of false atoms []) (grouped t (u ∷ us) rest)
      ∙ parts_back atoms [] t.parts (codes "<=" ∷ (signed_decimal t.bound ++ 44 ∷ []) ∷ (clause_pieces (u ∷ us) ++ rest)) f.parts
      ∙ rw (token.bound_more read t.bound f.bound, f.normal) (atoms_back (atoms ++ t ∷ []) u us rest h.1)
      ∙ ap (λ (xs : List Form). Some (xs, rest)) (append_assoc atoms (t ∷ []) (u ∷ us))

  first_part : (ps : List Part) (more : Pieces) → is_normal ps ≡ true → list_all part_fits ps ≡ true
      → clause_of (map part_text ps ++ more) ≡ atoms_of false [] [] (map part_text ps ++ more)
  first_part [] more e h = absurd (cc)
  first_part (p ∷ ps) more e h = rw (part_no_word p 98 (121 ∷ []) (parts_of (part_fits p) (list_all part_fits ps) h).0 refl) refl

  some_back : (t : Form) (ts : List Form) (rest : Pieces) → list_all atom_fits (t ∷ ts) ≡ true → clause_of (clause_pieces (t ∷ ts) ++ rest) ≡ Some (t ∷ ts, rest)
  some_back t ts rest e =
      let f = atom_facts t (parts_of (atom_fits t) (list_all atom_fits ts) e).0 in
      ap clause_of (grouped t ts rest)
      ∙ first_part t.parts (codes "<=" ∷ (signed_decimal t.bound ++ comma_before ts) ∷ (clause_pieces ts ++ rest)) f.normal f.parts
      ∙ ap (atoms_of false [] []) (sym (grouped t ts rest))
      ∙ atoms_back [] t ts rest e

  -- a clause at the end of a line
  last_clause : (ts : List Form) → list_all atom_fits ts ≡ true → clause_of (clause_pieces ts) ≡ Some (ts, [])
  last_clause [] e = refl
  last_clause (t ∷ ts) e = ap clause_of (sym (append-nil (clause_pieces (t ∷ ts)))) ∙ some_back t ts [] e

  -- a clause before hints
  clause_by : (ts : List Form) (hints : Pieces) → list_all atom_fits ts ≡ true → clause_of (clause_pieces ts ++ codes "by" ∷ hints) ≡ Some (ts, codes "by" ∷ hints)
  clause_by [] hints e = refl
  clause_by (t ∷ ts) hints e = some_back t ts (codes "by" ∷ hints) e

  -- what the pieces of a line say
  pub pieces_say : (e : Entry) → entry_fits e ≡ true → entry_in (entry_pieces e) ≡ Some e
  pieces_say (entry.Header None) e = refl
  pieces_say (entry.Header (Some n)) e = rw (token.count_back read (2 ^ 64) n (omega arith) (wide n e)) refl
  pieces_say (entry.Part (Closure k)) e = rw (token.count_back read 16 k (omega arith) (token.is_below read k 16 e)) refl
  pieces_say (entry.Part Cover) e = refl
  pieces_say (entry.Lemma c) e = ap (λ (o : Option Found). o >>= λ found. at_end (entry.Lemma (clause found.0)) found.1) (last_clause c.atoms e)
  pieces_say (entry.Derivation (Sum ts)) e = ap (λ (o : Option (List Times)). o >>= λ found. Some (entry.Derivation (Sum found))) (sum_back [] ts e)
  pieces_say (entry.Derivation (Divide by of)) e = rw (pair_back by of e) refl
  pieces_say entry.Qed e = refl
  pieces_say (entry.Rup c hints) e =
      let t = parts_of (clause_fits c) (list_all number_fits hints) e in
      ap (λ (o : Option Found). o >>= λ found. behind (codes "by") found.1 >>= λ rest. counts_of [] rest >>= λ numbers. Some (entry.Rup (clause found.0) numbers)) (clause_by c.atoms (map decimal hints) t.0)
      ∙ ap (λ (o : Option (List ℕ)). o >>= λ numbers. Some (entry.Rup c numbers)) (counts_back [] hints t.1)
  pieces_say (entry.Drop numbers) e =
      let t = parts_of (are_droppable numbers) (list_all number_fits numbers) e in
      ap (λ (o : Option (List ℕ)). o >>= droppable) (counts_back [] numbers t.1) ∙ rw (t.0) refl
  pieces_say entry.End e = refl

  -- ---- no piece has a space or an LF

  counts_solid : (ns : List ℕ) → list_all number_fits ns ≡ true → are_solid (map decimal ns) ≡ true
  counts_solid [] e = refl
  counts_solid (n ∷ ns) e =
      let t = parts_of (number_fits n) (list_all number_fits ns) e in
      both (is_solid (decimal n)) (are_solid (map decimal ns)) (token.decimal_solid read n (wide n t.0)) (counts_solid ns t.1)

  pair_solid : (by : ℤ) (of : Ref) (rest : Pieces) → pair_fits by of ≡ true → are_solid rest ≡ true → are_solid (signed_decimal by ∷ ref_text of ∷ rest) ≡ true
  pair_solid by of rest e h =
      let t = parts_of (is_within by && int_lt (pos 0) by) (ref_fits of) e in
      let s = parts_of (is_within by) (int_lt (pos 0) by) t.0 in
      both (is_solid (signed_decimal by)) (are_solid (ref_text of ∷ rest)) (token.signed_solid read by s.0) (both (is_solid (ref_text of)) (are_solid rest) (token.ref_solid read of t.1) h)

  sum_solid : (ts : List Times) → list_all times_fits ts ≡ true → are_solid (sum_pieces ts) ≡ true
  sum_solid [] e = refl
  sum_solid (t ∷ ts) e =
      let h = parts_of (times_fits t) (list_all times_fits ts) e in
      pair_solid t.by t.of (sum_pieces ts) h.0 (sum_solid ts h.1)

  parts_solid : (ps : List Part) → list_all part_fits ps ≡ true → are_solid (map part_text ps) ≡ true
  parts_solid [] e = refl
  parts_solid (p ∷ ps) e =
      let t = parts_of (part_fits p) (list_all part_fits ps) e in
      both (is_solid (part_text p)) (are_solid (map part_text ps)) (token.part_solid read p t.0) (parts_solid ps t.1)

  comma_solid : (ts : List Form) → is_solid (comma_before ts) ≡ true
  comma_solid [] = refl
  comma_solid (t ∷ ts) = refl

  clause_solid : (ts : List Form) → list_all atom_fits ts ≡ true → are_solid (clause_pieces ts) ≡ true
  clause_solid [] e = refl
  clause_solid (t ∷ ts) e =
      let h = parts_of (atom_fits t) (list_all atom_fits ts) e in
      let f = atom_facts t h.0 in
      all_append is_solid (atom_pieces (comma_before ts) t) (clause_pieces ts)
      (all_append is_solid (map part_text t.parts) (codes "<=" ∷ (signed_decimal t.bound ++ comma_before ts) ∷ []) (parts_solid t.parts f.parts) (bound_solid t (comma_before ts) f.bound (comma_solid ts)))
      (clause_solid ts h.1)
    where
      bound_solid : (u : Form) (comma : List ℕ) → is_within u.bound ≡ true → is_solid comma ≡ true → are_solid (codes "<=" ∷ (signed_decimal u.bound ++ comma) ∷ []) ≡ true
      bound_solid u comma w s = both (is_solid (signed_decimal u.bound ++ comma)) true (all_append (nat_le 33) (signed_decimal u.bound) comma (token.signed_solid read u.bound w) s) refl

  pub entry_solid : (e : Entry) → entry_fits e ≡ true → are_solid (entry_pieces e) ≡ true
  entry_solid (entry.Header None) e = refl
  entry_solid (entry.Header (Some n)) e = both (is_solid (decimal n)) true (token.decimal_solid read n (wide n e)) refl
  entry_solid (entry.Part (Closure k)) e = both (is_solid (decimal k)) true (token.decimal_solid read k (omega (arith, token.is_below read k 16 e))) refl
  entry_solid (entry.Part Cover) e = refl
  entry_solid (entry.Lemma c) e = clause_solid c.atoms e
  entry_solid (entry.Derivation (Sum ts)) e = sum_solid ts e
  entry_solid (entry.Derivation (Divide by of)) e = pair_solid by of [] e refl
  entry_solid entry.Qed e = refl
  entry_solid (entry.Rup c hints) e =
      let t = parts_of (clause_fits c) (list_all number_fits hints) e in
      all_append is_solid (clause_pieces c.atoms) (codes "by" ∷ map decimal hints) (clause_solid c.atoms t.0) (counts_solid hints t.1)
  entry_solid (entry.Drop numbers) e = counts_solid numbers (parts_of (are_droppable numbers) (list_all number_fits numbers) e).1
  entry_solid entry.End e = refl

  by_pieces : (ps : Pieces) (p : List ℕ) (qs : Pieces) → ps ≡ p ∷ qs → are_solid ps ≡ true → pieces (spaced ps) ≡ ps
  by_pieces ps p qs e h = ap (λ (xs : Pieces). pieces (spaced xs)) e ∙ pieces_back p qs (ap are_solid (sym e) ∙ h) ∙ sym e

  cut_back : (e : Entry) → are_solid (entry_pieces e) ≡ true → pieces (entry_text e) ≡ entry_pieces e
  cut_back (entry.Header live) h = by_pieces _ _ _ refl h
  cut_back (entry.Part (Closure k)) h = by_pieces _ _ _ refl h
  cut_back (entry.Part Cover) h = by_pieces _ _ _ refl h
  cut_back (entry.Lemma c) h = by_pieces _ _ _ refl h
  cut_back (entry.Derivation (Sum ts)) h = by_pieces _ _ _ refl h
  cut_back (entry.Derivation (Divide by of)) h = by_pieces _ _ _ refl h
  cut_back entry.Qed h = by_pieces _ _ _ refl h
  cut_back (entry.Rup c hints) h = by_pieces _ _ _ refl h
  cut_back (entry.Drop numbers) h = by_pieces _ _ _ refl h
  cut_back entry.End h = by_pieces _ _ _ refl h

  -- a line that was written is read back
  pub entry_back : (e : Entry) → entry_fits e ≡ true → entry_of (entry_text e) ≡ Some e
  unfolding entry_of
  entry_back e h = ap entry_in (cut_back e (entry_solid e h)) ∙ pieces_say e h

  lacks_by : (ps : Pieces) → are_solid ps ≡ true → lacks 10 (spaced ps) ≡ true
  lacks_by [] h = refl
  lacks_by (p ∷ ps) h = spaced_lacks p ps h

  -- and has no LF
  pub entry_lacks : (e : Entry) → entry_fits e ≡ true → lacks 10 (entry_text e) ≡ true
  entry_lacks e h = lacks_by (entry_pieces e) (entry_solid e h)
