-- A certificate that was written, as it is read.
use Rattle.std.proofs.Common.{◌≡◌, ℕ, ◌+◌, ◌^◌, ◌≤◌, Bool, true, false, cond, nat_lt, ◌&&◌, List, [], ◌∷◌, ◌++◌, length, Option, Some, None, Ok, refl, ap, sym, ◌∙◌, subst, arith, append_assoc}
use Rattle.std.proofs.lemmas.Bool.Decides.{nat_tests}
use Rattle.std.proofs.lemmas.List.{append-nil}
use Rattle.std.specs.List.{list_all, flat_map}
use Rattle.std.specs.Prelude.{map, fold, is_some}
use Rattle.lucy_clauses.specs.declared.formulas.Clause.{Clause}
use Rattle.lucy_clauses.specs.declared.lines.Line.{Line}
use Rattle.lucy_io.specs.Decimals.{WrittenIsRead}
use Rattle.lucy_cert.specs.declared.entries.Entry.{Entry}
use Rattle.lucy_cert.specs.declared.entries.Entry.TheVariants as entry
use Rattle.lucy_cert.specs.declared.entries.Item.{Item}
use Rattle.lucy_cert.specs.declared.entries.Item.TheVariants as item
use Rattle.lucy_cert.specs.declared.machine.Machine.{Machine}
use Rattle.lucy_cert.specs.declared.machine.Moved.{Moved}
use Rattle.lucy_cert.specs.declared.machine.Place.TheVariants as place
use Rattle.lucy_cert.specs.declared.names.PartName.{PartName}
use Rattle.lucy_cert.specs.declared.steps.ProofStep.{ProofStep}
use Rattle.lucy_cert.specs.declared.steps.ProofStep.TheVariants as step
use Rattle.lucy_cert.specs.Certificates.{Part, Contents, contents, part_names, nothing, proof, come_before, add_item}
use Rattle.lucy_cert.specs.Feeding.{ended}
use Rattle.lucy_cert.specs.Laws.{WrittenIsReadBack}
use Rattle.lucy_cert.specs.Machines.{machine, is_behind, part_begun, entry_after}
use Rattle.lucy_cert.specs.Names.{is_before, ascend}
use Rattle.lucy_cert.specs.Numbers.{are_droppable}
use Rattle.lucy_cert.specs.Options.{◌>>=◌}
use Rattle.lucy_cert.specs.Reading.{state, item_taken, moved_to, line_after, byte_after, after}
use Rattle.lucy_cert.specs.Texts.{entry_text, lines_text, step_entries, part_entries, body_entries, certificate_text}
use Rattle.lucy_cert.specs.Writable.{clause_fits, line_fits, number_fits, step_fits, name_fits, cert_part_fits, live_fits, entry_fits, is_writable}
use Rattle.lucy_cert.proofs.CertificateLemmas.{with_step_last}
use Rattle.lucy_cert.proofs.EntryLemmas.{entry_back, entry_lacks}
use Rattle.lucy_cert.proofs.PieceLemmas.{cut_behind}
use Rattle.lucy_cert.proofs.StateLemmas.{cut_by, cut_over}
use Rattle.lucy_cert.proofs.Tests.{both, parts_of}

-- what the text of these lines says, read from this machine on, whatever the number of lines before
abbrev Says : Machine → Contents → List Entry → Contents → Type 0
Says m t es c = (n : ℕ) → ended (after add_item (state [] n (Some m) t) (lines_text es)) ≡ Ok c

module _ (read : WrittenIsRead) where
  -- a line, and the lines behind it
  one : (m l : Machine) (i : Option Item) (t c : Contents) (e : Entry) (es : List Entry) → entry_fits e ≡ true
      → entry_after m e ≡ Some (record { machine = l; item = i }) → Says l (item_taken add_item t i) es c → Says m t (e ∷ es) c
  unfolding after
  one m l i t c e es fits goes says n =
      let s = state [] n (Some m) t in
      let text = entry_text e in
      let said : line_after m text ≡ Some (record { machine = l; item = i }) = ap (λ (o : Option Entry). o >>= entry_after m) (entry_back read e fits) ∙ goes in
      ap ended
      (cut_over add_item s (text ++ 10 ∷ lines_text es)
      ∙ ap (cut_by add_item s (text ++ 10 ∷ lines_text es)) (cut_behind 10 text (lines_text es) (entry_lacks read e fits))
      ∙ ap (λ (o : Option Moved). fold (byte_after add_item) (moved_to add_item n t o) (lines_text es)) said)
      ∙ says (n + 1)

  regroup : (m : Machine) (t c : Contents) (xs ys zs : List Entry) → Says m t (xs ++ (ys ++ zs)) c → Says m t ((xs ++ ys) ++ zs) c
  regroup m t c xs ys zs says = λ n. ap (λ (es : List Entry). ended (after add_item (state [] n (Some m) t) (lines_text es))) (append_assoc xs ys zs) ∙ says n

  module _ (last : Option PartName) (drops : Bool) where
    -- the lines of a derivation, up to `qed`
    derived : (clause : Clause) (ls ms : List Line) (t c : Contents) (more : List Entry) → list_all line_fits ms ≡ true
        → Says (machine place.Inside last drops) (add_item t (item.Step (step.Lemma clause (ls ++ ms)))) more c
        → Says (machine (place.Lemma clause ls) last drops) t (map entry.Derivation ms ++ entry.Qed ∷ more) c
    unfolding entry_after
    derived clause ls [] t c more fits says =
        one (machine (place.Lemma clause ls) last drops) (machine place.Inside last drops) (Some (item.Step (step.Lemma clause ls))) t c entry.Qed more refl refl
        (subst (λ (xs : List Line). Says (machine place.Inside last drops) (add_item t (item.Step (step.Lemma clause xs))) more c) (append-nil ls) says)
    derived clause ls (x ∷ xs) t c more fits says =
        let f = parts_of (line_fits x) (list_all line_fits xs) fits in
        one (machine (place.Lemma clause ls) last drops) (machine (place.Lemma clause (ls ++ x ∷ [])) last drops) None t c (entry.Derivation x) (map entry.Derivation xs ++ entry.Qed ∷ more) f.0 refl
        (derived clause (ls ++ x ∷ []) xs t c more f.1
        (subst (λ (ys : List Line). Says (machine place.Inside last drops) (add_item t (item.Step (step.Lemma clause ys))) more c) (sym (append_assoc ls (x ∷ []) xs)) says))

    -- the lines of a step
    stepped : (s : ProofStep) (t c : Contents) (more : List Entry) → step_fits drops s ≡ true
        → Says (machine place.Inside last drops) (add_item t (item.Step s)) more c → Says (machine place.Inside last drops) t (step_entries s ++ more) c
    unfolding entry_after
    stepped (step.Lemma clause lines) t c more fits says =
        let f = parts_of (clause_fits clause) (list_all line_fits lines) fits in
        one (machine place.Inside last drops) (machine (place.Lemma clause []) last drops) None t c (entry.Lemma clause) ((map entry.Derivation lines ++ entry.Qed ∷ []) ++ more) f.0 refl
        (regroup (machine (place.Lemma clause []) last drops) t c (map entry.Derivation lines) (entry.Qed ∷ []) more (derived clause [] lines t c more f.1 says))
    stepped (step.Rup clause hints) t c more fits says =
        one (machine place.Inside last drops) (machine place.Inside last drops) (Some (item.Step (step.Rup clause hints))) t c (entry.Rup clause hints) more fits refl says
    stepped (step.Drop numbers) t c more fits says =
        let f = parts_of (drops && are_droppable numbers) (list_all number_fits numbers) fits in
        let g = parts_of drops (are_droppable numbers) f.0 in
        one (machine place.Inside last drops) (machine place.Inside last drops) (Some (item.Step (step.Drop numbers))) t c (entry.Drop numbers) more
        (both (are_droppable numbers) (list_all number_fits numbers) g.1 f.1) (allowed drops g.0) says
      where
        allowed : (b : Bool) → b ≡ true → cond {A = Option Moved} b (Some (record { machine = machine place.Inside last drops; item = Some (item.Step (step.Drop numbers)) })) None
            ≡ Some (record { machine = machine place.Inside last drops; item = Some (item.Step (step.Drop numbers)) })
        allowed true e = refl
        allowed false e = absurd (cc)

    -- the steps of a part, behind those that were taken
    all_steps : (done : List Part) (name : PartName) (xs ss : List ProofStep) (live : Option ℕ) (c : Contents) (more : List Entry) → list_all (step_fits drops) ss ≡ true
        → Says (machine place.Inside last drops) (contents (done ++ (name, proof (xs ++ ss)) ∷ []) live) more c
        → Says (machine place.Inside last drops) (contents (done ++ (name, proof xs) ∷ []) live) (flat_map step_entries ss ++ more) c
    all_steps done name xs [] live c more fits says =
        subst (λ (ys : List ProofStep). Says (machine place.Inside last drops) (contents (done ++ (name, proof ys) ∷ []) live) more c) (append-nil xs) says
    all_steps done name xs (s ∷ ss) live c more fits says =
        let f = parts_of (step_fits drops s) (list_all (step_fits drops) ss) fits in
        let t = contents (done ++ (name, proof xs) ∷ []) live in
        let later = all_steps done name (xs ++ s ∷ []) ss live c more f.1
        (subst (λ (ys : List ProofStep). Says (machine place.Inside last drops) (contents (done ++ (name, proof ys) ∷ []) live) more c) (sym (append_assoc xs (s ∷ []) ss)) says) in
        regroup (machine place.Inside last drops) t c (step_entries s) (flat_map step_entries ss) more
        (stepped s t c (flat_map step_entries ss ++ more) f.0
        (subst (λ (ps : List Part). Says (machine place.Inside last drops) (contents ps live) (flat_map step_entries ss ++ more) c) (sym (with_step_last s done (name, proof xs))) later))

  -- each part comes behind the last one, and behind those that were taken
  abbrev Chain : Option PartName → List Part → List Part → Type 0
  Chain last done [] = Unit {0}
  Chain last done (p ∷ ps) = (is_behind last p.0 ≡ true) × (come_before p.0 done ≡ true) × Chain (Some p.0) (done ++ p ∷ []) ps

  module _ (live : Option ℕ) where
    begun_part : (b : Bool) (m : Machine) (i : Item) → b ≡ true → cond {A = Option Moved} b (Some (record { machine = m; item = Some i })) None ≡ Some (record { machine = m; item = Some i })
    begun_part true m i e = refl
    begun_part false m i e = absurd (cc)

    added : (b : Bool) (name : PartName) (done : List Part) → b ≡ true → cond b (done ++ (name, proof []) ∷ []) done ≡ done ++ (name, proof []) ∷ []
    added true name done e = refl
    added false name done e = absurd (cc)

    -- a part, from a machine that takes the beginning of one
    one_part : (m : Machine) (last : Option PartName) (p : Part) (done : List Part) (c : Contents) (more : List Entry)
        → entry_after m (entry.Part p.0) ≡ part_begun last (is_some live) p.0 → is_behind last p.0 ≡ true → come_before p.0 done ≡ true → cert_part_fits (is_some live) p ≡ true
        → Says (machine place.Inside (Some p.0) (is_some live)) (contents (done ++ p ∷ []) live) more c
        → Says m (contents done live) (part_entries p ++ more) c
    one_part m last p done c more goes behind before fits says =
        let f = parts_of (name_fits p.0) (list_all (step_fits (is_some live)) p.1.steps) fits in
        let l = machine place.Inside (Some p.0) (is_some live) in
        one m l (Some (item.Part p.0)) (contents done live) c (entry.Part p.0) (flat_map step_entries p.1.steps ++ more) f.0
        (goes ∙ begun_part (is_behind last p.0) l (item.Part p.0) behind)
        (subst (λ (ps : List Part). Says l (contents ps live) (flat_map step_entries p.1.steps ++ more) c) (sym (added (come_before p.0 done) p.0 done before))
        (all_steps (Some p.0) (is_some live) done p.0 [] p.1.steps live c more f.1 says))

    -- the other parts, and the line `end`
    other_parts : (last : Option PartName) (done ps : List Part) → Chain last done ps → list_all (cert_part_fits (is_some live)) ps ≡ true
        → Says (machine place.Inside last (is_some live)) (contents done live) (flat_map part_entries ps ++ entry.End ∷ []) (contents (done ++ ps) live)
    unfolding entry_after after
    other_parts last done [] chain fits =
        subst (λ (ps : List Part). Says (machine place.Inside last (is_some live)) (contents done live) (entry.End ∷ []) (contents ps live)) (sym (append-nil done))
        (one (machine place.Inside last (is_some live)) (machine place.Ended last (is_some live)) None (contents done live) (contents done live) entry.End [] refl refl (λ n. refl))
    other_parts last done (p ∷ ps) chain fits =
        let f = parts_of (cert_part_fits (is_some live) p) (list_all (cert_part_fits (is_some live)) ps) fits in
        let later = other_parts (Some p.0) (done ++ p ∷ []) ps chain.2 f.1 in
        regroup (machine place.Inside last (is_some live)) (contents done live) (contents (done ++ p ∷ ps) live) (part_entries p) (flat_map part_entries ps) (entry.End ∷ [])
        (one_part (machine place.Inside last (is_some live)) last p done (contents (done ++ p ∷ ps) live) (flat_map part_entries ps ++ entry.End ∷ []) refl chain.0 chain.1 f.0
        (subst (λ (qs : List Part). Says (machine place.Inside (Some p.0) (is_some live)) (contents (done ++ p ∷ []) live) (flat_map part_entries ps ++ entry.End ∷ []) (contents qs live))
        (append_assoc done (p ∷ []) ps) later))

    -- all parts, and the line `end`
    all_parts : (ps : List Part) → Chain None [] ps → list_all (cert_part_fits (is_some live)) ps ≡ true
        → Says (machine place.Outside None (is_some live)) (contents [] live) (flat_map part_entries ps ++ entry.End ∷ []) (contents ps live)
    unfolding entry_after after
    all_parts [] chain fits =
        one (machine place.Outside None (is_some live)) (machine place.Ended None (is_some live)) None (contents [] live) (contents [] live) entry.End [] refl refl (λ n. refl)
    all_parts (p ∷ ps) chain fits =
        let f = parts_of (cert_part_fits (is_some live) p) (list_all (cert_part_fits (is_some live)) ps) fits in
        regroup (machine place.Outside None (is_some live)) (contents [] live) (contents (p ∷ ps) live) (part_entries p) (flat_map part_entries ps) (entry.End ∷ [])
        (one_part (machine place.Outside None (is_some live)) None p [] (contents (p ∷ ps) live) (flat_map part_entries ps ++ entry.End ∷ []) refl chain.0 chain.1 f.0
        (other_parts (Some p.0) (p ∷ []) ps chain.2 f.1))

  chained : (last : Option PartName) (done ps : List Part) → ascend (part_names ps) ≡ true → list_all (λ (p : Part). is_behind last p.0) ps ≡ true
      → list_all (λ (p : Part). come_before p.0 done) ps ≡ true → Chain last done ps
  chained last done [] up behind before = tt
  chained last done (p ∷ ps) up behind before =
      let u = parts_of (list_all (is_before p.0) (part_names ps)) (ascend (part_names ps)) up in
      let h = parts_of (is_behind last p.0) (list_all (λ (q : Part). is_behind last q.0) ps) behind in
      let b = parts_of (come_before p.0 done) (list_all (λ (q : Part). come_before q.0 done) ps) before in
      (h.0, b.0, chained (Some p.0) (done ++ p ∷ []) ps u.1 (named ps u.0) (longer_before ps b.1 u.0))
    where
      named : (qs : List Part) → list_all (is_before p.0) (part_names qs) ≡ true → list_all (λ (q : Part). is_before p.0 q.0) qs ≡ true
      named [] e = refl
      named (q ∷ qs) e =
          let t = parts_of (is_before p.0 q.0) (list_all (is_before p.0) (part_names qs)) e in
          both (is_before p.0 q.0) (list_all (λ (r : Part). is_before p.0 r.0) qs) t.0 (named qs t.1)

      before_push : (n : PartName) (ds : List Part) → come_before n ds ≡ true → is_before p.0 n ≡ true → come_before n (ds ++ p ∷ []) ≡ true
      before_push n [] e h = both (is_before p.0 n) true h refl
      before_push n (d ∷ ds) e h =
          let t = parts_of (is_before d.0 n) (come_before n ds) e in
          both (is_before d.0 n) (come_before n (ds ++ p ∷ [])) t.0 (before_push n ds t.1 h)

      longer_before : (qs : List Part) → list_all (λ (q : Part). come_before q.0 done) qs ≡ true → list_all (is_before p.0) (part_names qs) ≡ true
          → list_all (λ (q : Part). come_before q.0 (done ++ p ∷ [])) qs ≡ true
      longer_before [] e h = refl
      longer_before (q ∷ qs) e h =
          let t = parts_of (come_before q.0 done) (list_all (λ (r : Part). come_before r.0 done) qs) e in
          let s = parts_of (is_before p.0 q.0) (list_all (is_before p.0) (part_names qs)) h in
          both (come_before q.0 (done ++ p ∷ [])) (list_all (λ (r : Part). come_before r.0 (done ++ p ∷ [])) qs) (before_push q.0 done t.0 s.0) (longer_before qs t.1 s.1)

  all_true : (A : Type 0) (f : A → Bool) → ((x : A) → f x ≡ true) → (xs : List A) → list_all f xs ≡ true
  all_true A f each [] = refl
  all_true A f each (x ∷ xs) = both (f x) (list_all f xs) (each x) (all_true A f each xs)

  read_whole : (c : Contents) → is_writable c ≡ true → ended (after add_item (state [] 0 (Some (machine place.Start None false)) nothing) (lines_text (body_entries c ++ entry.End ∷ []))) ≡ Ok c
  unfolding entry_after
  read_whole c fits =
      let f = parts_of (ascend (part_names c.parts) && live_fits c.live) (list_all (cert_part_fits (is_some c.live)) c.parts) fits in
      let g = parts_of (ascend (part_names c.parts)) (live_fits c.live) f.0 in
      one (machine place.Start None false) (machine place.Outside None (is_some c.live)) (Some (item.Live c.live)) nothing c (entry.Header c.live) (flat_map part_entries c.parts ++ entry.End ∷ []) g.1 refl
      (all_parts c.live c.parts (chained None [] c.parts g.0 (all_true Part (λ p. is_behind None p.0) (λ p. refl) c.parts) (all_true Part (λ p. come_before p.0 []) (λ p. refl) c.parts)) f.1) 0

  short : (n : ℕ) → n ≤ 2 ^ 26 → nat_lt (2 ^ 26) (0 + n) ≡ false
  short n le = grind (arith, nat_tests)

  pub written_is_read_back : WrittenIsReadBack
  unfolding certificate_text
  written_is_read_back c fits le =
      let text = lines_text (body_entries c ++ entry.End ∷ []) in
      rw (short (length text) le) (read_whole c fits)
