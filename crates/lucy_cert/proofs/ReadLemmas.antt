-- A text that is read is the text of the certificate that was read.
use Rattle.std.proofs.Common.{◌≡◌, ℕ, ◌+◌, ◌^◌, Bool, true, false, cond, eqb, nat_lt, ◌&&◌, List, [], ◌∷◌, ◌++◌, length, Option, Some, None, Result, Ok, Err, refl, ap, sym, ◌∙◌, subst, arith, append_assoc}
use Rattle.std.proofs.lemmas.Bool.{eqb-true}
use Rattle.std.proofs.lemmas.Bool.Decides.{nat_tests}
use Rattle.std.proofs.lemmas.List.{append-nil, map-append}
use Rattle.std.proofs.lemmas.List.Concat.{flat_map-append}
use Rattle.std.specs.List.{list_all, flat_map}
use Rattle.std.specs.Prelude.{map, fold, is_some}
use Rattle.lucy_clauses.specs.declared.formulas.Clause.{Clause}
use Rattle.lucy_clauses.specs.declared.lines.Line.{Line}
use Rattle.lucy_io.specs.Decimals.{ReadIsWritten}
use Rattle.lucy_cert.specs.declared.entries.Entry.{Entry}
use Rattle.lucy_cert.specs.declared.entries.Entry.TheVariants as entry
use Rattle.lucy_cert.specs.declared.entries.Item.{Item}
use Rattle.lucy_cert.specs.declared.entries.Item.TheVariants as item
use Rattle.lucy_cert.specs.declared.error.CertError.{CertError}
use Rattle.lucy_cert.specs.declared.error.CertError.TheVariants as wrong
use Rattle.lucy_cert.specs.declared.machine.Machine.{Machine}
use Rattle.lucy_cert.specs.declared.machine.Moved.{Moved}
use Rattle.lucy_cert.specs.declared.machine.Place.{Place}
use Rattle.lucy_cert.specs.declared.machine.Place.TheVariants as place
use Rattle.lucy_cert.specs.declared.names.PartName.{PartName}
use Rattle.lucy_cert.specs.declared.names.PartName.TheVariants.{Closure, Cover}
use Rattle.lucy_cert.specs.declared.reader.Phase.{Phase}
use Rattle.lucy_cert.specs.declared.reader.Phase.TheVariants.{TooLong, Going}
use Rattle.lucy_cert.specs.declared.state.State.{State}
use Rattle.lucy_cert.specs.declared.steps.ProofStep.{ProofStep}
use Rattle.lucy_cert.specs.declared.steps.ProofStep.TheVariants as step
use Rattle.lucy_cert.specs.Certificates.{Part, Contents, contents, part_names, nothing, proof, come_before, with_part, with_step, longer, add_item}
use Rattle.lucy_cert.specs.Entries.{entry_of}
use Rattle.lucy_cert.specs.Feeding.{ended, finished, no_bytes, is_ended}
use Rattle.lucy_cert.specs.Laws.{ReadIsWrittenBack}
use Rattle.lucy_cert.specs.Machines.{machine, opening, is_behind, went, at_start, part_begun, between_parts, step_taken, inside, in_lemma, after_place, entry_after}
use Rattle.lucy_cert.specs.Names.{is_before, ascend}
use Rattle.lucy_cert.specs.Numbers.{are_droppable}
use Rattle.lucy_cert.specs.Reading.{state, item_taken, moved_to, line_after, byte_after, after}
use Rattle.lucy_cert.specs.Texts.{lines_text, step_entries, part_entries, body_entries, certificate_text}
use Rattle.lucy_cert.specs.Writable.{clause_fits, line_fits, number_fits, step_fits, name_fits, cert_part_fits, live_fits, entry_fits, is_writable}
use Rattle.lucy_cert.proofs.CertificateLemmas.{with_step_last, names-with_step, ascend-with_part, ascend-with_step}
use Rattle.lucy_cert.proofs.SaidLemmas.{bind_some, some_is, if_some, entry_said}
use Rattle.lucy_cert.proofs.TextLemmas.{lines_append}
use Rattle.lucy_cert.proofs.Tests.{both, parts_of, all_append}

-- the lines that were read on the way to a machine, and what was taken of them
abbrev so_far : Place → Contents → List Entry
so_far place.Start t = []
so_far place.Outside t = body_entries t
so_far place.Inside t = body_entries t
so_far (place.Lemma clause lines) t = body_entries t ++ entry.Lemma clause ∷ map entry.Derivation lines
so_far place.Ended t = body_entries t ++ entry.End ∷ []

-- what is kept behind the first line
record Keeps (last : Option PartName) (drops : Bool) (t : Contents) : Type 0 where
  drops_is : drops ≡ is_some t.live
  fits : is_writable t ≡ true
  behind : (n : PartName) → is_behind last n ≡ true → come_before n t.parts ≡ true

-- a part was begun
record IsIn (t : Contents) : Type 0 where
  front : List Part
  present : Part
  parts_are : t.parts ≡ front ++ present ∷ []

abbrev Good : Place → Option PartName → Bool → Contents → Type 0
Good place.Start last drops t = t ≡ nothing
Good place.Outside last drops t = Keeps last drops t
Good place.Inside last drops t = Keeps last drops t × IsIn t
Good (place.Lemma clause lines) last drops t = Keeps last drops t × IsIn t × (clause_fits clause ≡ true) × (list_all line_fits lines ≡ true)
Good place.Ended last drops t = Keeps last drops t

-- a line was read
record After (p : Place) (t : Contents) (e : Entry) (m : Machine) (u : Contents) : Type 0 where
  spelled : so_far m.place u ≡ so_far p t ++ e ∷ []
  good : Good m.place m.last m.drops u

abbrev Takes : Place → Contents → Entry → Moved → Type 0
Takes p t e m = After p t e m.machine (item_taken add_item t m.item)

abbrev moved : Machine → Option Item → Moved
moved m i = record { machine = m; item = i }

-- the move that was made is the one that is told
told : (p : Place) (t : Contents) (e : Entry) (x y : Moved) → Some x ≡ Some y → Takes p t e x → Takes p t e y
told p t e x y same took = subst (λ (m : Moved). Takes p t e m) (some_is x y same) took

none_told : (p : Place) (t : Contents) (e : Entry) (m : Moved) → None ≡ Some m → Takes p t e m
none_told p t e m h = absurd (cc)

-- ---- names

less : (k l m : ℕ) → nat_lt k l ≡ true → nat_lt l m ≡ true → nat_lt k m ≡ true
less k l m e h = grind (arith, nat_tests)

before_trans : (a b c : PartName) → is_before a b ≡ true → is_before b c ≡ true → is_before a c ≡ true
before_trans (Closure k) (Closure l) (Closure m) e h = less k l m e h
before_trans (Closure k) (Closure l) Cover e h = refl
before_trans (Closure k) Cover c e h = absurd (cc)
before_trans Cover b c e h = absurd (cc)

behind_trans : (last : Option PartName) (n m : PartName) → is_behind last n ≡ true → is_before n m ≡ true → is_behind last m ≡ true
behind_trans None n m e h = refl
behind_trans (Some l) n m e h = before_trans l n m e h

before_push : (n : PartName) (ds : List Part) (p : Part) → come_before n ds ≡ true → is_before p.0 n ≡ true → come_before n (ds ++ p ∷ []) ≡ true
before_push n [] p e h = both (is_before p.0 n) true h refl
before_push n (d ∷ ds) p e h =
    let t = parts_of (is_before d.0 n) (come_before n ds) e in
    both (is_before d.0 n) (come_before n (ds ++ p ∷ [])) t.0 (before_push n ds p t.1 h)

all_split : {A : Type 0} (f : A → Bool) (xs ys : List A) → list_all f (xs ++ ys) ≡ true → (list_all f xs ≡ true) × (list_all f ys ≡ true)
all_split f [] ys e = (refl, e)
all_split f (x ∷ xs) ys e =
    let t = parts_of (f x) (list_all f (xs ++ ys)) e in
    let s = all_split f xs ys t.1 in
    (both (f x) (list_all f xs) t.0 s.0, s.1)

-- ---- what a certificate keeps

record Facts (t : Contents) : Type 0 where
  up : ascend (part_names t.parts) ≡ true
  live : live_fits t.live ≡ true
  parts : list_all (cert_part_fits (is_some t.live)) t.parts ≡ true

facts_of : (t : Contents) → is_writable t ≡ true → Facts t
facts_of t e =
    let s = parts_of (ascend (part_names t.parts) && live_fits t.live) (list_all (cert_part_fits (is_some t.live)) t.parts) e in
    let r = parts_of (ascend (part_names t.parts)) (live_fits t.live) s.0 in
    record { up = r.0; live = r.1; parts = s.1 }

writable_by : (ps : List Part) (live : Option ℕ) → ascend (part_names ps) ≡ true → live_fits live ≡ true → list_all (cert_part_fits (is_some live)) ps ≡ true → is_writable (contents ps live) ≡ true
writable_by ps live a b c = both (ascend (part_names ps) && live_fits live) (list_all (cert_part_fits (is_some live)) ps) (both (ascend (part_names ps)) (live_fits live) a b) c

-- ---- a part begins

with_part_is : (b : Bool) (name : PartName) (ps : List Part) → b ≡ true → cond b (ps ++ (name, proof []) ∷ []) ps ≡ ps ++ (name, proof []) ∷ []
with_part_is true name ps e = refl
with_part_is false name ps e = absurd (cc)

body_push : (live : Option ℕ) (ps : List Part) (name : PartName) → body_entries (contents (ps ++ (name, proof []) ∷ []) live) ≡ body_entries (contents ps live) ++ entry.Part name ∷ []
body_push live ps name = ap (λ (es : List Entry). entry.Header live ∷ es) (flat_map-append part_entries ps ((name, proof []) ∷ []))

module _ (p : Place) (last : Option PartName) (drops : Bool) (t : Contents) (k : Keeps last drops t) (here : so_far p t ≡ body_entries t) where
  part_taken : (name : PartName) (m : Moved) → name_fits name ≡ true → part_begun last drops name ≡ Some m → Takes p t (entry.Part name) m
  part_taken name m fits e =
      let l = machine place.Inside (Some name) drops in
      let h = if_some (is_behind last name) (Some (moved l (Some (item.Part name)))) m e in
      let f = facts_of t k.fits in
      let new : with_part name t.parts ≡ t.parts ++ (name, proof []) ∷ [] = with_part_is (come_before name t.parts) name t.parts (k.behind name h.0) in
      let one_fits : list_all (cert_part_fits (is_some t.live)) ((name, proof []) ∷ []) ≡ true = both (name_fits name && true) true (both (name_fits name) true fits refl) refl in
      told p t (entry.Part name) (moved l (Some (item.Part name))) m h.1
      (record {
        spelled = ap (λ (ps : List Part). body_entries (contents ps t.live)) new ∙ body_push t.live t.parts name ∙ ap (λ (es : List Entry). es ++ entry.Part name ∷ []) (sym here);
        good = (
          record {
            drops_is = k.drops_is;
            fits = writable_by (with_part name t.parts) t.live (ascend-with_part name t.parts f.up) f.live
                (ap (list_all (cert_part_fits (is_some t.live))) new ∙ all_append (cert_part_fits (is_some t.live)) t.parts ((name, proof []) ∷ []) f.parts one_fits);
            behind = λ n b. ap (come_before n) new ∙ before_push n t.parts (name, proof []) (k.behind n (behind_trans last name n h.0 b)) b;
          },
          record { front = t.parts; present = (name, proof []); parts_are = new },
        );
      })

  end_taken : (m : Moved) → went place.Ended last drops ≡ Some m → Takes p t entry.End m
  end_taken m e =
      told p t entry.End (moved (machine place.Ended last drops) None) m e
      (record { spelled = ap (λ (es : List Entry). es ++ entry.End ∷ []) (sym here); good = k })

  between_taken : (e : Entry) (m : Moved) → entry_fits e ≡ true → between_parts last drops e ≡ Some m → Takes p t e m
  between_taken (entry.Header live) m fits h = none_told p t (entry.Header live) m h
  between_taken (entry.Part name) m fits h = part_taken name m fits h
  between_taken (entry.Lemma clause) m fits h = none_told p t (entry.Lemma clause) m h
  between_taken (entry.Derivation line) m fits h = none_told p t (entry.Derivation line) m h
  between_taken entry.Qed m fits h = none_told p t entry.Qed m h
  between_taken (entry.Rup clause hints) m fits h = none_told p t (entry.Rup clause hints) m h
  between_taken (entry.Drop numbers) m fits h = none_told p t (entry.Drop numbers) m h
  between_taken entry.End m fits h = end_taken m h

-- ---- a step ends

one_part : (front : List Part) (q : Part) → flat_map part_entries (front ++ q ∷ []) ≡ flat_map part_entries front ++ part_entries q
one_part front q = flat_map-append part_entries front (q ∷ []) ∙ ap (λ (es : List Entry). flat_map part_entries front ++ es) (append-nil (part_entries q))

steps_more : (s : ProofStep) (q : Part) → part_entries (longer s q) ≡ part_entries q ++ step_entries s
steps_more s q =
    ap (λ (es : List Entry). entry.Part q.0 ∷ es)
    (flat_map-append step_entries q.1.steps (s ∷ []) ∙ ap (λ (es : List Entry). flat_map step_entries q.1.steps ++ es) (append-nil (step_entries s)))

stepped_parts : (s : ProofStep) (front : List Part) (q : Part)
    → flat_map part_entries (with_step s (front ++ q ∷ [])) ≡ flat_map part_entries (front ++ q ∷ []) ++ step_entries s
stepped_parts s front q =
    ap (flat_map part_entries) (with_step_last s front q) ∙ one_part front (longer s q) ∙ ap (λ (es : List Entry). flat_map part_entries front ++ es) (steps_more s q)
    ∙ sym (append_assoc (flat_map part_entries front) (part_entries q) (step_entries s)) ∙ ap (λ (es : List Entry). es ++ step_entries s) (sym (one_part front q))

longer_fits : (drops : Bool) (s : ProofStep) (front : List Part) (q : Part) → step_fits drops s ≡ true → list_all (cert_part_fits drops) (front ++ q ∷ []) ≡ true
    → list_all (cert_part_fits drops) (front ++ longer s q ∷ []) ≡ true
longer_fits drops s front q fits e =
    let t = all_split (cert_part_fits drops) front (q ∷ []) e in
    let u = parts_of (name_fits q.0) (list_all (step_fits drops) q.1.steps) (parts_of (cert_part_fits drops q) true t.1).0 in
    let steps = all_append (step_fits drops) q.1.steps (s ∷ []) u.1 (both (step_fits drops s) true fits refl) in
    all_append (cert_part_fits drops) front (longer s q ∷ []) t.0
    (both (cert_part_fits drops (longer s q)) true (both (name_fits q.0) (list_all (step_fits drops) (q.1.steps ++ s ∷ [])) u.0 steps) refl)

record Stepped (last : Option PartName) (drops : Bool) (t : Contents) (s : ProofStep) : Type 0 where
  spelled : body_entries (add_item t (item.Step s)) ≡ body_entries t ++ step_entries s
  good : Keeps last drops (add_item t (item.Step s)) × IsIn (add_item t (item.Step s))

stepped : (last : Option PartName) (drops : Bool) (t : Contents) (s : ProofStep) → Keeps last drops t → IsIn t → step_fits drops s ≡ true → Stepped last drops t s
stepped last drops t s k i fits =
    let f = facts_of t k.fits in
    let new : with_step s t.parts ≡ i.front ++ longer s i.present ∷ [] = ap (with_step s) i.parts_are ∙ with_step_last s i.front i.present in
    let allowed : step_fits (is_some t.live) s ≡ true = ap (λ (d : Bool). step_fits d s) (sym k.drops_is) ∙ fits in
    record {
      spelled = ap (λ (es : List Entry). entry.Header t.live ∷ es)
          (ap (λ (ps : List Part). flat_map part_entries (with_step s ps)) i.parts_are ∙ stepped_parts s i.front i.present
          ∙ ap (λ (ps : List Part). flat_map part_entries ps ++ step_entries s) (sym i.parts_are));
      good = (
        record {
          drops_is = k.drops_is;
          fits = writable_by (with_step s t.parts) t.live (ascend-with_step s t.parts f.up) f.live
              (ap (list_all (cert_part_fits (is_some t.live))) new
              ∙ longer_fits (is_some t.live) s i.front i.present allowed (ap (list_all (cert_part_fits (is_some t.live))) (sym i.parts_are) ∙ f.parts));
          behind = λ n b. ap (λ (ns : List PartName). list_all (λ m. is_before m n) ns) (names-with_step s t.parts) ∙ k.behind n b;
        },
        record { front = i.front; present = longer s i.present; parts_are = new },
      );
    }

-- ---- each line

module _ (last : Option PartName) (drops : Bool) where
  start_taken : (t : Contents) (e : Entry) (m : Moved) → t ≡ nothing → entry_fits e ≡ true → at_start last e ≡ Some m → Takes place.Start t e m
  start_taken t (entry.Header live) m g fits h =
      subst (λ (u : Contents). Takes place.Start u (entry.Header live) m) (sym g)
      (told place.Start nothing (entry.Header live) (moved (machine place.Outside last (is_some live)) (Some (item.Live live))) m h
      (record { spelled = refl; good = record { drops_is = refl; fits = writable_by [] live refl fits refl; behind = λ n b. refl } }))
  start_taken t (entry.Part name) m g fits h = none_told place.Start t (entry.Part name) m h
  start_taken t (entry.Lemma clause) m g fits h = none_told place.Start t (entry.Lemma clause) m h
  start_taken t (entry.Derivation line) m g fits h = none_told place.Start t (entry.Derivation line) m h
  start_taken t entry.Qed m g fits h = none_told place.Start t entry.Qed m h
  start_taken t (entry.Rup clause hints) m g fits h = none_told place.Start t (entry.Rup clause hints) m h
  start_taken t (entry.Drop numbers) m g fits h = none_told place.Start t (entry.Drop numbers) m h
  start_taken t entry.End m g fits h = none_told place.Start t entry.End m h

  step_told : (t : Contents) (e : Entry) (s : ProofStep) (m : Moved) → Keeps last drops t → IsIn t → step_fits drops s ≡ true → step_entries s ≡ e ∷ [] → step_taken last drops s ≡ Some m
      → Takes place.Inside t e m
  step_told t e s m k i fits is h =
      let done = stepped last drops t s k i fits in
      told place.Inside t e (moved (machine place.Inside last drops) (Some (item.Step s))) m h
      (record { spelled = done.spelled ∙ ap (λ (es : List Entry). body_entries t ++ es) is; good = done.good })

  inside_taken : (t : Contents) (e : Entry) (m : Moved) → Keeps last drops t → IsIn t → entry_fits e ≡ true → inside last drops e ≡ Some m → Takes place.Inside t e m
  inside_taken t (entry.Header live) m k i fits h = none_told place.Inside t (entry.Header live) m h
  inside_taken t (entry.Part name) m k i fits h = between_taken place.Inside last drops t k refl (entry.Part name) m fits h
  inside_taken t (entry.Lemma clause) m k i fits h =
      told place.Inside t (entry.Lemma clause) (moved (machine (place.Lemma clause []) last drops) None) m h (record { spelled = refl; good = (k, i, fits, refl) })
  inside_taken t (entry.Derivation line) m k i fits h = none_told place.Inside t (entry.Derivation line) m h
  inside_taken t entry.Qed m k i fits h = none_told place.Inside t entry.Qed m h
  inside_taken t (entry.Rup clause hints) m k i fits h = step_told t (entry.Rup clause hints) (step.Rup clause hints) m k i fits refl h
  inside_taken t (entry.Drop numbers) m k i fits h =
      let d = if_some drops (Some (moved (machine place.Inside last drops) (Some (item.Step (step.Drop numbers))))) m h in
      let f = parts_of (are_droppable numbers) (list_all number_fits numbers) fits in
      step_told t (entry.Drop numbers) (step.Drop numbers) m k i (both (drops && are_droppable numbers) (list_all number_fits numbers) (both drops (are_droppable numbers) d.0 f.0) f.1) refl d.1
  inside_taken t entry.End m k i fits h = between_taken place.Inside last drops t k refl entry.End m fits h

  derived : (t : Contents) (clause : Clause) (ls : List Line) (line : Line)
      → so_far (place.Lemma clause (ls ++ line ∷ [])) t ≡ so_far (place.Lemma clause ls) t ++ entry.Derivation line ∷ []
  derived t clause ls line =
      ap (λ (es : List Entry). body_entries t ++ entry.Lemma clause ∷ es) (map-append entry.Derivation ls (line ∷ []))
      ∙ sym (append_assoc (body_entries t) (entry.Lemma clause ∷ map entry.Derivation ls) (entry.Derivation line ∷ []))

  lemma_taken : (t : Contents) (clause : Clause) (ls : List Line) (e : Entry) (m : Moved) → Keeps last drops t → IsIn t → clause_fits clause ≡ true → list_all line_fits ls ≡ true
      → entry_fits e ≡ true → in_lemma clause ls last drops e ≡ Some m → Takes (place.Lemma clause ls) t e m
  lemma_taken t clause ls (entry.Header live) m k i c l fits h = none_told (place.Lemma clause ls) t (entry.Header live) m h
  lemma_taken t clause ls (entry.Part name) m k i c l fits h = none_told (place.Lemma clause ls) t (entry.Part name) m h
  lemma_taken t clause ls (entry.Lemma other) m k i c l fits h = none_told (place.Lemma clause ls) t (entry.Lemma other) m h
  lemma_taken t clause ls (entry.Derivation line) m k i c l fits h =
      told (place.Lemma clause ls) t (entry.Derivation line) (moved (machine (place.Lemma clause (ls ++ line ∷ [])) last drops) None) m h
      (record { spelled = derived t clause ls line; good = (k, i, c, all_append line_fits ls (line ∷ []) l (both (line_fits line) true fits refl)) })
  lemma_taken t clause ls entry.Qed m k i c l fits h =
      let done = stepped last drops t (step.Lemma clause ls) k i (both (clause_fits clause) (list_all line_fits ls) c l) in
      told (place.Lemma clause ls) t entry.Qed (moved (machine place.Inside last drops) (Some (item.Step (step.Lemma clause ls)))) m h
      (record { spelled = done.spelled ∙ sym (append_assoc (body_entries t) (entry.Lemma clause ∷ map entry.Derivation ls) (entry.Qed ∷ [])); good = done.good })
  lemma_taken t clause ls (entry.Rup other hints) m k i c l fits h = none_told (place.Lemma clause ls) t (entry.Rup other hints) m h
  lemma_taken t clause ls (entry.Drop numbers) m k i c l fits h = none_told (place.Lemma clause ls) t (entry.Drop numbers) m h
  lemma_taken t clause ls entry.End m k i c l fits h = none_told (place.Lemma clause ls) t entry.End m h

  line_taken : (p : Place) (t : Contents) (e : Entry) (m : Moved) → Good p last drops t → entry_fits e ≡ true → after_place p last drops e ≡ Some m → Takes p t e m
  line_taken place.Start t e m g fits h = start_taken t e m g fits h
  line_taken place.Outside t e m g fits h = between_taken place.Outside last drops t g refl e m fits h
  line_taken place.Inside t e m g fits h = inside_taken t e m g.0 g.1 fits h
  line_taken (place.Lemma clause ls) t e m g fits h = lemma_taken t clause ls e m g.0 g.1 g.2 g.3 fits h
  line_taken place.Ended t e m g fits h = none_told place.Ended t e m h

-- ---- bytes

abbrev ReadsBy : Option Machine → List ℕ → Contents → List ℕ → Type 0
ReadsBy None carry t text = Unit {0}
ReadsBy (Some m) carry t text = (text ≡ lines_text (so_far m.place t) ++ carry) × Good m.place m.last m.drops t

abbrev Reads : State Contents → List ℕ → Type 0
Reads s text = ReadsBy s.machine s.carry s.taken text

module _ (written : ReadIsWritten) where
  -- a line ends
  ended_line : (m : Machine) (carry : List ℕ) (lines : ℕ) (t : Contents) (text : List ℕ) → text ≡ lines_text (so_far m.place t) ++ carry → Good m.place m.last m.drops t
      → (o : Option Moved) → line_after m carry ≡ o → Reads (moved_to add_item lines t o) (text ++ 10 ∷ [])
  unfolding entry_after
  ended_line m carry lines t text is good None h = tt
  ended_line m carry lines t text is good (Some x) h =
      let a = bind_some (entry_of carry) (entry_after m) x h in
      let said = entry_said written carry a.0 a.1 in
      let took = line_taken m.last m.drops m.place t a.0 x good said.1 a.2 in
      let before = lines_text (so_far m.place t) in (
        ap (λ (s : List ℕ). s ++ 10 ∷ []) is ∙ append_assoc before carry (10 ∷ []) ∙ ap (λ (l : List ℕ). before ++ (l ++ 10 ∷ [])) said.0
            ∙ sym (lines_append (so_far m.place t) (a.0 ∷ [])) ∙ ap lines_text (sym took.spelled)
            ∙ sym (append-nil (lines_text (so_far x.machine.place (item_taken add_item t x.item)))),
        took.good,
      )

  byte_read : (carry : List ℕ) (lines : ℕ) (o : Option Machine) (t : Contents) (text : List ℕ) (b : ℕ) → ReadsBy o carry t text
      → Reads (byte_after add_item (state carry lines o t) b) (text ++ b ∷ [])
  byte_read carry lines None t text b r = tt
  byte_read carry lines (Some m) t text b r = by (eqb b 10) refl
    where
      by : (test : Bool) → eqb b 10 ≡ test → Reads (cond test (moved_to add_item lines t (line_after m carry)) (state (carry ++ b ∷ []) lines (Some m) t)) (text ++ b ∷ [])
      by true is =
          subst (λ (c : ℕ). Reads (moved_to add_item lines t (line_after m carry)) (text ++ c ∷ [])) (sym (eqb-true b 10 is))
          (ended_line m carry lines t text r.0 r.1 (line_after m carry) refl)
      by false is = (ap (λ (s : List ℕ). s ++ b ∷ []) r.0 ∙ append_assoc (lines_text (so_far m.place t)) carry (b ∷ []), r.1)

  bytes_read : (bs : List ℕ) (s : State Contents) (text : List ℕ) → Reads s text → Reads (fold (byte_after add_item) s bs) (text ++ bs)
  bytes_read [] s text r = subst (λ (x : List ℕ). Reads s x) (sym (append-nil text)) r
  bytes_read (b ∷ bs) s text r =
      subst (λ (x : List ℕ). Reads (fold (byte_after add_item) (byte_after add_item s b) bs) x) (append_assoc text (b ∷ []) bs)
      (bytes_read bs (byte_after add_item s b) (text ++ b ∷ []) (byte_read s.carry s.lines s.machine s.taken text b r))

  abbrev Written : List ℕ → Contents → Type 0
  Written text c = (text ≡ certificate_text c) × (is_writable c ≡ true)

  abbrev answer : Contents → Result Contents CertError
  answer c = Ok c

  ok_is : (t c : Contents) → answer t ≡ answer c → t ≡ c
  ok_is t c h = cc

  ok_of : (b : Bool) (t c : Contents) (e : CertError) → cond b (answer t) (Err e) ≡ answer c → (b ≡ true) × (t ≡ c)
  ok_of true t c e h = (refl, ok_is t c h)
  ok_of false t c e h = absurd (cc)

  no_bytes_is : (bs : List ℕ) → no_bytes bs ≡ true → bs ≡ []
  no_bytes_is [] e = refl
  no_bytes_is (b ∷ bs) e = absurd (cc)

  whole_said : (p : Place) (last : Option PartName) (drops : Bool) (carry : List ℕ) (t : Contents) (text : List ℕ) → cond (is_ended p) (no_bytes carry) false ≡ true
      → text ≡ lines_text (so_far p t) ++ carry → Good p last drops t → Written text t
  unfolding certificate_text
  whole_said place.Start last drops carry t text e is g = absurd (cc)
  whole_said place.Outside last drops carry t text e is g = absurd (cc)
  whole_said place.Inside last drops carry t text e is g = absurd (cc)
  whole_said (place.Lemma clause ls) last drops carry t text e is g = absurd (cc)
  whole_said place.Ended last drops carry t text e is g =
      (is ∙ ap (λ (x : List ℕ). lines_text (so_far place.Ended t) ++ x) (no_bytes_is carry e) ∙ append-nil (lines_text (so_far place.Ended t)), g.fits)

  end_said : (carry : List ℕ) (lines : ℕ) (o : Option Machine) (t c : Contents) (text : List ℕ) → ReadsBy o carry t text → ended (state carry lines o t) ≡ Ok c → Written text c
  end_said carry lines None t c text r e = absurd (cc)
  end_said carry lines (Some m) t c text r e =
      let h = ok_of (cond (is_ended m.place) (no_bytes carry) false) t c (wrong.BadLine (lines + 1)) e in
      subst (λ (x : Contents). Written text x) h.1 (whole_said m.place m.last m.drops carry t text h.0 r.0 r.1)

  length_said : (b : Bool) (n : ℕ) (s : State Contents) (c : Contents) → finished (cond {A = Phase Contents} b TooLong (Going n s)) ≡ Ok c → ended s ≡ Ok c
  length_said true n s c e = absurd (cc)
  length_said false n s c e = e

  pub read_is_written_back : ReadIsWrittenBack
  unfolding after
  read_is_written_back text c e =
      let s = fold (byte_after add_item) (state [] 0 (Some opening) nothing) text in
      let first : Reads (state [] 0 (Some opening) nothing) [] = (refl, refl) in
      end_said s.carry s.lines s.machine s.taken c text (bytes_read text (state [] 0 (Some opening) nothing) [] first)
      (length_said (nat_lt (2 ^ 26) (0 + length text)) (0 + length text) s c e)
