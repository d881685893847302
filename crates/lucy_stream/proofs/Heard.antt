-- A text that is judged as it is read is answered as one that is read whole and then judged.
use Rattle.std.proofs.Common.{◌≡◌, ℕ, ◌+◌, ◌^◌, Bool, true, false, cond, eqb, nat_lt, List, [], ◌∷◌, ◌++◌, length, Option, Some, None, Result, Ok, Err, refl, sym, ap, ◌∙◌}
use Rattle.std.specs.Prelude.{fold}
use Rattle.std.specs.List.{list_all}
use Rattle.std.specs.Option.{option_map}
use Rattle.std.proofs.Math.Path.{subst}
use Rattle.std.proofs.lemmas.Bool.{and_parts}
use Rattle.std.proofs.lemmas.List.Sums.{fold-append}
use Rattle.lucy_clauses.specs.declared.formulas.Clause.{Clause}
use Rattle.lucy_clauses.specs.declared.lines.Line.{Line}
use Rattle.lucy_plan.specs.declared.parts.PlanParts.{PlanParts}
use Rattle.lucy_cert.specs.declared.entries.Entry.{Entry}
use Rattle.lucy_cert.specs.declared.entries.Entry.TheVariants as entry
use Rattle.lucy_cert.specs.declared.entries.Item.{Item}
use Rattle.lucy_cert.specs.declared.entries.Item.TheVariants as item
use Rattle.lucy_cert.specs.declared.error.CertError.{CertError}
use Rattle.lucy_cert.specs.declared.error.CertError.TheVariants as wrong
use Rattle.lucy_cert.specs.declared.machine.Machine.{Machine}
use Rattle.lucy_cert.specs.declared.machine.Moved.{Moved}
use Rattle.lucy_cert.specs.declared.machine.Place.{Place}
use Rattle.lucy_cert.specs.declared.machine.Place.TheVariants.{Start, Outside, Inside, Lemma, Ended}
use Rattle.lucy_cert.specs.declared.names.PartName.{PartName}
use Rattle.lucy_cert.specs.declared.reader.Phase.TheVariants.{TooLong, Going}
use Rattle.lucy_cert.specs.declared.state.State.{State}
use Rattle.lucy_cert.specs.declared.steps.ProofStep.{ProofStep}
use Rattle.lucy_cert.specs.Certificates.{Part, Contents, contents, part_names, nothing, proof, come_before, with_step, add_item}
use Rattle.lucy_cert.specs.Entries.{entry_of}
use Rattle.lucy_cert.specs.Feeding as feeding
use Rattle.lucy_cert.specs.Machines.{machine, opening, is_behind, gave, at_start, between_parts, inside, in_lemma, after_place, entry_after}
use Rattle.lucy_cert.specs.Names.{is_before, ascend}
use Rattle.lucy_cert.specs.Options.{◌>>=◌}
use Rattle.lucy_cert.specs.Reading.{state, byte_after, byte_by, line_after, moved_to, kept, after}
use Rattle.lucy_judge.specs.declared.refusal.Refusal.{Refusal}
use Rattle.lucy_judge.specs.declared.trial.Trial.{Trial}
use Rattle.lucy_judge.specs.Judging as judging
use Rattle.lucy_judge.specs.Judges as judges
use Rattle.lucy_judge.specs.Laws.{JudgedInParts}
use Rattle.lucy_judge.specs.Trials as trials
use Rattle.lucy_judge.proofs.Orders.{both_true, before_trans}
use Rattle.lucy_stream.specs.declared.hearing.Hearing.{Hearing}
use Rattle.lucy_stream.specs.Hearings.{hearing, begun, heard}
use Rattle.lucy_stream.specs.Laws.{JudgedAsRead, of_judge, answered}
use Rattle.lucy_stream.specs.Verifying.{of_refusal, verified_by, told}
use Rattle.lucy_stream.proofs.Mapping.{mapped, read_mapped}

-- ---- what a line does to a machine

abbrev is_start : Place → Bool
is_start Start = true
is_start p = false

-- by what a line completes: the first line alone tells how many clauses may be live, and each part comes behind the last one
abbrev KeepsBy : Place → Option PartName → Machine → Option Item → Type 0
KeepsBy place last new None = (new.last ≡ last) × (is_start new.place ≡ false) × (is_start place ≡ false)
KeepsBy place last new (Some (item.Live live)) = (new.last ≡ last) × (is_start new.place ≡ false) × (is_start place ≡ true)
KeepsBy place last new (Some (item.Part name)) = (new.last ≡ Some name) × (is_start new.place ≡ false) × (is_behind last name ≡ true) × (is_start place ≡ false)
KeepsBy place last new (Some (item.Step s)) = (new.last ≡ last) × (is_start new.place ≡ false) × (is_start place ≡ false)

abbrev Keeps : Place → Option PartName → Option Moved → Type 0
Keeps place last None = Unit {0}
Keeps place last (Some m) = KeepsBy place last m.machine m.item

start_keeps : (last : Option PartName) (e : Entry) → Keeps Start last (at_start last e)
start_keeps last (entry.Header live) = (refl, refl, refl)
start_keeps last (entry.Part name) = tt
start_keeps last (entry.Lemma clause) = tt
start_keeps last (entry.Derivation line) = tt
start_keeps last entry.Qed = tt
start_keeps last (entry.Rup clause hints) = tt
start_keeps last (entry.Drop numbers) = tt
start_keeps last entry.End = tt

part_keeps : (place : Place) (last : Option PartName) (drops : Bool) (name : PartName) (b : Bool) → is_start place ≡ false → is_behind last name ≡ b
    → Keeps place last (cond b (gave Inside (Some name) drops (item.Part name)) None)
part_keeps place last drops name true out e = (refl, refl, e, out)
part_keeps place last drops name false out e = tt

between_keeps : (place : Place) (last : Option PartName) (drops : Bool) (e : Entry) → is_start place ≡ false → Keeps place last (between_parts last drops e)
between_keeps place last drops (entry.Header live) out = tt
between_keeps place last drops (entry.Part name) out = part_keeps place last drops name (is_behind last name) out refl
between_keeps place last drops (entry.Lemma clause) out = tt
between_keeps place last drops (entry.Derivation line) out = tt
between_keeps place last drops entry.Qed out = tt
between_keeps place last drops (entry.Rup clause hints) out = tt
between_keeps place last drops (entry.Drop numbers) out = tt
between_keeps place last drops entry.End out = (refl, refl, out)

inside_keeps : (last : Option PartName) (drops : Bool) (e : Entry) → Keeps Inside last (inside last drops e)
inside_keeps last drops (entry.Header live) = tt
inside_keeps last drops (entry.Part name) = part_keeps Inside last drops name (is_behind last name) refl refl
inside_keeps last drops (entry.Lemma clause) = (refl, refl, refl)
inside_keeps last drops (entry.Derivation line) = tt
inside_keeps last drops entry.Qed = tt
inside_keeps last drops (entry.Rup clause hints) = (refl, refl, refl)
inside_keeps last true (entry.Drop numbers) = (refl, refl, refl)
inside_keeps last false (entry.Drop numbers) = tt
inside_keeps last drops entry.End = (refl, refl, refl)

lemma_keeps : (clause : Clause) (lines : List Line) (last : Option PartName) (drops : Bool) (e : Entry) → Keeps (Lemma clause lines) last (in_lemma clause lines last drops e)
lemma_keeps clause lines last drops (entry.Header live) = tt
lemma_keeps clause lines last drops (entry.Part name) = tt
lemma_keeps clause lines last drops (entry.Lemma other) = tt
lemma_keeps clause lines last drops (entry.Derivation line) = (refl, refl, refl)
lemma_keeps clause lines last drops entry.Qed = (refl, refl, refl)
lemma_keeps clause lines last drops (entry.Rup other hints) = tt
lemma_keeps clause lines last drops (entry.Drop numbers) = tt
lemma_keeps clause lines last drops entry.End = tt

place_keeps : (p : Place) (last : Option PartName) (drops : Bool) (e : Entry) → Keeps p last (after_place p last drops e)
place_keeps Start last drops e = start_keeps last e
place_keeps Outside last drops e = between_keeps Outside last drops e refl
place_keeps Inside last drops e = inside_keeps last drops e
place_keeps (Lemma clause lines) last drops e = lemma_keeps clause lines last drops e
place_keeps Ended last drops e = tt

line_keeps_by : (m : Machine) (o : Option Entry) → Keeps m.place m.last (o >>= entry_after m)
unfolding entry_after
line_keeps_by m None = tt
line_keeps_by m (Some e) = place_keeps m.place m.last m.drops e

-- ---- what parts and steps come to

module _ (plan : PlanParts) where
  abbrev hearing_of : Contents → Hearing
  hearing_of c = hearing c.live (judges.judging plan (Some (trials.trial_of plan c.live c.parts)))

  step_over : (live : Option ℕ) (s : ProofStep) (t : Trial) (p : Part) (ps : List Part)
      → fold (trials.whole_part_taken plan live) t (with_step s (p ∷ ps)) ≡ trials.step_taken (fold (trials.whole_part_taken plan live) t (p ∷ ps)) s
  step_over live s t p [] = fold-append trials.step_taken (trials.part_taken plan live t p.0) p.1.steps (s ∷ [])
  step_over live s t p (q ∷ qs) = step_over live s (trials.whole_part_taken plan live t p) q qs

  step_same : (live : Option ℕ) (s : ProofStep) (ps : List Part) → trials.trial_of plan live (with_step s ps) ≡ trials.step_taken (trials.trial_of plan live ps) s
  step_same live s [] = refl
  step_same live s (p ∷ ps) = step_over live s (trials.opening plan) p ps

  part_same : (live : Option ℕ) (name : PartName) (ps : List Part)
      → trials.trial_of plan live (ps ++ (name, proof []) ∷ []) ≡ trials.part_taken plan live (trials.trial_of plan live ps) name
  part_same live name ps = fold-append (trials.whole_part_taken plan live) (trials.opening plan) ps ((name, proof []) ∷ [])

  -- ---- what is known of the items so far

  abbrev added : List Item → Contents
  added is = fold add_item nothing is

  abbrev told_of : List Item → Hearing
  told_of is = fold heard (begun plan) is

  -- the judge has heard what was read; a part that comes behind the last one comes behind all; the names ascend
  record Good (m : Machine) (is : List Item) : Type 0 where
    same : told_of is ≡ hearing_of (added is)
    first : is_start m.place ≡ true → (added is).parts ≡ []
    behind : (name : PartName) → is_behind m.last name ≡ true → come_before name (added is).parts ≡ true
    up : ascend (part_names (added is).parts) ≡ true

  abbrev GoodOr : Option Machine → List Item → Type 0
  GoodOr None is = Unit {0}
  GoodOr (Some m) is = Good m is

  more : {A : Type 0} (f : A → Item → A) (z : A) (is : List Item) (i : Item) → fold f z (is ++ i ∷ []) ≡ f (fold f z is) i
  more f z is i = fold-append f z is (i ∷ [])

  names_step : (s : ProofStep) (ps : List Part) → part_names (with_step s ps) ≡ part_names ps
  names_step s [] = refl
  names_step s (p ∷ []) = refl
  names_step s (p ∷ q ∷ ps) = ap (λ ns. p.0 ∷ ns) (names_step s (q ∷ ps))

  before_more : (name n : PartName) (ps : List Part) → come_before n ps ≡ true → is_before n name ≡ true → come_before name (ps ++ (n, proof []) ∷ []) ≡ true
  before_more name n [] e h = both_true (is_before n name) true h refl
  before_more name n (p ∷ ps) e h =
      let t = and_parts (is_before p.0 n) (come_before n ps) e in
      both_true (is_before p.0 name) (come_before name (ps ++ (n, proof []) ∷ [])) (before_trans p.0 n name t.0 h) (before_more name n ps t.1 h)

  ascend_more : (n : PartName) (ps : List Part) → ascend (part_names ps) ≡ true → come_before n ps ≡ true → ascend (part_names (ps ++ (n, proof []) ∷ [])) ≡ true
  ascend_more n [] e h = refl
  ascend_more n (p ∷ ps) e h =
      let t = and_parts (list_all (is_before p.0) (part_names ps)) (ascend (part_names ps)) e in
      let u = and_parts (is_before p.0 n) (come_before n ps) h in
      both_true (list_all (is_before p.0) (part_names (ps ++ (n, proof []) ∷ []))) (ascend (part_names (ps ++ (n, proof []) ∷ []))) (all_more ps t.0 u.0) (ascend_more n ps t.1 u.1)
    where
      all_more : (qs : List Part) → list_all (is_before p.0) (part_names qs) ≡ true → is_before p.0 n ≡ true → list_all (is_before p.0) (part_names (qs ++ (n, proof []) ∷ [])) ≡ true
      all_more [] f g = both_true (is_before p.0 n) true g refl
      all_more (q ∷ qs) f g =
          let t = and_parts (is_before p.0 q.0) (list_all (is_before p.0) (part_names qs)) f in
          both_true (is_before p.0 q.0) (list_all (is_before p.0) (part_names (qs ++ (n, proof []) ∷ []))) t.0 (all_more qs t.1 g)

  with_part_is : (b : Bool) (name : PartName) (ps : List Part) → b ≡ true → cond b (ps ++ (name, proof []) ∷ []) ps ≡ ps ++ (name, proof []) ∷ []
  with_part_is true name ps e = refl
  with_part_is false name ps e = absurd (cc)

  not_start : (b : Bool) → b ≡ false → b ≡ true → ⊥
  not_start true p q = absurd (cc)
  not_start false p q = absurd (cc)

  -- an item that a line completes
  item_good : (p : Place) (last : Option PartName) (new : Machine) (is : List Item) (i : Item) (drops : Bool) → Good (machine p last drops) is → KeepsBy p last new (Some i) → Good new (is ++ i ∷ [])
  item_good p last new is (item.Live live) drops good keeps =
      let c = more add_item nothing is (item.Live live) in
      let none = good.first keeps.2 in
      record {
        same = more heard (begun plan) is (item.Live live) ∙ ap (λ h. heard h (item.Live live)) good.same
            ∙ ap (λ ps. hearing live (judges.judging plan (Some (trials.trial_of plan (added is).live ps)))) none
            ∙ sym (ap hearing_of c ∙ ap (λ ps. hearing_of (contents ps live)) none);
        first = λ e. absurd (not_start (is_start new.place) keeps.1 e);
        behind = λ name b. ap (λ d. come_before name d.parts) c ∙ good.behind name (ap (λ l. is_behind l name) (sym keeps.0) ∙ b);
        up = ap (λ d. ascend (part_names d.parts)) c ∙ good.up;
      }
  item_good p last new is (item.Part name) drops good keeps =
      let before = good.behind name keeps.2 in
      let parts = with_part_is (come_before name (added is).parts) name (added is).parts before in
      let c = more add_item nothing is (item.Part name) ∙ ap (λ ps. contents ps (added is).live) parts in
      record {
        same = more heard (begun plan) is (item.Part name) ∙ ap (λ h. heard h (item.Part name)) good.same
            ∙ ap (λ t. hearing (added is).live (judges.judging plan (Some t))) (sym (part_same (added is).live name (added is).parts)) ∙ sym (ap hearing_of c);
        first = λ e. absurd (not_start (is_start new.place) keeps.1 e);
        behind = λ n b. ap (λ d. come_before n d.parts) c ∙ before_more n name (added is).parts before (ap (λ l. is_behind l n) (sym keeps.0) ∙ b);
        up = ap (λ d. ascend (part_names d.parts)) c ∙ ascend_more name (added is).parts good.up before;
      }
  item_good p last new is (item.Step s) drops good keeps =
      let c = more add_item nothing is (item.Step s) in
      record {
        same = more heard (begun plan) is (item.Step s) ∙ ap (λ h. heard h (item.Step s)) good.same
            ∙ ap (λ t. hearing (added is).live (judges.judging plan (Some t))) (sym (step_same (added is).live s (added is).parts)) ∙ sym (ap hearing_of c);
        first = λ e. absurd (not_start (is_start new.place) keeps.1 e);
        behind = λ n b. ap (λ d. list_all (λ m. is_before m n) (part_names d.parts)) c ∙ ap (list_all (λ m. is_before m n)) (names_step s (added is).parts)
            ∙ good.behind n (ap (λ l. is_behind l n) (sym keeps.0) ∙ b);
        up = ap (λ d. ascend (part_names d.parts)) c ∙ ap ascend (names_step s (added is).parts) ∙ good.up;
      }

  abbrev push : List Item → Item → List Item
  push is i = is ++ i ∷ []

  moved_good_by : (m new : Machine) (lines : ℕ) (is : List Item) (i : Option Item) → Good m is → KeepsBy m.place m.last new i
      → GoodOr (Some new) (moved_to push lines is (Some (record { machine = new; item = i }))).taken
  moved_good_by m new lines is None good keeps =
      record {
        same = good.same;
        first = λ e. absurd (not_start (is_start new.place) keeps.1 e);
        behind = λ name b. good.behind name (ap (λ l. is_behind l name) (sym keeps.0) ∙ b);
        up = good.up;
      }
  moved_good_by m new lines is (Some i) good keeps = item_good m.place m.last new is i m.drops good keeps

  abbrev GoodState : State (List Item) → Type 0
  GoodState s = GoodOr s.machine s.taken

  moved_good : (m : Machine) (lines : ℕ) (is : List Item) (o : Option Moved) → Good m is → Keeps m.place m.last o → GoodState (moved_to push lines is o)
  moved_good m lines is None good keeps = tt
  moved_good m lines is (Some moved) good keeps = moved_good_by m moved.machine lines is moved.item good keeps

  test_good : (s : State (List Item)) (m : Machine) (b : Bool) (c : ℕ) → Good m s.taken → GoodState (cond b (moved_to push s.lines s.taken (line_after m s.carry)) (kept s m (c ∷ [])))
  test_good s m true c good = moved_good m s.lines s.taken (line_after m s.carry) good (line_keeps_by m (entry_of s.carry))
  test_good s m false c good = good

  byte_good : (s : State (List Item)) (o : Option Machine) (c : ℕ) → s.machine ≡ o → GoodOr o s.taken → GoodState (byte_by push s o c)
  byte_good s None c e good = subst (λ q. GoodOr q s.taken) (sym e) good
  byte_good s (Some m) c e good = test_good s m (eqb c 10) c good

  bytes_good : (s : State (List Item)) (text : List ℕ) → GoodState s → GoodState (fold (byte_after push) s text)
  bytes_good s [] good = good
  bytes_good s (c ∷ cs) good = bytes_good (byte_after push s c) cs (byte_good s s.machine c refl good)

  at_first : Good opening []
  at_first = record { same = refl; first = λ e. refl; behind = λ name b. refl; up = refl }

  after_good : (text : List ℕ) → GoodState (after push (state [] 0 (Some opening) []) text)
  unfolding after
  after_good text = bytes_good (state [] 0 (Some opening) []) text at_first

  -- what is answered of the items of a text
  abbrev Answer : Result (List Item) CertError → Type 0
  Answer r = answered (mapped told_of r) ≡ told plan (verified_by plan (mapped added r))

  told_by : (r : Option Refusal) → of_judge (judging.answer_of plan r) ≡ told plan (option_map of_refusal r)
  told_by None = refl
  told_by (Some e) = refl

  module _ (in_parts : JudgedInParts) where
    good_answer : (m : Machine) (is : List Item) → Good m is → Answer (Ok is)
    good_answer m is good =
        ap (λ (h : Hearing). of_judge (judges.finished h.judge.plan h.judge.trial)) good.same
        ∙ ap (λ r. of_judge (judging.answer_of plan r)) (in_parts plan (added is) good.up)
        ∙ told_by (judging.refusal_of plan (added is))

    ended_answer : (s : State (List Item)) (o : Option Machine) → s.machine ≡ o → GoodOr o s.taken → Answer (cond (feeding.is_whole s.carry o) (Ok s.taken) (Err (wrong.BadLine (s.lines + 1))))
    ended_answer s None e good = refl
    ended_answer s (Some m) e good = by_whole (feeding.is_whole s.carry (Some m))
      where
        by_whole : (b : Bool) → Answer (cond b (Ok s.taken) (Err (wrong.BadLine (s.lines + 1))))
        by_whole true = good_answer m s.taken good
        by_whole false = refl

    length_answer : (b : Bool) (n : ℕ) (s : State (List Item)) → GoodState s → Answer (feeding.finished (cond b TooLong (Going n s)))
    length_answer true n s good = refl
    length_answer false n s good = ended_answer s s.machine refl good

    items_answer : (text : List ℕ) → Answer (feeding.read_by push [] text)
    items_answer text = length_answer (nat_lt (2 ^ 26) (0 + length text)) (0 + length text) (after push (state [] 0 (Some opening) []) text) (after_good text)

pub as_read : JudgedInParts → JudgedAsRead
as_read in_parts plan text =
    ap answered (read_mapped (push plan) heard (fold heard (begun plan)) (λ is i. fold-append heard (begun plan) is (i ∷ [])) [] text)
    ∙ items_answer plan in_parts text
    ∙ ap (λ r. told plan (verified_by plan r)) (sym (read_mapped (push plan) add_item (fold add_item nothing) (λ is i. fold-append add_item nothing is (i ∷ [])) [] text))
