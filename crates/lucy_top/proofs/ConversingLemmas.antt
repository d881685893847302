-- A session of labels, event by event.
use Rattle.std.proofs.Common.{◌≡◌, ◌≢◌, ◌⊎◌, ℕ, ◌+◌, ◌-◌, ◌^◌, ◌<◌, ◌≤◌, Bool, true, false, List, [], ◌∷◌, ◌++◌, length, take, Option, Some, None, Result, Ok, Err, refl, sym, ap, subst, ◌∙◌, append_assoc, append-nil, arith, inl, inr}
use Rattle.std.specs.Prelude.{All, IsTrue, ◌||◌, is_some}
use Rattle.std.specs.Io.{StopsAt}
use Rattle.std.specs.Io.KnownBytes.{Appends, Consumes, IsAtEnd}
use Rattle.std.proofs.KnownBytes.{Appends-trans, Appends-nil, Consumes-trans, Consumes-nil}
use Rattle.std.specs.Prelude.{ℤ}
use Rattle.std.proofs.Math.Seq.{take-append_seam}
use Rattle.std.proofs.lemmas.List.{length-append}
use Rattle.std.proofs.lemmas.List.Elements.{All-nil, All-take}
use Rattle.lucy_io.specs.Faults.{Rose}
use Rattle.lucy_expr.specs.Expressions.{Expression}
use Rattle.lucy_report.specs.FaultLines.{source_fault, long_input}
use Rattle.lucy_report.specs.LabelTexts.{undecided, confluent, not_confluent}
use Rattle.lucy_session.specs.Laws.{IsConfluentWithout}
use Rattle.lucy_session.specs.Sessions.{Dialogue, answer_of, answer_by, expr_of, given, Follows, IsDrawn, Means}
use Rattle.lucy_session.specs.declared.answers.Next.TheVariants as next
use Rattle.lucy_session.specs.declared.reached.Reached.{Reached}
use Rattle.lucy_session.specs.declared.reached.Pair.{Pair}
use Rattle.lucy_top.specs.Conversing.{Walk, Event, shown, heard, asks, CanShow, CanCome, pair_of, with_pair, walked, shown_text, after, says, after_all, text_of, AllCome, bytes_of, bytes_in, is_over, has_ended, IsEndOf, Last, closed, broken, over, long, fault, last_text, last_status, IsLast, Way, whole, cut_last, cut, no_memory, IsCutBehind, GoesBy, Converses, Sofar, Gives, Tells, TakesLabel, weight, Steps}
use Rattle.lucy_top.specs.Hearing.{IsLine, line_bytes, passed, HearsLine, HearsPart, HearsLong}
use Rattle.lucy_top.specs.Writing.{IsCut}

-- ---- one event more

after-push : (walk : Walk) (d : Dialogue) (events : List Event) (e : Event) → after_all walk d (events ++ e ∷ []) ≡ after walk (after_all walk d events) e
after-push walk d [] e = refl
after-push walk d (x ∷ xs) e = after-push walk (after walk d x) xs e

text-push : (walk : Walk) (d : Dialogue) (events : List Event) (e : Event) → text_of walk d (events ++ e ∷ []) ≡ text_of walk d events ++ says walk (after_all walk d events) e
text-push walk d [] e = append-nil (says walk d e)
text-push walk d (x ∷ xs) e =
    ap (λ (t : List ℕ). says walk d x ++ t) (text-push walk (after walk d x) xs e)
    ∙ sym (append_assoc (says walk d x) (text_of walk (after walk d x) xs) (says walk (after_all walk (after walk d x) xs) e))

come-push : (walk : Walk) (d : Dialogue) (events : List Event) (e : Event) → AllCome walk d events → CanCome (after_all walk d events) e → AllCome walk d (events ++ e ∷ [])
come-push walk d [] e come can = (can, tt)
come-push walk d (x ∷ xs) e come can = (come.0, come-push walk (after walk d x) xs e come.1 can)

bytes-push : (events : List Event) (e : Event) → bytes_in (events ++ e ∷ []) ≡ bytes_in events ++ bytes_of e
bytes-push [] e = append-nil (bytes_of e)
bytes-push (x ∷ xs) e = ap (λ (b : List ℕ). bytes_of x ++ b) (bytes-push xs e) ∙ sym (append_assoc (bytes_of x) (bytes_in xs) (bytes_of e))

ended_first : (b : Bool) → (b || false) ≡ true → (false ≡ true) ⊎ (b ≡ true)
ended_first true is = inr refl
ended_first false is = inl is

ended_by : (b c d : Bool) (P : Type 0) → (b || d) ≡ true → (d ≡ true → (c ≡ true) ⊎ P) → ((b || c) ≡ true) ⊎ P
ended_by true c d P is h = inl refl
ended_by false c d P is h = h is

ended-push : (events : List Event) (e : Event) → has_ended (events ++ e ∷ []) ≡ true → (has_ended events ≡ true) ⊎ (is_over e ≡ true)
ended-push [] e is = ended_first (is_over e) is
ended-push (x ∷ xs) e is = ended_by (is_over x) (has_ended xs) (has_ended (xs ++ e ∷ [])) (is_over e ≡ true) is (ended-push xs e)

-- ---- what was taken

nothing_stops : StopsAt [] 10
nothing_stops = All-nil (λ (b : ℕ). b ≢ 10)

-- no LF at all
stops_line : (line : List ℕ) → All (λ (b : ℕ). b ≢ 10) line → StopsAt line 10
stops_line line none = All-take (λ (b : ℕ). b ≢ 10) (length line - 1) line none

-- no LF but perhaps the last byte
stops_push : (line : List ℕ) (b : ℕ) → All (λ (b : ℕ). b ≢ 10) line → StopsAt (line ++ b ∷ []) 10
stops_push line b none =
    let size : length (line ++ b ∷ []) - 1 ≡ length line = omega (arith, length-append line (b ∷ [])) in
    let front : take (length (line ++ b ∷ []) - 1) (line ++ b ∷ []) ≡ line = ap (λ (k : ℕ). take k (line ++ b ∷ [])) size ∙ take-append_seam line (b ∷ []) in
    subst (All (λ (b : ℕ). b ≢ 10)) (sym front) none

line_stops : (line : List ℕ) (last : Bool) → IsLine line → StopsAt (line_bytes line last) 10
line_stops line true is = stops_line line is.one
line_stops line false is = stops_push line 10 is.one

some_length : (xs : List ℕ) → xs ≢ [] → 0 < length xs
some_length [] some = absurd (some refl)
some_length (x ∷ xs) some = omega arith

line_some : (line : List ℕ) (last : Bool) → (last ≡ true → line ≢ []) → 0 < length (line_bytes line last)
line_some line true some = some_length line (some refl)
line_some line false some = omega (arith, length-append line (10 ∷ []))

-- an input that is over stays so
end_stays : (l0 l1 l2 : Option (List ℕ)) (taken more : List ℕ) → Consumes l0 l1 taken → Consumes l1 l2 more → IsEndOf l0 l1 → IsEndOf l0 l2
end_stays None l1 l2 taken more first then_ is = tt
end_stays (Some xs) None l2 taken more first then_ is = absurd first
end_stays (Some xs) (Some ys) None taken more first then_ is = absurd then_
end_stays (Some xs) (Some ys) (Some zs) taken more first then_ is = none more zs (sym then_ ∙ is)
  where
    none : (xs ys : List ℕ) → xs ++ ys ≡ [] → ys ≡ []
    none [] ys e = e
    none (x ∷ xs) ys e = absurd cc

end_now : (l0 l1 : Option (List ℕ)) → IsAtEnd l1 → IsEndOf l0 l1
end_now None l1 is = tt
end_now (Some xs) l1 is = is

rose_later : {a b c : ℕ} → a ≤ b → Rose b c → Rose a c
rose_later le rose = omega (arith, le, rose)

-- ---- what was written

cut_after : {h0 h1 h2 : Option (List ℕ)} {kf0 kf1 kf2 status : ℕ} (before text : List ℕ) → Appends h0 h1 before → kf0 ≤ kf1 → IsCut text h1 h2 kf1 kf2 status → IsCutBehind before text h0 h2 kf0 kf2 status
cut_after {h0} {h1} {h2} before text given later c = record {
  status_is = c.status_is;
  front = c.front;
  is_front = c.is_front;
  written = Appends-trans h0 h1 h2 before c.front given c.written;
  rose = rose_later later c.rose;
}

-- ---- a session that goes on

pub opens : (walk : Walk) (d : Dialogue) (l h : Option (List ℕ)) (sf kf : ℕ) → Sofar walk d l l h h sf sf kf kf d (2 ^ 20)
opens walk d l h sf kf = record {
  events = [];
  come = tt;
  now = refl;
  taken = Consumes-nil l;
  ended = λ is. absurd (let lost : false ≡ true = is in cc);
  room_is = omega arith;
  written = Appends-nil h;
  source_later = omega arith;
  sink_later = omega arith;
}

pub more : {walk : Walk} {first d : Dialogue} {l0 l1 l2 h0 h1 h2 : Option (List ℕ)} {sf0 sf1 sf2 kf0 kf1 kf2 room1 room2 : ℕ} (e : Event) → Sofar walk first l0 l1 h0 h1 sf0 sf1 kf0 kf1 d room1
    → CanCome d e → Consumes l1 l2 (bytes_of e) → (is_over e ≡ true → IsAtEnd l2) → room1 ≡ room2 + length (bytes_of e) → Appends h1 h2 (says walk d e) → sf1 ≤ sf2 → kf1 ≤ kf2
    → Sofar walk first l0 l2 h0 h2 sf0 sf2 kf0 kf2 (after walk d e) room2
more {walk} {first} {d} {l0} {l1} {l2} {h0} {h1} {h2} {room1 = room1} {room2 = room2} e s can eaten last room given source_later sink_later = record {
  events = s.events ++ e ∷ [];
  come = come-push walk first s.events e s.come (subst (λ (x : Dialogue). CanCome x e) s.now can);
  now = ap (λ (x : Dialogue). after walk x e) s.now ∙ sym (after-push walk first s.events e);
  taken = subst (Consumes l0 l2) (sym (bytes-push s.events e)) (Consumes-trans l0 l1 l2 (bytes_in s.events) (bytes_of e) s.taken eaten);
  ended = λ is. elim (ended-push s.events e is) [
    | inl before ↦ end_stays l0 l1 l2 (bytes_in s.events) (bytes_of e) s.taken eaten (s.ended before)
    | inr now ↦ end_now l0 l2 (last now)
  ];
  room_is = omega (arith, s.room_is, room, ap length (bytes-push s.events e), length-append (bytes_in s.events) (bytes_of e));
  written = subst (Appends h0 h2) (ap (λ (x : Dialogue). text_of walk first s.events ++ says walk x e) s.now ∙ sym (text-push walk first s.events e))
      (Appends-trans h0 h1 h2 (text_of walk first s.events) (says walk d e) s.written given);
  source_later = omega (arith, s.source_later, source_later);
  sink_later = omega (arith, s.sink_later, sink_later);
}

-- ---- how it ends

last_by : {walk : Walk} {first d : Dialogue} {l0 l1 l2 h0 h1 h2 : Option (List ℕ)} {sf0 sf1 sf2 kf0 kf1 kf2 room status : ℕ} (last : Last) (rest : List ℕ)
    (s : Sofar walk first l0 l1 h0 h1 sf0 sf1 kf0 kf1 d room) → IsLast d (length (bytes_in s.events)) rest l2 sf0 sf2 last → Tells (last_text d last) (last_status last) h1 h2 kf1 kf2 status
    → (way : Way) × GoesBy walk first s.events rest l2 h0 h2 sf0 sf2 kf0 kf2 status way
last_by {walk} {first} {d} {l0} {l1} {l2} {h0} {h1} {h2} {sf0} {sf1} {sf2} last rest s is (inl w) = (
  whole last,
  (
    subst (λ (x : Dialogue). IsLast x (length (bytes_in s.events)) rest l2 sf0 sf2 last) s.now is,
    w.0,
    subst (λ (x : Dialogue). Appends h0 h2 (text_of walk first s.events ++ last_text x last)) s.now
        (Appends-trans h0 h1 h2 (text_of walk first s.events) (last_text d last) s.written w.1),
  ),
)
last_by {walk} {first} {d} {l0} {l1} {l2} {h0} {h1} {h2} {sf0} {sf1} {sf2} {kf0} {kf1} {kf2} {status = status} last rest s is (inr (inl c)) = (
  cut_last last,
  (
    subst (λ (x : Dialogue). IsLast x (length (bytes_in s.events)) rest l2 sf0 sf2 last) s.now is,
    subst (λ (x : Dialogue). IsCutBehind (text_of walk first s.events) (last_text x last) h0 h2 kf0 kf2 status) s.now
        (cut_after (text_of walk first s.events) (last_text d last) s.written s.sink_later c),
  ),
)
last_by {walk} {first} {h0 = h0} last rest s is (inr (inr none)) = (no_memory, (none.0, subst (λ (h : Option (List ℕ)). Appends h0 h (text_of walk first s.events)) (sym none.1) s.written))

pub ends_last : {walk : Walk} {first d : Dialogue} {l0 l1 l2 h0 h1 h2 : Option (List ℕ)} {sf0 sf1 sf2 kf0 kf1 kf2 room status : ℕ} (last : Last) (rest : List ℕ)
    → Sofar walk first l0 l1 h0 h1 sf0 sf1 kf0 kf1 d room → ((before : ℕ) → room + before ≡ 2 ^ 20 → IsLast d before rest l2 sf0 sf2 last) → StopsAt rest 10 → Consumes l1 l2 rest
    → Tells (last_text d last) (last_status last) h1 h2 kf1 kf2 status → Converses walk first l0 l2 h0 h2 sf0 sf2 kf0 kf2 status
ends_last {walk} {first} {d} {l0} {l1} {l2} last rest s is one eaten tells =
    let by = last_by last rest s (is (length (bytes_in s.events)) s.room_is) tells in
    record {
      events = s.events;
      come = s.come;
      few = omega (arith, s.room_is);
      rest = rest;
      one = one;
      taken = Consumes-trans l0 l1 l2 (bytes_in s.events) rest s.taken eaten;
      ended = λ over. end_stays l0 l1 l2 (bytes_in s.events) rest s.taken eaten (s.ended over);
      way = by.0;
      by = by.1;
    }

pub ends_without : {walk : Walk} {first d : Dialogue} {l0 l1 l2 h0 h1 h2 : Option (List ℕ)} {sf0 sf1 sf2 kf0 kf1 kf2 room status : ℕ} (rest : List ℕ)
    → Sofar walk first l0 l1 h0 h1 sf0 sf1 kf0 kf1 d room → StopsAt rest 10 → Consumes l1 l2 rest → status ≡ 7 → h2 ≡ h1 → Converses walk first l0 l2 h0 h2 sf0 sf2 kf0 kf2 status
ends_without {walk} {first} {d} {l0} {l1} {l2} {h0} rest s one eaten is same = record {
  events = s.events;
  come = s.come;
  few = omega (arith, s.room_is);
  rest = rest;
  one = one;
  taken = Consumes-trans l0 l1 l2 (bytes_in s.events) rest s.taken eaten;
  ended = λ over. end_stays l0 l1 l2 (bytes_in s.events) rest s.taken eaten (s.ended over);
  way = no_memory;
  by = (is, subst (λ (h : Option (List ℕ)). Appends h0 h (text_of walk first s.events)) (sym same) s.written);
}

-- a write fails in the text of an event
pub ends_cut : {walk : Walk} {first d : Dialogue} {l0 l1 l2 h0 h1 h2 : Option (List ℕ)} {sf0 sf1 sf2 kf0 kf1 kf2 room1 status : ℕ} (room2 : ℕ) (e : Event)
    → Sofar walk first l0 l1 h0 h1 sf0 sf1 kf0 kf1 d room1 → CanCome d e → Consumes l1 l2 (bytes_of e) → (is_over e ≡ true → IsAtEnd l2) → room1 ≡ room2 + length (bytes_of e)
    → IsCut (says walk d e) h1 h2 kf1 kf2 status → Converses walk first l0 l2 h0 h2 sf0 sf2 kf0 kf2 status
ends_cut {walk} {first} {d} {l0} {l1} {l2} {h0} {h1} {h2} {kf0 = kf0} {kf2 = kf2} {status = status} room2 e s can eaten last room c = record {
  events = s.events ++ e ∷ [];
  come = come-push walk first s.events e s.come (subst (λ (x : Dialogue). CanCome x e) s.now can);
  few = omega (arith, s.room_is, room, ap length (bytes-push s.events e), length-append (bytes_in s.events) (bytes_of e));
  rest = [];
  one = nothing_stops;
  taken = subst (Consumes l0 l2) (ap (λ (b : List ℕ). b) (sym (bytes-push s.events e)) ∙ sym (append-nil (bytes_in (s.events ++ e ∷ []))))
      (Consumes-trans l0 l1 l2 (bytes_in s.events) (bytes_of e) s.taken eaten);
  ended = λ is. elim (ended-push s.events e is) [
    | inl before ↦ end_stays l0 l1 l2 (bytes_in s.events) (bytes_of e) s.taken eaten (s.ended before)
    | inr now ↦ end_now l0 l2 (last now)
  ];
  way = cut s.events e;
  by = (
    refl,
    refl,
    subst (λ (x : Dialogue). IsCutBehind (text_of walk first s.events) (says walk x e) h0 h2 kf0 kf2 status) s.now (cut_after (text_of walk first s.events) (says walk d e) s.written s.sink_later c),
  );
}

-- ---- steps

weight_falls : (room2 : ℕ) (stands : Bool) (room1 : ℕ) → room2 < room1 → weight room2 stands < weight room1 true
weight_falls room2 true room1 lt = omega (arith, lt)
weight_falls room2 false room1 lt = omega (arith, lt)

pub label_steps : (walk : Walk) (d e : Dialogue) (l1 l2 h1 h2 : Option (List ℕ)) (sf1 sf2 kf1 kf2 room1 room2 : ℕ) (line : List ℕ) (last : Bool) (r : Result Bool ℕ)
    → IsTrue (asks (answer_of d.reached d.pair)) → HearsLine l1 l2 room1 room2 line last → sf1 ≤ sf2 → kf1 ≤ kf2 → TakesLabel d line e h1 h2 kf1 kf2 r
    → Steps walk d e true room1 room2 l1 l2 h1 h2 sf1 sf2 kf1 kf2 r
label_steps walk d e l1 l2 h1 h2 sf1 sf2 kf1 kf2 room1 room2 line last (Ok stands) asked h source_later sink_later t =
    let can : CanCome d (heard line last) = record { asked = asked; is = h.is; last = λ is. (h.last is).0 } in (
      t.0,
      weight_falls room2 stands room1 (omega (arith, h.room, line_some line last (λ is. (h.last is).0))),
      λ first l0 h0 sf0 kf0 s. subst (λ (x : Dialogue). Sofar walk first l0 l2 h0 h2 sf0 sf2 kf0 kf2 x room2) (sym t.1)
          (more (heard line last) s can h.consumed (λ is. (h.last is).1) h.room t.2 source_later sink_later),
    )
label_steps walk d e l1 l2 h1 h2 sf1 sf2 kf1 kf2 room1 room2 line last (Err status) asked h source_later sink_later (inl c) =
    λ first l0 h0 sf0 kf0 s. ends_cut room2 (heard line last) s (record { asked = asked; is = h.is; last = λ is. (h.last is).0 }) h.consumed (λ is. (h.last is).1) h.room c
label_steps walk d e l1 l2 h1 h2 sf1 sf2 kf1 kf2 room1 room2 line last (Err status) asked h source_later sink_later (inr none) =
    λ first l0 h0 sf0 kf0 s. ends_without (line_bytes line last) s (line_stops line last h.is) h.consumed none.0 none.1

pub over_steps : {walk : Walk} {d : Dialogue} {l1 l2 h1 h2 : Option (List ℕ)} {sf1 sf2 kf1 kf2 room1 status : ℕ} (room2 : ℕ) (stood : Bool) → IsTrue (asks (answer_of d.reached d.pair))
    → Consumes l1 l2 [] × IsAtEnd l2 → Tells undecided 1 h1 h2 kf1 kf2 status → Steps walk d d stood room1 room2 l1 l2 h1 h2 sf1 sf2 kf1 kf2 (Err status)
over_steps room2 stood asked h tells = λ first l0 h0 sf0 kf0 s. ends_last over [] s (λ before r. record { asked = asked; none = refl; at_end = h.1 }) nothing_stops h.0 tells

pub long_steps : {walk : Walk} {d : Dialogue} {l1 l2 h1 h2 : Option (List ℕ)} {sf1 sf2 kf1 kf2 room1 status : ℕ} (room2 : ℕ) (stood : Bool) (count : ℕ) → IsTrue (asks (answer_of d.reached d.pair))
    → HearsLong l1 l2 room1 count → Tells (long_input count) 3 h1 h2 kf1 kf2 status → Steps walk d d stood room1 room2 l1 l2 h1 h2 sf1 sf2 kf1 kf2 (Err status)
long_steps {room1 = room1} room2 stood count asked h tells = λ first l0 h0 sf0 kf0 s. ends_last (long count) (h.part ++ h.byte ∷ []) s
    (λ before r. record {
      asked = asked;
      part = h.part;
      byte = h.byte;
      rest_is = refl;
      is = h.is;
      few = omega (arith, r, h.few);
      too_long = ap (λ (k : ℕ). passed (length h.part) k h.byte) (omega (arith, r, h.few)) ∙ h.over;
    })
    (stops_push h.part h.byte h.is.one) h.consumed tells

pub fault_steps : {walk : Walk} {d : Dialogue} {l1 l2 h1 h2 : Option (List ℕ)} {sf1 sf2 kf1 kf2 room1 status : ℕ} (room2 : ℕ) (stood : Bool) → IsTrue (asks (answer_of d.reached d.pair))
    → HearsPart l1 l2 room1 × Rose sf1 sf2 → Tells source_fault 5 h1 h2 kf1 kf2 status → Steps walk d d stood room1 room2 l1 l2 h1 h2 sf1 sf2 kf1 kf2 (Err status)
fault_steps room2 stood asked h tells = λ first l0 h0 sf0 kf0 s. ends_last fault h.0.part s
    (λ before r. record { asked = asked; is = h.0.is; rose = rose_later s.source_later h.1 }) (stops_line h.0.part h.0.is.one) h.0.consumed tells

pub part_steps : {walk : Walk} {d : Dialogue} {l1 l2 h1 : Option (List ℕ)} {sf1 sf2 kf1 kf2 room1 : ℕ} (room2 : ℕ) (stood : Bool)
    → HearsPart l1 l2 room1 → Steps walk d d stood room1 room2 l1 l2 h1 h1 sf1 sf2 kf1 kf2 (Err 7)
part_steps room2 stood h = λ first l0 h0 sf0 kf0 s. ends_without h.part s (stops_line h.part h.is.one) h.consumed refl refl

pub wanting_steps : {walk : Walk} {d : Dialogue} {l h1 : Option (List ℕ)} {sf kf room : ℕ} (e : Dialogue) (stood : Bool) → Steps walk d e stood room room l l h1 h1 sf sf kf kf (Err 7)
wanting_steps {l = l} e stood = λ first l0 h0 sf0 kf0 s. ends_without [] s nothing_stops (Consumes-nil l) refl refl

-- ---- what comes next

free_by : (p : Pair) (e f : Option Expression) → next.Closed ≡ answer_by p e f → ⊥
free_by p (Some e) (Some f) is = absurd cc
free_by p (Some e) None is = absurd cc
free_by p None f is = absurd cc

closed_free : (reached : List Reached) (pair : Option Pair) → next.Closed ≡ answer_of reached pair → pair ≡ None
closed_free reached None is = refl
closed_free reached (Some p) is = absurd (free_by p (expr_of reached p.left) (expr_of reached p.right) is)

broken_pair : (reached : List Reached) (pair : Option Pair) (e f : Expression) → next.Broken e f ≡ answer_of reached pair → (p : Pair) × (pair ≡ Some p)
broken_pair reached None e f is = absurd cc
broken_pair reached (Some p) e f is = (p, refl)

shown_by : (p : Pair) (e f : Option Expression) (left right : List ℤ) (a b : Bool) → next.Pair left right a b ≡ answer_by p e f → p ≡ pair_of left right
shown_by p (Some e) (Some f) left right a b is = absurd cc
shown_by p (Some e) None left right a b is = let l : left ≡ p.left = cc in let r : right ≡ p.right = cc in sym (ap (λ (x : List ℤ). pair_of x right) l ∙ ap (λ (x : List ℤ). pair_of p.left x) r)
shown_by p None f left right a b is = let l : left ≡ p.left = cc in let r : right ≡ p.right = cc in sym (ap (λ (x : List ℤ). pair_of x right) l ∙ ap (λ (x : List ℤ). pair_of p.left x) r)

pub pair_shown : (reached : List Reached) (pair : Option Pair) (left right : List ℤ) (a b : Bool) → next.Pair left right a b ≡ answer_of reached pair → pair ≡ Some (pair_of left right)
pair_shown reached None left right a b is = absurd cc
pair_shown reached (Some p) left right a b is = ap (λ (q : Pair). Some q) (shown_by p (expr_of reached p.left) (expr_of reached p.right) left right a b is)

pub closed_steps : {walk : Walk} {d e : Dialogue} {l h1 h2 : Option (List ℕ)} {sf kf1 kf2 room status : ℕ} (stood : Bool) → next.Closed ≡ answer_of e.reached e.pair → Follows d.plan d.points d.pair e.pair
    → e ≡ record d { pair = e.pair } → IsConfluentWithout d.plan d.points → Tells (confluent e.points) 0 h1 h2 kf1 kf2 status → Steps walk d e stood room room l l h1 h2 sf sf kf1 kf2 (Err status)
closed_steps {d = d} {e = e} {l = l} {h1 = h1} {h2 = h2} {kf1 = kf1} {kf2 = kf2} {status = status} stood is drawn same means tells = λ first l0 h0 sf0 kf0 s.
    let none = closed_free e.reached e.pair is in
    ends_last closed [] s (λ before r. record { none = refl; drawn = subst (Follows d.plan d.points d.pair) none drawn; means = means }) nothing_stops (Consumes-nil l)
    (subst (λ (ps : List (List ℤ)). Tells (confluent ps) 0 h1 h2 kf1 kf2 status) (ap (λ (x : Dialogue). x.points) same) tells)

pub broken_steps : {walk : Walk} {d e : Dialogue} {l h1 h2 : Option (List ℕ)} {sf kf1 kf2 room status : ℕ} (stood : Bool) (left right : Expression) → next.Broken left right ≡ answer_of e.reached e.pair
    → Follows d.plan d.points d.pair e.pair → e ≡ record d { pair = e.pair } → Means d.plan d.points (next.Broken left right)
    → Tells (not_confluent e.names.txns left.tree right.tree) 1 h1 h2 kf1 kf2 status → Steps walk d e stood room room l l h1 h2 sf sf kf1 kf2 (Err status)
broken_steps {d = d} {e = e} {l = l} {h1 = h1} {h2 = h2} {kf1 = kf1} {kf2 = kf2} {status = status} stood left right is drawn same means tells = λ first l0 h0 sf0 kf0 s.
    let p = broken_pair e.reached e.pair left right is in
    let reached-is : e.reached ≡ d.reached = ap (λ (x : Dialogue). x.reached) same in
    ends_last (broken left right) [] s
    (λ before r. record {
      none = refl;
      pair = p.0;
      drawn = subst (Follows d.plan d.points d.pair) p.1 drawn;
      both = sym (is ∙ ap (λ (q : Option Pair). answer_of e.reached q) p.1 ∙ ap (λ (rs : List Reached). answer_of rs (Some p.0)) reached-is);
      means = means;
    })
    nothing_stops (Consumes-nil l)
    (subst (λ (ns : List (List ℕ)). Tells (not_confluent ns left.tree right.tree) 1 h1 h2 kf1 kf2 status) (ap (λ (x : Dialogue). x.names.txns) same) tells)

-- a pair that stood still stands, and nothing else has changed
pub stands_still : (d e : Dialogue) → is_some d.pair ≡ true → Follows d.plan d.points d.pair e.pair → e ≡ record d { pair = e.pair } → e ≡ d
stands_still d e some drawn same = by d.pair refl some drawn
  where
    by : (q : Option Pair) → d.pair ≡ q → is_some q ≡ true → Follows d.plan d.points q e.pair → e ≡ d
    by None at some drawn = absurd cc
    by (Some p) at some drawn = same ∙ ap (λ (o : Option Pair). record d { pair = o }) (drawn ∙ sym at)

pub can_show : (d e : Dialogue) (left right : List ℤ) (a b : Bool) → is_some d.pair ≡ false → next.Pair left right a b ≡ answer_of e.reached e.pair → Follows d.plan d.points d.pair e.pair
    → e ≡ record d { pair = e.pair } → CanShow d (pair_of left right) × (e ≡ with_pair d (pair_of left right))
unfolding with_pair
can_show d e left right a b free is drawn same =
    let none = by_none d.pair free in
    let pair-is = pair_shown e.reached e.pair left right a b is in
    let reached-is : e.reached ≡ d.reached = ap (λ (x : Dialogue). x.reached) same in
    let answer-is : next.Pair left right a b ≡ answer_of d.reached (Some (pair_of left right)) =
    is ∙ ap (λ (q : Option Pair). answer_of e.reached q) pair-is ∙ ap (λ (rs : List Reached). answer_of rs (Some (pair_of left right))) reached-is in (
      record {
        free = none;
        is = subst (λ (q : Option Pair). IsDrawn d.plan d.points q) pair-is (subst (λ (q : Option Pair). Follows d.plan d.points q e.pair) none drawn);
        asked = sym (ap asks answer-is);
      },
      same ∙ ap (λ (o : Option Pair). record d { pair = o }) pair-is,
    )
  where
    by_none : (q : Option Pair) → is_some q ≡ false → q ≡ None
    by_none None is = refl
    by_none (Some p) is = absurd cc

walked_stands : (walk : Walk) (d : Dialogue) (p : Pair) → is_some (walked walk (with_pair d p) p).pair ≡ true
unfolding with_pair
walked_stands None d p = refl
walked_stands (Some w) d p = refl

pub shown_steps : {walk : Walk} {d e g : Dialogue} {l h1 h2 : Option (List ℕ)} {sf kf1 kf2 room : ℕ} (p : Pair) → CanShow d p → e ≡ with_pair d p → g ≡ walked walk e p
    → Appends h1 h2 (shown_text walk e p) → kf1 ≤ kf2 → Steps walk d g false room room l l h1 h2 sf sf kf1 kf2 (Ok true)
shown_steps {walk} {d} {e} {g} {l} {h1} {h2} {sf} {kf1} {kf2} {room} p can e-is g-is given later =
    let g-now : g ≡ walked walk (with_pair d p) p = g-is ∙ ap (λ (x : Dialogue). walked walk x p) e-is in (
      sym (ap (λ (x : Dialogue). is_some x.pair) g-now ∙ walked_stands walk d p),
      omega arith,
      λ first l0 h0 sf0 kf0 s. subst (λ (x : Dialogue). Sofar walk first l0 l h0 h2 sf0 sf kf0 kf2 x room) (sym g-now)
          (more (shown p) s can (Consumes-nil l) (λ is. absurd (let lost : false ≡ true = is in cc)) (omega arith)
          (subst (λ (x : Dialogue). Appends h1 h2 (shown_text walk x p)) e-is given) (omega arith) later),
    )

pub shown_cut : {walk : Walk} {d e : Dialogue} {l h1 h2 : Option (List ℕ)} {sf kf1 kf2 room status : ℕ} (g : Dialogue) (p : Pair) → CanShow d p → e ≡ with_pair d p
    → Gives (shown_text walk e p) h1 h2 kf1 kf2 (Err status) → Steps walk d g false room room l l h1 h2 sf sf kf1 kf2 (Err status)
shown_cut {walk} {d} {e} {l = l} {h1 = h1} {h2 = h2} {kf1 = kf1} {kf2 = kf2} {room = room} {status = status} g p can e-is (inl c) = λ first l0 h0 sf0 kf0 s.
    ends_cut room (shown p) s can (Consumes-nil l) (λ is. absurd (let lost : false ≡ true = is in cc)) (omega arith)
    (subst (λ (x : Dialogue). IsCut (shown_text walk x p) h1 h2 kf1 kf2 status) e-is c)
shown_cut {l = l} g p can e-is (inr none) = λ first l0 h0 sf0 kf0 s. ends_without [] s nothing_stops (Consumes-nil l) none.0 none.1
