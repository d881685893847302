-- Two readings of one text, where what one makes of the items is a function of what the other makes of them.
use Rattle.std.proofs.Common.{◌≡◌, ℕ, ◌+◌, ◌^◌, Bool, true, false, cond, eqb, nat_lt, List, [], ◌∷◌, length, Option, Some, None, Result, Ok, Err, refl, sym, ap, ◌∙◌}
use Rattle.std.specs.Prelude.{fold}
use Rattle.lucy_cert.specs.declared.entries.Item.{Item}
use Rattle.lucy_cert.specs.declared.error.CertError.{CertError}
use Rattle.lucy_cert.specs.declared.error.CertError.TheVariants as wrong
use Rattle.lucy_cert.specs.declared.machine.Machine.{Machine}
use Rattle.lucy_cert.specs.declared.machine.Moved.{Moved}
use Rattle.lucy_cert.specs.declared.reader.Phase.{Phase}
use Rattle.lucy_cert.specs.declared.reader.Phase.TheVariants.{TooLong, Going}
use Rattle.lucy_cert.specs.declared.state.State.{State}
use Rattle.lucy_cert.specs.Feeding.{begun, phase_after, finished, is_whole, read_by}
use Rattle.lucy_cert.specs.Machines.{opening}
use Rattle.lucy_cert.specs.Reading.{state, byte_after, byte_by, line_after, moved_to, kept, after}

abbrev pub mapped : {A B : Type 0} → (A → B) → Result A CertError → Result B CertError
mapped h (Ok x) = Ok (h x)
mapped h (Err e) = Err e

module _ {A B : Type 0} (ta : A → Item → A) (tb : B → Item → B) (h : A → B) (goes : (t : A) (i : Item) → h (ta t i) ≡ tb (h t) i) where
  abbrev state_of : State A → State B
  state_of s = state s.carry s.lines s.machine (h s.taken)

  by_item : (lines : ℕ) (t : A) (m : Machine) (i : Option Item) → moved_to tb lines (h t) (Some (record { machine = m; item = i })) ≡ state_of (moved_to ta lines t (Some (record { machine = m; item = i })))
  by_item lines t m None = refl
  by_item lines t m (Some i) = ap (λ (q : B). state [] (lines + 1) (Some m) q) (sym (goes t i))

  by_moved : (lines : ℕ) (t : A) (o : Option Moved) → moved_to tb lines (h t) o ≡ state_of (moved_to ta lines t o)
  by_moved lines t None = refl
  by_moved lines t (Some m) = by_item lines t m.machine m.item

  by_test : (s : State A) (m : Machine) (b : Bool) (c : ℕ)
      → cond b (moved_to tb s.lines (h s.taken) (line_after m s.carry)) (kept (state_of s) m (c ∷ [])) ≡ state_of (cond b (moved_to ta s.lines s.taken (line_after m s.carry)) (kept s m (c ∷ [])))
  by_test s m true c = by_moved s.lines s.taken (line_after m s.carry)
  by_test s m false c = refl

  by_machine : (s : State A) (o : Option Machine) (c : ℕ) → byte_by tb (state_of s) o c ≡ state_of (byte_by ta s o c)
  by_machine s None c = refl
  by_machine s (Some m) c = by_test s m (eqb c 10) c

  bytes : (s : State A) (text : List ℕ) → fold (byte_after tb) (state_of s) text ≡ state_of (fold (byte_after ta) s text)
  bytes s [] = refl
  bytes s (c ∷ cs) = ap (λ q. fold (byte_after tb) q cs) (by_machine s s.machine c) ∙ bytes (byte_after ta s c) cs

  abbrev phase_of : Phase A → Phase B
  phase_of TooLong = TooLong
  phase_of (Going n s) = Going n (state_of s)

  after_bytes : (s : State A) (text : List ℕ) → after tb (state_of s) text ≡ state_of (after ta s text)
  unfolding after
  after_bytes s text = bytes s text

  by_length : (b : Bool) (n : ℕ) (x : State B) (y : State A) → x ≡ state_of y → cond b TooLong (Going n x) ≡ phase_of (cond b TooLong (Going n y))
  by_length true n x y e = refl
  by_length false n x y e = ap (Going n) e

  phases : (t : A) (text : List ℕ) → phase_after tb (begun (h t)) text ≡ phase_of (phase_after ta (begun t) text)
  phases t text =
      by_length (nat_lt (2 ^ 26) (0 + length text)) (0 + length text) (after tb (state [] 0 (Some opening) (h t)) text) (after ta (state [] 0 (Some opening) t) text)
      (after_bytes (state [] 0 (Some opening) t) text)

  by_whole : (b : Bool) (t : A) (n : ℕ) → cond b (Ok (h t)) (Err (wrong.BadLine n)) ≡ mapped h (cond b (Ok t) (Err (wrong.BadLine n)))
  by_whole true t n = refl
  by_whole false t n = refl

  ends : (p : Phase A) → finished (phase_of p) ≡ mapped h (finished p)
  ends TooLong = refl
  ends (Going n s) = by_whole (is_whole s.carry s.machine) s.taken (s.lines + 1)

  pub read_mapped : (t : A) (text : List ℕ) → read_by tb (h t) text ≡ mapped h (read_by ta t text)
  read_mapped t text = ap finished (phases t text) ∙ ends (phase_after ta (begun t) text)
