-- What holds of all that is read.
use Rattle.std.proofs.Common.{◌≡◌, ℕ, ◌≤◌, Bool, true, false, cond, nat_lt, List, length, Ok, Err, refl, arith}
use Rattle.std.proofs.lemmas.Bool.Decides.{nat_tests}
use Rattle.std.specs.Prelude.{IfOk, bytes_eq, codes}
use Rattle.lucy_calls.specs.declared.error.CallsError.{CallsError}
use Rattle.lucy_calls.specs.Lines.{within_bytes, Listing, over, line, at_end, next, up_to_end}
use Rattle.lucy_io.specs.Outcomes.{Outcome, ◌>>=◌}

-- what follows from what was read first
pub bind : {A B : Type 0} (Q : A → Type 0) (P : B → Type 0) (read : Outcome CallsError A) (then : A → Outcome CallsError B) → IfOk read Q → ((x : A) → Q x → IfOk (then x) P) → IfOk (read >>= then) P
bind Q P (Err e) then q step = tt
bind Q P (Ok x) then q step = step x q

-- what follows from how it was read first
pub bind_with : {A B : Type 0} (P : B → Type 0) (read : Outcome CallsError A) (then : A → Outcome CallsError B) → ((x : A) → read ≡ Ok x → IfOk (then x) P) → IfOk (read >>= then) P
bind_with P (Err e) then step = tt
bind_with P (Ok x) then step = step x refl

-- what holds whatever was read first
pub bind_any : {A B : Type 0} (P : B → Type 0) (read : Outcome CallsError A) (then : A → Outcome CallsError B) → ((x : A) → IfOk (then x) P) → IfOk (read >>= then) P
bind_any P (Err e) then step = tt
bind_any P (Ok x) then step = step x

-- what holds where a test has passed
pub test : {A : Type 0} (P : A → Type 0) (t : Bool) (read : Outcome CallsError A) (e : CallsError) → (t ≡ true → IfOk read P) → IfOk (cond t read (Err e)) P
test P true read e h = h refl
test P false read e h = tt

-- a text that is not too long is within its limit
pub within_back : (most : ℕ) (text : List ℕ) → length text ≤ most → within_bytes most text ≡ Ok tt
unfolding within_bytes
within_back most text short = rw (not_long most (length text) short) refl
  where
    not_long : (most n : ℕ) → n ≤ most → nat_lt most n ≡ false
    not_long most n le = grind (arith, nat_tests)

-- what holds of what the next line says
pub next_keeps : {A B : Type 0} (Q : A → Type 0) (P : B → Type 0) (read : ℕ → List ℕ → Outcome CallsError A) (lines : Listing) (then : A × Listing → Outcome CallsError B) → ((n : ℕ) (l : List ℕ) → IfOk (read n l) Q)
    → ((x : A) (rest : Listing) → Q x → IfOk (then (x, rest)) P) → IfOk (next read lines >>= then) P
next_keeps Q P read (over n) then q step = tt
next_keeps {A} {B} Q P read (line n l rest) then q step = by (read n l) (q n l)
  where
    by : (o : Outcome CallsError A) → IfOk o Q → IfOk ((o >>= λ x. Ok (x, rest)) >>= then) P
    by (Err e) h = tt
    by (Ok x) h = step x rest h

module _ {A : Type 0} (P : A → Type 0) (more : ℕ → List ℕ → A → Outcome CallsError A) (each : (n : ℕ) (l : List ℕ) (x : A) → P x → IfOk (more n l x) P) where
  ends : (x : A) (lines : Listing) → P x → IfOk (at_end x lines) P
  ends x (over n) h = h
  ends x (line n l rest) h = tt

  by_end : (t : Bool) (x : A) (rest : Listing) (o : Outcome CallsError A) → P x → IfOk o P → IfOk (cond t (at_end x rest) o) P
  by_end true x rest o h k = ends x rest h
  by_end false x rest o h k = k

  -- what each line keeps
  pub up_to_end_keeps : (x : A) (lines : Listing) → P x → IfOk (up_to_end more x lines) P
  unfolding up_to_end
  up_to_end_keeps x (over n) h = tt
  up_to_end_keeps x (line n l rest) h =
      by_end (bytes_eq l (codes "end")) x rest (more n l x >>= λ y. up_to_end more y rest) h
      (bind P P (more n l x) (λ y. up_to_end more y rest) (each n l x h) (λ y k. up_to_end_keeps y rest k))
