-- Why a call gave up, handed on.
use Rattle.std.proofs.Common.{◌≡◌, inl, inr, ℕ, ◌<◌, List, length, get_or, Result, Ok, Err, IfOk, IfErr, sym, subst}
use Rattle.lucy_simplex.specs.declared.stops.Stop.{Stop}
use Rattle.lucy_simplex.specs.declared.stops.Stop.TheVariants.{Wide, OutOfMemory}
use Rattle.lucy_simplex.specs.declared.lines.Line.{Line}
use Rattle.lucy_simplex.specs.Tableaus.{Equation, solved}
use Rattle.lucy_simplex.specs.Reading.{Reads, AreRead}
use Rattle.lucy_simplex.specs.Widths.{StopsAt, StopsFor, IsSolvedTooWide, IsEliminatedTooWide, HasEliminatedTooWide, IsPivotTooWide}
use Rattle.lucy_simplex.proofs.Sweeping.{there_in}

pub stops_as : (n : ℕ) (C D : Type 0) (s : Stop) → (C → D) → StopsAt n C s → StopsAt n D s
stops_as n C D (Wide k) f h = (h.0, f h.1)
stops_as n C D OutOfMemory f h = tt

pub stops_for : (n : ℕ) (C : Type 0) (D : ℕ → Type 0) (s : Stop) → (C → D n) → StopsAt n C s → StopsFor D s
stops_for n C D (Wide k) f h = subst D (sym h.0) (f h.1)
stops_for n C D OutOfMemory f h = tt

pub stops_any : (C D : ℕ → Type 0) (s : Stop) → ((n : ℕ) → C n → D n) → StopsFor C s → StopsFor D s
stops_any C D (Wide k) f h = f k h
stops_any C D OutOfMemory f h = tt

-- a line of many
pub swept_too_wide : (s : Equation) (e : ℕ) (qs : List Equation) (ls : List Line) (i : ℕ) (line : Line) (stop : Stop) → AreRead qs ls → i < length ls → get_or ls i line ≡ line
    → ((q : Equation) → Reads q line → StopsAt i (IsEliminatedTooWide s e q) stop) → StopsFor (HasEliminatedTooWide s e qs) stop
swept_too_wide s e qs ls i line stop h below is wide =
    let t = there_in qs ls i line h below is in
    stops_for i (IsEliminatedTooWide s e t.q) (HasEliminatedTooWide s e qs) stop (λ w. record { equation = t.q; there = t.there; wide = w }) (wide t.q t.reads)

-- the line that is solved, and the others
pub solved_stops : (e place : ℕ) (q : Equation) (qs : List Equation) (stop : Stop) → StopsAt place (IsSolvedTooWide e q) stop → StopsFor (IsPivotTooWide e place q qs) stop
solved_stops e place q qs (Wide k) h = inl h
solved_stops e place q qs OutOfMemory h = tt

pub others_stop : (e place : ℕ) (q : Equation) (qs : List Equation) (stop : Stop) → StopsFor (HasEliminatedTooWide (solved e q) e qs) stop → StopsFor (IsPivotTooWide e place q qs) stop
others_stop e place q qs stop h = stops_any (HasEliminatedTooWide (solved e q) e qs) (IsPivotTooWide e place q qs) stop (λ n w. inr w) h

-- what is known of a result, said otherwise
pub ok_as : {A E : Type 0} (r : Result A E) (P Q : A → Type 0) → ((x : A) → P x → Q x) → IfOk r P → IfOk r Q
ok_as (Ok x) P Q f h = f x h
ok_as (Err e) P Q f h = h

pub err_as : {A E : Type 0} (r : Result A E) (P Q : E → Type 0) → ((e : E) → P e → Q e) → IfErr r P → IfErr r Q
err_as (Ok x) P Q f h = h
err_as (Err e) P Q f h = f e h
