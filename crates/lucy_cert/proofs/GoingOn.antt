-- Behind good lines some text goes on; behind a bad line none does. And pieces of a text are the whole text.
use Rattle.std.proofs.Common.{◌≡◌, ℕ, ◌+◌, ◌^◌, ◌≤◌, Bool, true, false, cond, nat_lt, List, [], ◌∷◌, ◌++◌, length, Option, Some, None, Ok, Err, refl, sym, ap, ◌∙◌, arith, length-append, append_assoc}
use Rattle.std.proofs.lemmas.List.{append-nil}
use Rattle.std.proofs.lemmas.Bool.Decides.{nat_tests}
use Rattle.std.specs.Prelude.{fold, codes}
use Rattle.lucy_cert.specs.declared.entries.Item.{Item}
use Rattle.lucy_cert.specs.declared.error.CertError.TheVariants as wrong
use Rattle.lucy_cert.specs.declared.machine.Machine.{Machine}
use Rattle.lucy_cert.specs.declared.machine.Place.{Place}
use Rattle.lucy_cert.specs.declared.machine.Place.TheVariants.{Start, Outside, Inside, Lemma, Ended}
use Rattle.lucy_cert.specs.declared.names.PartName.{PartName}
use Rattle.lucy_cert.specs.declared.reader.Phase.{Phase}
use Rattle.lucy_cert.specs.declared.reader.Phase.TheVariants.{TooLong, Going}
use Rattle.lucy_cert.specs.declared.state.State.{State}
use Rattle.lucy_cert.specs.Entries.{entry_of}
use Rattle.lucy_cert.specs.Feeding.{begun, phase_after, ended}
use Rattle.lucy_cert.specs.Lines.{GoesOn, Stops, CutsDoNotMatter, joined}
use Rattle.lucy_cert.specs.Machines.{machine, entry_after}
use Rattle.lucy_cert.specs.Reading.{state, byte_after, after}
use Rattle.lucy_cert.proofs.StateLemmas.{pieces_are_whole}

-- a text that goes on to the end
more_of : Place → List ℕ
more_of Start = codes "lucy certificate 1" ++ 10 ∷ codes "end" ++ 10 ∷ []
more_of Outside = codes "end" ++ 10 ∷ []
more_of Inside = codes "end" ++ 10 ∷ []
more_of (Lemma clause lines) = codes "qed" ++ 10 ∷ codes "end" ++ 10 ∷ []
more_of Ended = []

from_place : {T : Type 0} (take : T → Item → T) (p : Place) (last : Option PartName) (drops : Bool) (lines : ℕ) (t : T)
    → (u : T) × (ended (after take (state [] lines (Some (machine p last drops)) t) (more_of p)) ≡ Ok u)
unfolding after entry_of entry_after more_of
from_place take Start last drops lines t = (_, refl)
from_place take Outside last drops lines t = (_, refl)
from_place take Inside last drops lines t = (_, refl)
from_place take (Lemma clause ls) last drops lines t = (_, refl)
from_place take Ended last drops lines t = (_, refl)

same_state : {T : Type 0} (s : State T) (m : Machine) → s.machine ≡ Some m → s.carry ≡ [] → state [] s.lines (Some m) s.taken ≡ s
same_state s m e f = ap (λ c. state c s.lines (Some m) s.taken) (sym f) ∙ ap (λ o. state s.carry s.lines o s.taken) (sym e)

pub goes_on : {T : Type 0} (take : T → Item → T) → GoesOn take
goes_on take s m e f =
    let from = from_place take m.place m.last m.drops s.lines s.taken in
    (more_of m.place, from.0, ap (λ q. ended (after take q (more_of m.place))) (sym (same_state s m e f)) ∙ from.1)

none_over : {T : Type 0} (take : T → Item → T) (carry : List ℕ) (lines : ℕ) (t : T) (more : List ℕ) → ended (fold (byte_after take) (state carry lines None t) more) ≡ Err (wrong.BadLine (lines + 1))
none_over take carry lines t [] = refl
none_over take carry lines t (b ∷ bs) = none_over take carry lines t bs

pub stops : {T : Type 0} (take : T → Item → T) → Stops take
unfolding after
stops take s e more = ap (λ o. ended (fold (byte_after take) (state s.carry s.lines o s.taken) more)) e ∙ none_over take s.carry s.lines s.taken more

-- ---- pieces

longer : (m a c : ℕ) → nat_lt m a ≡ true → a ≤ c → nat_lt m c ≡ true
longer m a c e le = grind (arith, nat_tests)

long_by : {T : Type 0} (k : ℕ) (x : State T) (b : Bool) → b ≡ true → TooLong ≡ cond b TooLong (Going k x)
long_by k x b e = rw e refl

twice_by : {T : Type 0} (take : T → Item → T) (n : ℕ) (s : State T) (xs ys : List ℕ) (b : Bool) → nat_lt (2 ^ 26) (n + length xs) ≡ b
    → phase_after take (cond b TooLong (Going (n + length xs) (after take s xs))) ys ≡ phase_after take (Going n s) (xs ++ ys)
twice_by take n s xs ys true e =
    long_by (n + length (xs ++ ys)) (after take s (xs ++ ys)) (nat_lt (2 ^ 26) (n + length (xs ++ ys)))
    (longer (2 ^ 26) (n + length xs) (n + length (xs ++ ys)) e (omega (arith, length-append xs ys)))
twice_by take n s xs ys false e =
    let same : (n + length xs) + length ys ≡ n + length (xs ++ ys) = omega (arith, length-append xs ys) in
    ap (λ k. cond (nat_lt (2 ^ 26) k) TooLong (Going k (after take (after take s xs) ys))) same
    ∙ ap (λ q. cond (nat_lt (2 ^ 26) (n + length (xs ++ ys))) TooLong (Going (n + length (xs ++ ys)) q)) (pieces_are_whole take s xs ys)

pub twice : {T : Type 0} (take : T → Item → T) (p : Phase T) (xs ys : List ℕ) → phase_after take (phase_after take p xs) ys ≡ phase_after take p (xs ++ ys)
twice take TooLong xs ys = refl
twice take (Going n s) xs ys = twice_by take n s xs ys (nat_lt (2 ^ 26) (n + length xs)) refl

over : {T : Type 0} (take : T → Item → T) (p : Phase T) (x : List ℕ) (pieces : List (List ℕ))
    → fold (phase_after take) (phase_after take p x) pieces ≡ phase_after take p (x ++ joined pieces)
over take p x [] = ap (phase_after take p) (sym (append-nil x))
over take p x (y ∷ ys) =
    ap (λ q. fold (phase_after take) q ys) (twice take p x y) ∙ over take p (x ++ y) ys ∙ ap (phase_after take p) (append_assoc x y (joined ys))

at_first : {T : Type 0} (take : T → Item → T) (t : T) → begun t ≡ phase_after take (begun t) []
unfolding after
at_first take t = refl

pub cuts_do_not_matter : {T : Type 0} (take : T → Item → T) → CutsDoNotMatter take
cuts_do_not_matter take t pieces = ap (λ q. fold (phase_after take) q pieces) (at_first take t) ∙ over take (begun t) [] pieces
