-- Hints along the true atoms.
use Rattle.std.proofs.Common.{◌≡◌, ⊎_elim, Bool, true, false, ◌&&◌, ℕ, ◌+◌, ◌<◌, zero, suc, length, List, [], ◌∷◌, ◌++◌, take, drop, Option, Some, None, slice_get, refl, sym, ◌∙◌, ap, arith, append_assoc}
use Rattle.std.proofs.lemmas.Option.{slice_get_within}
use Rattle.std.specs.Option.{option_map}
use Rattle.lucy_clauses.specs.declared.formulas.Clause.{Clause}
use Rattle.lucy_clauses.specs.Sums.{Form}
use Rattle.lucy_cert.specs.Justified.{open_atoms, rup_fault}
use Rattle.lucy_cert.specs.Refuting.{is_none_left}
use Rattle.lucy_units.specs.Leads.{is_known, opened, led, all_known}
use Rattle.lucy_units.specs.Stores.{assumed, AreDerived}
use Rattle.lucy_units.specs.Hints.{IsLed}
use Rattle.lucy_units.proofs.Lists.{made_from}
use Rattle.lucy_units.proofs.Knowing.{known_among, all_known_self, all_known_more}
use Rattle.lucy_units.proofs.Leading.{led_push, led_end}
use Rattle.lucy_units.proofs.Deriving.{derived_at, assumed_known, still_closed, still_one}

pub led_start : (cs : List Clause) (ts : List Form) (rs : List (Option ℕ)) → IsLed cs ts rs 0 [] (assumed ts rs)
led_start cs ts rs = record { led = refl; known = refl; assumed = all_known_self (assumed ts rs) }

all_known_push : (trues ds : List Form) (t : Form) → all_known trues ds ≡ true → is_known t trues ≡ true → all_known trues (ds ++ t ∷ []) ≡ true
all_known_push trues [] t all h = rw h refl
all_known_push trues (d ∷ ds) t all h = by_test (is_known d trues) all (all_known_push trues ds t)
  where
    by_test : (b : Bool) → (b && all_known trues ds) ≡ true → (all_known trues ds ≡ true → is_known t trues ≡ true → all_known trues (ds ++ t ∷ []) ≡ true) → (b && all_known trues (ds ++ t ∷ [])) ≡ true
    by_test true e next = next e h
    by_test false e next = absurd (cc)

-- an assumed atom is true from the begin
pub led_assumed : (cs : List Clause) (ts : List Form) (rs : List (Option ℕ)) (i : ℕ) (hints : List ℕ) (trues : List Form) (t : Form) (next : List Form) → IsLed cs ts rs i hints trues → slice_get ts i ≡ Some t → slice_get rs i ≡ Some None → next ≡ take i ts ++ t ∷ [] → all_known trues next ≡ true
led_assumed cs ts rs i hints trues t next l there none is =
    rw is (all_known_push trues (take i ts) t l.known (assumed_known trues ts rs i t l.assumed there none))

opened_is : (cs : List Clause) (trues : List Form) (n : ℕ) (c : Clause) (ts : List Form) → slice_get cs n ≡ Some c → opened cs trues n ≡ Some ts → open_atoms trues c.atoms ≡ ts
opened_is cs trues n c ts there h =
    let same : Some (open_atoms trues c.atoms) ≡ Some ts = sym (ap (option_map (λ (c : Clause). open_atoms trues c.atoms)) there) ∙ h in
    cc

opened_of : (cs : List Clause) (trues : List Form) (n : ℕ) (c : Clause) (ts : List Form) → slice_get cs n ≡ Some c → open_atoms trues c.atoms ≡ ts → opened cs trues n ≡ Some ts
opened_of cs trues n c ts there h = ap (option_map (λ (c : Clause). open_atoms trues c.atoms)) there ∙ ap (λ (xs : List Form). let r : Option (List Form) = Some xs in r) h

none_is : (ts : List Form) → is_none_left ts ≡ true → ts ≡ []
none_is [] h = refl
none_is (t ∷ ts) h = absurd (cc)

-- the clause that made an atom true leaves it, or nothing
pub led_next : (cs : List Clause) (ts : List Form) (rs : List (Option ℕ)) (i n : ℕ) (hints : List ℕ) (trues : List Form) (t : Form) (c : Clause) (next : List Form) → AreDerived cs [] ts rs → IsLed cs ts rs i hints trues → slice_get ts i ≡ Some t → slice_get rs i ≡ Some (Some n) → slice_get cs n ≡ Some c → is_none_left (open_atoms trues c.atoms) ≡ false → next ≡ take i ts ++ t ∷ [] → (led cs (assumed ts rs) (hints ++ n ∷ []) ≡ Some (trues ++ t ∷ [])) × (all_known (trues ++ t ∷ []) next ≡ true) × (all_known (trues ++ t ∷ []) (assumed ts rs) ≡ true)
led_next cs ts rs i n hints trues t c next d l there reason at some is =
    let before : open_atoms (take i ts) c.atoms ≡ t ∷ [] = opened_is cs (take i ts) n c (t ∷ []) at (derived_at cs ts rs i n t d there reason) in
    let now : open_atoms trues c.atoms ≡ t ∷ [] = ⊎_elim (λ none. absurd (apart none)) (λ one. one) (still_one trues (take i ts) c.atoms t l.known before) in
    let known : all_known (trues ++ t ∷ []) next ≡ true = rw is (all_known_push (trues ++ t ∷ []) (take i ts) t (all_known_more trues (t ∷ []) (take i ts) l.known) (known_among t trues [])) in
    (led_push cs (assumed ts rs) hints trues n t l.led (opened_of cs trues n c (t ∷ []) at now), known, all_known_more trues (t ∷ []) (assumed ts rs) l.assumed)
  where
    apart : open_atoms trues c.atoms ≡ [] → ⊥
    apart none =
        let same : true ≡ false = sym (ap is_none_left none) ∙ some in
        cc

pub led_stop : (cs : List Clause) (ts : List Form) (rs : List (Option ℕ)) (i n : ℕ) (hints : List ℕ) (trues : List Form) (c : Clause) → IsLed cs ts rs i hints trues → slice_get cs n ≡ Some c → is_none_left (open_atoms trues c.atoms) ≡ true → rup_fault (slice_get cs) (assumed ts rs) (hints ++ n ∷ []) ≡ None
led_stop cs ts rs i n hints trues c l at none = led_end cs (assumed ts rs) hints trues n l.led (opened_of cs trues n c [] at (none_is (open_atoms trues c.atoms) none))

pub led_last : (cs : List Clause) (ts : List Form) (rs : List (Option ℕ)) (n : ℕ) (hints : List ℕ) (trues : List Form) → led cs (assumed ts rs) hints ≡ Some trues → all_known trues ts ≡ true → opened cs ts n ≡ Some [] → rup_fault (slice_get cs) (assumed ts rs) (hints ++ n ∷ []) ≡ None
led_last cs ts rs n hints trues l known h =
    let m = made_from (λ (c : Clause). open_atoms ts c.atoms) (slice_get cs n) [] h in
    led_end cs (assumed ts rs) hints trues n l (opened_of cs trues n m.0 [] m.1 (still_closed trues ts m.0.atoms known m.2))

-- ---- the assumed atoms behind a place
pub assumed_none : (ts : List Form) (rs : List (Option ℕ)) (i : ℕ) (t : Form) → slice_get ts i ≡ Some t → slice_get rs i ≡ Some None → assumed (drop i ts) (drop i rs) ≡ t ∷ assumed (drop (i + 1) ts) (drop (i + 1) rs)
assumed_none [] rs i t h g = absurd (cc)
assumed_none (u ∷ ts) [] i t h g = absurd (cc)
assumed_none (u ∷ ts) (None ∷ rs) zero t h g =
    let same : u ≡ t = cc in
    ap (λ (x : Form). x ∷ assumed ts rs) same
assumed_none (u ∷ ts) (Some n ∷ rs) zero t h g = absurd (cc)
assumed_none (u ∷ ts) (r ∷ rs) (suc i) t h g =
    let next : suc i + 1 ≡ suc (i + 1) = omega arith in
    rw next (assumed_none ts rs i t h g)

pub assumed_some : (ts : List Form) (rs : List (Option ℕ)) (i n : ℕ) (t : Form) → slice_get ts i ≡ Some t → slice_get rs i ≡ Some (Some n) → assumed (drop i ts) (drop i rs) ≡ assumed (drop (i + 1) ts) (drop (i + 1) rs)
assumed_some [] rs i n t h g = absurd (cc)
assumed_some (u ∷ ts) [] i n t h g = absurd (cc)
assumed_some (u ∷ ts) (None ∷ rs) zero n t h g = absurd (cc)
assumed_some (u ∷ ts) (Some m ∷ rs) zero n t h g = refl
assumed_some (u ∷ ts) (r ∷ rs) (suc i) n t h g =
    let next : suc i + 1 ≡ suc (i + 1) = omega arith in
    rw next (assumed_some ts rs i n t h g)

pub taken_over : (ts : List Form) (rs : List (Option ℕ)) (i : ℕ) (all : List Form) (t : Form) → slice_get ts i ≡ Some t → slice_get rs i ≡ Some None → all ++ assumed (drop i ts) (drop i rs) ≡ assumed ts rs → (all ++ t ∷ []) ++ assumed (drop (i + 1) ts) (drop (i + 1) rs) ≡ assumed ts rs
taken_over ts rs i all t at none h =
    append_assoc all (t ∷ []) (assumed (drop (i + 1) ts) (drop (i + 1) rs)) ∙ ap (λ (xs : List Form). all ++ xs) (sym (assumed_none ts rs i t at none)) ∙ h

pub there_at : (ts : List Form) (i : ℕ) → i < length ts → (t : Form) × (slice_get ts i ≡ Some t)
there_at [] i h = absurd (omega (arith, h))
there_at (t ∷ ts) zero h = (t, refl)
there_at (t ∷ ts) (suc i) h = there_at ts i (omega (arith, h))

take_next : (ts : List Form) (i : ℕ) (t : Form) → slice_get ts i ≡ Some t → take (i + 1) ts ≡ take i ts ++ t ∷ []
take_next [] i t h = absurd (cc)
take_next (u ∷ ts) zero t h =
    let same : u ≡ t = cc in
    ap (λ (x : Form). x ∷ []) same
take_next (u ∷ ts) (suc i) t h =
    let next : suc i + 1 ≡ suc (i + 1) = omega arith in
    rw next (ap (λ (xs : List Form). u ∷ xs) (take_next ts i t h))

pub reason_there : (cs : List Clause) (ts : List Form) (rs : List (Option ℕ)) (i n : ℕ) → AreDerived cs [] ts rs → i < length ts → slice_get rs i ≡ Some (Some n) → n < length cs
reason_there cs ts rs i n d below reason =
    let at = there_at ts i below in
    let m = made_from (λ (c : Clause). open_atoms (take i ts) c.atoms) (slice_get cs n) (at.0 ∷ []) (derived_at cs ts rs i n at.0 d at.1 reason) in
    slice_get_within cs n m.0 m.1

pub led_none : (cs : List Clause) (ts : List Form) (rs : List (Option ℕ)) (i : ℕ) (hints : List ℕ) (trues : List Form) → IsLed cs ts rs i hints trues → i < length ts → slice_get rs i ≡ Some None → IsLed cs ts rs (i + 1) hints trues
led_none cs ts rs i hints trues l below none =
    let at = there_at ts i below in
    record { led = l.led; known = led_assumed cs ts rs i hints trues at.0 (take (i + 1) ts) l at.1 none (take_next ts i at.0 at.1); assumed = l.assumed }

pub led_some : (cs : List Clause) (ts : List Form) (rs : List (Option ℕ)) (i n : ℕ) (hints : List ℕ) (trues : List Form) (t : Form) (c : Clause) → AreDerived cs [] ts rs → IsLed cs ts rs i hints trues → slice_get ts i ≡ Some t → slice_get rs i ≡ Some (Some n) → slice_get cs n ≡ Some c → is_none_left (open_atoms trues c.atoms) ≡ false → IsLed cs ts rs (i + 1) (hints ++ n ∷ []) (trues ++ t ∷ [])
led_some cs ts rs i n hints trues t c d l there reason at some =
    let next = led_next cs ts rs i n hints trues t c (take (i + 1) ts) d l there reason at some (take_next ts i t there) in
    record { led = next.0; known = next.1; assumed = next.2 }

pub left_over : (ts : List Form) (rs : List (Option ℕ)) (i n : ℕ) (all : List Form) → i < length ts → slice_get rs i ≡ Some (Some n) → all ++ assumed (drop i ts) (drop i rs) ≡ assumed ts rs → all ++ assumed (drop (i + 1) ts) (drop (i + 1) rs) ≡ assumed ts rs
left_over ts rs i n all below there h =
    let at = there_at ts i below in
    ap (λ (xs : List Form). all ++ xs) (sym (assumed_some ts rs i n at.0 at.1 there)) ∙ h
