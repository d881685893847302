-- What justified lines derive holds.
use Rattle.std.proofs.Common.{◌≡◌, Bool, true, false, not, ◌&&◌, ◌||◌, ℕ, zero, suc, ◌+◌, ◌%◌, ◌<◌, eqb-true, ℤ, pos, negsuc, neg_ℤ, ◌+ℤ◌, ◌*ℤ◌, ◌≤ℤ◌, ◌<ℤ◌, int_le, int_lt, unsigned_abs, List, [], ◌∷◌, ◌++◌, map, Option, Some, None, Result, Ok, Err, if◌then◌else◌, slice_get, refl, subst, sym, ◌∙◌, ap, arith}
use Rattle.std.specs.Int.{int_div_euclid}
use Rattle.std.specs.List.{list_all, list_any}
use Rattle.std.specs.Option.{option_map, option_and_then}
use Rattle.std.proofs.lemmas.Int.{ints}
use Rattle.std.proofs.lemmas.Nat.Gcd.{dvd_of_mod-eq-zero}
use Rattle.lucy_clauses.specs.declared.parts.Part.{Part}
use Rattle.lucy_clauses.specs.declared.formulas.Range.{Range}
use Rattle.lucy_clauses.specs.declared.lines.Ref.{Ref}
use Rattle.lucy_clauses.specs.declared.lines.Ref.TheVariants.{Negated, Low, High, Derived}
use Rattle.lucy_clauses.specs.declared.lines.Times.{Times}
use Rattle.lucy_clauses.specs.declared.lines.Line.{Line}
use Rattle.lucy_clauses.specs.declared.lines.Line.TheVariants.{Sum, Divide}
use Rattle.lucy_clauses.specs.Sums.{Form, form, number_at, sum_at, is_true, complement}
use Rattle.lucy_clauses.specs.Parts.{is_within, put_any, is_empty}
use Rattle.lucy_clauses.specs.Normal.{DividesAll}
use Rattle.lucy_clauses.specs.Dividing.{divided}
use Rattle.lucy_clauses.specs.Formulas.{are_within}
use Rattle.lucy_clauses.specs.Lines.{Unjustified, no_conflict, one_variable, form_of_ref, fit, multiple, put_multiples, bound_with, form_with, add_multiple, positive_sum, added_ref, then_form, sum_form, divides_part, quotient_form, divided_ref, line_form, is_contradiction, fault_or, first_unjustified, JustifiedLinesHold}
use Rattle.lucy_clauses.proofs.Mapping.{two_tests}
use Rattle.lucy_clauses.proofs.Products.{times_sum, regroup, times_le, le_of_test, int_div_euclid-le}
use Rattle.lucy_clauses.proofs.Divisors.{divided_back}
use Rattle.lucy_clauses.proofs.Solutions.{sum_at-put_any, sum_at-scaled, complement_opposite}

-- an inequality holds
pub record Holds (a : List ℤ) (t : Form) : Type 0 where
  pub le : sum_at t.parts a ≤ℤ t.bound

-- the value of an optional, where a test allows it
if_some : {A : Type 0} (b : Bool) (o : Option A) (r : A) → (if b then o else None) ≡ Some r → (b ≡ true) × (o ≡ Some r)
if_some true o r h = (refl, h)
if_some false o r h = (cc, cc)

sum_at-put_multiples : (m : ℤ) (ps sum r : List Part) (a : List ℤ) → put_multiples m ps sum ≡ Some r → sum_at r a ≡ m *ℤ sum_at ps a +ℤ sum_at sum a
sum_at-put_multiples m [] sum r a h =
    let same : sum ≡ r = cc in
    rw same (omega (arith, ints))
sum_at-put_multiples m (p ∷ ps) sum r a h =
    let next = sum_at-put_multiples m ps (put_any (multiple m p) sum) r a (if_some _ _ r h).1 in
    next ∙ regrouped m p.by (number_at a p.variable) (sum_at ps a) (sum_at sum a) (sum_at (put_any (multiple m p) sum) a) (sum_at-put_any (multiple m p) sum a)
  where
    regrouped : (m b x s t u : ℤ) → u ≡ (m *ℤ b) *ℤ x +ℤ t → m *ℤ s +ℤ u ≡ m *ℤ (b *ℤ x +ℤ s) +ℤ t
    regrouped m b x s t u e = rw e (omega (arith, ints, times_sum m (b *ℤ x) s, regroup m b x))

fit_is : (x y : ℤ) → fit x ≡ Some y → x ≡ y
fit_is x y h = some_is (if_some (is_within x) (Some x) y h).1
  where
    some_is : Some x ≡ Some y → x ≡ y
    some_is e = cc

bound_with_is : (m x y b : ℤ) → bound_with m x y ≡ Some b → y +ℤ m *ℤ x ≡ b
bound_with_is m x y b h = by_product (fit (m *ℤ x)) refl h
  where
    by_product : (o : Option ℤ) → fit (m *ℤ x) ≡ o → option_and_then (λ c. fit (y +ℤ c)) o ≡ Some b → y +ℤ m *ℤ x ≡ b
    by_product None e h = absurd (cc)
    by_product (Some c) e h =
        let one = fit_is (m *ℤ x) c e in
        let two = fit_is (y +ℤ c) b h in
        rw one two

add_multiple_holds : (m : ℤ) (f sum r : Form) (a : List ℤ) → pos 0 <ℤ m → add_multiple m f sum ≡ Some r → Holds a f → Holds a sum → Holds a r
add_multiple_holds m f sum r a positive h p q = by_parts (put_multiples m f.parts sum.parts) refl h
  where
    scaled_le : (m x b y c z d : ℤ) → pos 0 <ℤ m → x ≤ℤ b → y ≤ℤ c → z ≡ m *ℤ x +ℤ y → c +ℤ m *ℤ b ≡ d → z ≤ℤ d
    scaled_le m x b y c z d positive p q e f = omega (arith, ints, times_le m x b positive p)

    by_parts : (o : Option (List Part)) → put_multiples m f.parts sum.parts ≡ o → option_and_then (form_with m f.bound sum.bound) o ≡ Some r → Holds a r
    by_parts None e h = absurd (cc)
    by_parts (Some ps) e h = by_sum (bound_with m f.bound sum.bound) refl h
      where
        by_sum : (o : Option ℤ) → bound_with m f.bound sum.bound ≡ o → option_map (form ps) o ≡ Some r → Holds a r
        by_sum None e' h = absurd (cc)
        by_sum (Some b) e' h =
            let same : form ps b ≡ r = cc in
            rw (← same) (record { le = scaled_le m (sum_at f.parts a) f.bound (sum_at sum.parts a) sum.bound (sum_at ps a) b positive p.le q.le (sum_at-put_multiples m f.parts sum.parts ps a e) (bound_with_is m f.bound sum.bound b e') })

-- ---- references

-- where an inequality does not hold, its complement does
complement_holds : (t : Form) (a : List ℤ) → is_true a t ≡ false → Holds a (complement t)
complement_holds t a h = record { le = le_of_test (sum_at (complement t).parts a) (complement t).bound (complement_opposite t a ∙ ap not h) }

-- each is P
abbrev pub Each : {A : Type 0} → (A → Type 0) → List A → Type 0
Each P [] = Unit {0}
Each P (x ∷ xs) = P x × Each P xs

-- all forms are true
abbrev pub AllHold : List ℤ → List Form → Type 0
AllHold a ts = Each (Holds a) ts

-- all atoms are false
abbrev pub AllFalse : List ℤ → List Form → Type 0
AllFalse a ts = Each (λ (t : Form). is_true a t ≡ false) ts

at_place : {A : Type 0} (P : A → Type 0) (xs : List A) (i : ℕ) (x : A) → Each P xs → slice_get xs i ≡ Some x → P x
at_place P [] i x all h = absurd (cc)
at_place P (y ∷ xs) zero x all h =
    let same : y ≡ x = cc in
    rw (← same) all.0
at_place P (y ∷ xs) (suc i) x all h = at_place P xs i x all.1 h

Each-push : {A : Type 0} (P : A → Type 0) (xs : List A) (x : A) → Each P xs → P x → Each P (xs ++ x ∷ [])
Each-push P [] x all p = (p, tt)
Each-push P (y ∷ xs) x all p = (all.0, Each-push P xs x all.1 p)

-- a number is within its range
record IsIn (r : Range) (x : ℤ) : Type 0 where
  pub low : r.lo ≤ℤ x
  pub high : x ≤ℤ r.hi

range_tests : (r : Range) (x : ℤ) (rest : Bool) → (int_le r.lo x && int_le x r.hi && rest) ≡ true → IsIn r x × (rest ≡ true)
range_tests r x rest h = ranged (int_le r.lo x) (int_le x r.hi) refl refl h
  where
    low_is : (lo y : ℤ) → int_le lo y ≡ true → lo ≤ℤ y
    low_is lo y e = grind (arith, ints, e)

    ranged : (b c : Bool) → int_le r.lo x ≡ b → int_le x r.hi ≡ c → (b && c && rest) ≡ true → IsIn r x × (rest ≡ true)
    ranged true true e f h = (record { low = low_is r.lo x e; high = low_is x r.hi f }, h)
    ranged true false e f h = absurd (cc)
    ranged false c e f h = absurd (cc)

range_at : (ranges : List Range) (a : List ℤ) (v : ℕ) (r : Range) → are_within ranges a ≡ true → slice_get ranges v ≡ Some r → IsIn r (number_at a v)
range_at [] a v r h e = absurd (cc)
range_at (q ∷ ranges) [] v r h e = absurd (cc)
range_at (q ∷ ranges) (x ∷ a) zero r h e =
    let same : q ≡ r = cc in
    rw (← same) (range_tests q x (are_within ranges a) h).0
range_at (q ∷ ranges) (x ∷ a) (suc v) r h e = range_at ranges a v r (range_tests q x (are_within ranges a) h).1 e

-- what an optional is made from
made_from : {A B : Type 0} (f : A → B) (o : Option A) (y : B) → option_map f o ≡ Some y → (x : A) × (o ≡ Some x) × (f x ≡ y)
made_from f None y h = absurd (cc)
made_from f (Some x) y h = (x, refl, cc)

form_of_ref_holds : (atoms : List Form) (ranges : List Range) (done : List Form) (a : List ℤ) (of : Ref) (f : Form) → AllFalse a atoms → are_within ranges a ≡ true → AllHold a done → form_of_ref atoms ranges done of ≡ Some f → Holds a f
form_of_ref_holds atoms ranges done a (Negated i) f unmet within all h =
    let m = made_from complement (slice_get atoms i) f h in
    rw (← m.2) (complement_holds m.0 a (at_place (λ (t : Form). is_true a t ≡ false) atoms i m.0 unmet m.1))
form_of_ref_holds atoms ranges done a (Low v) f unmet within all h =
    let m = made_from (λ (r : Range). one_variable v (negsuc 0) (neg_ℤ r.lo)) (slice_get ranges v) f h in
    let r = range_at ranges a v m.0 within m.1 in
    rw (← m.2) (record { le = below m.0.lo (number_at a v) r.low })
  where
    below : (lo x : ℤ) → lo ≤ℤ x → (negsuc 0 *ℤ x +ℤ pos 0) ≤ℤ (neg_ℤ lo)
    below lo x h = omega (arith, ints)
form_of_ref_holds atoms ranges done a (High v) f unmet within all h =
    let m = made_from (λ (r : Range). one_variable v (pos 1) r.hi) (slice_get ranges v) f h in
    let r = range_at ranges a v m.0 within m.1 in
    rw (← m.2) (record { le = below m.0.hi (number_at a v) r.high })
  where
    below : (hi x : ℤ) → x ≤ℤ hi → (pos 1 *ℤ x +ℤ pos 0) ≤ℤ hi
    below hi x h = omega (arith, ints)
form_of_ref_holds atoms ranges done a (Derived d) f unmet within all h = at_place (Holds a) done d f all h

added_ref_holds : (m : ℤ) (o : Option Form) (sum r : Form) (a : List ℤ) → ((f : Form) → o ≡ Some f → Holds a f) → Holds a sum → added_ref m o sum ≡ Ok r → Holds a r
added_ref_holds m None sum r a of q h = absurd (cc)
added_ref_holds m (Some f) sum r a of q h = by_sum (add_multiple m f sum) refl h
  where
    by_sum : (o : Option Form) → add_multiple m f sum ≡ o → positive_sum m o ≡ Ok r → Holds a r
    by_sum None e h = absurd (cc)
    by_sum (Some s) e h = by_sign (int_lt (pos 0) m) refl h
      where
        positive : int_lt (pos 0) m ≡ true → pos 0 <ℤ m
        positive e = grind (arith, ints, e)

        by_sign : (b : Bool) → int_lt (pos 0) m ≡ b → (if b then Ok s else Err no_conflict) ≡ Ok r → Holds a r
        by_sign true sign h =
            let same : s ≡ r = cc in
            rw (← same) (add_multiple_holds m f sum s a (positive sign) e (of f refl) q)
        by_sign false sign h = absurd (cc)

sum_form_holds : (atoms : List Form) (ranges : List Range) (done : List Form) (a : List ℤ) (times : List Times) (sum r : Form) → AllFalse a atoms → are_within ranges a ≡ true → AllHold a done → Holds a sum → sum_form atoms ranges done times sum ≡ Ok r → Holds a r
sum_form_holds atoms ranges done a [] sum r unmet within all q h =
    let same : sum ≡ r = cc in
    rw (← same) q
sum_form_holds atoms ranges done a (t ∷ times) sum r unmet within all q h =
    by_first (λ s. sum_form_holds atoms ranges done a times s r unmet within all) (added_ref t.by (form_of_ref atoms ranges done t.of) sum) refl h
  where
    by_first : ((s : Form) → Holds a s → sum_form atoms ranges done times s ≡ Ok r → Holds a r) → (o : Result Form Unjustified) → added_ref t.by (form_of_ref atoms ranges done t.of) sum ≡ o → then_form o (sum_form atoms ranges done times) ≡ Ok r → Holds a r
    by_first next (Ok s) e h =
        next s (added_ref_holds t.by (form_of_ref atoms ranges done t.of) sum s a (λ f g. form_of_ref_holds atoms ranges done a t.of f unmet within all g) q e) h
    by_first next (Err x) e h = absurd (cc)

-- ---- quotients

pub all_divided : (d : ℕ) (ps : List Part) → list_all (divides_part d) ps ≡ true → DividesAll d ps
all_divided d [] h = tt
all_divided d (p ∷ ps) h =
    let t = two_tests (divides_part d p) (list_all (divides_part d) ps) h in
    (dvd_of_mod-eq-zero d (eqb-true (unsigned_abs p.by % d) 0 t.0), all_divided d ps t.1)

divided_sum_holds : (d : ℕ) (f : Form) (a : List ℤ) → 0 < d → DividesAll d f.parts → Holds a f → Holds a (form (map (divided d) f.parts) (int_div_euclid f.bound (pos d)))
divided_sum_holds d f a some divides holds =
    let sum = sym (sum_at-scaled d (map (divided d) f.parts) a) ∙ ap (λ (ps : List Part). sum_at ps a) (divided_back d f.parts divides) in
    record { le = int_div_euclid-le d (sum_at (map (divided d) f.parts) a) f.bound some (subst (λ (s : ℤ). s ≤ℤ f.bound) (sym sum) holds.le) }

quotient_holds : (by : ℤ) (f r : Form) (a : List ℤ) → Holds a f → quotient_form by f ≡ Ok r → Holds a r
quotient_holds (pos d) f r a holds h =
    by_test (int_lt (pos 0) (pos d) && list_all (divides_part d) f.parts) refl h
  where
    some_is : int_lt (pos 0) (pos d) ≡ true → 0 < d
    some_is e = grind (arith, ints, e)

    by_test : (b : Bool) → (int_lt (pos 0) (pos d) && list_all (divides_part d) f.parts) ≡ b → (if b then Ok (form (map (divided d) f.parts) (int_div_euclid f.bound (pos d))) else Err no_conflict) ≡ Ok r → Holds a r
    by_test true e h =
        let t = two_tests (int_lt (pos 0) (pos d)) (list_all (divides_part d) f.parts) e in
        let same : form (map (divided d) f.parts) (int_div_euclid f.bound (pos d)) ≡ r = cc in
        rw (← same) (divided_sum_holds d f a (some_is t.0) (all_divided d f.parts t.1) holds)
    by_test false e h = absurd (cc)
quotient_holds (negsuc n) f r a holds h = absurd (cc)

-- ---- lines

line_holds : (atoms : List Form) (ranges : List Range) (done : List Form) (a : List ℤ) (l : Line) (r : Form) → AllFalse a atoms → are_within ranges a ≡ true → AllHold a done → line_form atoms ranges done l ≡ Ok r → Holds a r
line_holds atoms ranges done a (Sum ts) r unmet within all h =
    sum_form_holds atoms ranges done a ts (form [] (pos 0)) r unmet within all (record { le = omega (arith, ints) }) h
line_holds atoms ranges done a (Divide by of) r unmet within all h =
    by_ref (form_of_ref atoms ranges done of) refl h
  where
    by_ref : (o : Option Form) → form_of_ref atoms ranges done of ≡ o → divided_ref by o ≡ Ok r → Holds a r
    by_ref None e h = absurd (cc)
    by_ref (Some f) e h = quotient_holds by f r a (form_of_ref_holds atoms ranges done a of f unmet within all e) h

contradiction_false : (f : Form) (a : List ℤ) → Holds a f → is_contradiction f ≡ true → ⊥
contradiction_false f a q h = by_list f.parts q.le h
  where
    by_list : (ps : List Part) → sum_at ps a ≤ℤ f.bound → (is_empty ps && int_lt f.bound (pos 0)) ≡ true → ⊥
    by_list [] le h = none f.bound le h
      where
        none : (b : ℤ) → pos 0 ≤ℤ b → int_lt b (pos 0) ≡ true → ⊥
        none b le h = grind (arith, ints, le, h)
    by_list (p ∷ ps) le h = absurd (cc)

first_unjustified_none : (atoms : List Form) (ranges : List Range) (a : List ℤ) (at : ℕ) (done : List Form) (ends : Bool) (ls : List Line) → AllFalse a atoms → are_within ranges a ≡ true → AllHold a done → (ends ≡ true → ⊥) → first_unjustified atoms ranges at done ends ls ≡ None → ⊥
first_unjustified_none atoms ranges a at done true [] unmet within all last h = last refl
first_unjustified_none atoms ranges a at done false [] unmet within all last h = cc
first_unjustified_none atoms ranges a at done ends (l ∷ ls) unmet within all last h =
    by_line (λ f. first_unjustified_none atoms ranges a (at + 1) (done ++ f ∷ []) (is_contradiction f) ls unmet within) (line_form atoms ranges done l) refl h
  where
    by_line : ((f : Form) → AllHold a (done ++ f ∷ []) → (is_contradiction f ≡ true → ⊥) → first_unjustified atoms ranges (at + 1) (done ++ f ∷ []) (is_contradiction f) ls ≡ None → ⊥) → (o : Result Form Unjustified) → line_form atoms ranges done l ≡ o → fault_or at o (λ f. first_unjustified atoms ranges (at + 1) (done ++ f ∷ []) (is_contradiction f) ls) ≡ None → ⊥
    by_line next (Ok f) e h =
        let holds = line_holds atoms ranges done a l f unmet within all e in
        next f (Each-push (Holds a) done f all holds) (contradiction_false f a holds) h
    by_line next (Err x) e h = cc

none_true : (a : List ℤ) (atoms : List Form) → list_any (is_true a) atoms ≡ false → AllFalse a atoms
none_true a [] h = tt
none_true a (t ∷ ts) h = by_test (none_true a ts) (is_true a t) refl h
  where
    by_test : (list_any (is_true a) ts ≡ false → AllFalse a ts) → (b : Bool) → is_true a t ≡ b → (b || list_any (is_true a) ts) ≡ false → AllFalse a (t ∷ ts)
    by_test next true e h = absurd (cc)
    by_test next false e h = (e, next h)

pub lines_hold : JustifiedLinesHold
lines_hold atoms ranges lines a h within = by_test (list_any (is_true a) atoms) refl
  where
    by_test : (b : Bool) → list_any (is_true a) atoms ≡ b → b ≡ true
    by_test true e = refl
    by_test false e = absurd (first_unjustified_none atoms ranges a 0 [] false lines (none_true a atoms e) within tt (λ e. cc) h)
