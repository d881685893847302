-- Where a name is found.
use Rattle.std.proofs.Common.{◌≡◌, ℕ, zero, suc, ◌+◌, ◌<◌, Bool, true, false, List, [], ◌∷◌, ◌++◌, ◌&&◌, ◌||◌, Some, None, length, take, get_or, refl, ap, ◌∙◌, sym, not, nat_lt, if◌then◌else◌, append_assoc, arith}
use Rattle.std.proofs.lemmas.Bool.Decides.{nat_tests}
use Rattle.std.proofs.lemmas.List.{append-nil}
use Rattle.std.proofs.lemmas.Slice.Eq.{bytes_eq-Decides}
use Rattle.std.specs.List.{list_any, position_or_len}
use Rattle.std.specs.Prelude.{bytes_eq}
use Rattle.lucy_names.specs.Laws.{NamesAreFound}
use Rattle.lucy_names.specs.Tables.{is_among, differ_behind}

neither : (s t : Bool) → (s || t) ≡ false → (s ≡ false) × (t ≡ false)
neither true t e = absurd (cc)
neither false t e = (refl, e)

both : (s t : Bool) → (s && t) ≡ true → (s ≡ true) × (t ≡ true)
both true t e = (refl, e)
both false t e = absurd (cc)

isnt : (t : Bool) → not t ≡ true → t ≡ false
isnt true e = absurd (cc)
isnt false e = refl

-- none of the first passes, and the one behind them does
passed : (p : List ℕ → Bool) (names : List (List ℕ)) (place : ℕ) → place < length names → list_any p (take place names) ≡ false → p (get_or names place []) ≡ true → position_or_len p names ≡ place
passed p [] place lt none is = absurd (omega arith)
passed p (name ∷ names) zero lt none is = ap (λ t. if not t then 1 + position_or_len p names else 0) is
passed p (name ∷ names) (suc place) lt none is =
    let parts = neither (p name) (list_any p (take place names)) none in
    let later : position_or_len p names ≡ place = passed p names place (omega arith) parts.1 is in
    ap (λ t. if not t then 1 + position_or_len p names else 0) parts.0 ∙ omega (arith, later)

-- a name is none of those before it
is_new : (before names : List (List ℕ)) (place : ℕ) → differ_behind before names ≡ true → place < length names → is_among (before ++ take place names) (get_or names place []) ≡ false
is_new before [] place all lt = absurd (omega arith)
is_new before (name ∷ names) zero all lt =
    ap (λ (ns : List (List ℕ)). is_among ns name) (append-nil before) ∙ isnt (is_among before name) (both (not (is_among before name)) (differ_behind (before ++ name ∷ []) names) all).0
is_new before (name ∷ names) (suc place) all lt =
    ap (λ (ns : List (List ℕ)). is_among ns (get_or names place [])) (sym (append_assoc before (name ∷ []) (take place names)))
    ∙ is_new (before ++ name ∷ []) names place (both (not (is_among before name)) (differ_behind (before ++ name ∷ []) names) all).1 (omega arith)

found_by : (n place count : ℕ) → n ≡ place → place < count → (if nat_lt n count then Some n else None) ≡ Some place
found_by n place count e lt = grind (arith, nat_tests)

itself : (name : List ℕ) → bytes_eq name name ≡ true
itself name = (bytes_eq-Decides name name).1 refl

pub found : NamesAreFound
found names place all lt =
    let name = get_or names place [] in
    found_by (position_or_len (bytes_eq name) names) place (length names) (passed (bytes_eq name) names place lt (is_new [] names place all lt) (itself name)) lt
