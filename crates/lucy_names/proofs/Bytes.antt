-- Bytes that are no text are the name of nothing.
use Rattle.std.proofs.Common.{◌≡◌, ℕ, ◌+◌, false, List, [], ◌∷◌, Some, None, length, refl, ap, ◌∙◌, sym, subst, map, nat_lt, not, if◌then◌else◌, arith, String, Global}
use Rattle.std.proofs.lemmas.Bool.{false_from_ne_true}
use Rattle.std.proofs.lemmas.Bool.Decides.{nat_tests}
use Rattle.std.proofs.lemmas.Slice.Eq.{bytes_eq-Decides}
use Rattle.std.proofs.lemmas.Str.{IsUtf8-string_bytes}
use Rattle.std.specs.List.{position_or_len}
use Rattle.std.specs.Prelude.{bytes_eq}
use Rattle.std.specs.Str.{IsUtf8}
use Rattle.std.specs.String.{string_bytes}
use Rattle.lucy_names.specs.Tables.{place_of}

other : (name : List ℕ) (key : String Global) → ¬ (IsUtf8 name) → bytes_eq name (string_bytes key) ≡ false
other name key bad =
    false_from_ne_true (bytes_eq name (string_bytes key)) (λ e. bad (subst IsUtf8 (sym ((bytes_eq-Decides name (string_bytes key)).0 e)) (IsUtf8-string_bytes key)))

all_passed : (name : List ℕ) (keys : List (String Global)) → ¬ (IsUtf8 name) → position_or_len (bytes_eq name) (map string_bytes keys) ≡ length (map string_bytes keys)
all_passed name [] bad = refl
all_passed name (key ∷ keys) bad =
    ap (λ t. if not t then 1 + position_or_len (bytes_eq name) (map string_bytes keys) else 0) (other name key bad) ∙ omega (arith, all_passed name keys bad)

none_by : (n count : ℕ) → n ≡ count → (if nat_lt n count then Some n else None) ≡ None
none_by n count e = grind (arith, nat_tests)

pub no_text : (name : List ℕ) (keys : List (String Global)) → ¬ (IsUtf8 name) → None ≡ place_of (map string_bytes keys) name
no_text name keys bad = sym (none_by (position_or_len (bytes_eq name) (map string_bytes keys)) (length (map string_bytes keys)) (all_passed name keys bad))
