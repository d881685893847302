-- A set of texts, as the list of their bytes.
use Rattle.std.proofs.Common.{◌≡◌, ℕ, Bool, true, false, List, [], ◌∷◌, ◌++◌, ◌||◌, ◌+◌, Some, None, refl, map, ap, ◌∙◌, if◌then◌else◌, position, length, nat_lt, sym, not}
use Rattle.std.specs.Prelude.{bytes_eq}
use Rattle.std.specs.List.{list_any, position_or_len}
use Rattle.std.proofs.lemmas.List.{length-map}
use Rattle.lucy_names.specs.Tables.{place_of, is_among, with_name}

module _ {K : Type 0} (bytes : K → List ℕ) where
  count_is : (name : List ℕ) (keys : List K) → position_or_len (λ k. bytes_eq name (bytes k)) keys ≡ position_or_len (bytes_eq name) (map bytes keys)
  count_is name [] = refl
  count_is name (k ∷ keys) = ap (λ n. if not (bytes_eq name (bytes k)) then 1 + n else 0) (count_is name keys)

  pub place_is : (name : List ℕ) (keys : List K) → position (λ k. bytes_eq name (bytes k)) keys ≡ place_of (map bytes keys) name
  place_is name keys =
      ap (λ n. if nat_lt n (length keys) then Some n else None) (count_is name keys)
      ∙ ap (λ l. if nat_lt (position_or_len (bytes_eq name) (map bytes keys)) l then Some (position_or_len (bytes_eq name) (map bytes keys)) else None) (sym (length-map keys bytes))

  pub among_is : (name : List ℕ) (keys : List K) → list_any (λ k. bytes_eq name (bytes k)) keys ≡ is_among (map bytes keys) name
  among_is name [] = refl
  among_is name (k ∷ keys) = ap (λ r. bytes_eq name (bytes k) || r) (among_is name keys)

  map_push : (keys : List K) (k : K) → map bytes (keys ++ k ∷ []) ≡ map bytes keys ++ bytes k ∷ []
  map_push [] k = refl
  map_push (x ∷ keys) k = ap (λ r. bytes x ∷ r) (map_push keys k)

  with_by : (t u : Bool) (keys : List K) (k : K) → t ≡ u → map bytes (if t then keys else keys ++ k ∷ []) ≡ (if u then map bytes keys else map bytes keys ++ bytes k ∷ [])
  with_by true true keys k e = refl
  with_by false false keys k e = map_push keys k
  with_by true false keys k e = absurd (cc)
  with_by false true keys k e = absurd (cc)

  pub with_is : (keys : List K) (k : K) → map bytes (if list_any (λ x. bytes_eq (bytes k) (bytes x)) keys then keys else keys ++ k ∷ []) ≡ with_name (map bytes keys) (bytes k)
  with_is keys k = with_by (list_any (λ x. bytes_eq (bytes k) (bytes x)) keys) (is_among (map bytes keys) (bytes k)) keys k (among_is (bytes k) keys)
