-- A map's look-up, as one in its entries.
use Rattle.std.proofs.Common.{◌≡◌, ℕ, ◌==◌, ◌&&◌, List, [], ◌∷◌, ◌++◌, Some, refl, ap, if◌then◌else◌}
use Rattle.std.specs.Prelude.{bytes_eq}
use Rattle.std.specs.Map.{lookup}
use Rattle.lucy_gather.specs.declared.scopes.Meaning.{Meaning}
use Rattle.lucy_gather.specs.Tables.{held, entry_of, entries_of}

module _ {K : Type 0} (group_of : K → ℕ) (name_of : K → List ℕ) where
  pub held_is : (group : ℕ) (name : List ℕ) (rows : List (K × Meaning))
      → lookup (λ key. group == group_of key && bytes_eq name (name_of key)) rows ≡ held group name (entries_of group_of name_of rows)
  held_is group name [] = refl
  held_is group name (row ∷ rows) = ap (λ found. if group == group_of row.0 && bytes_eq name (name_of row.0) then Some row.1 else found) (held_is group name rows)

  pub entries_push : (rows : List (K × Meaning)) (key : K) (meant : Meaning) → entries_of group_of name_of (rows ++ (key, meant) ∷ []) ≡ entries_of group_of name_of rows ++ entry_of (group_of key) (name_of key) meant ∷ []
  entries_push [] key meant = refl
  entries_push (row ∷ rows) key meant = ap (λ entries. entry_of (group_of row.0) (name_of row.0) row.1 ∷ entries) (entries_push rows key meant)
