-- The object and its start are read alike where the words agree.
use Rattle.std.proofs.Common.{ℕ, zero, suc, List, [], ◌∷◌, Option, Some, refl}
use Rattle.lucy_lexer.specs.declared.token.TokenKind.{TokenKind}
use Rattle.lucy_lexer.specs.declared.token.TokenKind.TheVariants as k
use Rattle.lucy_tree.specs.declared.objects.Extreme.{Extreme}
use Rattle.lucy_tree.specs.declared.objects.Extreme.TheVariants as the_extreme
use Rattle.lucy_tree.specs.declared.objects.FlagKind.{FlagKind}
use Rattle.lucy_tree.specs.declared.objects.FlagKind.TheVariants as the_flag
use Rattle.lucy_tree.specs.declared.objects.Field.{Field}
use Rattle.lucy_tree.specs.Spelling.{extreme_kind, flag_kind}
use Rattle.lucy_syntax.specs.Input.{Parser}
use Rattle.lucy_syntax.specs.Objects.{number_field, flag_field, set_field, field_words, pair_field, field_by, field_in, fields_in, inner_fields, fields, object, members, value_by, value, setting, settings, start}
use Rattle.lucy_syntax_laws.proofs.Agreeing.{Same, any, empty, bind, gives, refuses, looks, expects, opens, names_same, listed_same}
use Rattle.lucy_syntax_laws.proofs.TermsAgree.{atoms_same, path_same, int_same, bounds_same}

module _ (Later : ℕ → Type 0) where
  number_field_same : (extreme : Extreme) → Same Later 1 any (number_field extreme) (number_field extreme)
  unfolding number_field
  number_field_same extreme = bind (expects Later (extreme_kind extreme)) (λ _ _ _. bind (names_same Later) (λ _ _ _. bind (bounds_same Later) (λ _ _ _. bind (expects Later k.Semicolon) (λ _ _ _. gives refl))))

  flag_field_same : (kind : FlagKind) → Same Later 1 any (flag_field kind) (flag_field kind)
  unfolding flag_field
  flag_field_same kind = bind (expects Later (flag_kind kind)) (λ _ _ _. bind (names_same Later) (λ _ _ _. bind (expects Later k.Semicolon) (λ _ _ _. gives refl)))

  set_field_same : Same Later 1 any set_field set_field
  unfolding set_field
  set_field_same =
      bind (expects Later k.Set) (λ _ _ _. bind (names_same Later) (λ _ _ _. bind (expects Later k.OpenBrace) (λ _ _ _. bind (atoms_same Later) (λ _ _ _.
      bind (expects Later k.CloseBrace) (λ _ _ _. bind (expects Later k.Semicolon) (λ _ _ _. gives refl))))))

-- what stands inside a pair is passed in
module _ (Later : ℕ → Type 0) (depth : ℕ) (inner : Parser (List Field)) (inners : Same Later 0 empty inner inner) where
  pair_field_same : Same Later 1 any (pair_field depth inner) (pair_field depth inner)
  unfolding pair_field
  pair_field_same =
      bind (opens Later depth k.Pair) (λ _ _ _. bind (names_same Later) (λ _ _ _. bind (expects Later k.OpenBrace) (λ _ _ _. bind inners (λ _ _ _. bind (expects Later k.CloseBrace) (λ _ _ _. gives refl)))))

  field_by_same : (kind : Option TokenKind) → Same Later 1 any (field_by depth inner kind) (field_by depth inner kind)
  field_by_same (Some k.Max) = number_field_same Later the_extreme.Max
  field_by_same (Some k.Min) = number_field_same Later the_extreme.Min
  field_by_same (Some k.OrFlag) = flag_field_same Later the_flag.Or
  field_by_same (Some k.AndFlag) = flag_field_same Later the_flag.And
  field_by_same (Some k.Set) = set_field_same Later
  field_by_same (Some k.Pair) = pair_field_same
  field_by_same _ = refuses

  field_in_same : Same Later 1 any (field_in depth inner) (field_in depth inner)
  unfolding field_in
  field_in_same = looks field_by_same

  fields_in_same : Same Later 0 empty (fields_in depth inner) (fields_in depth inner)
  unfolding fields_in
  fields_in_same = listed_same Later any (field_in depth inner) field_in_same field_words

inner_fields_same : (Later : ℕ → Type 0) (d : ℕ) → Same Later 0 empty (inner_fields d) (inner_fields d)
unfolding inner_fields
inner_fields_same Later zero = refuses
inner_fields_same Later (suc d) = fields_in_same Later d (inner_fields d) (inner_fields_same Later d)

fields_same : (Later : ℕ → Type 0) (d : ℕ) → Same Later 0 empty (fields d) (fields d)
fields_same Later d = fields_in_same Later d (inner_fields d) (inner_fields_same Later d)

module _ (Later : ℕ → Type 0) where
  pub object_same : Same Later 1 any object object
  unfolding object
  object_same =
      bind (expects Later k.Object) (λ _ _ _. bind (expects Later k.OpenBrace) (λ _ _ _. bind (fields_same Later 64) (λ _ _ _. bind (expects Later k.CloseBrace) (λ _ _ _. gives refl))))

  members_same : Same Later 1 any members members
  unfolding members
  members_same = bind (expects Later k.OpenBrace) (λ _ _ _. bind (atoms_same Later) (λ _ _ _. bind (expects Later k.CloseBrace) (λ _ _ _. gives refl)))

  value_by_same : (kind : Option TokenKind) → Same Later 1 any (value_by kind) (value_by kind)
  value_by_same (Some (k.Number n)) = bind (int_same Later) (λ _ _ _. gives refl)
  value_by_same (Some k.Minus) = bind (int_same Later) (λ _ _ _. gives refl)
  value_by_same (Some k.On) = bind (expects Later k.On) (λ _ _ _. gives refl)
  value_by_same (Some k.Off) = bind (expects Later k.Off) (λ _ _ _. gives refl)
  value_by_same (Some k.OpenBrace) = members_same
  value_by_same _ = refuses

  value_same : Same Later 1 any value value
  unfolding value
  value_same = looks value_by_same

  setting_same : Same Later 1 any setting setting
  unfolding setting
  setting_same = bind (path_same Later) (λ _ _ _. bind (expects Later k.Equal) (λ _ _ _. bind value_same (λ _ _ _. bind (expects Later k.Semicolon) (λ _ _ _. gives refl))))

  settings_same : Same Later 0 empty settings settings
  unfolding settings
  settings_same = listed_same Later any setting setting_same (k.Name ∷ [])

  pub start_same : Same Later 1 any start start
  unfolding start
  start_same = bind (expects Later k.Start) (λ _ _ _. bind (expects Later k.OpenBrace) (λ _ _ _. bind settings_same (λ _ _ _. bind (expects Later k.CloseBrace) (λ _ _ _. gives refl))))
