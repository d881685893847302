-- Transactions, segments and whole plans are read alike where the words agree.
use Rattle.std.proofs.Common.{ℕ, [], ◌∷◌, Option, Some, refl}
use Rattle.lucy_lexer.specs.declared.token.TokenKind.{TokenKind}
use Rattle.lucy_lexer.specs.declared.token.TokenKind.TheVariants as k
use Rattle.lucy_syntax.specs.Plans.{invariant, param, more_params, params_by, params, assigned_by, assigned, assign, insert, change_by, change, changes, branch, branches, signature, body, head, block, txn, txns, more_numbers, point, points, excepted, except_by, except, listed, segment, segments, stated_depth, depth_by, depth, parts, plan}
use Rattle.lucy_syntax.specs.Terms.{int}
use Rattle.lucy_syntax_laws.proofs.Agreeing.{Same, any, empty, bind, skip, gives, looks, expects, names_same, numbers_same, listed_same, chain_same}
use Rattle.lucy_syntax_laws.proofs.TermsAgree.{atoms_same, path_same, int_same, bounds_same, term_same}
use Rattle.lucy_syntax_laws.proofs.ConditionsAgree.{cond_same}
use Rattle.lucy_syntax_laws.proofs.ObjectsAgree.{object_same, start_same}

module _ (Later : ℕ → Type 0) where
  invariant_same : Same Later 1 any invariant invariant
  unfolding invariant
  invariant_same = bind (expects Later k.Invariant) (λ _ _ _. bind (cond_same Later 64) (λ _ _ _. bind (expects Later k.Semicolon) (λ _ _ _. gives refl)))

  -- ---- transactions

  param_same : Same Later 1 any param param
  unfolding param
  param_same = bind (names_same Later) (λ _ _ _. bind (bounds_same Later) (λ _ _ _. gives refl))

  params_by_same : (kind : Option TokenKind) → Same Later 0 any (params_by kind) (params_by kind)
  unfolding more_params
  params_by_same (Some k.Name) = skip (chain_same Later any param param_same k.Comma) (λ _ _ _. gives refl)
  params_by_same _ = gives refl

  params_same : Same Later 0 any params params
  unfolding params
  params_same = looks params_by_same

  assigned_by_same : (kind : Option TokenKind) → Same Later 1 any (assigned_by kind) (assigned_by kind)
  assigned_by_same (Some k.On) = bind (expects Later k.On) (λ _ _ _. gives refl)
  assigned_by_same (Some k.Off) = bind (expects Later k.Off) (λ _ _ _. gives refl)
  assigned_by_same _ = bind (term_same Later) (λ _ _ _. gives refl)

  assigned_same : Same Later 1 any assigned assigned
  unfolding assigned
  assigned_same = looks assigned_by_same

  assign_same : Same Later 1 any assign assign
  unfolding assign
  assign_same = bind (path_same Later) (λ _ _ _. bind (expects Later k.Assign) (λ _ _ _. bind assigned_same (λ _ _ _. bind (expects Later k.Semicolon) (λ _ _ _. gives refl))))

  insert_same : Same Later 1 any insert insert
  unfolding insert
  insert_same =
      bind (expects Later k.Insert) (λ _ _ _. bind (names_same Later) (λ _ _ _. bind (expects Later k.Into) (λ _ _ _. bind (path_same Later) (λ _ _ _. bind (expects Later k.Semicolon) (λ _ _ _. gives refl)))))

  change_by_same : (kind : Option TokenKind) → Same Later 1 any (change_by kind) (change_by kind)
  change_by_same (Some k.Insert) = insert_same
  change_by_same _ = assign_same

  change_same : Same Later 1 any change change
  unfolding change
  change_same = looks change_by_same

  changes_same : Same Later 0 empty changes changes
  unfolding changes
  changes_same = listed_same Later any change change_same (k.Name ∷ k.Insert ∷ [])

  block_same : Same Later 1 any block block
  unfolding block
  block_same = bind (expects Later k.OpenBrace) (λ _ _ _. bind changes_same (λ _ _ _. bind (expects Later k.CloseBrace) (λ _ _ _. gives refl)))

  branch_same : Same Later 1 any branch branch
  unfolding branch
  branch_same = bind (expects Later k.When) (λ _ _ _. bind (cond_same Later 64) (λ _ _ _. bind block_same (λ _ _ _. gives refl)))

  branches_same : Same Later 0 empty branches branches
  unfolding branches
  branches_same = listed_same Later any branch branch_same (k.When ∷ [])

  signature_same : Same Later 1 any signature signature
  unfolding signature
  signature_same = bind (expects Later k.OpenParen) (λ _ _ _. bind params_same (λ _ _ _. bind (expects Later k.CloseParen) (λ _ _ _. gives refl)))

  body_same : Same Later 1 any body body
  unfolding body
  body_same = bind (expects Later k.OpenBrace) (λ _ _ _. bind branches_same (λ _ _ _. bind (expects Later k.CloseBrace) (λ _ _ _. gives refl)))

  txn_same : Same Later 1 any txn txn
  unfolding txn
  txn_same = bind (expects Later k.Txn) (λ _ _ _. bind (names_same Later) (λ _ _ _. bind signature_same (λ _ _ _. bind body_same (λ _ _ _. gives refl))))

  txns_same : Same Later 0 empty txns txns
  unfolding txns
  txns_same = listed_same Later any txn txn_same (k.Txn ∷ [])

  -- ---- segments

  point_same : Same Later 1 any point point
  unfolding point more_numbers
  point_same = bind (expects Later k.OpenParen) (λ _ _ _. bind (chain_same Later any int (int_same Later) k.Comma) (λ _ _ _. bind (expects Later k.CloseParen) (λ _ _ _. gives refl)))

  points_same : Same Later 0 empty points points
  unfolding points
  points_same = listed_same Later any point point_same (k.OpenParen ∷ [])

  excepted_same : Same Later 0 any excepted excepted
  unfolding excepted
  excepted_same = skip (expects Later k.Except) (λ _ _ _. skip point_same (λ _ _ _. bind points_same (λ _ _ _. gives refl)))

  except_by_same : (kind : Option TokenKind) → Same Later 0 any (except_by kind) (except_by kind)
  except_by_same (Some k.Except) = excepted_same
  except_by_same _ = gives refl

  except_same : Same Later 0 any except except
  unfolding except
  except_same = looks except_by_same

  listed_end_same : Same Later 1 any listed listed
  unfolding listed
  listed_end_same = skip except_same (λ _ _ _. bind (expects Later k.Do) (λ _ _ _. bind (atoms_same Later) (λ _ _ _. bind (expects Later k.Semicolon) (λ _ _ _. gives refl))))

  segment_same : Same Later 1 any segment segment
  unfolding segment
  segment_same =
      bind (expects Later k.Segment) (λ _ _ _. bind (names_same Later) (λ _ _ _. bind (expects Later k.When) (λ _ _ _. bind (cond_same Later 64) (λ _ _ _. bind listed_end_same (λ _ _ _. gives refl)))))

  segments_same : Same Later 0 empty segments segments
  unfolding segments
  segments_same = listed_same Later any segment segment_same (k.Segment ∷ [])

  -- ---- the plan

  stated_depth_same : Same Later 0 any stated_depth stated_depth
  unfolding stated_depth
  stated_depth_same = skip (expects Later k.Depth) (λ _ _ _. skip (numbers_same Later) (λ _ _ _. skip (expects Later k.Semicolon) (λ _ _ _. gives refl)))

  depth_by_same : (kind : Option TokenKind) → Same Later 0 any (depth_by kind) (depth_by kind)
  depth_by_same (Some k.Depth) = stated_depth_same
  depth_by_same _ = gives refl

  depth_same : Same Later 0 any depth depth
  unfolding depth
  depth_same = looks depth_by_same

  parts_same : Same Later 0 any parts parts
  unfolding parts
  parts_same = bind txns_same (λ _ _ _. bind segments_same (λ _ _ _. bind depth_same (λ _ _ _. bind (expects Later k.End) (λ _ _ _. gives refl))))

  head_same : Same Later 1 any head head
  unfolding head
  head_same = bind (object_same Later) (λ _ _ _. bind (start_same Later) (λ _ _ _. bind invariant_same (λ _ _ _. gives refl)))

  pub plan_same : Same Later 1 any plan plan
  unfolding plan
  plan_same = bind (expects Later k.Lucy) (λ _ _ _. bind (numbers_same Later) (λ _ _ _. bind head_same (λ _ _ _. bind parts_same (λ _ _ _. gives refl))))
