-- Objects, transactions, segments and plans: what was read before the reading stops goes on.
use Rattle.std.proofs.Common.{◌≡◌, ℕ, zero, suc, max, ◌<◌, ◌≤◌, List, [], ◌∷◌, ◌++◌, true, Option, Some, None, refl, ◌∙◌, append_assoc, arith}
use Rattle.lucy_lexer.specs.declared.token.TokenKind.{TokenKind}
use Rattle.lucy_lexer.specs.declared.token.TokenKind.TheVariants as k
use Rattle.lucy_lexer.specs.Laws.{EqualKinds}
use Rattle.lucy_tree.specs.declared.objects.Extreme.{Extreme}
use Rattle.lucy_tree.specs.declared.objects.Extreme.TheVariants as the_extreme
use Rattle.lucy_tree.specs.declared.objects.FlagKind.{FlagKind}
use Rattle.lucy_tree.specs.declared.objects.FlagKind.TheVariants as the_flag
use Rattle.lucy_tree.specs.declared.objects.Field.{Field}
use Rattle.lucy_tree.specs.declared.objects.Field.TheVariants as the_field
use Rattle.lucy_tree.specs.declared.objects.Value.TheVariants as the_value
use Rattle.lucy_tree.specs.declared.plans.Assigned.TheVariants as the_assigned
use Rattle.lucy_tree.specs.declared.plans.Change.TheVariants as the_change
use Rattle.lucy_tree.specs.Words.{Words, one, each, chain_words, maybe}
use Rattle.lucy_tree.specs.Spelling.{name_words, number_words, int_words, extreme_kind, flag_kind, field_words, object_words, value_words, setting_words, start_words, invariant_words, param_words, assigned_words, change_words, branch_words, txn_words, point_words, except_words, segment_words, depth_words, spelling}
use Rattle.lucy_tree.specs.Nesting.{most, cond_nesting, field_nesting, branch_nesting, txn_nesting, segment_nesting, nesting}
use Rattle.lucy_syntax.specs.Input.{Parser, opened}
use Rattle.lucy_syntax.specs.Lists.{chain}
use Rattle.lucy_syntax.specs.Terms.{int}
use Rattle.lucy_syntax.specs.Objects.{number_field, flag_field, set_field, pair_field, field_by, field_in, fields_in, inner_fields, object, members, value_by, value, setting, settings, start}
use Rattle.lucy_syntax.specs.Objects.{field_words as field_starts}
use Rattle.lucy_syntax.specs.Plans.{invariant, param, more_params, params_by, params, assigned_by, assigned, assign, insert, change_by, change, changes, block, branch, branches, signature, body, txn, txns, more_numbers, point, points, excepted, except_by, except, segment, listed, segments, stated_depth, depth_by, depth, parts, head, plan}
use Rattle.lucy_tree.proofs.Spelled.{number_field_is, flag_field_is, set_field_is, pair_field_is, number_field_nest, flag_field_nest, set_field_nest, pair_field_nest}
use Rattle.lucy_syntax.proofs.Taking.{Any}
use Rattle.lucy_syntax.proofs.Writable.{is_sign, sign_is_plain, nowhere, some_name, some_name_proper}
use Rattle.lucy_syntax.proofs.Completing.{Goes, Completes, gives, refuses, too_deep, bind, looks, last, kept, any_item, expect_completes, opened_completes, none_opened, name_completes, number_completes, listed_completes, chain_completes}
use Rattle.lucy_syntax.proofs.TermsComplete.{names_complete, path_completes, int_completes, bounds_complete, term_completes}
use Rattle.lucy_syntax.proofs.ConditionsComplete.{most_within, cond_completes}

extreme_sign : (x : Extreme) → is_sign (extreme_kind x) ≡ true
extreme_sign the_extreme.Max = refl
extreme_sign the_extreme.Min = refl

flag_sign : (x : FlagKind) → is_sign (flag_kind x) ≡ true
flag_sign the_flag.Or = refl
flag_sign the_flag.And = refl

rejoin : (a b c d e f g h : Words) → a ++ b ++ c ++ d ++ e ++ f ++ g ++ h ≡ (a ++ b) ++ (c ++ d ++ e) ++ (f ++ g ++ h)
rejoin a b c d e f g h = simp append_assoc

regroup : (a b c d e f g h i : Words) → a ++ b ++ c ++ d ++ e ++ f ++ g ++ h ++ i ≡ (a ++ b) ++ (c ++ d ++ e) ++ (f ++ g ++ h ++ i)
regroup a b c d e f g h i = simp append_assoc

module _ (equal : EqualKinds) where
  number_field_completes : (x : Extreme) (d : ℕ) → Completes [] field_words (λ f. field_nesting f ≤ d) (number_field x)
  unfolding number_field
  number_field_completes x d = bind (expect_completes equal (extreme_kind x) (extreme_sign x)) (λ word _. bind name_completes (λ named _. bind (bounds_complete equal) (λ range _. bind (expect_completes equal k.Semicolon refl) (λ semicolon _.
      gives (the_field.Number x word named range semicolon) (number_field_is x word named range semicolon ∙ simp append_assoc) (omega (arith, number_field_nest x word named range semicolon))))))

  flag_field_completes : (x : FlagKind) (d : ℕ) → Completes [] field_words (λ f. field_nesting f ≤ d) (flag_field x)
  unfolding flag_field
  flag_field_completes x d = bind (expect_completes equal (flag_kind x) (flag_sign x)) (λ word _. bind name_completes (λ named _. bind (expect_completes equal k.Semicolon refl) (λ semicolon _.
      gives (the_field.Flag x word named semicolon) (flag_field_is x word named semicolon ∙ simp append_assoc) (omega (arith, flag_field_nest x word named semicolon)))))

  set_field_completes : (d : ℕ) → Completes [] field_words (λ f. field_nesting f ≤ d) set_field
  unfolding set_field
  set_field_completes d = bind (expect_completes equal k.Set refl) (λ word _. bind name_completes (λ named _. bind (expect_completes equal k.OpenBrace refl) (λ a _. bind names_complete (λ atoms _. bind (expect_completes equal k.CloseBrace refl) (λ b _. bind (expect_completes equal k.Semicolon refl) (λ semicolon _.
      gives (the_field.Set word named a atoms b semicolon) (set_field_is word named a atoms b semicolon ∙ simp append_assoc) (omega (arith, set_field_nest word named a atoms b semicolon))))))))

-- what stands inside a pair is passed in; where none may be opened nothing is known of it
field_goes : (d : ℕ) → Goes [] field_words (λ f. field_nesting f ≤ d)
field_goes d = record {
  value = the_field.Flag the_flag.Or nowhere some_name nowhere;
  more = one k.OrFlag nowhere ++ name_words some_name ++ one k.Semicolon nowhere;
  spelled = flag_field_is the_flag.Or nowhere some_name nowhere;
  proper = (sign_is_plain k.OrFlag refl, (some_name_proper, (sign_is_plain k.Semicolon refl, tt)));
  kept = omega (arith, flag_field_nest the_flag.Or nowhere some_name nowhere);
}

pair_field_completes : (equal : EqualKinds) (d : ℕ) (inner : Parser (List Field)) → (0 < d → Completes [] (each field_words) (λ fs. suc (most field_nesting fs) ≤ d) inner)
    → Completes [] field_words (λ f. field_nesting f ≤ d) (pair_field d inner)
unfolding pair_field
pair_field_completes equal zero inner inners = too_deep k.Pair _ (opened 0 k.Pair) (none_opened k.Pair) (field_goes 0)
pair_field_completes equal (suc d) inner inners =
    bind (opened_completes equal (suc d) k.Pair refl) (λ word _. bind name_completes (λ named _. bind (expect_completes equal k.OpenBrace refl) (λ a _. bind (inners (omega arith)) (λ parts fit. bind (expect_completes equal k.CloseBrace refl) (λ b _.
    gives (the_field.Pair word named a parts b) (pair_field_is word named a parts b ∙ simp append_assoc) (omega (arith, pair_field_nest word named a parts b, fit)))))))

module _ (equal : EqualKinds) (d : ℕ) (inner : Parser (List Field)) (inners : 0 < d → Completes [] (each field_words) (λ fs. suc (most field_nesting fs) ≤ d) inner) where
  field_by_completes : (kind : Option TokenKind) → Completes [] field_words (λ f. field_nesting f ≤ d) (field_by d inner kind)
  field_by_completes (Some k.Max) = (number_field_completes equal the_extreme.Max d)
  field_by_completes (Some k.Min) = (number_field_completes equal the_extreme.Min d)
  field_by_completes (Some k.OrFlag) = (flag_field_completes equal the_flag.Or d)
  field_by_completes (Some k.AndFlag) = (flag_field_completes equal the_flag.And d)
  field_by_completes (Some k.Set) = (set_field_completes equal d)
  field_by_completes (Some k.Pair) = pair_field_completes equal d inner inners
  field_by_completes _ = refuses (field_goes d)

  field_completes : Completes [] field_words (λ f. field_nesting f ≤ d) (field_in d inner)
  unfolding field_in
  field_completes = looks field_by_completes

  fields_complete : Completes [] (each field_words) (λ fs. most field_nesting fs ≤ d) (fields_in d inner)
  unfolding fields_in
  fields_complete = kept (most_within field_nesting d) (listed_completes field_starts field_words (λ f. field_nesting f ≤ d) (field_in d inner) field_completes)

inner_fields_complete : (equal : EqualKinds) (d : ℕ) → 0 < d → Completes [] (each field_words) (λ fs. suc (most field_nesting fs) ≤ d) (inner_fields d)
unfolding inner_fields
inner_fields_complete equal zero some = absurd (omega (arith, some))
inner_fields_complete equal (suc d) some = kept (λ fs fit. omega (arith, fit)) (fields_complete equal d (inner_fields d) (inner_fields_complete equal d))

module _ (equal : EqualKinds) where
  object_completes : Completes [] object_words (λ o. most field_nesting o.fields ≤ 64) object
  unfolding object
  object_completes = bind (expect_completes equal k.Object refl) (λ word _. bind (expect_completes equal k.OpenBrace refl) (λ a _. bind (fields_complete equal 64 (inner_fields 64) (inner_fields_complete equal 64)) (λ parts fit. bind (expect_completes equal k.CloseBrace refl) (λ b _.
      gives (record { word = word; open_brace = a; fields = parts; close_brace = b }) (simp append_assoc) fit))))

  members_complete : Completes [] value_words Any members
  unfolding members
  members_complete = bind (expect_completes equal k.OpenBrace refl) (λ a _. bind names_complete (λ atoms _. bind (expect_completes equal k.CloseBrace refl) (λ b _.
      gives (the_value.Set a atoms b) (simp append_assoc) tt)))

  value_goes : Goes [] value_words Any
  value_goes = record { value = the_value.On nowhere; more = one k.On nowhere; spelled = refl; proper = (sign_is_plain k.On refl, tt); kept = tt }

  value_by_completes : (kind : Option TokenKind) → Completes [] value_words Any (value_by kind)
  value_by_completes (Some (k.Number n)) = last (λ i. the_value.Int i) (int_completes equal) (λ i. refl) (λ _ _. tt)
  value_by_completes (Some k.Minus) = last (λ i. the_value.Int i) (int_completes equal) (λ i. refl) (λ _ _. tt)
  value_by_completes (Some k.On) = last (λ s. the_value.On s) (expect_completes equal k.On refl) (λ s. refl) (λ _ _. tt)
  value_by_completes (Some k.Off) = last (λ s. the_value.Off s) (expect_completes equal k.Off refl) (λ s. refl) (λ _ _. tt)
  value_by_completes (Some k.OpenBrace) = members_complete
  value_by_completes _ = refuses value_goes

  value_completes : Completes [] value_words Any value
  unfolding value
  value_completes = looks value_by_completes

  setting_completes : Completes [] setting_words Any setting
  unfolding setting
  setting_completes = bind (path_completes equal) (λ of _. bind (expect_completes equal k.Equal refl) (λ equals _. bind value_completes (λ given _. bind (expect_completes equal k.Semicolon refl) (λ semicolon _.
      gives (record { path = of; equal = equals; value = given; semicolon = semicolon }) (simp append_assoc) tt))))

  settings_complete : Completes [] (each setting_words) Any settings
  unfolding settings
  settings_complete = any_item (listed_completes (k.Name ∷ []) setting_words Any setting setting_completes)

  start_completes : Completes [] start_words Any start
  unfolding start
  start_completes = bind (expect_completes equal k.Start refl) (λ word _. bind (expect_completes equal k.OpenBrace refl) (λ a _. bind settings_complete (λ parts _. bind (expect_completes equal k.CloseBrace refl) (λ b _.
      gives (record { word = word; open_brace = a; settings = parts; close_brace = b }) (simp append_assoc) tt))))

  invariant_completes : Completes [] invariant_words (λ i. cond_nesting i.cond ≤ 64) invariant
  unfolding invariant
  invariant_completes = bind (expect_completes equal k.Invariant refl) (λ word _. bind (cond_completes equal 64) (λ condition fit. bind (expect_completes equal k.Semicolon refl) (λ semicolon _.
      gives (record { word = word; cond = condition; semicolon = semicolon }) (simp append_assoc) fit)))

  param_completes : Completes [] param_words Any param
  unfolding param
  param_completes = bind name_completes (λ named _. bind (bounds_complete equal) (λ range _.
      gives (record { name = named; bounds = range }) (simp append_assoc) tt))

  params_by_complete : (kind : Option TokenKind) → Completes [] (maybe (chain_words k.Comma param_words)) Any (params_by kind)
  unfolding more_params
  params_by_complete (Some k.Name) = last (λ c. Some c) (any_item (chain_completes equal k.Comma refl param_words Any param param_completes)) (λ c. refl) (λ _ _. tt)
  params_by_complete _ = gives None refl tt

  params_complete : Completes [] (maybe (chain_words k.Comma param_words)) Any params
  unfolding params
  params_complete = looks params_by_complete

  assigned_by_completes : (kind : Option TokenKind) → Completes [] assigned_words Any (assigned_by kind)
  assigned_by_completes (Some k.On) = last (λ s. the_assigned.On s) (expect_completes equal k.On refl) (λ s. refl) (λ _ _. tt)
  assigned_by_completes (Some k.Off) = last (λ s. the_assigned.Off s) (expect_completes equal k.Off refl) (λ s. refl) (λ _ _. tt)
  assigned_by_completes _ = last (λ t. the_assigned.Term t) (term_completes equal) (λ t. refl) (λ _ _. tt)

  assigned_completes : Completes [] assigned_words Any assigned
  unfolding assigned
  assigned_completes = looks assigned_by_completes

  assign_completes : Completes [] change_words Any assign
  unfolding assign
  assign_completes = bind (path_completes equal) (λ of _. bind (expect_completes equal k.Assign refl) (λ mark _. bind assigned_completes (λ given _. bind (expect_completes equal k.Semicolon refl) (λ semicolon _.
      gives (the_change.Assign of mark given semicolon) (simp append_assoc) tt))))

  insert_completes : Completes [] change_words Any insert
  unfolding insert
  insert_completes = bind (expect_completes equal k.Insert refl) (λ word _. bind name_completes (λ atom _. bind (expect_completes equal k.Into refl) (λ into_word _. bind (path_completes equal) (λ set _. bind (expect_completes equal k.Semicolon refl) (λ semicolon _.
      gives (the_change.Insert word atom into_word set semicolon) (simp append_assoc) tt)))))

  change_by_completes : (kind : Option TokenKind) → Completes [] change_words Any (change_by kind)
  change_by_completes (Some k.Insert) = insert_completes
  change_by_completes _ = assign_completes

  change_completes : Completes [] change_words Any change
  unfolding change
  change_completes = looks change_by_completes

  changes_complete : Completes [] (each change_words) Any changes
  unfolding changes
  changes_complete = any_item (listed_completes (k.Name ∷ k.Insert ∷ []) change_words Any change change_completes)

  block_completes : Completes [] (λ b. one k.OpenBrace b.open_brace ++ each change_words b.changes ++ one k.CloseBrace b.close_brace) Any block
  unfolding block
  block_completes = bind (expect_completes equal k.OpenBrace refl) (λ a _. bind changes_complete (λ parts _. bind (expect_completes equal k.CloseBrace refl) (λ b _.
      gives (record { open_brace = a; changes = parts; close_brace = b }) (simp append_assoc) tt)))

  branch_completes : Completes [] branch_words (λ b. branch_nesting b ≤ 64) branch
  unfolding branch
  branch_completes = bind (expect_completes equal k.When refl) (λ word _. bind (cond_completes equal 64) (λ condition fit. bind block_completes (λ inner _.
      gives (record { word = word; cond = condition; open_brace = inner.open_brace; changes = inner.changes; close_brace = inner.close_brace }) (simp append_assoc) fit)))

  branches_complete : Completes [] (each branch_words) (λ bs. most branch_nesting bs ≤ 64) branches
  unfolding branches
  branches_complete = kept (most_within branch_nesting 64) (listed_completes (k.When ∷ []) branch_words (λ b. branch_nesting b ≤ 64) branch branch_completes)

  signature_completes : Completes [] (λ s. one k.OpenParen s.open_paren ++ maybe (chain_words k.Comma param_words) s.params ++ one k.CloseParen s.close_paren) Any signature
  unfolding signature
  signature_completes = bind (expect_completes equal k.OpenParen refl) (λ a _. bind params_complete (λ given _. bind (expect_completes equal k.CloseParen refl) (λ b _.
      gives (record { open_paren = a; params = given; close_paren = b }) (simp append_assoc) tt)))

  body_completes : Completes [] (λ b. one k.OpenBrace b.open_brace ++ each branch_words b.branches ++ one k.CloseBrace b.close_brace) (λ b. most branch_nesting b.branches ≤ 64) body
  unfolding body
  body_completes = bind (expect_completes equal k.OpenBrace refl) (λ a _. bind branches_complete (λ parts fit. bind (expect_completes equal k.CloseBrace refl) (λ b _.
      gives (record { open_brace = a; branches = parts; close_brace = b }) (simp append_assoc) fit)))

  txn_completes : Completes [] txn_words (λ t. txn_nesting t ≤ 64) txn
  unfolding txn
  txn_completes = bind (expect_completes equal k.Txn refl) (λ word _. bind name_completes (λ named _. bind signature_completes (λ given _. bind body_completes (λ inner fit.
      gives (record { word = word; name = named; open_paren = given.open_paren; params = given.params; close_paren = given.close_paren; open_brace = inner.open_brace; branches = inner.branches; close_brace = inner.close_brace })
      (rejoin (one k.Txn word) (name_words named) (one k.OpenParen given.open_paren) (maybe (chain_words k.Comma param_words) given.params) (one k.CloseParen given.close_paren) (one k.OpenBrace inner.open_brace) (each branch_words inner.branches) (one k.CloseBrace inner.close_brace)) fit))))

  txns_complete : Completes [] (each txn_words) (λ ts. most txn_nesting ts ≤ 64) txns
  unfolding txns
  txns_complete = kept (most_within txn_nesting 64) (listed_completes (k.Txn ∷ []) txn_words (λ t. txn_nesting t ≤ 64) txn txn_completes)

  numbers_complete : Completes [] (chain_words k.Comma int_words) Any (chain int more_numbers)
  unfolding more_numbers
  numbers_complete = any_item (chain_completes equal k.Comma refl int_words Any int (int_completes equal))

  point_completes : Completes [] point_words Any point
  unfolding point
  point_completes = bind (expect_completes equal k.OpenParen refl) (λ a _. bind numbers_complete (λ numbers _. bind (expect_completes equal k.CloseParen refl) (λ b _.
      gives (record { open_paren = a; numbers = numbers; close_paren = b }) (simp append_assoc) tt)))

  points_complete : Completes [] (each point_words) Any points
  unfolding points
  points_complete = any_item (listed_completes (k.OpenParen ∷ []) point_words Any point point_completes)

  excepted_completes : Completes [] (maybe except_words) Any excepted
  unfolding excepted
  excepted_completes = bind (expect_completes equal k.Except refl) (λ word _. bind point_completes (λ first _. bind points_complete (λ others _.
      gives (Some (record { word = word; first = first; others = others })) (simp append_assoc) tt)))

  except_by_completes : (kind : Option TokenKind) → Completes [] (maybe except_words) Any (except_by kind)
  except_by_completes (Some k.Except) = excepted_completes
  except_by_completes _ = gives None refl tt

  except_completes : Completes [] (maybe except_words) Any except
  unfolding except
  except_completes = looks except_by_completes

  listed_complete : Completes [] (λ l. maybe except_words l.except ++ one k.Do l.do_word ++ each name_words l.txns ++ one k.Semicolon l.semicolon) Any listed
  unfolding listed
  listed_complete = bind except_completes (λ excluded _. bind (expect_completes equal k.Do refl) (λ do_word _. bind names_complete (λ calls _. bind (expect_completes equal k.Semicolon refl) (λ semicolon _.
      gives (record { except = excluded; do_word = do_word; txns = calls; semicolon = semicolon }) (simp append_assoc) tt))))

  segment_completes : Completes [] segment_words (λ s. segment_nesting s ≤ 64) segment
  unfolding segment
  segment_completes = bind (expect_completes equal k.Segment refl) (λ word _. bind name_completes (λ named _. bind (expect_completes equal k.When refl) (λ when_word _. bind (cond_completes equal 64) (λ condition fit. bind listed_complete (λ calls _.
      gives (record { word = word; name = named; when_word = when_word; cond = condition; except = calls.except; do_word = calls.do_word; txns = calls.txns; semicolon = calls.semicolon }) (simp append_assoc) fit)))))

  segments_complete : Completes [] (each segment_words) (λ ss. most segment_nesting ss ≤ 64) segments
  unfolding segments
  segments_complete = kept (most_within segment_nesting 64) (listed_completes (k.Segment ∷ []) segment_words (λ s. segment_nesting s ≤ 64) segment segment_completes)

  stated_depth_completes : Completes [] (maybe depth_words) Any stated_depth
  unfolding stated_depth
  stated_depth_completes = bind (expect_completes equal k.Depth refl) (λ word _. bind number_completes (λ limit _. bind (expect_completes equal k.Semicolon refl) (λ semicolon _.
      gives (Some (record { word = word; number = limit; semicolon = semicolon })) (simp append_assoc) tt)))

  depth_by_completes : (kind : Option TokenKind) → Completes [] (maybe depth_words) Any (depth_by kind)
  depth_by_completes (Some k.Depth) = stated_depth_completes
  depth_by_completes _ = gives None refl tt

  depth_completes : Completes [] (maybe depth_words) Any depth
  unfolding depth
  depth_completes = looks depth_by_completes

  parts_complete : Completes [] (λ l. each txn_words l.txns ++ each segment_words l.segments ++ maybe depth_words l.depth ++ one k.End l.end_word) (λ l. max (most txn_nesting l.txns) (most segment_nesting l.segments) ≤ 64) parts
  unfolding parts
  parts_complete = bind txns_complete (λ calls h. bind segments_complete (λ rooms l. bind depth_completes (λ limit _. bind (expect_completes equal k.End refl) (λ end_word _.
      gives (record { txns = calls; segments = rooms; depth = limit; end_word = end_word }) (simp append_assoc) (omega (arith, h, l))))))

  head_completes : Completes [] (λ h. object_words h.object ++ start_words h.start ++ invariant_words h.invariant) (λ h. (most field_nesting h.object.fields ≤ 64) × (cond_nesting h.invariant.cond ≤ 64)) head
  unfolding head
  head_completes = bind object_completes (λ declared f. bind start_completes (λ started _. bind invariant_completes (λ held g.
      gives (record { object = declared; start = started; invariant = held }) (simp append_assoc) (f, g))))

  pub plan_completes : Completes [] spelling (λ t. nesting t ≤ 64) plan
  unfolding plan
  plan_completes = bind (expect_completes equal k.Lucy refl) (λ word _. bind number_completes (λ version _. bind head_completes (λ first f. bind parts_complete (λ others h.
      gives (record { word = word; version = version; object = first.object; start = first.start; invariant = first.invariant; txns = others.txns; segments = others.segments; depth = others.depth; end_word = others.end_word })
      (regroup (one k.Lucy word) (number_words version) (object_words first.object) (start_words first.start) (invariant_words first.invariant) (each txn_words others.txns) (each segment_words others.segments) (maybe depth_words others.depth) (one k.End others.end_word))
      (let a = f.0 in let b = f.1 in omega (arith, a, b, h))))))
