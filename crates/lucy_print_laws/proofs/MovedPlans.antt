-- A whole tree whose places are moved: what it spells, and how deep it is.
use Rattle.std.proofs.Common.{◌≡◌, ℕ, zero, suc, max, ◌≤◌, List, [], ◌∷◌, map, refl, sym, ap, subst, ◌∙◌, arith}
use Rattle.lucy_lexer.specs.declared.token.TokenKind.TheVariants as k
use Rattle.lucy_tree.specs.declared.marks.Span.{Span}
use Rattle.lucy_tree.specs.declared.marks.Name.{Name}
use Rattle.lucy_tree.specs.declared.marks.Bounds.{Bounds}
use Rattle.lucy_tree.specs.declared.objects.Extreme.{Extreme}
use Rattle.lucy_tree.specs.declared.objects.FlagKind.{FlagKind}
use Rattle.lucy_tree.specs.declared.objects.Field.{Field, roll-Field, out-Field, roll-out-Field}
use Rattle.lucy_tree.specs.declared.objects.Field.TheOpen.{Field-F}
use Rattle.lucy_tree.specs.declared.objects.Field.TheFolds.{fold-roll-Field}
use Rattle.lucy_tree.specs.declared.objects.Field.TheVariants as field
use Rattle.lucy_tree.specs.declared.objects.Field.TheVariants.{rolls-Number, rolls-Flag, rolls-Set, rolls-Pair}
use Rattle.lucy_tree.specs.declared.objects.Object.{Object}
use Rattle.lucy_tree.specs.declared.objects.Value.{Value}
use Rattle.lucy_tree.specs.declared.objects.Value.TheVariants as value
use Rattle.lucy_tree.specs.declared.objects.Setting.{Setting}
use Rattle.lucy_tree.specs.declared.objects.Start.{Start}
use Rattle.lucy_tree.specs.declared.plans.Invariant.{Invariant}
use Rattle.lucy_tree.specs.declared.plans.Param.{Param}
use Rattle.lucy_tree.specs.declared.plans.Assigned.{Assigned}
use Rattle.lucy_tree.specs.declared.plans.Assigned.TheVariants as assigned
use Rattle.lucy_tree.specs.declared.plans.Change.{Change}
use Rattle.lucy_tree.specs.declared.plans.Change.TheVariants as change
use Rattle.lucy_tree.specs.declared.plans.Branch.{Branch}
use Rattle.lucy_tree.specs.declared.plans.Txn.{Txn}
use Rattle.lucy_tree.specs.declared.plans.Point.{Point}
use Rattle.lucy_tree.specs.declared.plans.Except.{Except}
use Rattle.lucy_tree.specs.declared.plans.Segment.{Segment}
use Rattle.lucy_tree.specs.declared.plans.Depth.{Depth}
use Rattle.lucy_tree.specs.declared.plans.Tree.{Tree}
use Rattle.lucy_tree.specs.Words.{chain_words}
use Rattle.lucy_tree.specs.Spelling.{name_words, int_words, extreme_kind, flag_kind, field_words, object_words, value_words, setting_words, start_words, invariant_words, param_words, assigned_words, change_words, branch_words, txn_words, point_words, except_words, segment_words, depth_words, spelling}
use Rattle.lucy_tree.specs.Nesting.{most, field_nesting, branch_nesting, txn_nesting, segment_nesting, nesting}
use Rattle.lucy_tree.proofs.Spelled.{number_field_is, flag_field_is, set_field_is, pair_field_is, number_field_nest, flag_field_nest, set_field_nest, pair_field_nest}
use Rattle.lucy_print.specs.Layout.{words_after}
use Rattle.lucy_print_laws.specs.Moving.{moved_name, moved_int, moved_chain, moved_bounds, field_moved, moved_field, moved_object, moved_value, moved_setting, moved_start, moved_invariant, moved_param, moved_assigned, moved_change, moved_branch, moved_txn, moved_point, moved_except, moved_segment, moved_depth, moved}
use Rattle.lucy_print_laws.proofs.MovedWords.{Moves, ◌⊕◌, mark, each_moves, maybe_moves, chain_moves, name_moves, path_moves, number_moves, int_moves, bounds_moves, term_moves}
use Rattle.lucy_print_laws.proofs.MovedConditions.{Keeps, spelled_as, each_within, most_within, cond_keeps}

-- the most of items that are moved
most_moved : {A : Type 0} (n : A → ℕ) (g : A → A) → ((x : A) → n (g x) ≡ n x) → (xs : List A) → most n (map g xs) ≡ most n xs
most_moved n g all [] = refl
most_moved n g all (x ∷ xs) = ap (λ m. max m (most n (map g xs))) (all x) ∙ ap (λ m. max (n x) m) (most_moved n g all xs)

module _ (to : Span → Span) where
  -- ---- fields

  abbrev FieldKeeps : Field → Type 0
  FieldKeeps f = Keeps to field_words field_nesting f (moved_field to f)

  claim : (f g : Field) → moved_field to f ≡ g → Keeps to field_words field_nesting f g → FieldKeeps f
  claim f g e kept = subst (λ (h : Field). Keeps to field_words field_nesting f h) (sym e) kept

  number_keeps : (x : Extreme) (s : Span) (n : Name) (b : Bounds) (e : Span) → FieldKeeps (field.Number x s n b e)
  number_keeps x s n b e =
      claim (field.Number x s n b e) (field.Number x (to s) (moved_name to n) (moved_bounds to b) (to e))
      (ap (moved_field to) (sym (rolls-Number x s n b e)) ∙ fold-roll-Field Field (field_moved to) (Field-F.Number x s n b e))
      (record {
        spelled = spelled_as (number_field_is x s n b e) (number_field_is x (to s) (moved_name to n) (moved_bounds to b) (to e))
            (mark to (extreme_kind x) s ⊕ name_moves to n ⊕ bounds_moves to b ⊕ mark to k.Semicolon e);
        deep = number_field_nest x (to s) (moved_name to n) (moved_bounds to b) (to e) ∙ sym (number_field_nest x s n b e);
      })

  flag_keeps : (x : FlagKind) (s : Span) (n : Name) (e : Span) → FieldKeeps (field.Flag x s n e)
  flag_keeps x s n e =
      claim (field.Flag x s n e) (field.Flag x (to s) (moved_name to n) (to e))
      (ap (moved_field to) (sym (rolls-Flag x s n e)) ∙ fold-roll-Field Field (field_moved to) (Field-F.Flag x s n e))
      (record {
        spelled = spelled_as (flag_field_is x s n e) (flag_field_is x (to s) (moved_name to n) (to e)) (mark to (flag_kind x) s ⊕ name_moves to n ⊕ mark to k.Semicolon e);
        deep = flag_field_nest x (to s) (moved_name to n) (to e) ∙ sym (flag_field_nest x s n e);
      })

  set_keeps : (s : Span) (n : Name) (a : Span) (xs : List Name) (b e : Span) → FieldKeeps (field.Set s n a xs b e)
  set_keeps s n a xs b e =
      claim (field.Set s n a xs b e) (field.Set (to s) (moved_name to n) (to a) (map (moved_name to) xs) (to b) (to e))
      (ap (moved_field to) (sym (rolls-Set s n a xs b e)) ∙ fold-roll-Field Field (field_moved to) (Field-F.Set s n a xs b e))
      (record {
        spelled = spelled_as (set_field_is s n a xs b e) (set_field_is (to s) (moved_name to n) (to a) (map (moved_name to) xs) (to b) (to e))
            (mark to k.Set s ⊕ name_moves to n ⊕ mark to k.OpenBrace a ⊕ each_moves to name_words (moved_name to) (name_moves to) xs ⊕ mark to k.CloseBrace b ⊕ mark to k.Semicolon e);
        deep = set_field_nest (to s) (moved_name to n) (to a) (map (moved_name to) xs) (to b) (to e) ∙ sym (set_field_nest s n a xs b e);
      })

  pair_keeps : (s : Span) (n : Name) (a : Span) (xs : List Field) (b : Span) (d : ℕ) → ((f : Field) → field_nesting f ≤ d → FieldKeeps f) → most field_nesting xs ≤ d → FieldKeeps (field.Pair s n a xs b)
  pair_keeps s n a xs b d inside fit =
      let ys = map (moved_field to) xs in
      claim (field.Pair s n a xs b) (field.Pair (to s) (moved_name to n) (to a) ys (to b))
      (ap (moved_field to) (sym (rolls-Pair s n a xs b)) ∙ fold-roll-Field Field (field_moved to) (Field-F.Pair s n a xs b))
      (record {
        spelled = spelled_as (pair_field_is s n a xs b) (pair_field_is (to s) (moved_name to n) (to a) ys (to b))
            (mark to k.Pair s ⊕ name_moves to n ⊕ mark to k.OpenBrace a ⊕ each_within to field_words field_nesting (moved_field to) d inside xs fit ⊕ mark to k.CloseBrace b);
        deep = pair_field_nest (to s) (moved_name to n) (to a) ys (to b) ∙ ap (λ m. suc m) (most_within to field_words field_nesting (moved_field to) d inside xs fit)
            ∙ sym (pair_field_nest s n a xs b);
      })

  module _ (depth : ℕ) (inside : (d : ℕ) → suc d ≤ depth → (f : Field) → field_nesting f ≤ d → FieldKeeps f) where
    abbrev Claim : Field → Type 0
    Claim f = field_nesting f ≤ depth → FieldKeeps f

    by_layer : (f : Field-F Field) → Claim (roll-Field f)
    by_layer (Field-F.Number x s n b e) = subst Claim (sym (rolls-Number x s n b e)) (λ fit. number_keeps x s n b e)
    by_layer (Field-F.Flag x s n e) = subst Claim (sym (rolls-Flag x s n e)) (λ fit. flag_keeps x s n e)
    by_layer (Field-F.Set s n a xs b e) = subst Claim (sym (rolls-Set s n a xs b e)) (λ fit. set_keeps s n a xs b e)
    by_layer (Field-F.Pair s n a xs b) = subst Claim (sym (rolls-Pair s n a xs b))
        (λ fit. pair_keeps s n a xs b (most field_nesting xs) (inside (most field_nesting xs) (omega (arith, pair_field_nest s n a xs b, fit))) (omega arith))

    field_at : (f : Field) → Claim f
    field_at f = subst Claim (roll-out-Field f) (by_layer (out-Field f))

  below : (depth : ℕ) (d : ℕ) → suc d ≤ depth → (f : Field) → field_nesting f ≤ d → FieldKeeps f
  below zero d less f fit = absurd (omega (arith, less))
  below (suc depth) d less f fit = field_at depth (below depth) f (omega (arith, less, fit))

  field_keeps : (f : Field) → FieldKeeps f
  field_keeps f = below (suc (field_nesting f)) (field_nesting f) (omega arith) f (omega arith)

  object_moves : (o : Object) → Moves to (object_words o) (object_words (moved_object to o))
  object_moves o = mark to k.Object o.word ⊕ mark to k.OpenBrace o.open_brace ⊕ each_moves to field_words (moved_field to) (λ f. (field_keeps f).spelled) o.fields ⊕ mark to k.CloseBrace o.close_brace

  value_moves : (v : Value) → Moves to (value_words v) (value_words (moved_value to v))
  value_moves (value.Int i) = int_moves to i
  value_moves (value.On word) = mark to k.On word
  value_moves (value.Off word) = mark to k.Off word
  value_moves (value.Set open_brace atoms close_brace) = mark to k.OpenBrace open_brace ⊕ each_moves to name_words (moved_name to) (name_moves to) atoms ⊕ mark to k.CloseBrace close_brace

  setting_moves : (s : Setting) → Moves to (setting_words s) (setting_words (moved_setting to s))
  setting_moves s = path_moves to s.path ⊕ mark to k.Equal s.equal ⊕ value_moves s.value ⊕ mark to k.Semicolon s.semicolon

  start_moves : (s : Start) → Moves to (start_words s) (start_words (moved_start to s))
  start_moves s = mark to k.Start s.word ⊕ mark to k.OpenBrace s.open_brace ⊕ each_moves to setting_words (moved_setting to) setting_moves s.settings ⊕ mark to k.CloseBrace s.close_brace

  -- ---- the plan

  invariant_moves : (i : Invariant) → Moves to (invariant_words i) (invariant_words (moved_invariant to i))
  invariant_moves i = mark to k.Invariant i.word ⊕ (cond_keeps to i.cond).spelled ⊕ mark to k.Semicolon i.semicolon

  param_moves : (p : Param) → Moves to (param_words p) (param_words (moved_param to p))
  param_moves p = name_moves to p.name ⊕ bounds_moves to p.bounds

  assigned_moves : (a : Assigned) → Moves to (assigned_words a) (assigned_words (moved_assigned to a))
  assigned_moves (assigned.Term t) = term_moves to t
  assigned_moves (assigned.On word) = mark to k.On word
  assigned_moves (assigned.Off word) = mark to k.Off word

  change_moves : (c : Change) → Moves to (change_words c) (change_words (moved_change to c))
  change_moves (change.Assign path sign value semicolon) = path_moves to path ⊕ mark to k.Assign sign ⊕ assigned_moves value ⊕ mark to k.Semicolon semicolon
  change_moves (change.Insert word atom into_word set semicolon) =
      mark to k.Insert word ⊕ name_moves to atom ⊕ mark to k.Into into_word ⊕ path_moves to set ⊕ mark to k.Semicolon semicolon

  branch_moves : (b : Branch) → Moves to (branch_words b) (branch_words (moved_branch to b))
  branch_moves b =
      mark to k.When b.word ⊕ (cond_keeps to b.cond).spelled ⊕ mark to k.OpenBrace b.open_brace ⊕ each_moves to change_words (moved_change to) change_moves b.changes
      ⊕ mark to k.CloseBrace b.close_brace

  txn_moves : (t : Txn) → Moves to (txn_words t) (txn_words (moved_txn to t))
  txn_moves t =
      mark to k.Txn t.word ⊕ name_moves to t.name ⊕ mark to k.OpenParen t.open_paren
      ⊕ maybe_moves to (chain_words k.Comma param_words) (moved_chain to (moved_param to)) (chain_moves to k.Comma param_words (moved_param to) param_moves) t.params
      ⊕ mark to k.CloseParen t.close_paren ⊕ mark to k.OpenBrace t.open_brace ⊕ each_moves to branch_words (moved_branch to) branch_moves t.branches
      ⊕ mark to k.CloseBrace t.close_brace

  point_moves : (p : Point) → Moves to (point_words p) (point_words (moved_point to p))
  point_moves p = mark to k.OpenParen p.open_paren ⊕ chain_moves to k.Comma int_words (moved_int to) (int_moves to) p.numbers ⊕ mark to k.CloseParen p.close_paren

  except_moves : (e : Except) → Moves to (except_words e) (except_words (moved_except to e))
  except_moves e = mark to k.Except e.word ⊕ point_moves e.first ⊕ each_moves to point_words (moved_point to) point_moves e.others

  segment_moves : (s : Segment) → Moves to (segment_words s) (segment_words (moved_segment to s))
  segment_moves s =
      mark to k.Segment s.word ⊕ name_moves to s.name ⊕ mark to k.When s.when_word ⊕ (cond_keeps to s.cond).spelled
      ⊕ maybe_moves to except_words (moved_except to) except_moves s.except ⊕ mark to k.Do s.do_word
      ⊕ each_moves to name_words (moved_name to) (name_moves to) s.txns ⊕ mark to k.Semicolon s.semicolon

  depth_moves : (d : Depth) → Moves to (depth_words d) (depth_words (moved_depth to d))
  depth_moves d = mark to k.Depth d.word ⊕ number_moves to d.number ⊕ mark to k.Semicolon d.semicolon

  -- the words after the version number
  pub parts_move : (t : Tree) → Moves to (words_after t) (words_after (moved to t))
  parts_move t =
      object_moves t.object ⊕ start_moves t.start ⊕ invariant_moves t.invariant ⊕ each_moves to txn_words (moved_txn to) txn_moves t.txns
      ⊕ each_moves to segment_words (moved_segment to) segment_moves t.segments ⊕ maybe_moves to depth_words (moved_depth to) depth_moves t.depth ⊕ mark to k.End t.end_word

  -- a tree that is moved spells its words, moved
  pub spelling_moves : (t : Tree) → Moves to (spelling t) (spelling (moved to t))
  spelling_moves t = mark to k.Lucy t.word ⊕ number_moves to t.version ⊕ parts_move t

  -- and is as deep as before
  branch_deep : (b : Branch) → branch_nesting (moved_branch to b) ≡ branch_nesting b
  branch_deep b = (cond_keeps to b.cond).deep

  txn_deep : (t : Txn) → txn_nesting (moved_txn to t) ≡ txn_nesting t
  txn_deep t = most_moved branch_nesting (moved_branch to) branch_deep t.branches

  segment_deep : (s : Segment) → segment_nesting (moved_segment to s) ≡ segment_nesting s
  segment_deep s = (cond_keeps to s.cond).deep

  pub nesting_stays : (t : Tree) → nesting (moved to t) ≡ nesting t
  nesting_stays t =
      let a = most_moved field_nesting (moved_field to) (λ f. (field_keeps f).deep) t.object.fields in
      let b = (cond_keeps to t.invariant.cond).deep in
      let c = most_moved txn_nesting (moved_txn to) txn_deep t.txns in
      let d = most_moved segment_nesting (moved_segment to) segment_deep t.segments in
      rw (a, b, c, d) refl
