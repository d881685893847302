-- Objects, transactions, segments and plans that are spelled are read back.
use Rattle.std.proofs.Common.{◌≡◌, ℕ, zero, suc, ◌≤◌, List, [], ◌∷◌, ◌++◌, true, false, Option, Some, None, Ok, refl, sym, subst, append_assoc, arith}
use Rattle.std.specs.List.{list_any}
use Rattle.lucy_lexer.specs.declared.token.TokenKind.TheVariants as k
use Rattle.lucy_lexer.specs.Kind.{is_kind}
use Rattle.lucy_tree.specs.declared.marks.Span.{Span}
use Rattle.lucy_tree.specs.declared.marks.Name.{Name}
use Rattle.lucy_tree.specs.declared.marks.Int.{Int}
use Rattle.lucy_tree.specs.declared.marks.Chain.{Chain}
use Rattle.lucy_tree.specs.declared.marks.Bounds.{Bounds}
use Rattle.lucy_tree.specs.declared.terms.Term.{Term}
use Rattle.lucy_tree.specs.declared.terms.Factor.{Factor}
use Rattle.lucy_tree.specs.declared.terms.Factor.TheVariants as the_factor
use Rattle.lucy_tree.specs.declared.objects.Extreme.{Extreme}
use Rattle.lucy_tree.specs.declared.objects.Extreme.TheVariants as the_extreme
use Rattle.lucy_tree.specs.declared.objects.FlagKind.{FlagKind}
use Rattle.lucy_tree.specs.declared.objects.FlagKind.TheVariants as the_flag
use Rattle.lucy_tree.specs.declared.objects.Field.{Field, roll-Field, out-Field, roll-out-Field}
use Rattle.lucy_tree.specs.declared.objects.Field.TheOpen.{Field-F}
use Rattle.lucy_tree.specs.declared.objects.Field.TheVariants as the_field
use Rattle.lucy_tree.specs.declared.objects.Field.TheVariants.{rolls-Number, rolls-Flag, rolls-Set, rolls-Pair}
use Rattle.lucy_tree.specs.declared.objects.Object.{Object}
use Rattle.lucy_tree.specs.declared.objects.Value.{Value}
use Rattle.lucy_tree.specs.declared.objects.Value.TheVariants as the_value
use Rattle.lucy_tree.specs.declared.objects.Setting.{Setting}
use Rattle.lucy_tree.specs.declared.objects.Start.{Start}
use Rattle.lucy_tree.specs.declared.plans.Invariant.{Invariant}
use Rattle.lucy_tree.specs.declared.plans.Param.{Param}
use Rattle.lucy_tree.specs.declared.plans.Assigned.{Assigned}
use Rattle.lucy_tree.specs.declared.plans.Assigned.TheVariants as the_assigned
use Rattle.lucy_tree.specs.declared.plans.Change.{Change}
use Rattle.lucy_tree.specs.declared.plans.Change.TheVariants as the_change
use Rattle.lucy_tree.specs.declared.plans.Branch.{Branch}
use Rattle.lucy_tree.specs.declared.plans.Txn.{Txn}
use Rattle.lucy_tree.specs.declared.plans.Point.{Point}
use Rattle.lucy_tree.specs.declared.plans.Except.{Except}
use Rattle.lucy_tree.specs.declared.plans.Segment.{Segment}
use Rattle.lucy_tree.specs.declared.plans.Depth.{Depth}
use Rattle.lucy_tree.specs.declared.plans.Tree.{Tree}
use Rattle.lucy_tree.specs.Words.{Words, plain, one, each, chain_words, maybe}
use Rattle.lucy_tree.specs.Spelling.{name_words, number_words, int_words, term_words, bounds_words, extreme_kind, flag_kind, field_words, object_words, value_words, setting_words, start_words, invariant_words, param_words, assigned_words, change_words, branch_words, txn_words, point_words, except_words, segment_words, depth_words, spelling}
use Rattle.lucy_tree.specs.Nesting.{most, cond_nesting, field_nesting, branch_nesting, txn_nesting, segment_nesting, nesting}
use Rattle.lucy_syntax.specs.declared.plans.BranchEnd.{BranchEnd}
use Rattle.lucy_syntax.specs.declared.plans.TxnParams.{TxnParams}
use Rattle.lucy_syntax.specs.declared.plans.TxnEnd.{TxnEnd}
use Rattle.lucy_syntax.specs.declared.plans.PlanHead.{PlanHead}
use Rattle.lucy_syntax.specs.declared.plans.SegmentEnd.{SegmentEnd}
use Rattle.lucy_syntax.specs.declared.plans.PlanEnd.{PlanEnd}
use Rattle.lucy_syntax.specs.Input.{Parser, and_then, kind_in}
use Rattle.lucy_syntax.specs.Terms.{int, term}
use Rattle.lucy_syntax.specs.Objects.{number_field, flag_field, set_field, pair_field, field_by, field_in, fields_in, inner_fields, fields, object, members, value_by, value, setting, settings, start}
use Rattle.lucy_syntax.specs.Objects.{field_words as field_starts}
use Rattle.lucy_syntax.specs.Plans.{invariant, param, more_params, params_by, params, assigned_by, assigned, assign, insert, change_by, change, changes, branch, branches, txn, signature, body, head, block, txns, more_numbers, point, points, excepted, except_by, except, segment, listed, segments, stated_depth, depth_by, depth, parts, plan}
use Rattle.lucy_tree.proofs.Spelled.{number_field_is, flag_field_is, set_field_is, pair_field_is, pair_field_nest}
use Rattle.lucy_syntax.proofs.Giving.{Gives, Begins, starts, gives_bind, gives_last, gives_pure, gives_words, gives_as, right8, right9, gives_look, name_gives, number_gives, expect_gives, opened_gives, chain_back, listed_back}
use Rattle.lucy_syntax.proofs.TermsGiven.{Anything, all_any, names_back, path_back, int_back, bounds_back, term_back}
use Rattle.lucy_syntax.proofs.Follows.{ends_cond}
use Rattle.lucy_syntax.proofs.ConditionsGiven.{all_within, cond_back}

self_extreme : (x : Extreme) → is_kind (extreme_kind x) (extreme_kind x) ≡ true
self_extreme the_extreme.Max = refl
self_extreme the_extreme.Min = refl

self_flag : (x : FlagKind) → is_kind (flag_kind x) (flag_kind x) ≡ true
self_flag the_flag.Or = refl
self_flag the_flag.And = refl

number_field_back : (x : Extreme) (w : Span) (n : Name) (b : Bounds) (e : Span) (rest : Words)
    → Gives (number_field x) (one (extreme_kind x) w ++ name_words n ++ bounds_words b ++ one k.Semicolon e) (the_field.Number x w n b e) rest
unfolding number_field
number_field_back x w n b e rest = gives_as (gives_bind _ (expect_gives (extreme_kind x) (self_extreme x) w) (gives_bind _ (name_gives n) (gives_bind _ (bounds_back b _) (gives_last _ (expect_gives k.Semicolon refl e))))) (simp append_assoc)

flag_field_back : (x : FlagKind) (w : Span) (n : Name) (e : Span) (rest : Words) → Gives (flag_field x) (one (flag_kind x) w ++ name_words n ++ one k.Semicolon e) (the_field.Flag x w n e) rest
unfolding flag_field
flag_field_back x w n e rest = gives_as (gives_bind _ (expect_gives (flag_kind x) (self_flag x) w) (gives_bind _ (name_gives n) (gives_last _ (expect_gives k.Semicolon refl e)))) (simp append_assoc)

set_field_back : (w : Span) (n : Name) (a : Span) (xs : List Name) (b e : Span) (rest : Words)
    → Gives set_field (one k.Set w ++ name_words n ++ one k.OpenBrace a ++ each name_words xs ++ one k.CloseBrace b ++ one k.Semicolon e) (the_field.Set w n a xs b e) rest
unfolding set_field
set_field_back w n a xs b e rest = gives_as (gives_bind _ (expect_gives k.Set refl w) (gives_bind _ (name_gives n) (gives_bind _ (expect_gives k.OpenBrace refl a) (gives_bind _ (names_back xs _ refl) (gives_bind _ (expect_gives k.CloseBrace refl b) (gives_last _ (expect_gives k.Semicolon refl e))))))) (simp append_assoc)

abbrev FieldBegins : Field → Type 0
FieldBegins f = Begins field_starts (field_words f)

field_begins : (f : Field) → FieldBegins f
field_begins f = subst FieldBegins (roll-out-Field f) (by (out-Field f))
  where
    by : (f : Field-F Field) → FieldBegins (roll-Field f)
    by (Field-F.Number x w n b e) = subst FieldBegins (sym (rolls-Number x w n b e)) (record { first = plain (extreme_kind x) w; others = _; are = number_field_is x w n b e; is = is x })
      where
        is : (x : Extreme) → list_any (is_kind (extreme_kind x)) field_starts ≡ true
        is the_extreme.Max = refl
        is the_extreme.Min = refl
    by (Field-F.Flag x w n e) = subst FieldBegins (sym (rolls-Flag x w n e)) (record { first = plain (flag_kind x) w; others = _; are = flag_field_is x w n e; is = is x })
      where
        is : (x : FlagKind) → list_any (is_kind (flag_kind x)) field_starts ≡ true
        is the_flag.Or = refl
        is the_flag.And = refl
    by (Field-F.Set w n a xs b e) = subst FieldBegins (sym (rolls-Set w n a xs b e)) (record { first = plain k.Set w; others = _; are = set_field_is w n a xs b e; is = refl })
    by (Field-F.Pair w n a xs b) = subst FieldBegins (sym (rolls-Pair w n a xs b)) (record { first = plain k.Pair w; others = _; are = pair_field_is w n a xs b; is = refl })

module _ (d : ℕ) (inner : Parser (List Field))
    (inside : (fs : List Field) (rest : Words) → suc (most field_nesting fs) ≤ d → starts field_starts rest ≡ false → Gives inner (each field_words fs) fs rest) where
  abbrev FieldClaim : Field → Type 0
  FieldClaim f = (rest : Words) → field_nesting f ≤ d → Gives (field_in d inner) (field_words f) f rest

  pair_field_back : (w : Span) (n : Name) (a : Span) (xs : List Field) (b : Span) (rest : Words) → suc (most field_nesting xs) ≤ d
      → Gives (pair_field d inner) (one k.Pair w ++ name_words n ++ one k.OpenBrace a ++ each field_words xs ++ one k.CloseBrace b) (the_field.Pair w n a xs b) rest
  unfolding pair_field
  pair_field_back w n a xs b rest fit = gives_as (gives_bind _ (opened_gives d k.Pair refl (omega (arith, fit)) w) (gives_bind _ (name_gives n) (gives_bind _ (expect_gives k.OpenBrace refl a) (gives_bind _ (inside xs _ fit refl) (gives_last _ (expect_gives k.CloseBrace refl b)))))) (simp append_assoc)

  number_in : (x : Extreme) (w : Span) (n : Name) (b : Bounds) (e : Span) → FieldClaim (the_field.Number x w n b e)
  unfolding field_in
  number_in the_extreme.Max w n b e rest fit = gives_words (number_field_is the_extreme.Max w n b e) (gives_look (field_by d inner) (Some k.Max) refl (number_field_back the_extreme.Max w n b e rest))
  number_in the_extreme.Min w n b e rest fit = gives_words (number_field_is the_extreme.Min w n b e) (gives_look (field_by d inner) (Some k.Min) refl (number_field_back the_extreme.Min w n b e rest))

  flag_in : (x : FlagKind) (w : Span) (n : Name) (e : Span) → FieldClaim (the_field.Flag x w n e)
  unfolding field_in
  flag_in the_flag.Or w n e rest fit = gives_words (flag_field_is the_flag.Or w n e) (gives_look (field_by d inner) (Some k.OrFlag) refl (flag_field_back the_flag.Or w n e rest))
  flag_in the_flag.And w n e rest fit = gives_words (flag_field_is the_flag.And w n e) (gives_look (field_by d inner) (Some k.AndFlag) refl (flag_field_back the_flag.And w n e rest))

  set_in : (w : Span) (n : Name) (a : Span) (xs : List Name) (b e : Span) → FieldClaim (the_field.Set w n a xs b e)
  unfolding field_in
  set_in w n a xs b e rest fit = gives_words (set_field_is w n a xs b e) (gives_look (field_by d inner) (Some k.Set) refl (set_field_back w n a xs b e rest))

  pair_in : (w : Span) (n : Name) (a : Span) (xs : List Field) (b : Span) → FieldClaim (the_field.Pair w n a xs b)
  unfolding field_in
  pair_in w n a xs b rest fit = gives_words (pair_field_is w n a xs b) (gives_look (field_by d inner) (Some k.Pair) refl (pair_field_back w n a xs b rest (omega (arith, fit, pair_field_nest w n a xs b))))

  by_layer : (f : Field-F Field) → FieldClaim (roll-Field f)
  by_layer (Field-F.Number x w n b e) = subst FieldClaim (sym (rolls-Number x w n b e)) (number_in x w n b e)
  by_layer (Field-F.Flag x w n e) = subst FieldClaim (sym (rolls-Flag x w n e)) (flag_in x w n e)
  by_layer (Field-F.Set w n a xs b e) = subst FieldClaim (sym (rolls-Set w n a xs b e)) (set_in w n a xs b e)
  by_layer (Field-F.Pair w n a xs b) = subst FieldClaim (sym (rolls-Pair w n a xs b)) (pair_in w n a xs b)

  field_back : (f : Field) → FieldClaim f
  field_back f = subst FieldClaim (roll-out-Field f) (by_layer (out-Field f))

  fields_in_back : (fs : List Field) (rest : Words) → most field_nesting fs ≤ d → starts field_starts rest ≡ false → Gives (fields_in d inner) (each field_words fs) fs rest
  unfolding fields_in
  fields_in_back fs rest fit stop = listed_back field_starts (field_in d inner) field_words (λ f. field_nesting f ≤ d) field_begins (λ f more fit'. field_back f more fit') fs rest (all_within field_nesting d fs fit) stop

inner_fields_back : (d : ℕ) (fs : List Field) (rest : Words) → suc (most field_nesting fs) ≤ d → starts field_starts rest ≡ false → Gives (inner_fields d) (each field_words fs) fs rest
unfolding inner_fields
inner_fields_back zero fs rest fit stop = absurd (omega (arith, fit))
inner_fields_back (suc d) fs rest fit stop = fields_in_back d (inner_fields d) (inner_fields_back d) fs rest (omega (arith, fit)) stop

fields_back : (fs : List Field) (rest : Words) → most field_nesting fs ≤ 64 → starts field_starts rest ≡ false → Gives (fields 64) (each field_words fs) fs rest
fields_back fs rest fit stop = fields_in_back 64 (inner_fields 64) (inner_fields_back 64) fs rest fit stop

object_back : (o : Object) (rest : Words) → most field_nesting o.fields ≤ 64 → Gives object (object_words o) o rest
unfolding object
object_back o rest fit = gives_as (gives_bind _ (expect_gives k.Object refl o.word) (gives_bind _ (expect_gives k.OpenBrace refl o.open_brace) (gives_bind _ (fields_back o.fields _ fit refl) (gives_last _ (expect_gives k.CloseBrace refl o.close_brace))))) (simp append_assoc)

members_back : (a : Span) (xs : List Name) (b : Span) (rest : Words) → Gives members (value_words (the_value.Set a xs b)) (the_value.Set a xs b) rest
unfolding members
members_back a xs b rest = gives_as (gives_bind _ (expect_gives k.OpenBrace refl a) (gives_bind _ (names_back xs _ refl) (gives_last _ (expect_gives k.CloseBrace refl b)))) (simp append_assoc)

value_back : (v : Value) (rest : Words) → Gives value (value_words v) v rest
unfolding value
value_back (the_value.Int i) rest = by i.minus
  where
    by : (m : Option Span) → let j : Int = record { minus = m; number = i.number } in Gives value (int_words j) (the_value.Int j) rest
    by None = gives_look value_by (Some (k.Number i.number.value)) refl (gives_last _ (int_back (record { minus = None; number = i.number }) rest))
    by (Some s) = gives_look value_by (Some k.Minus) refl (gives_last _ (int_back (record { minus = Some s; number = i.number }) rest))
value_back (the_value.On s) rest = gives_look value_by (Some k.On) refl (gives_last _ (expect_gives k.On refl s))
value_back (the_value.Off s) rest = gives_look value_by (Some k.Off) refl (gives_last _ (expect_gives k.Off refl s))
value_back (the_value.Set a xs b) rest = gives_look value_by (Some k.OpenBrace) refl (members_back a xs b rest)

setting_back : (s : Setting) (rest : Words) → Gives setting (setting_words s) s rest
unfolding setting
setting_back s rest = gives_as (gives_bind _ (path_back s.path _ refl) (gives_bind _ (expect_gives k.Equal refl s.equal) (gives_bind _ (value_back s.value _) (gives_last _ (expect_gives k.Semicolon refl s.semicolon))))) (simp append_assoc)

settings_back : (ss : List Setting) (rest : Words) → starts (k.Name ∷ []) rest ≡ false → Gives settings (each setting_words ss) ss rest
unfolding settings
settings_back ss rest stop = listed_back (k.Name ∷ []) setting setting_words Anything (λ s. record { first = _; others = _; are = refl; is = refl }) (λ s more _. setting_back s more) ss rest (all_any ss) stop

start_back : (s : Start) (rest : Words) → Gives start (start_words s) s rest
unfolding start
start_back s rest = gives_as (gives_bind _ (expect_gives k.Start refl s.word) (gives_bind _ (expect_gives k.OpenBrace refl s.open_brace) (gives_bind _ (settings_back s.settings _ refl) (gives_last _ (expect_gives k.CloseBrace refl s.close_brace))))) (simp append_assoc)

invariant_back : (i : Invariant) (rest : Words) → cond_nesting i.cond ≤ 64 → Gives invariant (invariant_words i) i rest
unfolding invariant
invariant_back i rest fit = gives_as (gives_bind _ (expect_gives k.Invariant refl i.word) (gives_bind _ (cond_back 64 i.cond _ fit refl) (gives_last _ (expect_gives k.Semicolon refl i.semicolon)))) (simp append_assoc)

param_back : (p : Param) (rest : Words) → Gives param (param_words p) p rest
unfolding param
param_back p rest = gives_bind _ (name_gives p.name) (gives_last _ (bounds_back p.bounds rest))

params_back : (c : Option (Chain Param)) (s : Span) (rest : Words) → Gives params (maybe (chain_words k.Comma param_words) c) c (one k.CloseParen s ++ rest)
unfolding params more_params
params_back None s rest = gives_look params_by (Some k.CloseParen) refl gives_pure
params_back (Some c) s rest = gives_look params_by (Some k.Name) refl
    (gives_last _ (chain_back k.Comma refl param param_words Anything Anything (λ p more _ _. param_back p more) (λ s' more. tt) c _ tt (all_any c.others) tt refl))

-- a term begins with no `on` or `off`
term_assigned : (t : Term) (ws : Words) → assigned_by (kind_in (term_words t ++ ws)) ≡ (λ i. and_then (term i) (λ t' j. Ok (the_assigned.Term t', j)))
term_assigned t ws = by t.minus t.first.first
  where
    by : (m : Option Span) (f : Factor) → let u : Term = record { minus = m; first = record { first = f; second = t.first.second }; others = t.others } in
        assigned_by (kind_in (term_words u ++ ws)) ≡ (λ i. and_then (term i) (λ t' j. Ok (the_assigned.Term t', j)))
    by (Some s) f = refl
    by None (the_factor.Number n) = refl
    by None (the_factor.Path p) = refl
    by None (the_factor.Size w a p b) = refl

assigned_back : (a : Assigned) (s : Span) (rest : Words) → Gives assigned (assigned_words a) a (one k.Semicolon s ++ rest)
unfolding assigned
assigned_back (the_assigned.Term t) s rest =
    let P : Parser Assigned → Type 0 = λ q. Gives q (term_words t) (the_assigned.Term t) (one k.Semicolon s ++ rest) in
    gives_look assigned_by _ refl (subst P (sym (term_assigned t _)) (gives_last _ (term_back t _ refl)))
assigned_back (the_assigned.On w) s rest = gives_look assigned_by (Some k.On) refl (gives_last _ (expect_gives k.On refl w))
assigned_back (the_assigned.Off w) s rest = gives_look assigned_by (Some k.Off) refl (gives_last _ (expect_gives k.Off refl w))

change_back : (c : Change) (rest : Words) → Gives change (change_words c) c rest
unfolding change assign insert
change_back (the_change.Assign p m v e) rest = gives_look change_by (Some k.Name) refl (gives_as (gives_bind _ (path_back p _ refl) (gives_bind _ (expect_gives k.Assign refl m) (gives_bind _ (assigned_back v e rest) (gives_last _ (expect_gives k.Semicolon refl e))))) (simp append_assoc))
change_back (the_change.Insert w a i p e) rest = gives_look change_by (Some k.Insert) refl (gives_as (gives_bind _ (expect_gives k.Insert refl w) (gives_bind _ (name_gives a) (gives_bind _ (expect_gives k.Into refl i) (gives_bind _ (path_back p _ refl) (gives_last _ (expect_gives k.Semicolon refl e)))))) (simp append_assoc))

change_begins : (c : Change) → Begins (k.Name ∷ k.Insert ∷ []) (change_words c)
change_begins (the_change.Assign p m v e) = record { first = _; others = _; are = refl; is = refl }
change_begins (the_change.Insert w a i p e) = record { first = _; others = _; are = refl; is = refl }

changes_back : (cs : List Change) (rest : Words) → starts (k.Name ∷ k.Insert ∷ []) rest ≡ false → Gives changes (each change_words cs) cs rest
unfolding changes
changes_back cs rest stop = listed_back (k.Name ∷ k.Insert ∷ []) change change_words Anything change_begins (λ c more _. change_back c more) cs rest (all_any cs) stop

block_back : (b : BranchEnd) (rest : Words) → Gives block (one k.OpenBrace b.open_brace ++ each change_words b.changes ++ one k.CloseBrace b.close_brace) b rest
unfolding block
block_back b rest = gives_as (gives_bind _ (expect_gives k.OpenBrace refl b.open_brace) (gives_bind _ (changes_back b.changes _ refl) (gives_last _ (expect_gives k.CloseBrace refl b.close_brace)))) (simp append_assoc)

branch_back : (b : Branch) (rest : Words) → branch_nesting b ≤ 64 → Gives branch (branch_words b) b rest
unfolding branch
branch_back b rest fit = gives_as (gives_bind _ (expect_gives k.When refl b.word) (gives_bind _ (cond_back 64 b.cond _ fit refl) (gives_last _ (block_back (record { open_brace = b.open_brace; changes = b.changes; close_brace = b.close_brace }) rest)))) (simp append_assoc)

branches_back : (bs : List Branch) (rest : Words) → most branch_nesting bs ≤ 64 → starts (k.When ∷ []) rest ≡ false → Gives branches (each branch_words bs) bs rest
unfolding branches
branches_back bs rest fit stop = listed_back (k.When ∷ []) branch branch_words (λ b. branch_nesting b ≤ 64) (λ b. record { first = _; others = _; are = refl; is = refl }) (λ b more f. branch_back b more f) bs rest (all_within branch_nesting 64 bs fit) stop

signature_back : (s : TxnParams) (rest : Words) → Gives signature (one k.OpenParen s.open_paren ++ maybe (chain_words k.Comma param_words) s.params ++ one k.CloseParen s.close_paren) s rest
unfolding signature
signature_back s rest = gives_as (gives_bind _ (expect_gives k.OpenParen refl s.open_paren) (gives_bind _ (params_back s.params s.close_paren _) (gives_last _ (expect_gives k.CloseParen refl s.close_paren)))) (simp append_assoc)

body_back : (b : TxnEnd) (rest : Words) → most branch_nesting b.branches ≤ 64 → Gives body (one k.OpenBrace b.open_brace ++ each branch_words b.branches ++ one k.CloseBrace b.close_brace) b rest
unfolding body
body_back b rest fit = gives_as (gives_bind _ (expect_gives k.OpenBrace refl b.open_brace) (gives_bind _ (branches_back b.branches _ fit refl) (gives_last _ (expect_gives k.CloseBrace refl b.close_brace)))) (simp append_assoc)

txn_back : (t : Txn) (rest : Words) → txn_nesting t ≤ 64 → Gives txn (txn_words t) t rest
unfolding txn
txn_back t rest fit =
    gives_as (gives_bind _ (expect_gives k.Txn refl t.word) (gives_bind _ (name_gives t.name) (gives_bind _ (signature_back (record { open_paren = t.open_paren; params = t.params; close_paren = t.close_paren }) _)
    (gives_last _ (body_back (record { open_brace = t.open_brace; branches = t.branches; close_brace = t.close_brace }) rest fit)))))
    (right8 (one k.Txn t.word) (name_words t.name) (one k.OpenParen t.open_paren) (maybe (chain_words k.Comma param_words) t.params) (one k.CloseParen t.close_paren) (one k.OpenBrace t.open_brace) (each branch_words t.branches) (one k.CloseBrace t.close_brace))

txns_back : (ts : List Txn) (rest : Words) → most txn_nesting ts ≤ 64 → starts (k.Txn ∷ []) rest ≡ false → Gives txns (each txn_words ts) ts rest
unfolding txns
txns_back ts rest fit stop = listed_back (k.Txn ∷ []) txn txn_words (λ t. txn_nesting t ≤ 64) (λ t. record { first = _; others = _; are = refl; is = refl }) (λ t more f. txn_back t more f) ts rest (all_within txn_nesting 64 ts fit) stop

point_back : (p : Point) (rest : Words) → Gives point (point_words p) p rest
unfolding point more_numbers
point_back p rest =
    gives_as (gives_bind _ (expect_gives k.OpenParen refl p.open_paren) (gives_bind _ (chain_back k.Comma refl int int_words Anything Anything (λ i more _ _. int_back i more) (λ s more. tt) p.numbers _ tt (all_any p.numbers.others) tt refl)
    (gives_last _ (expect_gives k.CloseParen refl p.close_paren)))) (simp append_assoc)

points_back : (ps : List Point) (rest : Words) → starts (k.OpenParen ∷ []) rest ≡ false → Gives points (each point_words ps) ps rest
unfolding points
points_back ps rest stop = listed_back (k.OpenParen ∷ []) point point_words Anything (λ p. record { first = _; others = _; are = refl; is = refl }) (λ p more _. point_back p more) ps rest (all_any ps) stop

except_back : (e : Option Except) (s : Span) (rest : Words) → Gives except (maybe except_words e) e (one k.Do s ++ rest)
unfolding except excepted
except_back None s rest = gives_look except_by (Some k.Do) refl gives_pure
except_back (Some e) s rest = gives_look except_by (Some k.Except) refl (gives_as (gives_bind _ (expect_gives k.Except refl e.word) (gives_bind _ (point_back e.first _) (gives_last _ (points_back e.others _ refl)))) (simp append_assoc))

abbrev end_words : SegmentEnd → Words
end_words l = maybe except_words l.except ++ one k.Do l.do_word ++ each name_words l.txns ++ one k.Semicolon l.semicolon

segment_end_back : (l : SegmentEnd) (rest : Words) → Gives listed (end_words l) l rest
unfolding listed
segment_end_back l rest =
    gives_as (gives_bind _ (except_back l.except l.do_word _) (gives_bind _ (expect_gives k.Do refl l.do_word) (gives_bind _ (names_back l.txns _ refl) (gives_last _ (expect_gives k.Semicolon refl l.semicolon))))) (simp append_assoc)

segment_back : (s : Segment) (rest : Words) → segment_nesting s ≤ 64 → Gives segment (segment_words s) s rest
unfolding segment
segment_back s rest fit = gives_as (gives_bind _ (expect_gives k.Segment refl s.word) (gives_bind _ (name_gives s.name) (gives_bind _ (expect_gives k.When refl s.when_word) (gives_bind _ (cond_back 64 s.cond _ fit (ends s.except)) (gives_last _ (segment_end_back (record { except = s.except; do_word = s.do_word; txns = s.txns; semicolon = s.semicolon }) rest)))))) (simp append_assoc)
  where
    ends : (e : Option Except) → ends_cond (kind_in ((maybe except_words e ++ one k.Do s.do_word ++ each name_words s.txns ++ one k.Semicolon s.semicolon) ++ rest)) ≡ true
    ends None = refl
    ends (Some e) = refl

segments_back : (ss : List Segment) (rest : Words) → most segment_nesting ss ≤ 64 → starts (k.Segment ∷ []) rest ≡ false → Gives segments (each segment_words ss) ss rest
unfolding segments
segments_back ss rest fit stop = listed_back (k.Segment ∷ []) segment segment_words (λ s. segment_nesting s ≤ 64) (λ s. record { first = _; others = _; are = refl; is = refl }) (λ s more f. segment_back s more f) ss rest (all_within segment_nesting 64 ss fit) stop

depth_back : (d : Option Depth) (s : Span) (rest : Words) → Gives depth (maybe depth_words d) d (one k.End s ++ rest)
unfolding depth stated_depth
depth_back None s rest = gives_look depth_by (Some k.End) refl gives_pure
depth_back (Some d) s rest = gives_look depth_by (Some k.Depth) refl (gives_as (gives_bind _ (expect_gives k.Depth refl d.word) (gives_bind _ (number_gives d.number) (gives_last _ (expect_gives k.Semicolon refl d.semicolon)))) (simp append_assoc))

no_segment : (d : Option Depth) (s : Span) (rest : Words) → starts (k.Segment ∷ []) ((maybe depth_words d ++ one k.End s) ++ rest) ≡ false
no_segment None s rest = refl
no_segment (Some d) s rest = refl

no_txn : (ss : List Segment) (d : Option Depth) (s : Span) (rest : Words) → starts (k.Txn ∷ []) ((each segment_words ss ++ (maybe depth_words d ++ one k.End s)) ++ rest) ≡ false
no_txn [] None s rest = refl
no_txn [] (Some d) s rest = refl
no_txn (x ∷ xs) d s rest = refl

abbrev parts_words : PlanEnd → Words
parts_words l = each txn_words l.txns ++ each segment_words l.segments ++ maybe depth_words l.depth ++ one k.End l.end_word

parts_back : (l : PlanEnd) (rest : Words) → most txn_nesting l.txns ≤ 64 → most segment_nesting l.segments ≤ 64 → Gives parts (parts_words l) l rest
unfolding parts
parts_back l rest f g =
    gives_as (gives_bind _ (txns_back l.txns _ f (no_txn l.segments l.depth l.end_word rest)) (gives_bind _ (segments_back l.segments _ g (no_segment l.depth l.end_word rest)) (gives_bind _ (depth_back l.depth l.end_word rest) (gives_last _ (expect_gives k.End refl l.end_word))))) (simp append_assoc)

abbrev head_words : PlanHead → Words
head_words h = object_words h.object ++ start_words h.start ++ invariant_words h.invariant

head_back : (h : PlanHead) (rest : Words) → most field_nesting h.object.fields ≤ 64 → cond_nesting h.invariant.cond ≤ 64 → Gives head (head_words h) h rest
unfolding head
head_back h rest f g =
    gives_as (gives_bind _ (object_back h.object _ f) (gives_bind _ (start_back h.start _) (gives_last _ (invariant_back h.invariant _ g)))) (append_assoc (object_words h.object) (start_words h.start) (invariant_words h.invariant))

pub plan_back : (t : Tree) (rest : Words) → nesting t ≤ 64 → Gives plan (spelling t) t rest
unfolding plan
plan_back t rest fit =
    gives_as (gives_bind _ (expect_gives k.Lucy refl t.word) (gives_bind _ (number_gives t.version) (gives_bind _ (head_back (record { object = t.object; start = t.start; invariant = t.invariant }) _ (omega (arith, fit)) (omega (arith, fit)))
    (gives_last _ (parts_back (record { txns = t.txns; segments = t.segments; depth = t.depth; end_word = t.end_word }) rest (omega (arith, fit)) (omega (arith, fit)))))))
    (right9 (one k.Lucy t.word) (number_words t.version) (object_words t.object) (start_words t.start) (invariant_words t.invariant) (each txn_words t.txns) (each segment_words t.segments) (maybe depth_words t.depth) (one k.End t.end_word))
