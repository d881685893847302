-- The words of conditions and of fields, variant by variant; and how deep they are.
use Rattle.std.proofs.Common.{◌≡◌, ℕ, suc, max, List, [], ◌∷◌, ◌++◌, Option, Some, None, refl, sym, ap, map, ◌∙◌}
use Rattle.lucy_lexer.specs.declared.token.TokenKind.{TokenKind}
use Rattle.lucy_lexer.specs.declared.token.TokenKind.TheVariants as k
use Rattle.lucy_tree.specs.declared.marks.Span.{Span}
use Rattle.lucy_tree.specs.declared.marks.Name.{Name}
use Rattle.lucy_tree.specs.declared.marks.Then.{Then}
use Rattle.lucy_tree.specs.declared.marks.Chain.{Chain}
use Rattle.lucy_tree.specs.declared.marks.Bounds.{Bounds}
use Rattle.lucy_tree.specs.declared.terms.Term.{Term}
use Rattle.lucy_tree.specs.declared.terms.Relation.{Relation}
use Rattle.lucy_tree.specs.declared.conditions.Cond.{Cond, Cond-F, roll-Cond, fold-roll-Cond, map-Cond}
use Rattle.lucy_tree.specs.declared.conditions.Unary.{Unary, fold-roll-Unary}
use Rattle.lucy_tree.specs.declared.conditions.Unary.TheOpen.{Unary-F}
use Rattle.lucy_tree.specs.declared.conditions.Unary.TheVariants as form
use Rattle.lucy_tree.specs.declared.conditions.Unary.TheVariants.{rolls-Not, rolls-True, rolls-False, rolls-Parens, rolls-Member, rolls-Compare, rolls-Flag}
use Rattle.lucy_tree.specs.declared.objects.Extreme.{Extreme}
use Rattle.lucy_tree.specs.declared.objects.FlagKind.{FlagKind}
use Rattle.lucy_tree.specs.declared.objects.Field.{Field}
use Rattle.lucy_tree.specs.declared.objects.Field.TheOpen.{Field-F}
use Rattle.lucy_tree.specs.declared.objects.Field.TheFolds.{fold-roll-Field}
use Rattle.lucy_tree.specs.declared.objects.Field.TheVariants as the_field
use Rattle.lucy_tree.specs.declared.objects.Field.TheVariants.{rolls-Number, rolls-Flag as rolls-FlagField, rolls-Set, rolls-Pair}
use Rattle.lucy_tree.specs.Words.{Words, one, each, then_words, chain_words, maybe}
use Rattle.lucy_tree.specs.Spelling.{name_words, path_words, bounds_words, term_words, relation_kind, unary_step, cond_step, unary_words, cond_words, extreme_kind, flag_kind, field_step, field_words}
use Rattle.lucy_tree.specs.Nesting.{most, then_nesting, chain_nesting, implied_nesting, unary_nest_step, cond_nest_step, unary_nesting, cond_nesting, field_nest_step, field_nesting}

-- ---- lists of parts that are replaced

abbrev then_map : {X Y : Type 0} → (X → Y) → Then X → Then Y
then_map g t = record { mark = t.mark; item = g t.item }

abbrev chain_map : {X Y : Type 0} → (X → Y) → Chain X → Chain Y
chain_map g c = record { first = g c.first; others = map (then_map g) c.others }

pub each-map : {X Y : Type 0} (f : Y → Words) (g : X → Y) (h : X → Words) → ((x : X) → f (g x) ≡ h x) → (xs : List X) → each f (map g xs) ≡ each h xs
each-map f g h e [] = refl
each-map f g h e (x ∷ xs) = ap (λ ws. ws ++ each f (map g xs)) (e x) ∙ ap (λ ws. h x ++ ws) (each-map f g h e xs)

chain_words-map : {X Y : Type 0} (kind : TokenKind) (f : Y → Words) (g : X → Y) (h : X → Words) → ((x : X) → f (g x) ≡ h x) → (c : Chain X) → chain_words kind f (chain_map g c) ≡ chain_words kind h c
chain_words-map kind f g h e c =
    ap (λ ws. ws ++ each (then_words kind f) (map (then_map g) c.others)) (e c.first)
    ∙ ap (λ ws. h c.first ++ ws) (each-map (then_words kind f) (then_map g) (then_words kind h) (λ t. ap (λ ws. one kind t.mark ++ ws) (e t.item)) c.others)

left_is : (c : Chain (Chain Unary)) → chain_words k.Or (chain_words k.And (λ ws. ws)) (chain_map (chain_map unary_words) c) ≡ chain_words k.Or (chain_words k.And unary_words) c
left_is = chain_words-map k.Or (chain_words k.And (λ ws. ws)) (chain_map unary_words) (chain_words k.And unary_words) (chain_words-map k.And (λ ws. ws) unary_words unary_words (λ x. refl))

parts_are : (left : Chain (Chain Unary)) (right : Option (Then Cond)) → cond_step (map-Cond Unary Cond Words Words unary_words cond_words (record { left = left; implied = right }))
    ≡ chain_words k.Or (chain_words k.And unary_words) left ++ maybe (then_words k.Arrow cond_words) right
parts_are left None = ap (λ ws. ws ++ []) (left_is left)
parts_are left (Some t) = ap (λ ws. ws ++ (one k.Arrow t.mark ++ cond_words t.item)) (left_is left)

pub cond_is : (c : Cond-F Unary Cond) → cond_words (roll-Cond c) ≡ chain_words k.Or (chain_words k.And unary_words) c.left ++ maybe (then_words k.Arrow cond_words) c.implied
cond_is c = fold-roll-Cond Words Words unary_step cond_step c ∙ parts_are c.left c.implied

pub not_is : (s : Span) (u : Unary) → unary_words (form.Not s u) ≡ one k.Not s ++ unary_words u
not_is s u = ap unary_words (sym (rolls-Not s u)) ∙ fold-roll-Unary Words Words unary_step cond_step (Unary-F.Not s u)

pub true_is : (s : Span) → unary_words (form.True s) ≡ one k.True s
true_is s = ap unary_words (sym (rolls-True s)) ∙ fold-roll-Unary Words Words unary_step cond_step (Unary-F.True s)

pub false_is : (s : Span) → unary_words (form.False s) ≡ one k.False s
false_is s = ap unary_words (sym (rolls-False s)) ∙ fold-roll-Unary Words Words unary_step cond_step (Unary-F.False s)

pub parens_is : (s : Span) (c : Cond) (t : Span) → unary_words (form.Parens s c t) ≡ one k.OpenParen s ++ cond_words c ++ one k.CloseParen t
parens_is s c t = ap unary_words (sym (rolls-Parens s c t)) ∙ fold-roll-Unary Words Words unary_step cond_step (Unary-F.Parens s c t)

pub member_is : (a : Name) (s : Span) (p : Chain Name) → unary_words (form.Member a s p) ≡ name_words a ++ one k.In s ++ path_words p
member_is a s p = ap unary_words (sym (rolls-Member a s p)) ∙ fold-roll-Unary Words Words unary_step cond_step (Unary-F.Member a s p)

pub compare_is : (l : Term) (r : Relation) (s : Span) (t : Term) → unary_words (form.Compare l r s t) ≡ term_words l ++ one (relation_kind r) s ++ term_words t
compare_is l r s t = ap unary_words (sym (rolls-Compare l r s t)) ∙ fold-roll-Unary Words Words unary_step cond_step (Unary-F.Compare l r s t)

pub flag_is : (p : Chain Name) → unary_words (form.Flag p) ≡ path_words p
flag_is p = ap unary_words (sym (rolls-Flag p)) ∙ fold-roll-Unary Words Words unary_step cond_step (Unary-F.Flag p)

-- ---- fields

pub number_field_is : (x : Extreme) (s : Span) (n : Name) (b : Bounds) (e : Span) → field_words (the_field.Number x s n b e) ≡ one (extreme_kind x) s ++ name_words n ++ bounds_words b ++ one k.Semicolon e
number_field_is x s n b e = ap field_words (sym (rolls-Number x s n b e)) ∙ fold-roll-Field Words field_step (Field-F.Number x s n b e)

pub flag_field_is : (x : FlagKind) (s : Span) (n : Name) (e : Span) → field_words (the_field.Flag x s n e) ≡ one (flag_kind x) s ++ name_words n ++ one k.Semicolon e
flag_field_is x s n e = ap field_words (sym (rolls-FlagField x s n e)) ∙ fold-roll-Field Words field_step (Field-F.Flag x s n e)

pub set_field_is : (s : Span) (n : Name) (a : Span) (xs : List Name) (b : Span) (e : Span) → field_words (the_field.Set s n a xs b e) ≡ one k.Set s ++ name_words n ++ one k.OpenBrace a ++ each name_words xs ++ one k.CloseBrace b ++ one k.Semicolon e
set_field_is s n a xs b e = ap field_words (sym (rolls-Set s n a xs b e)) ∙ fold-roll-Field Words field_step (Field-F.Set s n a xs b e)

pub pair_field_is : (s : Span) (n : Name) (a : Span) (xs : List Field) (b : Span) → field_words (the_field.Pair s n a xs b) ≡ one k.Pair s ++ name_words n ++ one k.OpenBrace a ++ each field_words xs ++ one k.CloseBrace b
pair_field_is s n a xs b = ap field_words (sym (rolls-Pair s n a xs b)) ∙ fold-roll-Field Words field_step (Field-F.Pair s n a xs b)
    ∙ ap (λ ws. one k.Pair s ++ name_words n ++ one k.OpenBrace a ++ ws ++ one k.CloseBrace b) (each-map (λ ws. ws) field_words field_words (λ x. refl) xs)

-- ---- nesting

most-map : {X Y : Type 0} (f : Y → ℕ) (g : X → Y) (h : X → ℕ) → ((x : X) → f (g x) ≡ h x) → (xs : List X) → most f (map g xs) ≡ most h xs
most-map f g h e [] = refl
most-map f g h e (x ∷ xs) = ap (λ n. max n (most f (map g xs))) (e x) ∙ ap (λ n. max (h x) n) (most-map f g h e xs)

chain_nesting-map : {X Y : Type 0} (f : Y → ℕ) (g : X → Y) (h : X → ℕ) → ((x : X) → f (g x) ≡ h x) → (c : Chain X) → chain_nesting f (chain_map g c) ≡ chain_nesting h c
chain_nesting-map f g h e c =
    ap (λ n. max n (most (then_nesting f) (map (then_map g) c.others))) (e c.first)
    ∙ ap (λ n. max (h c.first) n) (most-map (then_nesting f) (then_map g) (then_nesting h) (λ t. e t.item) c.others)

left_nest : (c : Chain (Chain Unary)) → chain_nesting (chain_nesting (λ n. n)) (chain_map (chain_map unary_nesting) c) ≡ chain_nesting (chain_nesting unary_nesting) c
left_nest = chain_nesting-map (chain_nesting (λ n. n)) (chain_map unary_nesting) (chain_nesting unary_nesting) (chain_nesting-map (λ n. n) unary_nesting unary_nesting (λ x. refl))

parts_nest : (left : Chain (Chain Unary)) (right : Option (Then Cond)) → cond_nest_step (map-Cond Unary Cond ℕ ℕ unary_nesting cond_nesting (record { left = left; implied = right }))
    ≡ max (chain_nesting (chain_nesting unary_nesting) left) (implied_nesting cond_nesting right)
parts_nest left None = ap (λ n. max n 0) (left_nest left)
parts_nest left (Some t) = ap (λ n. max n (suc (cond_nesting t.item))) (left_nest left)

pub cond_nest : (c : Cond-F Unary Cond) → cond_nesting (roll-Cond c) ≡ max (chain_nesting (chain_nesting unary_nesting) c.left) (implied_nesting cond_nesting c.implied)
cond_nest c = fold-roll-Cond ℕ ℕ unary_nest_step cond_nest_step c ∙ parts_nest c.left c.implied

pub not_nest : (s : Span) (u : Unary) → unary_nesting (form.Not s u) ≡ suc (unary_nesting u)
not_nest s u = ap unary_nesting (sym (rolls-Not s u)) ∙ fold-roll-Unary ℕ ℕ unary_nest_step cond_nest_step (Unary-F.Not s u)

pub true_nest : (s : Span) → unary_nesting (form.True s) ≡ 0
true_nest s = ap unary_nesting (sym (rolls-True s)) ∙ fold-roll-Unary ℕ ℕ unary_nest_step cond_nest_step (Unary-F.True s)

pub false_nest : (s : Span) → unary_nesting (form.False s) ≡ 0
false_nest s = ap unary_nesting (sym (rolls-False s)) ∙ fold-roll-Unary ℕ ℕ unary_nest_step cond_nest_step (Unary-F.False s)

pub parens_nest : (s : Span) (c : Cond) (t : Span) → unary_nesting (form.Parens s c t) ≡ suc (cond_nesting c)
parens_nest s c t = ap unary_nesting (sym (rolls-Parens s c t)) ∙ fold-roll-Unary ℕ ℕ unary_nest_step cond_nest_step (Unary-F.Parens s c t)

pub member_nest : (a : Name) (s : Span) (p : Chain Name) → unary_nesting (form.Member a s p) ≡ 0
member_nest a s p = ap unary_nesting (sym (rolls-Member a s p)) ∙ fold-roll-Unary ℕ ℕ unary_nest_step cond_nest_step (Unary-F.Member a s p)

pub compare_nest : (l : Term) (r : Relation) (s : Span) (t : Term) → unary_nesting (form.Compare l r s t) ≡ 0
compare_nest l r s t = ap unary_nesting (sym (rolls-Compare l r s t)) ∙ fold-roll-Unary ℕ ℕ unary_nest_step cond_nest_step (Unary-F.Compare l r s t)

pub flag_nest : (p : Chain Name) → unary_nesting (form.Flag p) ≡ 0
flag_nest p = ap unary_nesting (sym (rolls-Flag p)) ∙ fold-roll-Unary ℕ ℕ unary_nest_step cond_nest_step (Unary-F.Flag p)

pub number_field_nest : (x : Extreme) (s : Span) (n : Name) (b : Bounds) (e : Span) → field_nesting (the_field.Number x s n b e) ≡ 0
number_field_nest x s n b e = ap field_nesting (sym (rolls-Number x s n b e)) ∙ fold-roll-Field ℕ field_nest_step (Field-F.Number x s n b e)

pub flag_field_nest : (x : FlagKind) (s : Span) (n : Name) (e : Span) → field_nesting (the_field.Flag x s n e) ≡ 0
flag_field_nest x s n e = ap field_nesting (sym (rolls-FlagField x s n e)) ∙ fold-roll-Field ℕ field_nest_step (Field-F.Flag x s n e)

pub set_field_nest : (s : Span) (n : Name) (a : Span) (xs : List Name) (b : Span) (e : Span) → field_nesting (the_field.Set s n a xs b e) ≡ 0
set_field_nest s n a xs b e = ap field_nesting (sym (rolls-Set s n a xs b e)) ∙ fold-roll-Field ℕ field_nest_step (Field-F.Set s n a xs b e)

pub pair_field_nest : (s : Span) (n : Name) (a : Span) (xs : List Field) (b : Span) → field_nesting (the_field.Pair s n a xs b) ≡ suc (most field_nesting xs)
pair_field_nest s n a xs b = ap field_nesting (sym (rolls-Pair s n a xs b)) ∙ fold-roll-Field ℕ field_nest_step (Field-F.Pair s n a xs b)
    ∙ ap (λ n. suc n) (most-map (λ n. n) field_nesting field_nesting (λ x. refl) xs)
