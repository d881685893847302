-- Conditions whose places are moved: what they spell, and how deep they are.
use Rattle.std.proofs.Common.{◌≡◌, ℕ, zero, suc, max, ◌≤◌, List, [], ◌∷◌, map, Option, Some, None, refl, sym, ap, subst, ◌∙◌, arith}
use Rattle.std.specs.Prelude.{option_map}
use Rattle.lucy_lexer.specs.declared.token.TokenKind.{TokenKind}
use Rattle.lucy_lexer.specs.declared.token.TokenKind.TheVariants as k
use Rattle.lucy_tree.specs.declared.marks.Span.{Span}
use Rattle.lucy_tree.specs.declared.marks.Name.{Name}
use Rattle.lucy_tree.specs.declared.marks.Then.{Then}
use Rattle.lucy_tree.specs.declared.marks.Chain.{Chain}
use Rattle.lucy_tree.specs.declared.terms.Term.{Term}
use Rattle.lucy_tree.specs.declared.terms.Relation.{Relation}
use Rattle.lucy_tree.specs.declared.conditions.Cond.{Cond, Cond-F, roll-Cond, out-Cond, roll-out-Cond, fold-roll-Cond}
use Rattle.lucy_tree.specs.declared.conditions.Unary.{Unary, fold-roll-Unary}
use Rattle.lucy_tree.specs.declared.conditions.Unary.TheOpen.{Unary-F}
use Rattle.lucy_tree.specs.declared.conditions.Unary.TheVariants as form
use Rattle.lucy_tree.specs.declared.conditions.Unary.TheVariants.{rolls-Not, rolls-True, rolls-False, rolls-Parens, rolls-Member, rolls-Compare, rolls-Flag}
use Rattle.lucy_tree.specs.Words.{Words, each, then_words, chain_words, maybe}
use Rattle.lucy_tree.specs.Spelling.{relation_kind, unary_words, cond_words}
use Rattle.lucy_tree.specs.Nesting.{most, then_nesting, chain_nesting, implied_nesting, unary_nesting, cond_nesting}
use Rattle.lucy_tree.proofs.Cases.{each_form}
use Rattle.lucy_tree.proofs.Spelled.{cond_is, not_is, true_is, false_is, parens_is, member_is, compare_is, flag_is, cond_nest, not_nest, true_nest, false_nest, parens_nest, member_nest, compare_nest, flag_nest}
use Rattle.lucy_print_laws.specs.Moving.{moved_word, moved_name, moved_then, moved_chain, moved_path, moved_term, unary_moved, cond_moved, moved_unary, moved_cond}
use Rattle.lucy_print_laws.proofs.MovedWords.{Moves, ◌⊕◌, mark, none, name_moves, path_moves, term_moves}

-- a node x that is moved to y: its words are moved, and it is as deep as it was
pub record Keeps (to : Span → Span) {A : Type 0} (f : A → Words) (n : A → ℕ) (x y : A) : Type 0 where
  pub spelled : Moves to (f x) (f y)
  pub deep : n y ≡ n x

-- the words of both nodes, written out
pub spelled_as : {to : Span → Span} {us us' vs vs' : Words} → us ≡ us' → vs ≡ vs' → Moves to us' vs' → Moves to us vs
spelled_as {to} {us} {us'} {vs} {vs'} e f m = record { words = f ∙ m.words ∙ ap (map (moved_word to)) (sym e) }

-- parts that are replaced, their marks kept
abbrev then_map : {X Y : Type 0} → (X → Y) → Then X → Then Y
then_map g t = record { mark = t.mark; item = g t.item }

abbrev chain_map : {X Y : Type 0} → (X → Y) → Chain X → Chain Y
chain_map g c = record { first = g c.first; others = map (then_map g) c.others }

module _ (to : Span → Span) where
  -- ---- parts of one depth at the most

  module _ {A : Type 0} (f : A → Words) (n : A → ℕ) (g : A → A) (d : ℕ) (all : (x : A) → n x ≤ d → Keeps to f n x (g x)) where
    pub each_within : (xs : List A) → most n xs ≤ d → Moves to (each f xs) (each f (map g xs))
    each_within [] fit = none to
    each_within (x ∷ xs) fit = (all x (omega (arith, fit))).spelled ⊕ each_within xs (omega (arith, fit))

    pub most_within : (xs : List A) → most n xs ≤ d → most n (map g xs) ≡ most n xs
    most_within [] fit = refl
    most_within (x ∷ xs) fit =
        ap (λ m. max m (most n (map g xs))) (all x (omega (arith, fit))).deep ∙ ap (λ m. max (n x) m) (most_within xs (omega (arith, fit)))

    then_within : (kind : TokenKind) (t : Then A) → n t.item ≤ d → Keeps to (then_words kind f) (then_nesting n) t (moved_then to g t)
    then_within kind t fit = let kept = all t.item fit in record { spelled = mark to kind t.mark ⊕ kept.spelled; deep = kept.deep }

  pub chain_within : {A : Type 0} (kind : TokenKind) (f : A → Words) (n : A → ℕ) (g : A → A) (d : ℕ) → ((x : A) → n x ≤ d → Keeps to f n x (g x))
      → (c : Chain A) → chain_nesting n c ≤ d → Keeps to (chain_words kind f) (chain_nesting n) c (moved_chain to g c)
  chain_within kind f n g d all c fit =
      let first = all c.first (omega (arith, fit)) in
      let others : most (then_nesting n) c.others ≤ d = omega (arith, fit) in
      let each = then_within f n g d all kind in
      record {
        spelled = first.spelled ⊕ each_within (then_words kind f) (then_nesting n) (moved_then to g) d each c.others others;
        deep = ap (λ m. max m (most (then_nesting n) (map (moved_then to g) c.others))) first.deep
            ∙ ap (λ m. max (n c.first) m) (most_within (then_words kind f) (then_nesting n) (moved_then to g) d each c.others others);
      }

  -- ---- parts that are replaced and then moved

  map_twice : {X Y : Type 0} (f : Y → Y) (g : X → Y) (h : X → Y) → ((x : X) → f (g x) ≡ h x) → (ts : List (Then X))
      → map (moved_then to f) (map (then_map g) ts) ≡ map (moved_then to h) ts
  map_twice f g h e [] = refl
  map_twice f g h e (t ∷ ts) =
      ap (λ y. record { mark = to t.mark; item = y } ∷ map (moved_then to f) (map (then_map g) ts)) (e t.item)
      ∙ ap (λ us. moved_then to h t ∷ us) (map_twice f g h e ts)

  chain_twice : {X Y : Type 0} (f : Y → Y) (g : X → Y) (h : X → Y) → ((x : X) → f (g x) ≡ h x) → (c : Chain X) → moved_chain to f (chain_map g c) ≡ moved_chain to h c
  chain_twice {X} {Y} f g h e c =
      let build : Y → List (Then Y) → Chain Y = λ y ts. record { first = y; others = ts } in
      ap (λ y. build y (map (moved_then to f) (map (then_map g) c.others))) (e c.first) ∙ ap (build (h c.first)) (map_twice f g h e c.others)

  -- the left side and the right one
  abbrev joined : Chain (Chain Unary) → Option (Then Cond) → Cond
  joined left right = roll-Cond (record { left = left; implied = right })

  abbrev layer : Chain (Chain Unary) → Option (Then Cond) → Cond-F Unary Cond
  layer left right = record { left = left; implied = right }

  left_twice : (c : Chain (Chain Unary)) → moved_chain to (moved_chain to (λ u. u)) (chain_map (chain_map (moved_unary to)) c) ≡ moved_chain to (moved_chain to (moved_unary to)) c
  left_twice = chain_twice (moved_chain to (λ u. u)) (chain_map (moved_unary to)) (moved_chain to (moved_unary to)) (chain_twice (λ u. u) (moved_unary to) (moved_unary to) (λ u. refl))

  cond_parts : (left : Chain (Chain Unary)) (right : Option (Then Cond)) → moved_cond to (joined left right) ≡ joined (moved_chain to (moved_chain to (moved_unary to)) left) (option_map (moved_then to (moved_cond to)) right)
  cond_parts left None = fold-roll-Cond Unary Cond (unary_moved to) (cond_moved to) (layer left None) ∙ ap (λ l. joined l None) (left_twice left)
  cond_parts left (Some t) = fold-roll-Cond Unary Cond (unary_moved to) (cond_moved to) (layer left (Some t)) ∙ ap (λ l. joined l (Some (moved_then to (moved_cond to) t))) (left_twice left)

  abbrev UnaryKeeps : Unary → Type 0
  UnaryKeeps u = Keeps to unary_words unary_nesting u (moved_unary to u)

  abbrev CondKeeps : Cond → Type 0
  CondKeeps c = Keeps to cond_words cond_nesting c (moved_cond to c)

  -- ---- what nests

  module _ (depth : ℕ) (cond_inside : (c : Cond) → suc (cond_nesting c) ≤ depth → CondKeeps c) (unary_inside : (u : Unary) → suc (unary_nesting u) ≤ depth → UnaryKeeps u) where
    abbrev Claim : Unary → Type 0
    Claim u = unary_nesting u ≤ depth → UnaryKeeps u

    claim : (u v : Unary) → moved_unary to u ≡ v → Keeps to unary_words unary_nesting u v → UnaryKeeps u
    claim u v e k = subst (λ (w : Unary). Keeps to unary_words unary_nesting u w) (sym e) k

    not_keeps : (s : Span) (u : Unary) → Claim (form.Not s u)
    not_keeps s u fit =
        let kept = unary_inside u (omega (arith, not_nest s u, fit)) in
        claim (form.Not s u) (form.Not (to s) (moved_unary to u)) (ap (moved_unary to) (sym (rolls-Not s u)) ∙ fold-roll-Unary Unary Cond (unary_moved to) (cond_moved to) (Unary-F.Not s u))
        (record { spelled = spelled_as (not_is s u) (not_is (to s) (moved_unary to u)) (mark to k.Not s ⊕ kept.spelled); deep = not_nest (to s) (moved_unary to u) ∙ ap (λ n. suc n) kept.deep ∙ sym (not_nest s u) })

    parens_keeps : (s : Span) (c : Cond) (t : Span) → Claim (form.Parens s c t)
    parens_keeps s c t fit =
        let kept = cond_inside c (omega (arith, parens_nest s c t, fit)) in
        claim (form.Parens s c t) (form.Parens (to s) (moved_cond to c) (to t)) (ap (moved_unary to) (sym (rolls-Parens s c t)) ∙ fold-roll-Unary Unary Cond (unary_moved to) (cond_moved to) (Unary-F.Parens s c t))
        (record {
          spelled = spelled_as (parens_is s c t) (parens_is (to s) (moved_cond to c) (to t)) (mark to k.OpenParen s ⊕ kept.spelled ⊕ mark to k.CloseParen t);
          deep = parens_nest (to s) (moved_cond to c) (to t) ∙ ap (λ n. suc n) kept.deep ∙ sym (parens_nest s c t);
        })

    true_keeps : (s : Span) → Claim (form.True s)
    true_keeps s fit =
        claim (form.True s) (form.True (to s)) (ap (moved_unary to) (sym (rolls-True s)) ∙ fold-roll-Unary Unary Cond (unary_moved to) (cond_moved to) (Unary-F.True s))
        (record { spelled = spelled_as (true_is s) (true_is (to s)) (mark to k.True s); deep = true_nest (to s) ∙ sym (true_nest s) })

    false_keeps : (s : Span) → Claim (form.False s)
    false_keeps s fit =
        claim (form.False s) (form.False (to s)) (ap (moved_unary to) (sym (rolls-False s)) ∙ fold-roll-Unary Unary Cond (unary_moved to) (cond_moved to) (Unary-F.False s))
        (record { spelled = spelled_as (false_is s) (false_is (to s)) (mark to k.False s); deep = false_nest (to s) ∙ sym (false_nest s) })

    member_keeps : (a : Name) (s : Span) (p : Chain Name) → Claim (form.Member a s p)
    member_keeps a s p fit =
        claim (form.Member a s p) (form.Member (moved_name to a) (to s) (moved_path to p)) (ap (moved_unary to) (sym (rolls-Member a s p)) ∙ fold-roll-Unary Unary Cond (unary_moved to) (cond_moved to) (Unary-F.Member a s p))
        (record {
          spelled = spelled_as (member_is a s p) (member_is (moved_name to a) (to s) (moved_path to p)) (name_moves to a ⊕ mark to k.In s ⊕ path_moves to p);
          deep = member_nest (moved_name to a) (to s) (moved_path to p) ∙ sym (member_nest a s p);
        })

    compare_keeps : (l : Term) (r : Relation) (s : Span) (t : Term) → Claim (form.Compare l r s t)
    compare_keeps l r s t fit =
        claim (form.Compare l r s t) (form.Compare (moved_term to l) r (to s) (moved_term to t)) (ap (moved_unary to) (sym (rolls-Compare l r s t)) ∙ fold-roll-Unary Unary Cond (unary_moved to) (cond_moved to) (Unary-F.Compare l r s t))
        (record {
          spelled = spelled_as (compare_is l r s t) (compare_is (moved_term to l) r (to s) (moved_term to t)) (term_moves to l ⊕ mark to (relation_kind r) s ⊕ term_moves to t);
          deep = compare_nest (moved_term to l) r (to s) (moved_term to t) ∙ sym (compare_nest l r s t);
        })

    flag_keeps : (p : Chain Name) → Claim (form.Flag p)
    flag_keeps p fit =
        claim (form.Flag p) (form.Flag (moved_path to p)) (ap (moved_unary to) (sym (rolls-Flag p)) ∙ fold-roll-Unary Unary Cond (unary_moved to) (cond_moved to) (Unary-F.Flag p))
        (record { spelled = spelled_as (flag_is p) (flag_is (moved_path to p)) (path_moves to p); deep = flag_nest (moved_path to p) ∙ sym (flag_nest p) })

    pub unary_within : (u : Unary) → Claim u
    unary_within = each_form Claim not_keeps true_keeps false_keeps parens_keeps member_keeps compare_keeps flag_keeps

    abbrev conj_words : Chain Unary → Words
    conj_words = chain_words k.And unary_words

    conj_within : (c : Chain Unary) → chain_nesting unary_nesting c ≤ depth → Keeps to conj_words (chain_nesting unary_nesting) c (moved_chain to (moved_unary to) c)
    conj_within = chain_within k.And unary_words unary_nesting (moved_unary to) depth unary_within

    disj_within : (c : Chain (Chain Unary)) → chain_nesting (chain_nesting unary_nesting) c ≤ depth
        → Keeps to (chain_words k.Or conj_words) (chain_nesting (chain_nesting unary_nesting)) c (moved_chain to (moved_chain to (moved_unary to)) c)
    disj_within = chain_within k.Or conj_words (chain_nesting unary_nesting) (moved_chain to (moved_unary to)) depth conj_within

    right_within : (t : Option (Then Cond)) → implied_nesting cond_nesting t ≤ depth
        → Keeps to (maybe (then_words k.Arrow cond_words)) (implied_nesting cond_nesting) t (option_map (moved_then to (moved_cond to)) t)
    right_within None fit = record { spelled = none to; deep = refl }
    right_within (Some t) fit = let kept = cond_inside t.item fit in record { spelled = mark to k.Arrow t.mark ⊕ kept.spelled; deep = ap (λ n. suc n) kept.deep }

    abbrev CondClaim : Cond → Type 0
    CondClaim c = cond_nesting c ≤ depth → CondKeeps c

    joined_keeps : (left : Chain (Chain Unary)) (right : Option (Then Cond)) → CondClaim (joined left right)
    joined_keeps left right fit =
        let l = disj_within left (omega (arith, cond_nest (layer left right), fit)) in
        let r = right_within right (omega (arith, cond_nest (layer left right), fit)) in
        let left' = moved_chain to (moved_chain to (moved_unary to)) left in
        let right' = option_map (moved_then to (moved_cond to)) right in
        let keeps : Keeps to cond_words cond_nesting (joined left right) (joined left' right') = record {
          spelled = spelled_as (cond_is (layer left right)) (cond_is (layer left' right')) (l.spelled ⊕ r.spelled);
          deep = cond_nest (layer left' right') ∙ ap (λ n. max n (implied_nesting cond_nesting right')) l.deep
              ∙ ap (λ n. max (chain_nesting (chain_nesting unary_nesting) left) n) r.deep ∙ sym (cond_nest (layer left right));
        } in
        subst (λ (c : Cond). Keeps to cond_words cond_nesting (joined left right) c) (sym (cond_parts left right)) keeps

    rolled_keeps : (c : Cond-F Unary Cond) → CondClaim (roll-Cond c)
    rolled_keeps c = joined_keeps c.left c.implied

    pub cond_within : (c : Cond) → CondClaim c
    cond_within c = subst CondClaim (roll-out-Cond c) (rolled_keeps (out-Cond c))

  mutual
    inner_cond : (d : ℕ) (c : Cond) → suc (cond_nesting c) ≤ d → CondKeeps c
    inner_cond zero c fit = absurd (omega (arith, fit))
    inner_cond (suc d) c fit = cond_within d (inner_cond d) (inner_unary d) c (omega (arith, fit))

    inner_unary : (d : ℕ) (u : Unary) → suc (unary_nesting u) ≤ d → UnaryKeeps u
    inner_unary zero u fit = absurd (omega (arith, fit))
    inner_unary (suc d) u fit = unary_within d (inner_cond d) (inner_unary d) u (omega (arith, fit))

  -- a condition that is moved spells its words, moved, and is as deep as before
  pub cond_keeps : (c : Cond) → CondKeeps c
  cond_keeps c = inner_cond (suc (cond_nesting c)) c (omega arith)
