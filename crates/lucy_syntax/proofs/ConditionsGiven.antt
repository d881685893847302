-- Conditions that are spelled, and no deeper than is allowed, are read back.
use Rattle.std.proofs.Common.{◌≡◌, ℕ, zero, suc, ◌≤◌, List, [], ◌∷◌, ◌++◌, true, Option, Some, None, Ok, refl, sym, ap, subst, ◌∙◌, append_assoc, arith}
use Rattle.lucy_lexer.specs.declared.token.TokenKind.{TokenKind}
use Rattle.lucy_lexer.specs.declared.token.TokenKind.TheVariants as k
use Rattle.lucy_lexer.specs.Kind.{is_kind}
use Rattle.lucy_tree.specs.declared.marks.Span.{Span}
use Rattle.lucy_tree.specs.declared.marks.Name.{Name}
use Rattle.lucy_tree.specs.declared.marks.Then.{Then}
use Rattle.lucy_tree.specs.declared.marks.Chain.{Chain}
use Rattle.lucy_tree.specs.declared.terms.Term.{Term}
use Rattle.lucy_tree.specs.declared.terms.Added.{Added}
use Rattle.lucy_tree.specs.declared.terms.Product.{Product}
use Rattle.lucy_tree.specs.declared.terms.Factor.{Factor}
use Rattle.lucy_tree.specs.declared.terms.Factor.TheVariants as the_factor
use Rattle.lucy_tree.specs.declared.terms.Sign.{Sign}
use Rattle.lucy_tree.specs.declared.terms.Sign.TheVariants as the_sign
use Rattle.lucy_tree.specs.declared.terms.Relation.{Relation}
use Rattle.lucy_tree.specs.declared.conditions.Cond.{Cond, Cond-F, roll-Cond, out-Cond, roll-out-Cond}
use Rattle.lucy_tree.specs.declared.conditions.Unary.{Unary}
use Rattle.lucy_tree.specs.declared.conditions.Unary.TheVariants as form
use Rattle.lucy_tree.specs.declared.conditions.Unary.TheVariants.{rolls-Not, rolls-True, rolls-False, rolls-Parens, rolls-Member, rolls-Compare, rolls-Flag}
use Rattle.lucy_tree.specs.Words.{Words, one, each, then_words, chain_words, maybe}
use Rattle.lucy_tree.specs.Spelling.{name_words, path_words, factor_words, added_words, sign_kind, term_words, relation_kind, unary_words, cond_words}
use Rattle.lucy_tree.specs.Nesting.{most, then_nesting, chain_nesting, implied_nesting, unary_nesting, cond_nesting}
use Rattle.lucy_syntax.specs.Input.{Parser, and_then, look, input_of, kind_in, peek}
use Rattle.lucy_syntax.specs.Terms.{relation_of}
use Rattle.lucy_syntax.specs.Conditions.{compared_by, compared, comparison, compared_path, member, after_path_by, after_path, from_path, negated, in_parens, unary_by, unary_in, ands, conj_in, ors, disj_in, implied, implied_by, cond_in, inner_cond, inner_unary, cond}
use Rattle.lucy_tree.proofs.Cases.{each_relation, each_form}
use Rattle.lucy_tree.proofs.Spelled.{cond_is, not_is, true_is, false_is, parens_is, member_is, compare_is, flag_is, cond_nest, not_nest, parens_nest}
use Rattle.lucy_syntax.proofs.Giving.{Gives, AllOf, gives_bind, gives_last, gives_pure, gives_words, right4, gives_look, expect_gives, opened_gives, chain_back}
use Rattle.lucy_syntax.proofs.Follows.{ends_path, ends_product, ends_term, ends_unary, ends_conj, ends_disj, ends_cond, no_and, no_or, within}
use Rattle.lucy_syntax.proofs.TermsGiven.{after_product, path_back, product_after_back, term_after_back, term_back}

pub all_within : {A : Type 0} (f : A → ℕ) (d : ℕ) (xs : List A) → most f xs ≤ d → AllOf (λ x. f x ≤ d) xs
all_within f d [] h = tt
all_within f d (x ∷ xs) h = (omega (arith, h), all_within f d xs (omega (arith, h)))

-- ---- comparisons

relation_is : (r : Relation) → relation_of (Some (relation_kind r)) ≡ Some r
relation_is = each_relation (λ (r : Relation). relation_of (Some (relation_kind r)) ≡ Some r) refl refl refl refl refl refl

relation_self : (r : Relation) → is_kind (relation_kind r) (relation_kind r) ≡ true
relation_self = each_relation (λ (r : Relation). is_kind (relation_kind r) (relation_kind r) ≡ true) refl refl refl refl refl refl

relation_ends : (r : Relation) → ends_term (Some (relation_kind r)) ≡ true
relation_ends = each_relation (λ (r : Relation). ends_term (Some (relation_kind r)) ≡ true) refl refl refl refl refl refl

-- the sign and the right side of a comparison
abbrev right_words : Relation → Span → Term → Words
right_words r mark right = one (relation_kind r) mark ++ term_words right

compared_back : (left : Term) (r : Relation) (mark : Span) (right : Term) (rest : Words) → ends_term (kind_in rest) ≡ true
    → Gives (compared left) (right_words r mark right) (form.Compare left r mark right) rest
unfolding compared
compared_back left r mark right rest ok =
    let P : Option Relation → Type 0 = λ x. Gives (compared_by left x) (right_words r mark right) (form.Compare left r mark right) rest in
    gives_look (λ kind. compared_by left (relation_of kind)) (Some (relation_kind r)) refl (subst P (sym (relation_is r)) (gives_bind _ (expect_gives (relation_kind r) (relation_self r) mark) (gives_last _ (term_back right rest ok))))

comparison_back : (left : Term) (r : Relation) (mark : Span) (right : Term) (rest : Words) → ends_term (kind_in rest) ≡ true
    → Gives comparison (term_words left ++ right_words r mark right) (form.Compare left r mark right) rest
unfolding comparison
comparison_back left r mark right rest ok = gives_bind _ (term_back left (right_words r mark right ++ rest) (relation_ends r)) (compared_back left r mark right rest ok)

-- what stands after the first path of a comparison
abbrev tail_words : Option (Then Factor) → List Added → Words → Words
tail_words second others ws = maybe (then_words k.Star factor_words) second ++ (each added_words others ++ ws)

decides : (p : Chain Name) (second : Option (Then Factor)) (others : List Added) (r : Relation) (mark : Span) (right : Term) (rest : Words)
    → (after_path_by p (kind_in (tail_words second others (right_words r mark right) ++ rest)) ≡ compared_path p) × (ends_path (kind_in (tail_words second others (right_words r mark right) ++ rest)) ≡ true)
decides p (Some t) others r mark right rest = (refl, refl)
decides p None (a ∷ as') r mark right rest = by a.sign
  where
    by : (s : Sign) → (after_path_by p (Some (sign_kind s)) ≡ compared_path p) × (ends_path (Some (sign_kind s)) ≡ true)
    by the_sign.Plus = (refl, refl)
    by the_sign.Minus = (refl, refl)
decides p None [] r mark right rest =
    each_relation (λ (s : Relation). (after_path_by p (Some (relation_kind s)) ≡ compared_path p) × (ends_path (Some (relation_kind s)) ≡ true))
    (refl, refl) (refl, refl) (refl, refl) (refl, refl) (refl, refl) (refl, refl) r

compared_path_back : (p : Chain Name) (second : Option (Then Factor)) (others : List Added) (r : Relation) (mark : Span) (right : Term) (rest : Words) → ends_term (kind_in rest) ≡ true
    → Gives (compared_path p) (tail_words second others (right_words r mark right))
    (form.Compare (record { minus = None; first = record { first = the_factor.Path p; second = second }; others = others }) r mark right) rest
unfolding compared_path
compared_path_back p second others r mark right rest ok =
    let first : Product = record { first = the_factor.Path p; second = second } in
    gives_bind _ (product_after_back (the_factor.Path p) second _ (ap (λ ws. ends_product (kind_in ws)) (append_assoc (each added_words others) (right_words r mark right) rest) ∙ after_product others (right_words r mark right ++ rest) (relation_ends r)))
    (gives_bind _ (term_after_back None first others (right_words r mark right ++ rest) (relation_ends r)) (compared_back (record { minus = None; first = first; others = others }) r mark right rest ok))

from_path_back : (p : Chain Name) (second : Option (Then Factor)) (others : List Added) (r : Relation) (mark : Span) (right : Term) (rest : Words) → ends_term (kind_in rest) ≡ true
    → Gives from_path (path_words p ++ tail_words second others (right_words r mark right))
    (form.Compare (record { minus = None; first = record { first = the_factor.Path p; second = second }; others = others }) r mark right) rest
unfolding from_path after_path
from_path_back p second others r mark right rest ok =
    let d = decides p second others r mark right rest in
    let c : Unary = form.Compare (record { minus = None; first = record { first = the_factor.Path p; second = second }; others = others }) r mark right in
    let P : Parser Unary → Type 0 = λ q. Gives q (tail_words second others (right_words r mark right)) c rest in
    gives_bind _ (path_back p (tail_words second others (right_words r mark right) ++ rest) d.1)
    (gives_look (after_path_by p) _ refl (subst P (sym d.0) (compared_path_back p second others r mark right rest ok)))

member_back : (a : Name) (w : Span) (set : Chain Name) (rest : Words) → ends_path (kind_in rest) ≡ true → Gives from_path (name_words a ++ one k.In w ++ path_words set) (form.Member a w set) rest
unfolding from_path after_path member
member_back a w set rest ok =
    let p : Chain Name = record { first = a; others = [] } in
    gives_bind _ {us = path_words p} (path_back p (one k.In w ++ path_words set ++ rest) refl) (gives_look (after_path_by p) (Some k.In) refl (gives_bind _ (expect_gives k.In refl w) (gives_last _ (path_back set rest ok))))

stays : (p : Chain Name) (kind : Option TokenKind) → ends_unary kind ≡ true → after_path_by p kind ≡ (λ i. Ok (form.Flag p, i))
stays p (Some k.Dot) h = absurd cc
stays p (Some k.In) h = absurd cc
stays p (Some k.Plus) h = absurd cc
stays p (Some k.Minus) h = absurd cc
stays p (Some k.Star) h = absurd cc
stays p (Some k.LessEqual) h = absurd cc
stays p (Some k.Less) h = absurd cc
stays p (Some k.GreaterEqual) h = absurd cc
stays p (Some k.Greater) h = absurd cc
stays p (Some k.Equal) h = absurd cc
stays p (Some k.NotEqual) h = absurd cc
stays p _ h = refl

flag_back : (p : Chain Name) (rest : Words) → ends_unary (kind_in rest) ≡ true → Gives from_path (path_words p) (form.Flag p) rest
unfolding from_path after_path peek
flag_back p rest ok = record {
  reads = λ end.
      ap (λ r. and_then r after_path) ((path_back p rest (within 0 (kind_in rest) (within 1 (kind_in rest) (within 2 (kind_in rest) ok)))).reads end)
      ∙ ap (λ q. q (input_of rest end)) (stays p (kind_in rest) ok);
}

-- ---- what nests

module _ (depth : ℕ) (ic : Parser Cond) (iu : Parser Unary)
    (cond_inside : (c : Cond) (rest : Words) → suc (cond_nesting c) ≤ depth → ends_cond (kind_in rest) ≡ true → Gives ic (cond_words c) c rest)
    (unary_inside : (u : Unary) (rest : Words) → suc (unary_nesting u) ≤ depth → ends_unary (kind_in rest) ≡ true → Gives iu (unary_words u) u rest) where
  abbrev Claim : Unary → Type 0
  Claim u = (rest : Words) → unary_nesting u ≤ depth → ends_unary (kind_in rest) ≡ true → Gives (unary_in depth ic iu) (unary_words u) u rest

  not_back : (s : Span) (u : Unary) → Claim (form.Not s u)
  unfolding unary_in negated
  not_back s u rest fit ok =
      let within : suc (unary_nesting u) ≤ depth = omega (arith, not_nest s u, fit) in
      gives_words (not_is s u) (gives_look (unary_by depth ic iu) (Some k.Not) refl (gives_bind _ (opened_gives depth k.Not refl (omega (arith, within)) s) (gives_last _ (unary_inside u rest within ok))))

  parens_back : (s : Span) (c : Cond) (t : Span) → Claim (form.Parens s c t)
  unfolding unary_in in_parens
  parens_back s c t rest fit ok =
      let within : suc (cond_nesting c) ≤ depth = omega (arith, parens_nest s c t, fit) in
      gives_words (parens_is s c t ∙ append_assoc (one k.OpenParen s) (cond_words c) (one k.CloseParen t)) (gives_look (unary_by depth ic iu) (Some k.OpenParen) refl (gives_bind _ (opened_gives depth k.OpenParen refl (omega (arith, within)) s)
      (gives_bind _ (cond_inside c (one k.CloseParen t ++ rest) within refl) (gives_last _ (expect_gives k.CloseParen refl t)))))

  true_back : (s : Span) → Claim (form.True s)
  unfolding unary_in
  true_back s rest fit ok = gives_words (true_is s) (gives_look (unary_by depth ic iu) (Some k.True) refl (gives_last _ (expect_gives k.True refl s)))

  false_back : (s : Span) → Claim (form.False s)
  unfolding unary_in
  false_back s rest fit ok = gives_words (false_is s) (gives_look (unary_by depth ic iu) (Some k.False) refl (gives_last _ (expect_gives k.False refl s)))

  member_in : (a : Name) (w : Span) (set : Chain Name) → Claim (form.Member a w set)
  unfolding unary_in
  member_in a w set rest fit ok =
      gives_words (member_is a w set) (gives_look (unary_by depth ic iu) (Some k.Name) refl (member_back a w set rest (within 0 (kind_in rest) (within 1 (kind_in rest) (within 2 (kind_in rest) ok)))))

  flag_in : (p : Chain Name) → Claim (form.Flag p)
  unfolding unary_in
  flag_in p rest fit ok = gives_words (flag_is p) (gives_look (unary_by depth ic iu) (Some k.Name) refl (flag_back p rest ok))

  by_first : (minus : Option Span) (f : Factor) (second : Option (Then Factor)) (others : List Added) (r : Relation) (mark : Span) (right : Term) (rest : Words) → ends_term (kind_in rest) ≡ true
      → let left : Term = record { minus = minus; first = record { first = f; second = second }; others = others } in
      Gives (unary_in depth ic iu) (term_words left ++ right_words r mark right) (form.Compare left r mark right) rest
  unfolding unary_in
  by_first (Some s) f second others r mark right rest ok = gives_look (unary_by depth ic iu) (Some k.Minus) refl (comparison_back (record { minus = Some s; first = record { first = f; second = second }; others = others }) r mark right rest ok)
  by_first None (the_factor.Number n) second others r mark right rest ok =
      gives_look (unary_by depth ic iu) (Some (k.Number n.value)) refl (comparison_back (record { minus = None; first = record { first = the_factor.Number n; second = second }; others = others }) r mark right rest ok)
  by_first None (the_factor.Size w a p b) second others r mark right rest ok =
      gives_look (unary_by depth ic iu) (Some k.Size) refl (comparison_back (record { minus = None; first = record { first = the_factor.Size w a p b; second = second }; others = others }) r mark right rest ok)
  by_first None (the_factor.Path p) second others r mark right rest ok =
      gives_words (right4 (path_words p) (maybe (then_words k.Star factor_words) second) (each added_words others) (right_words r mark right)) (gives_look (unary_by depth ic iu) (Some k.Name) refl (from_path_back p second others r mark right rest ok))

  compare_back : (left : Term) (r : Relation) (mark : Span) (right : Term) → Claim (form.Compare left r mark right)
  compare_back left r mark right rest fit ok =
      gives_words (compare_is left r mark right ∙ append_assoc (term_words left) (one (relation_kind r) mark) (term_words right)) (by_first left.minus left.first.first left.first.second left.others r mark right rest (within 2 (kind_in rest) ok))

  pub unary_in_back : (u : Unary) → Claim u
  unary_in_back = each_form Claim not_back true_back false_back parens_back member_in compare_back flag_in

  conj_back : (c : Chain Unary) (rest : Words) → chain_nesting unary_nesting c ≤ depth → ends_conj (kind_in rest) ≡ true → Gives (conj_in depth ic iu) (chain_words k.And unary_words c) c rest
  unfolding conj_in ands
  conj_back c rest fit ok =
      chain_back k.And refl (unary_in depth ic iu) unary_words (λ u. unary_nesting u ≤ depth) (λ ws. ends_unary (kind_in ws) ≡ true) (λ u more f next. unary_in_back u more f next) (λ s more. refl) c rest
      (omega (arith, fit)) (all_within (then_nesting unary_nesting) depth c.others (omega (arith, fit))) (within 3 (kind_in rest) ok) (no_and (kind_in rest) ok)

  disj_back : (c : Chain (Chain Unary)) (rest : Words) → chain_nesting (chain_nesting unary_nesting) c ≤ depth → ends_disj (kind_in rest) ≡ true
      → Gives (disj_in depth ic iu) (chain_words k.Or (chain_words k.And unary_words) c) c rest
  unfolding disj_in ors
  disj_back c rest fit ok =
      chain_back k.Or refl (conj_in depth ic iu) (chain_words k.And unary_words) (λ u. chain_nesting unary_nesting u ≤ depth) (λ ws. ends_conj (kind_in ws) ≡ true) (λ u more f next. conj_back u more f next) (λ s more. refl) c rest
      (omega (arith, fit)) (all_within (then_nesting (chain_nesting unary_nesting)) depth c.others (omega (arith, fit))) (within 4 (kind_in rest) ok) (no_or (kind_in rest) ok)

  no_more : (kind : Option TokenKind) → ends_cond kind ≡ true → implied_by depth ic iu kind ≡ (λ i. Ok (None, i))
  no_more (Some k.Arrow) h = absurd cc
  no_more _ h = refl

  right_back : (t : Option (Then Cond)) (rest : Words) → implied_nesting cond_nesting t ≤ depth → ends_cond (kind_in rest) ≡ true
      → Gives (λ i. and_then (look i) (implied_by depth ic iu)) (maybe (then_words k.Arrow cond_words) t) t rest
  unfolding implied
  right_back None rest fit ok =
      let P : Parser (Option (Then Cond)) → Type 0 = λ q. Gives q [] None rest in
      gives_look (implied_by depth ic iu) (kind_in rest) refl (subst P (sym (no_more (kind_in rest) ok)) gives_pure)
  right_back (Some t) rest fit ok =
      gives_look (implied_by depth ic iu) (Some k.Arrow) refl (gives_bind _ (opened_gives depth k.Arrow refl (omega (arith, fit)) t.mark) (gives_last _ (cond_inside t.item rest fit ok)))

  before_right : (t : Option (Then Cond)) (rest : Words) → ends_cond (kind_in rest) ≡ true → ends_disj (kind_in (maybe (then_words k.Arrow cond_words) t ++ rest)) ≡ true
  before_right None rest ok = within 5 (kind_in rest) ok
  before_right (Some t) rest ok = refl

  abbrev CondClaim : Cond → Type 0
  CondClaim c = (rest : Words) → cond_nesting c ≤ depth → ends_cond (kind_in rest) ≡ true → Gives (cond_in depth ic iu) (cond_words c) c rest

  rolled_back : (c : Cond-F Unary Cond) → CondClaim (roll-Cond c)
  unfolding cond_in
  rolled_back c rest fit ok =
      let left : chain_nesting (chain_nesting unary_nesting) c.left ≤ depth = omega (arith, cond_nest c, fit) in
      let right : implied_nesting cond_nesting c.implied ≤ depth = omega (arith, cond_nest c, fit) in
      gives_words (cond_is c) (gives_bind _ (disj_back c.left _ left (before_right c.implied rest ok)) (gives_last _ (right_back c.implied rest right ok)))

  pub cond_in_back : (c : Cond) → CondClaim c
  cond_in_back c = subst CondClaim (roll-out-Cond c) (rolled_back (out-Cond c))

mutual
  unfolding inner_cond

  inner_cond_back : (d : ℕ) (c : Cond) (rest : Words) → suc (cond_nesting c) ≤ d → ends_cond (kind_in rest) ≡ true → Gives (inner_cond d) (cond_words c) c rest
  inner_cond_back zero c rest fit ok = absurd (omega (arith, fit))
  inner_cond_back (suc d) c rest fit ok = cond_in_back d (inner_cond d) (inner_unary d) (inner_cond_back d) (inner_unary_back d) c rest (omega (arith, fit)) ok

  inner_unary_back : (d : ℕ) (u : Unary) (rest : Words) → suc (unary_nesting u) ≤ d → ends_unary (kind_in rest) ≡ true → Gives (inner_unary d) (unary_words u) u rest
  inner_unary_back zero u rest fit ok = absurd (omega (arith, fit))
  inner_unary_back (suc d) u rest fit ok = unary_in_back d (inner_cond d) (inner_unary d) (inner_cond_back d) (inner_unary_back d) u rest (omega (arith, fit)) ok

pub cond_back : (d : ℕ) (c : Cond) (rest : Words) → cond_nesting c ≤ d → ends_cond (kind_in rest) ≡ true → Gives (cond d) (cond_words c) c rest
cond_back d c rest fit ok = cond_in_back d (inner_cond d) (inner_unary d) (inner_cond_back d) (inner_unary_back d) c rest fit ok
