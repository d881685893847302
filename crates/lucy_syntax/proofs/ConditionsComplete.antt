-- Conditions: what was read before the reading stops goes on, and no deeper than was allowed.
use Rattle.std.proofs.Common.{◌≡◌, ℕ, zero, suc, ◌<◌, ◌≤◌, List, [], ◌∷◌, ◌++◌, true, Option, Some, None, Ok, refl, sym, ap, ◌∙◌, append_assoc, arith}
use Rattle.lucy_lexer.specs.declared.token.TokenKind.{TokenKind}
use Rattle.lucy_lexer.specs.declared.token.TokenKind.TheVariants as k
use Rattle.lucy_lexer.specs.Laws.{EqualKinds}
use Rattle.lucy_tree.specs.declared.marks.Name.{Name}
use Rattle.lucy_tree.specs.declared.marks.Then.{Then}
use Rattle.lucy_tree.specs.declared.marks.Chain.{Chain}
use Rattle.lucy_tree.specs.declared.terms.Term.{Term}
use Rattle.lucy_tree.specs.declared.terms.Factor.TheVariants as the_factor
use Rattle.lucy_tree.specs.declared.terms.Relation.{Relation}
use Rattle.lucy_tree.specs.declared.terms.Relation.TheVariants as the_relation
use Rattle.lucy_tree.specs.declared.conditions.Cond.{Cond, roll-Cond}
use Rattle.lucy_tree.specs.declared.conditions.Unary.{Unary}
use Rattle.lucy_tree.specs.declared.conditions.Unary.TheVariants as form
use Rattle.lucy_tree.specs.Words.{one, each, then_words, chain_words, maybe}
use Rattle.lucy_tree.specs.Spelling.{name_words, path_words, term_words, relation_kind, unary_words, cond_words}
use Rattle.lucy_tree.specs.Nesting.{most, then_nesting, chain_nesting, implied_nesting, unary_nesting, cond_nesting}
use Rattle.lucy_syntax.specs.Input.{Parser, opened}
use Rattle.lucy_syntax.specs.Lists.{then_of}
use Rattle.lucy_syntax.specs.Terms.{relation_of}
use Rattle.lucy_syntax.specs.Conditions.{compared_by, compared, comparison, compared_path, member_by, member, after_path_by, after_path, from_path, negated, in_parens, unary_by, unary_in, ands, conj_in, ors, disj_in, implied, implied_by, cond_in, inner_cond, inner_unary, cond}
use Rattle.lucy_tree.proofs.Cases.{each_relation}
use Rattle.lucy_tree.proofs.Spelled.{cond_is, not_is, true_is, false_is, parens_is, member_is, compare_is, flag_is, cond_nest, not_nest, true_nest, false_nest, parens_nest, member_nest, compare_nest, flag_nest}
use Rattle.lucy_syntax.proofs.Taking.{AllOf}
use Rattle.lucy_syntax.proofs.Writable.{is_sign, sign_is_plain, nowhere, some_number, some_number_proper}
use Rattle.lucy_syntax.proofs.Completing.{Goes, Completes, gives, refuses, too_deep, bind, onward, looks, kept, expect_completes, opened_completes, none_opened, chain_completes}
use Rattle.lucy_syntax.proofs.TermsComplete.{path_completes, product_after_completes, term_after_completes, term_completes}

pub most_within : {A : Type 0} (f : A → ℕ) (d : ℕ) (xs : List A) → AllOf (λ x. f x ≤ d) xs → most f xs ≤ d
most_within f d [] all = omega arith
most_within f d (x ∷ xs) all = let a = all.0 in let b = most_within f d xs all.1 in omega (arith, a, b)

chain_within : {A : Type 0} (f : A → ℕ) (d : ℕ) (c : Chain A) → (f c.first ≤ d) × AllOf (λ t. f t.item ≤ d) c.others → chain_nesting f c ≤ d
chain_within f d c all = let a = all.0 in let b = most_within (then_nesting f) d c.others all.1 in omega (arith, a, b)

relation_sign : (r : Relation) → is_sign (relation_kind r) ≡ true
relation_sign = each_relation (λ (r : Relation). is_sign (relation_kind r) ≡ true) refl refl refl refl refl refl

abbrev Within : ℕ → Unary → Type 0
Within depth u = unary_nesting u ≤ depth

abbrev some_term : Term
some_term = record { minus = None; first = record { first = the_factor.Number some_number; second = None }; others = [] }

true_goes : (depth : ℕ) → Goes [] unary_words (Within depth)
true_goes depth = record { value = form.True nowhere; more = one k.True nowhere; spelled = true_is nowhere; proper = (sign_is_plain k.True refl, tt); kept = omega (arith, true_nest nowhere) }

module _ (equal : EqualKinds) (depth : ℕ) where
  compared_by_completes : (left : Term) (r : Option Relation) → Completes (term_words left) unary_words (Within depth) (compared_by left r)
  compared_by_completes left None = refuses (record {
    value = form.Compare left the_relation.Equal nowhere some_term;
    more = one k.Equal nowhere ++ term_words some_term;
    spelled = compare_is left the_relation.Equal nowhere some_term ∙ append_assoc (term_words left) (one k.Equal nowhere) (term_words some_term);
    proper = (sign_is_plain k.Equal refl, (some_number_proper, tt));
    kept = omega (arith, compare_nest left the_relation.Equal nowhere some_term);
  })
  compared_by_completes left (Some r) = bind (expect_completes equal (relation_kind r) (relation_sign r)) (λ mark _. bind (term_completes equal) (λ right _.
      gives (form.Compare left r mark right) (compare_is left r mark right)
      (omega (arith, compare_nest left r mark right))))

  compared_completes : (left : Term) → Completes (term_words left) unary_words (Within depth) (compared left)
  unfolding compared
  compared_completes left = looks (λ kind. compared_by_completes left (relation_of kind))

  comparison_completes : Completes [] unary_words (Within depth) comparison
  unfolding comparison
  comparison_completes = bind (term_completes equal) (λ left _. compared_completes left)

  compared_path_completes : (p : Chain Name) → Completes (path_words p) unary_words (Within depth) (compared_path p)
  unfolding compared_path
  compared_path_completes p = onward (product_after_completes equal (the_factor.Path p)) (λ first _. onward (term_after_completes equal None first) (λ left _. compared_completes left))

  flag_completes : (p : Chain Name) → Completes (path_words p) unary_words (Within depth) (λ i. Ok (form.Flag p, i))
  flag_completes p = gives (form.Flag p) (flag_is p) (omega (arith, flag_nest p))

  member_by_completes : (p : Chain Name) (ts : List (Then Name)) → p.others ≡ ts → Completes (path_words p) unary_words (Within depth) (member_by p ts)
  member_by_completes p [] e =
      let single : path_words p ≡ name_words p.first = ap (λ ts. name_words p.first ++ each (then_words k.Dot name_words) ts) e in
      bind (expect_completes equal k.In refl) (λ word _. bind (path_completes equal) (λ set _.
      gives (form.Member p.first word set)
      (member_is p.first word set ∙ ap (λ ws. (ws ++ one k.In word) ++ path_words set) (sym single))
      (omega (arith, member_nest p.first word set))))
  member_by_completes p (t ∷ ts) e = flag_completes p

  member_completes : (p : Chain Name) → Completes (path_words p) unary_words (Within depth) (member p)
  unfolding member
  member_completes p = member_by_completes p p.others refl

  after_path_by_completes : (p : Chain Name) (kind : Option TokenKind) → Completes (path_words p) unary_words (Within depth) (after_path_by p kind)
  after_path_by_completes p (Some k.In) = member_completes p
  after_path_by_completes p (Some k.Plus) = compared_path_completes p
  after_path_by_completes p (Some k.Minus) = compared_path_completes p
  after_path_by_completes p (Some k.Star) = compared_path_completes p
  after_path_by_completes p (Some k.LessEqual) = compared_path_completes p
  after_path_by_completes p (Some k.Less) = compared_path_completes p
  after_path_by_completes p (Some k.GreaterEqual) = compared_path_completes p
  after_path_by_completes p (Some k.Greater) = compared_path_completes p
  after_path_by_completes p (Some k.Equal) = compared_path_completes p
  after_path_by_completes p (Some k.NotEqual) = compared_path_completes p
  after_path_by_completes p _ = flag_completes p

  after_path_completes : (p : Chain Name) → Completes (path_words p) unary_words (Within depth) (after_path p)
  unfolding after_path
  after_path_completes p = looks (after_path_by_completes p)

  from_path_completes : Completes [] unary_words (Within depth) from_path
  unfolding from_path
  from_path_completes = bind (path_completes equal) (λ p _. after_path_completes p)

-- what stands inside a nesting is passed in; where none may be opened nothing is known of it
negated_completes : (equal : EqualKinds) (depth : ℕ) (ic : Parser Cond) (iu : Parser Unary) → (0 < depth → Completes [] unary_words (λ u. suc (unary_nesting u) ≤ depth) iu)
    → Completes [] unary_words (Within depth) (negated depth ic iu)
unfolding negated
negated_completes equal zero ic iu unaries = too_deep k.Not _ (opened 0 k.Not) (none_opened k.Not) (true_goes 0)
negated_completes equal (suc d) ic iu unaries = bind (opened_completes equal (suc d) k.Not refl) (λ s _. bind (unaries (omega arith)) (λ u fit. gives (form.Not s u) (not_is s u) (omega (arith, not_nest s u, fit))))

in_parens_completes : (equal : EqualKinds) (depth : ℕ) (ic : Parser Cond) (iu : Parser Unary) → (0 < depth → Completes [] cond_words (λ c. suc (cond_nesting c) ≤ depth) ic)
    → Completes [] unary_words (Within depth) (in_parens depth ic iu)
unfolding in_parens
in_parens_completes equal zero ic iu conds = too_deep k.OpenParen _ (opened 0 k.OpenParen) (none_opened k.OpenParen) (true_goes 0)
in_parens_completes equal (suc d) ic iu conds =
    bind (opened_completes equal (suc d) k.OpenParen refl) (λ s _. bind (conds (omega arith)) (λ c fit. bind (expect_completes equal k.CloseParen refl) (λ t _.
    gives (form.Parens s c t) (parens_is s c t) (omega (arith, parens_nest s c t, fit)))))

implied_completes : (equal : EqualKinds) (depth : ℕ) (ic : Parser Cond) (iu : Parser Unary) → (0 < depth → Completes [] cond_words (λ c. suc (cond_nesting c) ≤ depth) ic)
    → Completes [] (maybe (then_words k.Arrow cond_words)) (λ t. implied_nesting cond_nesting t ≤ depth) (implied depth ic iu)
unfolding implied
implied_completes equal zero ic iu conds = too_deep k.Arrow _ (opened 0 k.Arrow) (none_opened k.Arrow) (record { value = None; more = []; spelled = refl; proper = tt; kept = omega arith })
implied_completes equal (suc d) ic iu conds = bind (opened_completes equal (suc d) k.Arrow refl) (λ s _. bind (conds (omega arith)) (λ c fit. gives (Some (then_of s c)) refl fit))

module _ (equal : EqualKinds) (depth : ℕ) (ic : Parser Cond) (iu : Parser Unary) (conds : 0 < depth → Completes [] cond_words (λ c. suc (cond_nesting c) ≤ depth) ic)
    (unaries : 0 < depth → Completes [] unary_words (λ u. suc (unary_nesting u) ≤ depth) iu) where
  unary_by_completes : (kind : Option TokenKind) → Completes [] unary_words (Within depth) (unary_by depth ic iu kind)
  unary_by_completes (Some k.Not) = negated_completes equal depth ic iu unaries
  unary_by_completes (Some k.True) = bind (expect_completes equal k.True refl) (λ s _. gives (form.True s) (true_is s) (omega (arith, true_nest s)))
  unary_by_completes (Some k.False) = bind (expect_completes equal k.False refl) (λ s _. gives (form.False s) (false_is s) (omega (arith, false_nest s)))
  unary_by_completes (Some k.OpenParen) = in_parens_completes equal depth ic iu conds
  unary_by_completes (Some k.Name) = (from_path_completes equal depth)
  unary_by_completes (Some (k.Number value)) = (comparison_completes equal depth)
  unary_by_completes (Some k.Minus) = (comparison_completes equal depth)
  unary_by_completes (Some k.Size) = (comparison_completes equal depth)
  unary_by_completes _ = refuses (true_goes depth)

  unary_completes : Completes [] unary_words (Within depth) (unary_in depth ic iu)
  unfolding unary_in
  unary_completes = looks unary_by_completes

  conj_completes : Completes [] (chain_words k.And unary_words) (λ c. chain_nesting unary_nesting c ≤ depth) (conj_in depth ic iu)
  unfolding conj_in ands
  conj_completes = kept (chain_within unary_nesting depth) (chain_completes equal k.And refl unary_words (Within depth) (unary_in depth ic iu) unary_completes)

  disj_completes : Completes [] (chain_words k.Or (chain_words k.And unary_words)) (λ c. chain_nesting (chain_nesting unary_nesting) c ≤ depth) (disj_in depth ic iu)
  unfolding disj_in ors
  disj_completes = kept (chain_within (chain_nesting unary_nesting) depth)
      (chain_completes equal k.Or refl (chain_words k.And unary_words) (λ c. chain_nesting unary_nesting c ≤ depth) (conj_in depth ic iu) conj_completes)

  implied_by_completes : (kind : Option TokenKind) → Completes [] (maybe (then_words k.Arrow cond_words)) (λ t. implied_nesting cond_nesting t ≤ depth) (implied_by depth ic iu kind)
  implied_by_completes (Some k.Arrow) = implied_completes equal depth ic iu conds
  implied_by_completes _ = gives None refl (omega arith)

  cond_in_completes : Completes [] cond_words (λ c. cond_nesting c ≤ depth) (cond_in depth ic iu)
  unfolding cond_in
  cond_in_completes = bind disj_completes (λ left low. bind (looks implied_by_completes) (λ right fit.
      gives (roll-Cond (record { left = left; implied = right })) (cond_is (record { left = left; implied = right })) (omega (arith, cond_nest (record { left = left; implied = right }), low, fit))))

mutual
  unfolding inner_cond

  inner_cond_completes : (equal : EqualKinds) (d : ℕ) → 0 < d → Completes [] cond_words (λ c. suc (cond_nesting c) ≤ d) (inner_cond d)
  inner_cond_completes equal zero some = absurd (omega (arith, some))
  inner_cond_completes equal (suc d) some = kept (λ c fit. omega (arith, fit)) (cond_in_completes equal d (inner_cond d) (inner_unary d) (inner_cond_completes equal d) (inner_unary_completes equal d))

  inner_unary_completes : (equal : EqualKinds) (d : ℕ) → 0 < d → Completes [] unary_words (λ u. suc (unary_nesting u) ≤ d) (inner_unary d)
  inner_unary_completes equal zero some = absurd (omega (arith, some))
  inner_unary_completes equal (suc d) some = kept (λ u fit. omega (arith, fit)) (unary_completes equal d (inner_cond d) (inner_unary d) (inner_cond_completes equal d) (inner_unary_completes equal d))

pub cond_completes : (equal : EqualKinds) (d : ℕ) → Completes [] cond_words (λ c. cond_nesting c ≤ d) (cond d)
cond_completes equal d = cond_in_completes equal d (inner_cond d) (inner_unary d) (inner_cond_completes equal d) (inner_unary_completes equal d)
