-- Conditions are read alike where the words agree.
use Rattle.std.proofs.Common.{◌≡◌, ℕ, zero, suc, List, [], ◌∷◌, Option, Some, None, refl}
use Rattle.lucy_lexer.specs.declared.token.TokenKind.{TokenKind}
use Rattle.lucy_lexer.specs.declared.token.TokenKind.TheVariants as k
use Rattle.lucy_tree.specs.declared.marks.Name.{Name}
use Rattle.lucy_tree.specs.declared.marks.Then.{Then}
use Rattle.lucy_tree.specs.declared.marks.Chain.{Chain}
use Rattle.lucy_tree.specs.declared.terms.Term.{Term}
use Rattle.lucy_tree.specs.declared.terms.Relation.{Relation}
use Rattle.lucy_tree.specs.declared.terms.Factor.TheVariants as the_factor
use Rattle.lucy_tree.specs.declared.conditions.Cond.{Cond}
use Rattle.lucy_tree.specs.declared.conditions.Unary.{Unary}
use Rattle.lucy_tree.specs.Spelling.{relation_kind}
use Rattle.lucy_syntax.specs.Input.{Parser}
use Rattle.lucy_syntax.specs.Terms.{relation_of}
use Rattle.lucy_syntax.specs.Conditions.{compared_by, compared, comparison, compared_path, member_by, member, after_path_by, after_path, from_path, negated, in_parens, unary_by, unary_in, ands, conj_in, ors, disj_in, implied, implied_by, cond_in, inner_cond, inner_unary, cond}
use Rattle.lucy_syntax_laws.proofs.Agreeing.{Same, any, empty, single, bind, skip, gives, refuses, looks, expects, opens, chain_same}
use Rattle.lucy_syntax_laws.proofs.TermsAgree.{path_same, product_after_same, term_after_same, term_same}

module _ (Later : ℕ → Type 0) where
  compared_by_same : (left left' : Term) (r : Option Relation) → Same Later 1 any (compared_by left r) (compared_by left' r)
  compared_by_same left left' None = refuses
  compared_by_same left left' (Some r) = bind (expects Later (relation_kind r)) (λ _ _ _. bind (term_same Later) (λ _ _ _. gives refl))

  compared_same : (left left' : Term) → Same Later 1 any (compared left) (compared left')
  unfolding compared
  compared_same left left' = looks (λ kind. compared_by_same left left' (relation_of kind))

  comparison_same : Same Later 1 any comparison comparison
  unfolding comparison
  comparison_same = bind (term_same Later) (λ s t _. compared_same s t)

  compared_path_same : (p q : Chain Name) → Same Later 0 any (compared_path p) (compared_path q)
  unfolding compared_path
  compared_path_same p q = bind (product_after_same Later (the_factor.Path p) (the_factor.Path q)) (λ f g _. bind (term_after_same Later None None f g) (λ s t _. compared_same s t))

  member_by_same : (p q : Chain Name) (ts us : List (Then Name)) → empty ts ≡ empty us → Same Later 0 any (member_by p ts) (member_by q us)
  member_by_same p q [] [] e = skip (expects Later k.In) (λ _ _ _. skip (path_same Later) (λ _ _ _. gives refl))
  member_by_same p q [] (u ∷ us) e = absurd cc
  member_by_same p q (t ∷ ts) [] e = absurd cc
  member_by_same p q (t ∷ ts) (u ∷ us) e = gives refl

  member_same : (p q : Chain Name) → single p ≡ single q → Same Later 0 any (member p) (member q)
  unfolding member
  member_same p q e = member_by_same p q p.others q.others e

  after_path_by_same : (p q : Chain Name) → single p ≡ single q → (kind : Option TokenKind) → Same Later 0 any (after_path_by p kind) (after_path_by q kind)
  after_path_by_same p q e (Some k.In) = member_same p q e
  after_path_by_same p q e (Some k.Plus) = compared_path_same p q
  after_path_by_same p q e (Some k.Minus) = compared_path_same p q
  after_path_by_same p q e (Some k.Star) = compared_path_same p q
  after_path_by_same p q e (Some k.LessEqual) = compared_path_same p q
  after_path_by_same p q e (Some k.Less) = compared_path_same p q
  after_path_by_same p q e (Some k.GreaterEqual) = compared_path_same p q
  after_path_by_same p q e (Some k.Greater) = compared_path_same p q
  after_path_by_same p q e (Some k.Equal) = compared_path_same p q
  after_path_by_same p q e (Some k.NotEqual) = compared_path_same p q
  after_path_by_same p q e _ = gives refl

  after_path_same : (p q : Chain Name) → single p ≡ single q → Same Later 0 any (after_path p) (after_path q)
  unfolding after_path
  after_path_same p q e = looks (after_path_by_same p q e)

  from_path_same : Same Later 1 any from_path from_path
  unfolding from_path
  from_path_same = bind (path_same Later) after_path_same

-- what stands inside a nesting is passed in
module _ (Later : ℕ → Type 0) (depth : ℕ) (ic : Parser Cond) (iu : Parser Unary) (conds : Same Later 1 any ic ic) (unaries : Same Later 1 any iu iu) where
  negated_same : Same Later 1 any (negated depth ic iu) (negated depth ic iu)
  unfolding negated
  negated_same = bind (opens Later depth k.Not) (λ _ _ _. bind unaries (λ _ _ _. gives refl))

  in_parens_same : Same Later 1 any (in_parens depth ic iu) (in_parens depth ic iu)
  unfolding in_parens
  in_parens_same = bind (opens Later depth k.OpenParen) (λ _ _ _. bind conds (λ _ _ _. bind (expects Later k.CloseParen) (λ _ _ _. gives refl)))

  unary_by_same : (kind : Option TokenKind) → Same Later 1 any (unary_by depth ic iu kind) (unary_by depth ic iu kind)
  unary_by_same (Some k.Not) = negated_same
  unary_by_same (Some k.True) = bind (expects Later k.True) (λ _ _ _. gives refl)
  unary_by_same (Some k.False) = bind (expects Later k.False) (λ _ _ _. gives refl)
  unary_by_same (Some k.OpenParen) = in_parens_same
  unary_by_same (Some k.Name) = from_path_same Later
  unary_by_same (Some (k.Number value)) = comparison_same Later
  unary_by_same (Some k.Minus) = comparison_same Later
  unary_by_same (Some k.Size) = comparison_same Later
  unary_by_same _ = refuses

  unary_same : Same Later 1 any (unary_in depth ic iu) (unary_in depth ic iu)
  unfolding unary_in
  unary_same = looks unary_by_same

  conj_same : Same Later 1 single (conj_in depth ic iu) (conj_in depth ic iu)
  unfolding conj_in ands
  conj_same = chain_same Later any (unary_in depth ic iu) unary_same k.And

  disj_same : Same Later 1 single (disj_in depth ic iu) (disj_in depth ic iu)
  unfolding disj_in ors
  disj_same = chain_same Later single (conj_in depth ic iu) conj_same k.Or

  implied_same : Same Later 0 any (implied depth ic iu) (implied depth ic iu)
  unfolding implied
  implied_same = skip (opens Later depth k.Arrow) (λ _ _ _. skip conds (λ _ _ _. gives refl))

  implied_by_same : (kind : Option TokenKind) → Same Later 0 any (implied_by depth ic iu kind) (implied_by depth ic iu kind)
  implied_by_same (Some k.Arrow) = implied_same
  implied_by_same _ = gives refl

  cond_in_same : Same Later 1 any (cond_in depth ic iu) (cond_in depth ic iu)
  unfolding cond_in
  cond_in_same = bind disj_same (λ _ _ _. bind (looks implied_by_same) (λ _ _ _. gives refl))

mutual
  unfolding inner_cond

  inner_cond_same : (Later : ℕ → Type 0) (d : ℕ) → Same Later 1 any (inner_cond d) (inner_cond d)
  inner_cond_same Later zero = refuses
  inner_cond_same Later (suc d) = cond_in_same Later d (inner_cond d) (inner_unary d) (inner_cond_same Later d) (inner_unary_same Later d)

  inner_unary_same : (Later : ℕ → Type 0) (d : ℕ) → Same Later 1 any (inner_unary d) (inner_unary d)
  inner_unary_same Later zero = refuses
  inner_unary_same Later (suc d) = unary_same Later d (inner_cond d) (inner_unary d) (inner_cond_same Later d) (inner_unary_same Later d)

pub cond_same : (Later : ℕ → Type 0) (d : ℕ) → Same Later 1 any (cond d) (cond d)
cond_same Later d = cond_in_same Later d (inner_cond d) (inner_unary d) (inner_cond_same Later d) (inner_unary_same Later d)
