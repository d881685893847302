-- The words of a condition, part by part.
use Rattle.std.proofs.Common.{◌≡◌, ◌++◌, sym, ap, ◌∙◌, append_assoc, codes}
use Rattle.lucy_lexer.specs.declared.token.TokenKind.TheVariants as k
use Rattle.lucy_tree.specs.declared.marks.Chain.{Chain}
use Rattle.lucy_tree.specs.declared.conditions.Cond.{Cond, out-Cond, roll-out-Cond}
use Rattle.lucy_tree.specs.declared.conditions.Unary.TheVariants as form
use Rattle.lucy_tree.specs.declared.conditions.Unary.TheVariants.{rolls-Parens, rolls-Member, rolls-Compare}
use Rattle.lucy_tree.specs.declared.marks.Span.{Span}
use Rattle.lucy_tree.specs.declared.marks.Name.{Name}
use Rattle.lucy_tree.specs.declared.terms.Term.{Term}
use Rattle.lucy_tree.specs.declared.terms.Relation.{Relation}
use Rattle.lucy_tree.specs.Words.{one, then_words, chain_words, maybe}
use Rattle.lucy_tree.specs.Spelling.{name_words, path_words, term_words, relation_kind, unary_words, cond_words}
use Rattle.lucy_tree.proofs.Spelled.{cond_is, parens_is, member_is, compare_is}
use Rattle.lucy_print.specs.Layout.{laid, text_of, written_kind}
use Rattle.lucy_print.proofs.Laying.{laid_append}

-- its left side, then what it implies
pub cond_text : (c : Cond) → laid (cond_words c) ≡ laid (chain_words k.Or (chain_words k.And unary_words) (out-Cond c).left) ++ laid (maybe (then_words k.Arrow cond_words) (out-Cond c).implied)
cond_text c = ap laid (sym (ap cond_words (roll-out-Cond c)) ∙ cond_is (out-Cond c)) ∙ laid_append (chain_words k.Or (chain_words k.And unary_words) (out-Cond c).left) (maybe (then_words k.Arrow cond_words) (out-Cond c).implied)

pub parens_text : (s : Span) (c : Cond) (t : Span) → laid (unary_words (form.Parens s c t)) ≡ codes "( " ++ (laid (cond_words c) ++ codes ") ")
parens_text s c t = ap laid (parens_is s c t) ∙ ap (λ z. codes "( " ++ z) (laid_append (cond_words c) (one k.CloseParen t))

pub member_text : (a : Name) (s : Span) (p : Chain Name) → laid (unary_words (form.Member a s p)) ≡ laid (name_words a) ++ (codes "in " ++ laid (path_words p))
member_text a s p = ap laid (member_is a s p) ∙ laid_append (name_words a ++ one k.In s) (path_words p) ∙ simp append_assoc

pub compare_text : (l : Term) (r : Relation) (s : Span) (t : Term) → laid (unary_words (form.Compare l r s t)) ≡ laid (term_words l) ++ (text_of (written_kind (relation_kind r)) ++ laid (term_words t))
compare_text l r s t = ap laid (compare_is l r s t)
    ∙ laid_append (term_words l ++ one (relation_kind r) s) (term_words t) ∙ ap (λ z. z ++ laid (term_words t)) (laid_append (term_words l) (one (relation_kind r) s))
    ∙ append_assoc (laid (term_words l)) (text_of (written_kind (relation_kind r))) (laid (term_words t))
