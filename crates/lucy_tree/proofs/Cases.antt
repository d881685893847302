-- What holds of each relation, and of each form of a condition without `and`, `or` and `=>`, holds of all.
use Rattle.std.proofs.Common.{sym, subst}
use Rattle.lucy_tree.specs.declared.marks.Span.{Span}
use Rattle.lucy_tree.specs.declared.marks.Name.{Name}
use Rattle.lucy_tree.specs.declared.marks.Chain.{Chain}
use Rattle.lucy_tree.specs.declared.terms.Term.{Term}
use Rattle.lucy_tree.specs.declared.terms.Relation.{Relation}
use Rattle.lucy_tree.specs.declared.terms.Relation.TheVariants as the_relation
use Rattle.lucy_tree.specs.declared.conditions.Cond.{Cond}
use Rattle.lucy_tree.specs.declared.conditions.Unary.{Unary, roll-Unary, out-Unary, roll-out-Unary}
use Rattle.lucy_tree.specs.declared.conditions.Unary.TheOpen.{Unary-F}
use Rattle.lucy_tree.specs.declared.conditions.Unary.TheVariants as form
use Rattle.lucy_tree.specs.declared.conditions.Unary.TheVariants.{rolls-Not, rolls-True, rolls-False, rolls-Parens, rolls-Member, rolls-Compare, rolls-Flag}

module _ (P : Relation → Type 0) where
  pub each_relation : P the_relation.LessEqual → P the_relation.Less → P the_relation.GreaterEqual → P the_relation.Greater → P the_relation.Equal → P the_relation.NotEqual → (r : Relation) → P r
  each_relation a b c d e f the_relation.LessEqual = a
  each_relation a b c d e f the_relation.Less = b
  each_relation a b c d e f the_relation.GreaterEqual = c
  each_relation a b c d e f the_relation.Greater = d
  each_relation a b c d e f the_relation.Equal = e
  each_relation a b c d e f the_relation.NotEqual = f

module _ (P : Unary → Type 0) (not : (s : Span) (u : Unary) → P (form.Not s u)) (true' : (s : Span) → P (form.True s)) (false' : (s : Span) → P (form.False s))
    (parens : (s : Span) (c : Cond) (t : Span) → P (form.Parens s c t)) (member : (a : Name) (s : Span) (p : Chain Name) → P (form.Member a s p))
    (compare : (l : Term) (r : Relation) (s : Span) (t : Term) → P (form.Compare l r s t)) (flag : (p : Chain Name) → P (form.Flag p)) where
  by_layer : (u : Unary-F Unary Cond) → P (roll-Unary u)
  by_layer (Unary-F.Not s u) = subst P (sym (rolls-Not s u)) (not s u)
  by_layer (Unary-F.True s) = subst P (sym (rolls-True s)) (true' s)
  by_layer (Unary-F.False s) = subst P (sym (rolls-False s)) (false' s)
  by_layer (Unary-F.Parens s c t) = subst P (sym (rolls-Parens s c t)) (parens s c t)
  by_layer (Unary-F.Member a s p) = subst P (sym (rolls-Member a s p)) (member a s p)
  by_layer (Unary-F.Compare l r s t) = subst P (sym (rolls-Compare l r s t)) (compare l r s t)
  by_layer (Unary-F.Flag p) = subst P (sym (rolls-Flag p)) (flag p)

  pub each_form : (u : Unary) → P u
  each_form u = subst P (roll-out-Unary u) (by_layer (out-Unary u))
