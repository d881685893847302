-- What the terms and conditions of a tree mean.
use Rattle.std.specs.Prelude.{ℕ, zero, suc, ◌+◌, ℤ, pos, ◌+ℤ◌, ◌*ℤ◌, neg_ℤ, int_le, int_lt, Bool, true, false, not, ◌||◌, List, [], ◌∷◌, map, Option, Some, None}
use Rattle.std.specs.Ordering.{int_eq}
use Rattle.std.specs.List.{list_all, list_any}
use Rattle.lucy_model.specs.Numbers.{number_at}
use Rattle.lucy_tree.specs.declared.marks.Span.{Span}
use Rattle.lucy_tree.specs.declared.marks.Name.{Name}
use Rattle.lucy_tree.specs.declared.marks.Then.{Then}
use Rattle.lucy_tree.specs.declared.marks.Chain.{Chain}
use Rattle.lucy_tree.specs.declared.terms.Factor.{Factor}
use Rattle.lucy_tree.specs.declared.terms.Factor.TheVariants as factor
use Rattle.lucy_tree.specs.declared.terms.Product.{Product}
use Rattle.lucy_tree.specs.declared.terms.Sign.{Sign}
use Rattle.lucy_tree.specs.declared.terms.Sign.TheVariants as sign
use Rattle.lucy_tree.specs.declared.terms.Added.{Added}
use Rattle.lucy_tree.specs.declared.terms.Relation.{Relation}
use Rattle.lucy_tree.specs.declared.terms.Relation.TheVariants as relation
use Rattle.lucy_tree.specs.declared.terms.Term.{Term}
use Rattle.lucy_tree.specs.declared.conditions.Cond.{Cond}
use Rattle.lucy_tree.specs.declared.conditions.Unary.{Unary}
use Rattle.lucy_tree.specs.declared.conditions.Unary.TheOpen.{Unary-F, Cond-F}
use Rattle.lucy_tree.specs.declared.conditions.Unary.TheFolds.{fold-Unary, fold-Cond}
use Rattle.lucy_gather.specs.declared.scopes.Meaning.{Meaning}
use Rattle.lucy_gather.specs.declared.scopes.Meaning.TheVariants as meaning
use Rattle.lucy_gather.specs.declared.scopes.Entry.{Entry}
use Rattle.lucy_gather.specs.declared.scopes.Scope.{Scope}
use Rattle.lucy_gather.specs.Scopes.{held, meaning_of}

-- two numbers stand in a relation
abbrev pub related : Relation → ℤ → ℤ → Bool
related relation.LessEqual x y = int_le x y
related relation.Less x y = int_lt x y
related relation.GreaterEqual x y = int_le y x
related relation.Greater x y = int_lt y x
related relation.Equal x y = int_eq x y
related relation.NotEqual x y = not (int_eq x y)

-- a number with a sign before it
abbrev pub with_sign : Sign → ℤ → ℤ
with_sign sign.Plus x = x
with_sign sign.Minus x = neg_ℤ x

-- a number that may have a `-` before it
abbrev pub with_minus : Option Span → ℤ → ℤ
with_minus None x = x
with_minus (Some minus) x = neg_ℤ x

-- the items of a chain
abbrev pub items_of : {X : Type 0} → Chain X → List X
items_of c = c.first ∷ map (λ t. t.item) c.others

-- `and` between any two
abbrev pub all_hold : Chain Bool → Bool
all_hold c = list_all (λ b. b) (items_of c)

-- `or` between any two, and `and` between any two of each
abbrev pub some_holds : Chain (Chain Bool) → Bool
some_holds c = list_any (λ b. b) (map all_hold (items_of c))

-- the right side of a `=>`, if there is one, holds where the left one does
abbrev pub implied : Bool → Option (Then Bool) → Bool
implied left None = left
implied left (Some right) = not left || right.item

-- each leaf has its number
module _ (xs : List ℤ) where
  -- the sum of the numbers of so many leaves from a first one on
  abbrev pub leaves_sum : ℕ → ℕ → ℤ
  leaves_sum first zero = pos 0
  leaves_sum first (suc count) = number_at xs first +ℤ leaves_sum (first + 1) count

  -- a leaf is at least 1
  abbrev pub is_on : ℕ → Bool
  is_on leaf = int_le (pos 1) (number_at xs leaf)

  abbrev pub atom_on : Option Meaning → Bool
  atom_on (Some (meaning.Atom leaf)) = is_on leaf
  atom_on _ = false

-- names stand for what a scope and parameters say; each leaf has its number of `xs`, and each parameter its argument. Names that stand for nothing of the
-- kind that their place needs come to 0 or fail here; no term or condition that is given has one (Named.antt)
module _ (scope : Scope) (params : List Entry) (xs arguments : List ℤ) where
  -- ---- terms

  -- the number of a number's field or of a parameter
  abbrev pub named_number : Option Meaning → ℤ
  named_number (Some (meaning.Number leaf)) = number_at xs leaf
  named_number (Some (meaning.Argument place)) = number_at arguments place
  named_number _ = pos 0

  -- the sum of the numbers of a set's leaves, which are those of its atoms (a law of lucy_elaborate_laws)
  abbrev pub set_sum : Option Meaning → ℤ
  set_sum (Some (meaning.Set group first count)) = leaves_sum xs first count
  set_sum _ = pos 0

  abbrev pub factor_value : Factor → ℤ
  factor_value (factor.Number number) = pos number.value
  factor_value (factor.Path path) = named_number (meaning_of scope params path)
  factor_value (factor.Size word open_paren set close_paren) = set_sum (meaning_of scope params set)

  -- a number times the factor after it, if there is one
  abbrev pub multiplied : ℤ → Option (Then Factor) → ℤ
  multiplied x None = x
  multiplied x (Some second) = x *ℤ factor_value second.item

  abbrev pub product_value : Product → ℤ
  product_value p = multiplied (factor_value p.first) p.second

  -- the sum of the later products of a term
  abbrev pub others_value : List Added → ℤ
  others_value [] = pos 0
  others_value (a ∷ others) = with_sign a.sign (product_value a.product) +ℤ others_value others

  -- what a tree's term comes to
  abbrev pub tree_value : Term → ℤ
  tree_value t = with_minus t.minus (product_value t.first) +ℤ others_value t.others

  -- ---- conditions

  -- a flag is on
  abbrev pub flag_on : Option Meaning → Bool
  flag_on (Some (meaning.Flag leaf)) = is_on xs leaf
  flag_on _ = false

  -- an atom is in a set: its leaf is at least 1
  abbrev pub is_in : Name → Option Meaning → Bool
  is_in atom (Some (meaning.Set group first count)) = atom_on xs (held group atom.text scope.entries)
  is_in atom _ = false

  -- a part of a condition holds, where it is known of its own parts whether they do
  abbrev pub unary_holds : Unary-F Bool Bool → Bool
  unary_holds (Unary-F.Not word inner) = not inner
  unary_holds (Unary-F.True word) = true
  unary_holds (Unary-F.False word) = false
  unary_holds (Unary-F.Parens open_paren inner close_paren) = inner
  unary_holds (Unary-F.Member atom word set) = is_in atom (meaning_of scope params set)
  unary_holds (Unary-F.Compare left relation mark right) = related relation (tree_value left) (tree_value right)
  unary_holds (Unary-F.Flag path) = flag_on (meaning_of scope params path)

  abbrev pub cond_holds : Cond-F Bool Bool → Bool
  cond_holds c = implied (some_holds c.left) c.implied

  -- whether a part of a tree's condition holds
  abbrev pub part_holds : Unary → Bool
  part_holds = fold-Unary Bool Bool unary_holds cond_holds

  -- whether a tree's condition holds
  abbrev pub condition_holds : Cond → Bool
  condition_holds = fold-Cond Bool Bool unary_holds cond_holds
