-- Trees whose names stand for what their places need, so that each of their parts has a meaning.
use Rattle.std.specs.Prelude.{Bool, true, false, ◌&&◌, List, map, Option, Some, None}
use Rattle.std.specs.List.{list_all}
use Rattle.lucy_tree.specs.declared.marks.Name.{Name}
use Rattle.lucy_tree.specs.declared.marks.Then.{Then}
use Rattle.lucy_tree.specs.declared.terms.Factor.{Factor}
use Rattle.lucy_tree.specs.declared.terms.Factor.TheVariants as factor
use Rattle.lucy_tree.specs.declared.terms.Product.{Product}
use Rattle.lucy_tree.specs.declared.terms.Term.{Term}
use Rattle.lucy_tree.specs.declared.conditions.Cond.{Cond}
use Rattle.lucy_tree.specs.declared.conditions.Unary.{Unary}
use Rattle.lucy_tree.specs.declared.conditions.Unary.TheOpen.{Unary-F, Cond-F}
use Rattle.lucy_tree.specs.declared.conditions.Unary.TheFolds.{fold-Unary, fold-Cond}
use Rattle.lucy_gather.specs.declared.scopes.Meaning.{Meaning}
use Rattle.lucy_gather.specs.declared.scopes.Meaning.TheVariants as meaning
use Rattle.lucy_gather.specs.declared.scopes.Entry.{Entry}
use Rattle.lucy_gather.specs.declared.scopes.Scope.{Scope}
use Rattle.lucy_gather.specs.Scopes.{held, meaning_of}
use Rattle.lucy_meaning_laws.specs.Meanings.{items_of, all_hold}

-- a number's field or a parameter
abbrev pub is_number : Option Meaning → Bool
is_number (Some (meaning.Number leaf)) = true
is_number (Some (meaning.Argument place)) = true
is_number _ = false

abbrev pub is_flag : Option Meaning → Bool
is_flag (Some (meaning.Flag leaf)) = true
is_flag _ = false

abbrev pub is_set : Option Meaning → Bool
is_set (Some (meaning.Set group first count)) = true
is_set _ = false

abbrev pub is_atom : Option Meaning → Bool
is_atom (Some (meaning.Atom leaf)) = true
is_atom _ = false

-- the right side of a `=>`, if there is one
abbrev pub all_implied : Option (Then Bool) → Bool
all_implied None = true
all_implied (Some right) = right.item

module _ (scope : Scope) (params : List Entry) where
  -- a set that has this atom
  abbrev pub has_atom : Name → Option Meaning → Bool
  has_atom atom (Some (meaning.Set group first count)) = is_atom (held group atom.text scope.entries)
  has_atom atom _ = false

  -- the name of a number, or the size of a set
  abbrev pub is_named : Factor → Bool
  is_named (factor.Number number) = false
  is_named (factor.Path path) = is_number (meaning_of scope params path)
  is_named (factor.Size word open_paren set close_paren) = is_set (meaning_of scope params set)

  -- a number, what is named, or a number times what is named
  abbrev pub is_product : Factor → Option (Then Factor) → Bool
  is_product (factor.Number number) None = true
  is_product (factor.Number number) (Some second) = is_named second.item
  is_product first None = is_named first
  is_product first (Some second) = false

  abbrev pub product_named : Product → Bool
  product_named p = is_product p.first p.second

  abbrev pub term_named : Term → Bool
  term_named t = product_named t.first && list_all (λ a. product_named a.product) t.others

  abbrev pub unary_named : Unary-F Bool Bool → Bool
  unary_named (Unary-F.Not word inner) = inner
  unary_named (Unary-F.True word) = true
  unary_named (Unary-F.False word) = true
  unary_named (Unary-F.Parens open_paren inner close_paren) = inner
  unary_named (Unary-F.Member atom word set) = has_atom atom (meaning_of scope params set)
  unary_named (Unary-F.Compare left relation mark right) = term_named left && term_named right
  unary_named (Unary-F.Flag path) = is_flag (meaning_of scope params path)

  abbrev pub cond_named : Cond-F Bool Bool → Bool
  cond_named c = list_all (λ b. b) (map all_hold (items_of c.left)) && all_implied c.implied

  abbrev pub part_named : Unary → Bool
  part_named = fold-Unary Bool Bool unary_named cond_named

  abbrev pub condition_named : Cond → Bool
  condition_named = fold-Cond Bool Bool unary_named cond_named
