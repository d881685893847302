-- Terms: products gathered by leaf and by argument.
use Rattle.std.specs.Prelude.{ℕ, zero, suc, ◌+◌, ◌-◌, ◌^◌, nat_lt, min, ℤ, pos, ◌+ℤ◌, unsigned_abs, List, [], ◌∷◌, ◌++◌, Bool, true, false, not, if◌then◌else◌, Option, Some, None, Result, Ok, Err, slice_get, slice_set, replicate, length}
use Rattle.std.specs.Ordering.{int_eq}
use Rattle.lucy_model.specs.declared.terms.Share.{Share}
use Rattle.lucy_model.specs.declared.terms.Term.{Term}
use Rattle.lucy_plan.specs.declared.refusal.What.{What}
use Rattle.lucy_plan.specs.declared.refusal.What.TheVariants as what
use Rattle.lucy_plan.specs.Sizes.{most_factor, most_constant}
use Rattle.lucy_tree.specs.declared.marks.Then.{Then}
use Rattle.lucy_tree.specs.declared.terms.Factor.{Factor}
use Rattle.lucy_tree.specs.declared.terms.Factor.TheVariants as factor
use Rattle.lucy_tree.specs.declared.terms.Product.{Product}
use Rattle.lucy_tree.specs.declared.terms.Sign.{Sign}
use Rattle.lucy_tree.specs.declared.terms.Sign.TheVariants as sign
use Rattle.lucy_tree.specs.declared.terms.Added.{Added}
use Rattle.lucy_tree.specs.declared.terms.Term as tree
use Rattle.lucy_gather.specs.declared.error.ElabError.{ElabError}
use Rattle.lucy_gather.specs.declared.error.ElabError.TheVariants as error
use Rattle.lucy_gather.specs.declared.scopes.Variable.{Variable}
use Rattle.lucy_gather.specs.declared.scopes.Variable.TheVariants as variable
use Rattle.lucy_gather.specs.declared.scopes.Entry.{Entry}
use Rattle.lucy_gather.specs.declared.scopes.Scope.{Scope}
use Rattle.lucy_gather.specs.declared.terms.Gathered.{Gathered}
use Rattle.lucy_gather.specs.declared.terms.Wide.{Wide}
use Rattle.lucy_gather.specs.Steps.{Step, ◌>>=◌, pure, refuse, lifted, then_of, each, each_from, state_of}
use Rattle.lucy_gather.specs.Ranges.{signed, is_there}
use Rattle.lucy_gather.specs.Scopes.{number_at, size_at}

abbrev pub wide : ℤ → Wide
wide by = record { by = by }

abbrev pub gathered_of : List Wide → List Wide → ℤ → Gathered
gathered_of leaves arguments constant = record { leaves = leaves; arguments = arguments; constant = constant }

-- ---- gathering: each leaf and each argument has a factor, which grows

abbrev pub raised_by : List Wide → ℕ → ℤ → Option Wide → List Wide
raised_by factors slot by None = factors
raised_by factors slot by (Some x) = slice_set factors slot (wide (x.by +ℤ by))

unfoldable pub raised : ℕ → ℤ → Step (List Wide) (Unit {0})
raised slot by = λ factors. Ok (tt, raised_by factors slot by (slice_get factors slot))

-- so many leaves from a first one on
abbrev pub raised_all : ℕ → ℕ → Wide → Step (List Wide) (Unit {0})
raised_all first zero by = pure tt
raised_all first (suc count) by = raised first by.by >>= λ _. raised_all (first + 1) count by

abbrev pub with_leaves : Gathered → List Wide → Gathered
with_leaves g factors = gathered_of factors g.arguments g.constant

abbrev pub with_arguments : Gathered → List Wide → Gathered
with_arguments g factors = gathered_of g.leaves factors g.constant

unfoldable pub shifted : ℤ → Step Gathered (Unit {0})
shifted by = λ g. Ok (tt, gathered_of g.leaves g.arguments (g.constant +ℤ by))

unfoldable pub gathered_in : Variable → ℤ → Gathered → Result Gathered ElabError
gathered_in (variable.Leaf leaf) by g = then_of (state_of (raised leaf by g.leaves)) (λ factors. Ok (with_leaves g factors))
gathered_in (variable.Argument place) by g = then_of (state_of (raised place by g.arguments)) (λ factors. Ok (with_arguments g factors))
gathered_in (variable.Leaves first count) by g = then_of (state_of (raised_all first count (wide by) g.leaves)) (λ factors. Ok (with_leaves g factors))

abbrev pub stepped : {S : Type 0} → Result S ElabError → Result (Unit {0} × S) ElabError
stepped (Ok s) = Ok (tt, s)
stepped (Err e) = Err e

unfoldable pub gather : Variable → ℤ → Step Gathered (Unit {0})
gather v by = λ g. stepped (gathered_in v by g)

-- ---- products and terms

abbrev pub is_minus : Sign → Bool
is_minus sign.Plus = false
is_minus sign.Minus = true

-- on the right side of a relation each sign is the other one
abbrev pub turned : Bool → Bool → Bool
turned is_right b = if is_right then not b else b

module _ (scope : Scope) (params : List Entry) where
  -- `star` is the place of the `*` before the factor
  unfoldable pub times_by : ℤ → ℕ → Factor → Step Gathered (Unit {0})
  times_by by star (factor.Number number) = refuse (error.NotLinear star)
  times_by by star (factor.Path path) = lifted (number_at scope params path) >>= λ v. gather v by
  times_by by star (factor.Size word open_paren set close_paren) = lifted (size_at scope params set) >>= λ v. gather v by

  unfoldable pub number_first : ℤ → Option (Then Factor) → Step Gathered (Unit {0})
  number_first by None = shifted by
  number_first by (Some t) = times_by by t.mark.start t.item

  unfoldable pub variable_first : Variable → ℤ → Option (Then Factor) → Step Gathered (Unit {0})
  variable_first v by None = gather v by
  variable_first v by (Some t) = refuse (error.NotLinear t.mark.start)

  unfoldable pub product_by : Bool → Factor → Option (Then Factor) → Step Gathered (Unit {0})
  product_by is_minus (factor.Number number) second = number_first (signed is_minus number.value) second
  product_by is_minus (factor.Path path) second = lifted (number_at scope params path) >>= λ v. variable_first v (signed is_minus 1) second
  product_by is_minus (factor.Size word open_paren set close_paren) second =
      lifted (size_at scope params set) >>= λ v. variable_first v (signed is_minus 1) second

  abbrev pub product_in : Bool → Product → Step Gathered (Unit {0})
  product_in is_minus p = product_by is_minus p.first p.second

  unfoldable pub added_in : Bool → Added → Step Gathered (Unit {0})
  added_in is_right a = product_in (turned is_right (is_minus a.sign)) a.product

  abbrev pub others_in : Bool → List Added → Step Gathered (Unit {0})
  others_in is_right = each (added_in is_right)

  unfoldable pub term_in : Bool → tree.Term → Step Gathered (Unit {0})
  term_in is_right t = do
    _ ← product_in (turned is_right (is_there t.minus)) t.first
    others_in is_right t.others

-- ---- sizes, tested when all is gathered

-- a size, as a limit tells it
abbrev pub told : ℕ → ℕ
told size = min size (2 ^ 64 - 1)

unfoldable pub within : What → ℕ → ℤ → Result ℤ ElabError
within w most x = if nat_lt most (unsigned_abs x) then Err (error.Limit w (told (unsigned_abs x))) else Ok x

abbrev pub share_of : ℕ → ℤ → Share
share_of slot by = record { slot = slot; by = by }

-- a factor of 0 is left out
unfoldable pub share_in : ℕ → Wide → Step (List Share) (Unit {0})
share_in slot x = λ found.
    if int_eq x.by (pos 0) then Ok (tt, found) else then_of (within what.Coefficient most_factor x.by) (λ by. Ok (tt, found ++ share_of slot by ∷ []))

abbrev pub shares_in : List Wide → Step (List Share) (Unit {0})
shares_in = each_from share_in 0

unfoldable pub shares_of : List Wide → Result (List Share) ElabError
shares_of factors = state_of (shares_in factors [])

abbrev pub term_by : List Share → List Share → ℤ → Term
term_by leaves arguments constant = record { leaves = leaves; arguments = arguments; constant = constant }

unfoldable pub term_of : Gathered → Result Term ElabError
term_of g =
    then_of (shares_of g.leaves) λ leaves.
    then_of (shares_of g.arguments) λ arguments.
    then_of (within what.Constant most_constant g.constant) λ constant.
    Ok (term_by leaves arguments constant)

abbrev pub nothing : Scope → List Entry → Gathered
nothing scope params = gathered_of (replicate (length scope.leaves) (wide (pos 0))) (replicate (length params) (wide (pos 0))) (pos 0)

module _ (scope : Scope) (params : List Entry) where
  unfoldable pub assigned : tree.Term → Result Term ElabError
  assigned t = then_of (state_of (term_in scope params false t (nothing scope params))) term_of

  abbrev pub sides : tree.Term → tree.Term → Step Gathered (Unit {0})
  sides left right = do
    _ ← term_in scope params false left
    term_in scope params true right

  -- the left side less the right one
  unfoldable pub compared : tree.Term → tree.Term → Result Term ElabError
  compared left right = then_of (state_of (sides left right (nothing scope params))) term_of
