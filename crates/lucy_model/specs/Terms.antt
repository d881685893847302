-- What a term comes to, and which terms have one value for all states.
use Rattle.std.specs.Prelude.{ℕ, ◌+◌, ◌^◌, nat_le, nat_lt, ℤ, pos, ◌+ℤ◌, ◌*ℤ◌, unsigned_abs, Bool, true, ◌&&◌, List, [], ◌∷◌}
use Rattle.lucy_model.specs.Numbers.{number_at}
use Rattle.lucy_model.specs.declared.terms.Share.{Share}
use Rattle.lucy_model.specs.declared.terms.Term.{Term}

-- the sum of the shares of numbers
abbrev pub shares_value : List Share → List ℤ → ℤ
shares_value [] xs = pos 0
shares_value (share ∷ shares) xs = share.by *ℤ number_at xs share.slot +ℤ shares_value shares xs

-- the value of a term at the numbers of leaves and of arguments
abbrev pub term_value : Term → List ℤ → List ℤ → ℤ
term_value term xs arguments = term.constant +ℤ shares_value term.leaves xs +ℤ shares_value term.arguments arguments

-- the greatest size of a factor
abbrev pub most_factor : ℕ
most_factor = 1000000

-- the greatest size of a constant
abbrev pub most_constant : ℕ
most_constant = 2 ^ 62

-- slots ascend strictly, from `from` on and below `end`, with factors of a million at most
abbrev pub are_shares : ℕ → ℕ → List Share → Bool
are_shares from end [] = true
are_shares from end (share ∷ shares) =
    nat_le from share.slot && nat_lt share.slot end && nat_le (unsigned_abs share.by) most_factor && are_shares (share.slot + 1) end shares

-- a term over so many leaves and arguments
abbrev pub is_term : ℕ → ℕ → Term → Bool
is_term leaves arguments term =
    are_shares 0 leaves term.leaves && are_shares 0 arguments term.arguments && nat_le (unsigned_abs term.constant) most_constant
