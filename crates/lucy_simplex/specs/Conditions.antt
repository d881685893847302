-- The systems that `solve` takes.
use Rattle.std.specs.Prelude.{Bool, nat_le, int_le, ◌&&◌, ◌+◌, ◌^◌, unsigned_abs, List, length}
use Rattle.std.specs.List.{list_all}
use Rattle.lucy_clauses.specs.declared.formulas.Range.{Range}
use Rattle.lucy_clauses.specs.Sums.{Form}
use Rattle.lucy_clauses.specs.Formulas.{weight, names_below}

-- the lower bound is at most the upper one, and both are at most 2^62 in size
abbrev pub is_small_range : Range → Bool
is_small_range b = int_le b.lo b.hi && (nat_le (unsigned_abs b.lo) (2 ^ 62) && nat_le (unsigned_abs b.hi) (2 ^ 62))

-- each variable has bounds, and the size of the row's bound and its weight are together at most 2^101
abbrev pub is_narrow_row : List Range → Form → Bool
is_narrow_row bounds r = names_below (length bounds) r.parts && nat_le (unsigned_abs r.bound + weight bounds r.parts) (2 ^ 101)

abbrev pub is_system : List Form → List Range → Bool
is_system rows bounds = list_all is_small_range bounds && list_all (is_narrow_row bounds) rows
