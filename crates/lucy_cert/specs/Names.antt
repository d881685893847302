-- The order of the parts of a certificate.
use Rattle.std.specs.Prelude.{nat_lt, ◌&&◌, Bool, true, false, List, [], ◌∷◌}
use Rattle.std.specs.List.{list_all}
use Rattle.lucy_cert.specs.declared.names.PartName.{PartName}
use Rattle.lucy_cert.specs.declared.names.PartName.TheVariants.{Closure, Cover}

-- closures by the numbers of their segments, then the cover
abbrev pub is_before : PartName → PartName → Bool
is_before (Closure k) (Closure l) = nat_lt k l
is_before (Closure k) Cover = true
is_before Cover name = false

-- each name is before those behind it
abbrev pub ascend : List PartName → Bool
ascend [] = true
ascend (n ∷ ns) = list_all (is_before n) ns && ascend ns
