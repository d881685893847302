-- What adding and dividing make of an inequality.
use Rattle.std.proofs.Common.{◌≡◌, ℕ, ◌<◌, ◌&&◌, true, int_lt, ℤ, pos, unsigned_abs, List, Some, map, ap, sym, ◌∙◌, subst, arith}
use Rattle.std.specs.List.{list_all}
use Rattle.std.specs.Option.{option_map, option_and_then}
use Rattle.std.proofs.lemmas.Int.{ints}
use Rattle.lucy_clauses.specs.declared.parts.Part.{Part}
use Rattle.lucy_clauses.specs.Sums.{Form, form}
use Rattle.lucy_clauses.specs.Normal.{IsGathered}
use Rattle.lucy_clauses.specs.Dividing.{divided}
use Rattle.lucy_clauses.specs.Lines.{put_multiples, bound_with, form_with, add_multiple, divides_part}
use Rattle.lucy_clauses.proofs.Mapping.{two_tests}
use Rattle.lucy_clauses.proofs.Divisors.{gathered_divided}
use Rattle.lucy_clauses.proofs.Justified.{all_divided}

pub added_form : (m : ℤ) (f sum : Form) (ps : List Part) (b : ℤ) → Some ps ≡ put_multiples m f.parts sum.parts → Some b ≡ bound_with m f.bound sum.bound → add_multiple m f sum ≡ Some (form ps b)
added_form m f sum ps b parts_are bound_is =
    ap (option_and_then (form_with m f.bound sum.bound)) (sym parts_are) ∙ ap (option_map (form ps)) (sym bound_is)

pub divisor_gathered : (by : ℤ) (n : ℕ) (ps : List Part) → n ≡ unsigned_abs by → (int_lt (pos 0) by && list_all (divides_part (unsigned_abs by)) ps) ≡ true → IsGathered ps → IsGathered (map (divided n) ps)
divisor_gathered by n ps size h g =
    let t = two_tests (int_lt (pos 0) by) (list_all (divides_part (unsigned_abs by)) ps) h in
    subst (λ (k : ℕ). IsGathered (map (divided k) ps)) (sym size) (gathered_divided (unsigned_abs by) ps (some by t.0) (all_divided (unsigned_abs by) ps t.1) g)
  where
    some : (x : ℤ) → int_lt (pos 0) x ≡ true → 0 < unsigned_abs x
    some x e = grind (arith, ints, e)
