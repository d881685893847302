-- What a reference says over the denial of decisions, and of more decisions.
use Rattle.std.proofs.Common.{◌≡◌, pos, negsuc, neg_ℤ, List, [], ◌∷◌, ◌++◌, map, Some, length, slice_get, refl, ◌∙◌, ap}
use Rattle.std.proofs.lemmas.List.{map-append}
use Rattle.std.specs.Option.{option_map}
use Rattle.lucy_clauses.specs.declared.formulas.Range.{Range}
use Rattle.lucy_clauses.specs.declared.lines.Ref.{Ref}
use Rattle.lucy_clauses.specs.declared.lines.Ref.TheVariants.{Negated, Low, High, Derived}
use Rattle.lucy_clauses.specs.Sums.{Form, complement}
use Rattle.lucy_clauses.specs.Lines.{form_of_ref, one_variable}
use Rattle.lucy_solver.specs.declared.boxes.Bound.{Bound}
use Rattle.lucy_solver.specs.Boxes.{IsBox}
use Rattle.lucy_units.proofs.Lists.{slice_get-front, made_from}
use Rattle.lucy_solver.proofs.Boxing.{AreForms}
use Rattle.lucy_solver.proofs.Writing.{AreWritten}

pub form_of_ref-front : (xs ys : List Form) (ranges : List Range) (of : Ref) (f : Form) → form_of_ref xs ranges [] of ≡ Some f → form_of_ref (xs ++ ys) ranges [] of ≡ Some f
form_of_ref-front xs ys ranges (Negated i) f h =
    let m = made_from complement (slice_get xs i) f h in
    ap (option_map complement) (slice_get-front xs ys i m.0 m.1) ∙ ap Some m.2
form_of_ref-front xs ys ranges (Low v) f h = h
form_of_ref-front xs ys ranges (High v) f h = h
form_of_ref-front xs ys ranges (Derived d) f h = h

pub form_of_ref-more : (ds more : List Form) (ranges : List Range) (of : Ref) (f : Form) → form_of_ref (map complement ds) ranges [] of ≡ Some f → form_of_ref (map complement (ds ++ more)) ranges [] of ≡ Some f
form_of_ref-more ds more ranges of f h = rw (map-append complement ds more) (form_of_ref-front (map complement ds) (map complement more) ranges of f h)

pub are_forms : (ranges : List Range) (ds more : List Form) (bs : List Bound) → IsBox ranges ds bs → AreForms (map complement (ds ++ more)) ranges bs
are_forms ranges ds more bs box =
    record {
      low = λ v b e. form_of_ref-more ds more ranges b.low (one_variable v (negsuc 0) (neg_ℤ b.lo)) (box.each v b e).low;
      high = λ v b e. form_of_ref-more ds more ranges b.high (one_variable v (pos 1) b.hi) (box.each v b e).high;
    }

pub are_written : (ranges : List Range) (ds : List Form) (bs : List Bound) → IsBox ranges ds bs → AreWritten bs
are_written ranges ds bs box = record { low = λ v b e. (box.each v b e).low_fits; high = λ v b e. (box.each v b e).high_fits }

pub last_place : (ds : List Form) (t : Form) → slice_get (map complement (ds ++ t ∷ [])) (length ds) ≡ Some (complement t)
last_place [] t = refl
last_place (d ∷ ds) t = last_place ds t
