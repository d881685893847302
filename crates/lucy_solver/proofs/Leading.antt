-- A clause that is false all over a box, refuted atom by atom.
use Rattle.std.proofs.Common.{◌≡◌, true, false, ℕ, List, [], ◌∷◌, ◌++◌, map, Option, Some, None, if◌then◌else◌, slice_get, refl, ◌∙◌, ap, subst, append_assoc}
use Rattle.std.proofs.lemmas.List.{map-append}
use Rattle.std.specs.Option.{option_map}
use Rattle.lucy_clauses.specs.declared.formulas.Clause.{Clause}
use Rattle.lucy_clauses.specs.declared.formulas.Formula.{Formula}
use Rattle.lucy_clauses.specs.Sums.{Form, complement}
use Rattle.lucy_cert.specs.declared.steps.ProofStep.{ProofStep}
use Rattle.lucy_cert.specs.Justified.{open_atoms, rup_fault}
use Rattle.lucy_units.specs.Leads.{is_known, opened, led, all_known}
use Rattle.lucy_units.proofs.Lists.{slice_get-front, made_from, chosen, other_chosen}
use Rattle.lucy_units.proofs.Knowing.{all_known_self, all_known_more, open_denial, closed_push}
use Rattle.lucy_units.proofs.Leading.{led_push, led_end, led_on}
use Rattle.lucy_solver.specs.Shows.{AreShown, GoesOn, Denies, clause_of, clauses_of}
use Rattle.lucy_solver.specs.Leads.{Leading}
use Rattle.lucy_solver.proofs.Steps.{goes_on_from, goes_on_twice}

-- ---- a clause, atom by atom
pub leading_start : (f : Formula) (ds : List Form) (steps : List ProofStep) → AreShown f steps → Leading f ds steps steps [] ds []
leading_start f ds steps j = record { shown = j; goes_on = goes_on_from steps; led = refl; known = all_known_self ds; closed = refl }

longer : (f : Formula) (old new : List ProofStep) (g : GoesOn old new) → clauses_of f old ++ map clause_of g.more ≡ clauses_of f new
longer f old new g = rw (g.is, map-append, append_assoc) refl

led_after : (f : Formula) (old new : List ProofStep) (ds : List Form) (hints : List ℕ) (trues : List Form) → GoesOn old new → led (clauses_of f old) ds hints ≡ Some trues → led (clauses_of f new) ds hints ≡ Some trues
led_after f old new ds hints trues g h = subst (λ (cs : List Clause). led cs ds hints ≡ Some trues) (longer f old new g) (led_on (clauses_of f old) (map clause_of g.more) ds hints trues h)

opened_denial : (f : Formula) (steps : List ProofStep) (ds trues : List Form) (t : Form) (n : ℕ) → all_known trues ds ≡ true → Denies f steps n (ds ++ t ∷ []) → opened (clauses_of f steps) trues n ≡ Some (if is_known t trues then [] else (complement t ∷ []))
opened_denial f steps ds trues t n known d =
    let m = made_from (λ (c : Clause). c.atoms) (slice_get (clauses_of f steps) n) (map complement (ds ++ t ∷ [])) d.there in
    ap (option_map (λ (c : Clause). open_atoms trues c.atoms)) m.1 ∙ ap (λ (ts : List Form). let r : Option (List Form) = Some (open_atoms trues ts) in r) m.2 ∙ ap (λ (ts : List Form). let r : Option (List Form) = Some ts in r) (open_denial trues ds t known)

pub leading_push : (f : Formula) (ds : List Form) (old mid new : List ProofStep) (hints : List ℕ) (trues passed : List Form) (t : Form) (n : ℕ) → Leading f ds old mid hints trues passed → AreShown f new → GoesOn mid new → Denies f new n (ds ++ t ∷ []) → is_known t trues ≡ false → Leading f ds old new (hints ++ n ∷ []) (trues ++ complement t ∷ []) (passed ++ t ∷ [])
leading_push f ds old mid new hints trues passed t n l j g d unknown =
    let one : opened (clauses_of f new) trues n ≡ Some (complement t ∷ []) = opened_denial f new ds trues t n l.known d ∙ ap (λ (ts : List Form). let r : Option (List Form) = Some ts in r) (other_chosen (is_known t trues) [] (complement t ∷ []) unknown) in
    record {
      shown = j;
      goes_on = goes_on_twice old mid new l.goes_on g;
      led = led_push (clauses_of f new) ds hints trues n (complement t) (led_after f mid new ds hints trues g l.led) one;
      known = all_known_more trues (complement t ∷ []) ds l.known;
      closed = closed_push trues passed t l.closed;
    }

pub leading_stop : (f : Formula) (ds : List Form) (old mid new : List ProofStep) (hints : List ℕ) (trues passed : List Form) (t : Form) (n : ℕ) → Leading f ds old mid hints trues passed → GoesOn mid new → Denies f new n (ds ++ t ∷ []) → is_known t trues ≡ true → rup_fault (slice_get (clauses_of f new)) ds (hints ++ n ∷ []) ≡ None
leading_stop f ds old mid new hints trues passed t n l g d known =
    let none : opened (clauses_of f new) trues n ≡ Some [] = opened_denial f new ds trues t n l.known d ∙ ap (λ (ts : List Form). let r : Option (List Form) = Some ts in r) (chosen (is_known t trues) [] (complement t ∷ []) known) in
    led_end (clauses_of f new) ds hints trues n (led_after f mid new ds hints trues g l.led) none

pub leading_end : (f : Formula) (ds : List Form) (old new : List ProofStep) (hints : List ℕ) (trues : List Form) (c : Clause) (n : ℕ) → Leading f ds old new hints trues c.atoms → slice_get f.clauses n ≡ Some c → rup_fault (slice_get (clauses_of f new)) ds (hints ++ n ∷ []) ≡ None
leading_end f ds old new hints trues c n l there =
    let none : opened (clauses_of f new) trues n ≡ Some [] = ap (option_map (λ (c : Clause). open_atoms trues c.atoms)) (slice_get-front f.clauses (map clause_of new) n c there) ∙ ap (λ (ts : List Form). let r : Option (List Form) = Some ts in r) l.closed in
    led_end (clauses_of f new) ds hints trues n l.led none
