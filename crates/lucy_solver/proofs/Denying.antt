-- Clauses that are false under decisions, and those that name just the decisions.
use Rattle.std.proofs.Common.{◌≡◌, true, ℕ, List, [], ◌∷◌, ◌++◌, map, Option, Some, None, slice_get, refl, ◌∙◌, ap, append_assoc}
use Rattle.std.proofs.lemmas.List.{map-append}
use Rattle.std.specs.Option.{option_map}
use Rattle.lucy_clauses.specs.declared.formulas.Clause.{Clause}
use Rattle.lucy_clauses.specs.declared.formulas.Formula.{Formula}
use Rattle.lucy_clauses.specs.Sums.{Form, complement}
use Rattle.lucy_clauses.proofs.Uniqueness.{twice}
use Rattle.lucy_cert.specs.declared.steps.ProofStep.{ProofStep}
use Rattle.lucy_cert.specs.Justified.{open_atoms, rup_fault}
use Rattle.lucy_cert.specs.Refuting.{Refutes}
use Rattle.lucy_solver.specs.Shows.{AreShown, GoesOn, Denies, clause_of, clauses_of}
use Rattle.lucy_units.specs.Leads.{is_known, all_known}
use Rattle.lucy_solver.specs.Denials.{all_false, clause_false, IsDenied}
use Rattle.lucy_solver.specs.declared.searching.Found.{Found}
use Rattle.lucy_solver.specs.declared.searching.Found.TheVariants as found
use Rattle.lucy_solver.specs.Finds.{Finds}
use Rattle.lucy_units.proofs.Lists.{both, slice_get-front, made_from}
use Rattle.lucy_units.proofs.Knowing.{all_known_self}
use Rattle.lucy_solver.proofs.Steps.{goes_on_twice, refutes_from}
use Rattle.lucy_units.proofs.Leading.{led_end}

false_denial : (trues ds : List Form) → all_known trues ds ≡ true → all_false trues (map complement ds) ≡ true
false_denial trues [] h = refl
false_denial trues (d ∷ ds) h =
    let parts = both (is_known d trues) (all_known trues ds) h in
    let known : is_known (complement (complement d)) trues ≡ true = ap (λ (t : Form). is_known t trues) (twice d) ∙ parts.0 in
    rw (known, false_denial trues ds parts.1) refl

-- a clause that names just the decisions is false under them
pub denied_exactly : (f : Formula) (steps : List ProofStep) (n : ℕ) (ds : List Form) → Denies f steps n ds → IsDenied f steps n ds
denied_exactly f steps n ds d =
    let m = made_from (λ (c : Clause). c.atoms) (slice_get (clauses_of f steps) n) (map complement ds) d.there in
    record { there = ap (clause_false ds) m.1 ∙ ap (all_false ds) m.2 ∙ false_denial ds ds (all_known_self ds) }

none_open : (ds ts : List Form) → all_false ds ts ≡ true → open_atoms ds ts ≡ []
none_open ds [] h = refl
none_open ds (t ∷ ts) h =
    let parts = both (is_known (complement t) ds) (all_false ds ts) h in
    rw (parts.0, none_open ds ts parts.1) refl

none_opened : (ds : List Form) (o : Option Clause) → clause_false ds o ≡ true → option_map (λ (c : Clause). open_atoms ds c.atoms) o ≡ Some []
none_opened ds None h = absurd (cc)
none_opened ds (Some c) h = ap (λ (ts : List Form). let r : Option (List Form) = Some ts in r) (none_open ds c.atoms h)

-- such a clause alone is a conflict
pub rup_one : (f : Formula) (steps : List ProofStep) (n : ℕ) (ds : List Form) → IsDenied f steps n ds → rup_fault (slice_get (clauses_of f steps)) ds (n ∷ []) ≡ None
rup_one f steps n ds d = led_end (clauses_of f steps) ds [] ds n refl (none_opened ds (slice_get (clauses_of f steps) n) d.there)

false_there : (ds : List Form) (xs ys : List Clause) (n : ℕ) → clause_false ds (slice_get xs n) ≡ true → clause_false ds (slice_get (xs ++ ys) n) ≡ true
false_there ds xs ys n h = by_place (slice_get xs n) refl h
  where
    by_place : (o : Option Clause) → slice_get xs n ≡ o → clause_false ds o ≡ true → clause_false ds (slice_get (xs ++ ys) n) ≡ true
    by_place None e h = absurd (cc)
    by_place (Some c) e h = ap (clause_false ds) (slice_get-front xs ys n c e) ∙ h

pub denied_on : (f : Formula) (old new : List ProofStep) (n : ℕ) (ds : List Form) → IsDenied f old n ds → GoesOn old new → IsDenied f new n ds
denied_on f old new n ds d g =
    let longer : clauses_of f old ++ map clause_of g.more ≡ clauses_of f new = rw (g.is, map-append, append_assoc) refl in
    record { there = rw (← longer) (false_there ds (clauses_of f old) (map clause_of g.more) n d.there) }

no_atoms : (ts : List Form) → all_false [] ts ≡ true → ts ≡ []
no_atoms [] h = refl
no_atoms (t ∷ ts) h = absurd (cc)

-- under no decisions it is empty
pub refutes_denied : (f : Formula) (steps : List ProofStep) (n : ℕ) → AreShown f steps → IsDenied f steps n [] → Refutes f (record { steps = steps }) None
refutes_denied f steps n j d = refutes_from f steps n j (record { there = by_place (slice_get (clauses_of f steps) n) d.there })
  where
    by_place : (o : Option Clause) → clause_false [] o ≡ true → option_map (λ (c : Clause). c.atoms) o ≡ Some []
    by_place None h = absurd (cc)
    by_place (Some c) h = ap (λ (ts : List Form). let r : Option (List Form) = Some ts in r) (no_atoms c.atoms h)

-- what is found after more steps
pub finds_on : (f : Formula) (ds : List Form) (old mid new : List ProofStep) (r : Found) → GoesOn old mid → Finds f ds mid new r → Finds f ds old new r
finds_on f ds old mid new (found.Model a) g h = h
finds_on f ds old mid new (found.Clause n) g h = (h.0, goes_on_twice old mid new g h.1, h.2)
