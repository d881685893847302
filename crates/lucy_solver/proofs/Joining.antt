-- What two halves show together.
use Rattle.std.proofs.Common.{◌≡◌, true, false, ℕ, List, [], ◌∷◌, ◌++◌, map, Option, Some, None, slice_get, ◌∙◌, ap}
use Rattle.std.specs.Option.{option_map}
use Rattle.lucy_clauses.specs.declared.formulas.Clause.{Clause}
use Rattle.lucy_clauses.specs.Sums.{Form, complement}
use Rattle.lucy_cert.specs.declared.steps.Why.{Why}
use Rattle.lucy_cert.specs.Justified.{open_atoms, by_clause, by_open, rup_fault}
use Rattle.lucy_units.specs.Leads.{is_known}
use Rattle.lucy_units.proofs.Lists.{made_from, chosen, other_chosen}
use Rattle.lucy_units.proofs.Knowing.{all_known_self, denied_among, open_denial}

-- the left clause alone leaves no atom
pub rup_first : (db : List Clause) (ds : List Form) (t : Form) (n : ℕ) → option_map (λ (c : Clause). c.atoms) (slice_get db n) ≡ Some (map complement (ds ++ t ∷ [])) → is_known t ds ≡ true → rup_fault (slice_get db) ds (n ∷ []) ≡ None
rup_first db ds t n h k =
    let m = made_from (λ (c : Clause). c.atoms) (slice_get db n) (map complement (ds ++ t ∷ [])) h in
    let opened : open_atoms ds m.0.atoms ≡ [] = ap (open_atoms ds) m.2 ∙ open_denial ds ds t (all_known_self ds) ∙ chosen (is_known t ds) [] (complement t ∷ []) k in
    let next : Form → Option Why = λ (u : Form). rup_fault (slice_get db) (ds ++ u ∷ []) [] in
    ap (λ (o : Option Clause). by_clause o (λ (c : Clause). by_open (open_atoms ds c.atoms) true next)) m.1 ∙ ap (λ (ts : List Form). by_open ts true next) opened

-- the right clause leaves none of what the left one left
pub rup_both : (db : List Clause) (ds : List Form) (t : Form) (n m : ℕ) → option_map (λ (c : Clause). c.atoms) (slice_get db n) ≡ Some (map complement (ds ++ t ∷ [])) → option_map (λ (c : Clause). c.atoms) (slice_get db m) ≡ Some (map complement (ds ++ complement t ∷ [])) → is_known t ds ≡ false → rup_fault (slice_get db) ds (n ∷ m ∷ []) ≡ None
rup_both db ds t n m h g k =
    let one = made_from (λ (c : Clause). c.atoms) (slice_get db n) (map complement (ds ++ t ∷ [])) h in
    let two = made_from (λ (c : Clause). c.atoms) (slice_get db m) (map complement (ds ++ complement t ∷ [])) g in
    let opened : open_atoms ds one.0.atoms ≡ complement t ∷ [] = ap (open_atoms ds) one.2 ∙ open_denial ds ds t (all_known_self ds) ∙ other_chosen (is_known t ds) [] (complement t ∷ []) k in
    let closed : open_atoms (ds ++ complement t ∷ []) two.0.atoms ≡ [] = ap (open_atoms (ds ++ complement t ∷ [])) two.2 ∙ denied_among (ds ++ complement t ∷ []) (ds ++ complement t ∷ []) (all_known_self (ds ++ complement t ∷ [])) in
    let last : Form → Option Why = λ (u : Form). rup_fault (slice_get db) ((ds ++ complement t ∷ []) ++ u ∷ []) [] in
    let next : Form → Option Why = λ (u : Form). rup_fault (slice_get db) (ds ++ u ∷ []) (m ∷ []) in
    ap (λ (o : Option Clause). by_clause o (λ (c : Clause). by_open (open_atoms ds c.atoms) false next)) one.1 ∙ ap (λ (ts : List Form). by_open ts false next) opened ∙ ap (λ (o : Option Clause). by_clause o (λ (c : Clause). by_open (open_atoms (ds ++ complement t ∷ []) c.atoms) true last)) two.1 ∙ ap (λ (ts : List Form). by_open ts true last) closed
