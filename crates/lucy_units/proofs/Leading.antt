-- Hints that lead to a conflict.
use Rattle.std.proofs.Common.{◌≡◌, true, ℕ, List, [], ◌∷◌, ◌++◌, Option, Some, None, slice_get, refl}
use Rattle.std.specs.Option.{option_map}
use Rattle.lucy_clauses.specs.declared.formulas.Clause.{Clause}
use Rattle.lucy_clauses.specs.Sums.{Form}
use Rattle.lucy_cert.specs.declared.steps.Why.{Why}
use Rattle.lucy_cert.specs.Justified.{open_atoms, by_clause, by_open, is_last, rup_fault}
use Rattle.lucy_units.specs.Leads.{opened, then_one, led}
use Rattle.lucy_units.proofs.Lists.{slice_get-front}

-- ---- hints
pub led_push : (db : List Clause) (trues : List Form) (hs : List ℕ) (after : List Form) (n : ℕ) (t : Form) → led db trues hs ≡ Some after → opened db after n ≡ Some (t ∷ []) → led db trues (hs ++ n ∷ []) ≡ Some (after ++ t ∷ [])
led_push db trues [] after n t h e =
    let same : trues ≡ after = cc in
    rw (same, e) refl
led_push db trues (m ∷ hs) after n t h e = by_open_atoms (λ u. led_push db (trues ++ u ∷ []) hs after n t) (opened db trues m) h
  where
    by_open_atoms : ((u : Form) → led db (trues ++ u ∷ []) hs ≡ Some after → opened db after n ≡ Some (t ∷ []) → led db (trues ++ u ∷ []) (hs ++ n ∷ []) ≡ Some (after ++ t ∷ [])) → (o : Option (List Form)) → then_one o (λ u. led db (trues ++ u ∷ []) hs) ≡ Some after → then_one o (λ u. led db (trues ++ u ∷ []) (hs ++ n ∷ [])) ≡ Some (after ++ t ∷ [])
    by_open_atoms next None h = absurd (cc)
    by_open_atoms next (Some []) h = absurd (cc)
    by_open_atoms next (Some (u ∷ [])) h = next u h e
    by_open_atoms next (Some (u ∷ v ∷ ts)) h = absurd (cc)

pub led_end : (db : List Clause) (trues : List Form) (hs : List ℕ) (after : List Form) (n : ℕ) → led db trues hs ≡ Some after → opened db after n ≡ Some [] → rup_fault (slice_get db) trues (hs ++ n ∷ []) ≡ None
led_end db trues [] after n h e =
    let same : trues ≡ after = cc in
    rw same (by_place (slice_get db n) e)
  where
    by_list : (next : Form → Option Why) (ts : List Form) → Some ts ≡ Some [] → by_open ts true next ≡ None
    by_list next [] e = refl
    by_list next (t ∷ ts) e = absurd (cc)

    by_place : (o : Option Clause) → option_map (λ (c : Clause). open_atoms after c.atoms) o ≡ Some [] → by_clause o (λ c. by_open (open_atoms after c.atoms) true (λ t. rup_fault (slice_get db) (after ++ t ∷ []) [])) ≡ None
    by_place None e = absurd (cc)
    by_place (Some c) e = by_list (λ t. rup_fault (slice_get db) (after ++ t ∷ []) []) (open_atoms after c.atoms) e
led_end db trues (m ∷ hs) after n h e = by_place (λ u. led_end db (trues ++ u ∷ []) hs after n) (slice_get db m) h
  where
    by_list : ((u : Form) → led db (trues ++ u ∷ []) hs ≡ Some after → opened db after n ≡ Some [] → rup_fault (slice_get db) (trues ++ u ∷ []) (hs ++ n ∷ []) ≡ None) → (ts : List Form) → then_one (Some ts) (λ u. led db (trues ++ u ∷ []) hs) ≡ Some after → by_open ts (is_last (hs ++ n ∷ [])) (λ u. rup_fault (slice_get db) (trues ++ u ∷ []) (hs ++ n ∷ [])) ≡ None
    by_list next [] h = absurd (cc)
    by_list next (u ∷ []) h = next u h e
    by_list next (u ∷ v ∷ ts) h = absurd (cc)

    by_place : ((u : Form) → led db (trues ++ u ∷ []) hs ≡ Some after → opened db after n ≡ Some [] → rup_fault (slice_get db) (trues ++ u ∷ []) (hs ++ n ∷ []) ≡ None) → (o : Option Clause) → then_one (option_map (λ (c : Clause). open_atoms trues c.atoms) o) (λ u. led db (trues ++ u ∷ []) hs) ≡ Some after → by_clause o (λ c. by_open (open_atoms trues c.atoms) (is_last (hs ++ n ∷ [])) (λ u. rup_fault (slice_get db) (trues ++ u ∷ []) (hs ++ n ∷ []))) ≡ None
    by_place next None h = absurd (cc)
    by_place next (Some c) h = by_list next (open_atoms trues c.atoms) h

pub led_on : (db more : List Clause) (trues : List Form) (hs : List ℕ) (after : List Form) → led db trues hs ≡ Some after → led (db ++ more) trues hs ≡ Some after
led_on db more trues [] after h = h
led_on db more trues (m ∷ hs) after h = by_place (λ u. led_on db more (trues ++ u ∷ []) hs after) (slice_get db m) refl h
  where
    by_list : ((u : Form) → led db (trues ++ u ∷ []) hs ≡ Some after → led (db ++ more) (trues ++ u ∷ []) hs ≡ Some after) → (ts : List Form) → then_one (Some ts) (λ u. led db (trues ++ u ∷ []) hs) ≡ Some after → then_one (Some ts) (λ u. led (db ++ more) (trues ++ u ∷ []) hs) ≡ Some after
    by_list next [] h = absurd (cc)
    by_list next (u ∷ []) h = next u h
    by_list next (u ∷ v ∷ ts) h = absurd (cc)

    by_place : ((u : Form) → led db (trues ++ u ∷ []) hs ≡ Some after → led (db ++ more) (trues ++ u ∷ []) hs ≡ Some after) → (o : Option Clause) → slice_get db m ≡ o → then_one (option_map (λ (c : Clause). open_atoms trues c.atoms) o) (λ u. led db (trues ++ u ∷ []) hs) ≡ Some after → then_one (opened (db ++ more) trues m) (λ u. led (db ++ more) (trues ++ u ∷ []) hs) ≡ Some after
    by_place next None e h = absurd (cc)
    by_place next (Some c) e h = rw (slice_get-front db more m c e) (by_list next (open_atoms trues c.atoms) h)
