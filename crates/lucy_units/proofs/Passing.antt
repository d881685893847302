-- Looks at one clause after another.
use Rattle.std.proofs.Common.{◌≡◌, Bool, true, false, ◌&&◌, ℕ, ◌+◌, zero, suc, List, [], ◌∷◌, take, Some, slice_get, refl, sym, subst, arith}
use Rattle.lucy_clauses.specs.declared.formulas.Clause.{Clause}
use Rattle.lucy_clauses.specs.Sums.{Form}
use Rattle.lucy_units.specs.declared.propagating.Look.TheVariants as look
use Rattle.lucy_units.specs.Stores.{Stored, is_settled, are_settled}
use Rattle.lucy_units.specs.Propagations.{Looks, Passing}
use Rattle.lucy_units.proofs.Deriving.{grows_not, grows_on}

settled_one : (trues : List Form) (cs : List Clause) (n : ℕ) → are_settled trues (take n cs) ≡ true → ((c : Clause) → slice_get cs n ≡ Some c → is_settled trues c ≡ true) → are_settled trues (take (suc n) cs) ≡ true
settled_one trues [] zero all h = refl
settled_one trues [] (suc n) all h = refl
settled_one trues (c ∷ cs) zero all h = rw (h c refl) refl
settled_one trues (c ∷ cs) (suc n) all h = by_test (settled_one trues cs n) (is_settled trues c) all
  where
    by_test : (are_settled trues (take n cs) ≡ true → ((c : Clause) → slice_get cs n ≡ Some c → is_settled trues c ≡ true) → are_settled trues (take (suc n) cs) ≡ true) → (b : Bool) → (b && are_settled trues (take n cs)) ≡ true → (b && are_settled trues (take (suc n) cs)) ≡ true
    by_test next true e = next e h
    by_test next false e = absurd (cc)

settled_more : (trues : List Form) (cs : List Clause) (n : ℕ) → are_settled trues (take n cs) ≡ true → ((c : Clause) → slice_get cs n ≡ Some c → is_settled trues c ≡ true) → are_settled trues (take (n + 1) cs) ≡ true
settled_more trues cs n all h =
    let next : n + 1 ≡ suc n = omega arith in
    rw next (settled_one trues cs n all h)

pub passing_start : (s : Stored) → Passing s s 0 false
passing_start s = record { grows = grows_not s; settled = λ e. refl }

pub passing_changed : (old now new : Stored) (n : ℕ) (changed : Bool) → Passing old now n changed → Looks now new n look.Changed → Passing old new (n + 1) true
passing_changed old now new n changed p g = record { grows = grows_on old now new p.grows g; settled = λ e. absurd (cc) }

pub passing_settled : (old now new : Stored) (n : ℕ) (changed : Bool) → Passing old now n changed → Looks now new n look.Settled → Passing old new (n + 1) changed
passing_settled old now new n changed p h =
    subst (λ (s : Stored). Passing old s (n + 1) changed) (sym h.0) (record { grows = p.grows; settled = λ e. settled_more now.atoms now.clauses n (p.settled e) h.1 })
