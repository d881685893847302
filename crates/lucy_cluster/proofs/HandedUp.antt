-- What is handed up from lock to lock.
use Rattle.std.proofs.Common.{◌≡◌, ◌<◌, ◌+◌, ◌==◌, ◌++◌, ℕ, Bool, true, false, if◌then◌else◌, List, [], ◌∷◌, replicate, refl, sym, ap, ◌∙◌, subst, arith}
use Rattle.std.specs.Prelude.{Option, Some, None, slice_get}
use Rattle.std.proofs.lemmas.Bool.{eqb-true, eq-eqb}
use Rattle.std.proofs.lemmas.Grind.{replicate_next}
use Rattle.lucy_plan.specs.declared.parts.Call.{Call}
use Rattle.lucy_epochs.specs.declared.causes.By.{By}
use Rattle.lucy_epochs.specs.Collections.{Collected, with_part}
use Rattle.lucy_epochs.specs.Rulings.{Ruling}
use Rattle.lucy_epochs.specs.Sharing.{ruling_of}
use Rattle.lucy_replica.specs.Replicas.{Replica}
use Rattle.lucy_replica.specs.Changing.{contributed, wish_of, adopted}
use Rattle.lucy_cluster.specs.declared.deciding.Decision.{Decision}
use Rattle.lucy_cluster.specs.Changes.{IsDecided, IsHandedUp, IsChanged}
use Rattle.lucy_cluster.proofs.Seats.{fewer_decided}

-- ---- grants
last_same : {X : Type 0} (xs ys : List X) (x y : X) → xs ++ x ∷ [] ≡ ys ++ y ∷ [] → (xs ≡ ys) × (x ≡ y)
last_same [] [] x y h = (refl, cc)
last_same [] (z ∷ []) x y h = absurd (let no : ⊥ = cc in no)
last_same [] (z ∷ w ∷ ys) x y h = absurd (let no : ⊥ = cc in no)
last_same (z ∷ []) [] x y h = absurd (let no : ⊥ = cc in no)
last_same (z ∷ w ∷ xs) [] x y h = absurd (let no : ⊥ = cc in no)
last_same {X} (z ∷ xs) (w ∷ ys) x y h =
    let first : z ≡ w = cc in
    let rest : xs ++ x ∷ [] ≡ ys ++ y ∷ [] = cc in
    let same = last_same xs ys x y rest in
    (ap (λ (v : X). v ∷ xs) first ∙ ap (λ (vs : List X). w ∷ vs) same.0, same.1)

-- the last of so many grants is taken
pub grant_taken : (number : ℕ) (ruling grant : Ruling) (grants : List Ruling) → grants ++ grant ∷ [] ≡ replicate (number + 1) ruling → (grants ≡ replicate number ruling) × (grant ≡ ruling)
grant_taken number ruling grant grants h = last_same grants (replicate number ruling) grant ruling (h ∙ replicate_next number ruling)

-- ---- whose call is wanted
not_equal : (m n : ℕ) → n < m → (m == n) ≡ false
not_equal m n below = by (m == n) refl
  where
    by : (b : Bool) → (m == n) ≡ b → (m == n) ≡ false
    by false e = e
    by true e = absurd (let same = eqb-true m n e in omega (arith, same, below))

module _ (collected : Collected) (number coordinator : ℕ) (given wanted : Option (Call × By)) (before : Replica) (decision : Decision)
    (wanted_is : wanted ≡ (if number == coordinator then wish_of before else given))
    (number_is : before.number ≡ number)
    (up : IsHandedUp (with_part collected (contributed before)) (number + 1) coordinator wanted decision) where
  -- the coordinator's own wish
  pub own_wish : (number == coordinator) ≡ true → up.wanted ≡ wish_of before
  own_wish own =
      let same = eqb-true number coordinator own in
      up.wanted_is (omega (arith, same)) ∙ wanted_is ∙ ap (λ (b : Bool). let w : Option (Call × By) = if b then wish_of before else given in w) own

  pub changed : (after : Replica) (left : Decision) → left.ruling ≡ decision.ruling → left.grants.items ≡ replicate number (ruling_of decision.ruling)
      → after ≡ (adopted (ruling_of decision.ruling) (number == coordinator) before).1 → IsChanged collected number coordinator given before after left
  changed after left same grants is = record {
    number_is = number_is;
    wanted = up.wanted;
    wanted_is = λ below.
        up.wanted_is (omega (arith, below)) ∙ wanted_is
        ∙ ap (λ (b : Bool). let w : Option (Call × By) = if b then wish_of before else given in w) (not_equal number coordinator below);
    wanted_here = λ here. own_wish (eq-eqb number coordinator (sym here));
    decided = subst (λ (r : _). IsDecided (with_part collected (contributed before)) up.wanted (ruling_of r)) (sym same) up.decided;
    after_is = subst (λ (r : _). after ≡ (adopted (ruling_of r) (number == coordinator) before).1) (sym same) is;
    grants_are = subst (λ (r : _). left.grants.items ≡ replicate number (ruling_of r)) (sym same) grants;
  }

-- what one frame hands up
pub handed_up : (collected : Collected) (number coordinator : ℕ) (given : Option (Call × By)) (before after : Replica) (decision : Decision)
    → slice_get collected.seats number ≡ Some None → IsChanged collected number coordinator given before after decision → IsHandedUp collected number coordinator given decision
handed_up collected number coordinator given before after decision free is = record {
  wanted = is.wanted;
  wanted_is = is.wanted_is;
  decided = fewer_decided collected (contributed before) is.wanted (ruling_of decision.ruling) (ap (slice_get collected.seats) is.number_is ∙ free) is.decided;
  grants_are = is.grants_are;
}
