-- The rounds of a walk.
use Rattle.std.proofs.Common.{◌≡◌, ℕ, zero, suc, ◌+◌, ◌-◌, ◌<◌, ◌≤◌, Bool, true, false, if◌then◌else◌, ℤ, List, [], ◌∷◌, ◌++◌, length, ap, sym, subst, ◌∙◌, arith, length-append}
use Rattle.std.specs.Prelude.{Option, Some, None}
use Rattle.std.specs.Ordering.{int_eq}
use Rattle.std.specs.Cmp.Lexicographic.{pointwise}
use Rattle.std.proofs.lemmas.List.{map-append}
use Rattle.std.proofs.lemmas.List.Elements.{All-append}
use Rattle.rand_pcg.specs.Lcg.{Lcg}
use Rattle.lucy_plan.specs.declared.parts.PlanParts.{PlanParts}
use Rattle.lucy_expr.specs.Trees.{Tree}
use Rattle.lucy_walks.specs.Walks.{made, enters, gives, walk_on}
use Rattle.lucy_walks.specs.declared.entries.Entry.{Entry}
use Rattle.lucy_walks.specs.Entries.{tree_in, trees_in, IsEntry, AreEntries, Offers}

-- a walk from some round on, as it is from the first on
pub record GoesOn (plan : PlanParts) (goal : List ℤ) (rounds round : ℕ) (pool : List Tree) (generator : Lcg) (first : List Tree) (before : Lcg) : Type 0 where
  pub is : walk_on plan goal (rounds - round) pool generator ≡ walk_on plan goal rounds first before

-- one round, of those that are left
round_is : (plan : PlanParts) (goal : List ℤ) (rounds round : ℕ) (pool : List Tree) (generator : Lcg) → round < rounds
    → walk_on plan goal (rounds - round) pool generator ≡ walk_on plan goal (suc (rounds - (round + 1))) pool generator
round_is plan goal rounds round pool generator h =
    let e : rounds - round ≡ suc (rounds - (round + 1)) = omega arith in
    ap (λ n. walk_on plan goal n pool generator) e

-- what is made does not enter
passed : {plan : PlanParts} {goal : List ℤ} {rounds round : ℕ} {pool : List Tree} {generator : Lcg} {first : List Tree} {before : Lcg} (after : Lcg) → GoesOn plan goal rounds round pool generator first before
    → round < rounds → enters plan (made plan pool generator).0 ≡ false → after ≡ (made plan pool generator).1
    → GoesOn plan goal rounds (round + 1) pool after first before
passed {plan} {goal} {rounds} {round} {pool} {generator} after h below out next =
    record {
      is =
          ap (walk_on plan goal (rounds - (round + 1)) pool) next
          ∙ sym (ap (λ (b : Bool). if b
          then (if gives plan goal (made plan pool generator).0 then Some (made plan pool generator).0 else walk_on plan goal (rounds - (round + 1)) (pool ++ (made plan pool generator).0 ∷ []) (made plan pool generator).1)
          else walk_on plan goal (rounds - (round + 1)) pool (made plan pool generator).1) out)
          ∙ sym (round_is plan goal rounds round pool generator below)
          ∙ h.is;
    }

-- what is made enters, and gives or does not give the goal
entered : (plan : PlanParts) (goal : List ℤ) (rounds round : ℕ) (pool : List Tree) (generator : Lcg) → round < rounds → enters plan (made plan pool generator).0 ≡ true
    → walk_on plan goal (rounds - round) pool generator
    ≡ (if gives plan goal (made plan pool generator).0 then Some (made plan pool generator).0 else walk_on plan goal (rounds - (round + 1)) (pool ++ (made plan pool generator).0 ∷ []) (made plan pool generator).1)
entered plan goal rounds round pool generator below inside =
    round_is plan goal rounds round pool generator below
    ∙ ap (λ (b : Bool). if b
    then (if gives plan goal (made plan pool generator).0 then Some (made plan pool generator).0 else walk_on plan goal (rounds - (round + 1)) (pool ++ (made plan pool generator).0 ∷ []) (made plan pool generator).1)
    else walk_on plan goal (rounds - (round + 1)) pool (made plan pool generator).1) inside

grown : {plan : PlanParts} {goal : List ℤ} {rounds round : ℕ} {pool : List Tree} {generator : Lcg} {first : List Tree} {before : Lcg} (tree : Tree) (after : Lcg) → GoesOn plan goal rounds round pool generator first before
    → round < rounds → enters plan (made plan pool generator).0 ≡ true → tree ≡ (made plan pool generator).0 → gives plan goal tree ≡ false → after ≡ (made plan pool generator).1
    → GoesOn plan goal rounds (round + 1) (pool ++ tree ∷ []) after first before
grown {plan} {goal} {rounds} {round} {pool} {generator} tree after h below inside is off next =
    let other : gives plan goal (made plan pool generator).0 ≡ false = subst (λ (t : Tree). gives plan goal t ≡ false) is off in
    record {
      is =
          ap (λ (t : Tree). walk_on plan goal (rounds - (round + 1)) (pool ++ t ∷ []) after) is
          ∙ ap (walk_on plan goal (rounds - (round + 1)) (pool ++ (made plan pool generator).0 ∷ [])) next
          ∙ sym (ap (λ (b : Bool). if b then Some (made plan pool generator).0 else walk_on plan goal (rounds - (round + 1)) (pool ++ (made plan pool generator).0 ∷ []) (made plan pool generator).1) other)
          ∙ sym (entered plan goal rounds round pool generator below inside)
          ∙ h.is;
    }

ended : {plan : PlanParts} {goal : List ℤ} {rounds round : ℕ} {pool : List Tree} {generator : Lcg} {first : List Tree} {before : Lcg} (tree : Tree) → GoesOn plan goal rounds round pool generator first before
    → round < rounds → enters plan (made plan pool generator).0 ≡ true → tree ≡ (made plan pool generator).0 → gives plan goal tree ≡ true
    → Some tree ≡ walk_on plan goal rounds first before
ended {plan} {goal} {rounds} {round} {pool} {generator} tree h below inside is on =
    let here : gives plan goal (made plan pool generator).0 ≡ true = subst (λ (t : Tree). gives plan goal t ≡ true) is on in
    ap (λ (t : Tree). Some t) is
    ∙ sym (ap (λ (b : Bool). if b then Some (made plan pool generator).0 else walk_on plan goal (rounds - (round + 1)) (pool ++ (made plan pool generator).0 ∷ []) (made plan pool generator).1) here)
    ∙ sym (entered plan goal rounds round pool generator below inside)
    ∙ h.is

-- no round is left
over : {plan : PlanParts} {goal : List ℤ} {rounds round : ℕ} {pool : List Tree} {generator : Lcg} {first : List Tree} {before : Lcg} → GoesOn plan goal rounds round pool generator first before
    → rounds ≤ round → None ≡ walk_on plan goal rounds first before
over {plan} {goal} {rounds} {round} {pool} {generator} h none =
    let e : rounds - round ≡ 0 = omega arith in
    sym (ap (λ n. walk_on plan goal n pool generator) e) ∙ h.is

-- the loop over the rounds: what is known of its pool
pub record Walking (plan : PlanParts) (goal : List ℤ) (rounds round : ℕ) (entries : List Entry) (generator : Lcg) (first : List Tree) (before : Lcg) : Type 0 where
  pub some : 0 < length entries
  pub few : length entries ≤ round + 1
  pub are : AreEntries plan entries
  pub goes : GoesOn plan goal rounds round (trees_in entries) generator first before

offered : (plan : PlanParts) (tree : Tree) (found : Option Entry) (entry : Entry) → Offers plan tree found → found ≡ Some entry → (enters plan tree ≡ true) × (tree_in entry ≡ tree) × IsEntry plan entry
offered plan tree found entry h e = subst (Offers plan tree) e h

none_offered : (plan : PlanParts) (tree : Tree) (found : Option Entry) → Offers plan tree found → found ≡ None → enters plan tree ≡ false
none_offered plan tree found h e = subst (Offers plan tree) e h

-- a state is the goal where its expression gives the goal
given : (plan : PlanParts) (goal : List ℤ) (entry : Entry) (test answer : Bool) → IsEntry plan entry → test ≡ pointwise int_eq entry.state goal → test ≡ answer → gives plan goal (tree_in entry) ≡ answer
given plan goal entry test answer is e f = ap (λ (x : List ℤ). pointwise int_eq x goal) (sym is.state_is) ∙ sym e ∙ f

pub stays : {plan : PlanParts} {goal : List ℤ} {rounds round : ℕ} {entries : List Entry} {generator : Lcg} {first : List Tree} {before : Lcg} (found : Option Entry) (after : Lcg) (kept : List Entry)
    → Walking plan goal rounds round entries generator first before → round < rounds → Offers plan (made plan (trees_in entries) generator).0 found → found ≡ None
    → after ≡ (made plan (trees_in entries) generator).1 → kept ≡ entries
    → Walking plan goal rounds (round + 1) kept after first before
stays {plan} {goal} {rounds} {round} {entries} {generator} {first} {before} found after kept h below offer none next same =
    subst (λ (es : List Entry). Walking plan goal rounds (round + 1) es after first before) (sym same) (record {
      some = h.some;
      few = omega (arith, h.few);
      are = h.are;
      goes = passed after h.goes below (none_offered plan (made plan (trees_in entries) generator).0 found offer none) next;
    })

one : (plan : PlanParts) (entry : Entry) → IsEntry plan entry → AreEntries plan (entry ∷ [])
one plan entry h zero d k = h
one plan entry h (suc n) d k = absurd (omega (arith, k))

pub grows : {plan : PlanParts} {goal : List ℤ} {rounds round : ℕ} {entries : List Entry} {generator : Lcg} {first : List Tree} {before : Lcg} (found : Option Entry) (entry : Entry) (test : Bool) (after : Lcg) (kept : List Entry)
    → Walking plan goal rounds round entries generator first before → round < rounds → Offers plan (made plan (trees_in entries) generator).0 found → found ≡ Some entry
    → test ≡ pointwise int_eq entry.state goal → test ≡ false
    → after ≡ (made plan (trees_in entries) generator).1 → kept ≡ entries ++ entry ∷ []
    → Walking plan goal rounds (round + 1) kept after first before
grows {plan} {goal} {rounds} {round} {entries} {generator} {first} {before} found entry test after kept h below offer some tested off next same =
    let is = offered plan (made plan (trees_in entries) generator).0 found entry offer some in
    let trees : trees_in (entries ++ entry ∷ []) ≡ trees_in entries ++ tree_in entry ∷ [] = map-append tree_in entries (entry ∷ []) in
    subst (λ (es : List Entry). Walking plan goal rounds (round + 1) es after first before) (sym same) (record {
      some = omega (arith, length-append entries (entry ∷ []));
      few = omega (arith, h.few, length-append entries (entry ∷ []));
      are = All-append (IsEntry plan) entries (entry ∷ []) h.are (one plan entry is.2);
      goes = subst (λ (ts : List Tree). GoesOn plan goal rounds (round + 1) ts after first before) (sym trees)
          (grown (tree_in entry) after h.goes below is.0 is.1 (given plan goal entry test false is.2 tested off) next);
    })

pub ends : {plan : PlanParts} {goal : List ℤ} {rounds round : ℕ} {entries : List Entry} {generator : Lcg} {first : List Tree} {before : Lcg} (found : Option Entry) (entry : Entry) (test : Bool)
    → Walking plan goal rounds round entries generator first before → round < rounds → Offers plan (made plan (trees_in entries) generator).0 found → found ≡ Some entry
    → test ≡ pointwise int_eq entry.state goal → test ≡ true
    → Some (tree_in entry) ≡ walk_on plan goal rounds first before
ends {plan} {goal} {rounds} {round} {entries} {generator} found entry test h below offer some tested on =
    let is = offered plan (made plan (trees_in entries) generator).0 found entry offer some in
    ended (tree_in entry) h.goes below is.0 is.1 (given plan goal entry test true is.2 tested on)

pub runs_out : {plan : PlanParts} {goal : List ℤ} {rounds round : ℕ} {entries : List Entry} {generator : Lcg} {first : List Tree} {before : Lcg}
    → Walking plan goal rounds round entries generator first before → rounds ≤ round → None ≡ walk_on plan goal rounds first before
runs_out h none = over h.goes none

pub begins : (plan : PlanParts) (goal : List ℤ) (rounds : ℕ) (entry : Entry) (generator : Lcg) (entries : List Entry) → IsEntry plan entry → entries ≡ entry ∷ []
    → Walking plan goal rounds 0 entries generator (tree_in entry ∷ []) generator
begins plan goal rounds entry generator entries is same =
    subst (λ (es : List Entry). Walking plan goal rounds 0 es generator (tree_in entry ∷ []) generator) (sym same) (record {
      some = omega arith;
      few = omega arith;
      are = one plan entry is;
      goes = record { is = ap (λ n. walk_on plan goal n (tree_in entry ∷ []) generator) (omega arith) };
    })

-- the loop, of a pool that is lent
pub lent : {plan : PlanParts} {goal : List ℤ} {rounds round : ℕ} {entries : List Entry} {generator : Lcg} {first : List Tree} {before : Lcg} (pool : List Entry)
    → pool ≡ entries → Walking plan goal rounds round entries generator first before → Walking plan goal rounds round pool generator first before
lent {plan} {goal} {rounds} {round} {entries} {generator} {first} {before} pool same h =
    subst (λ (es : List Entry). Walking plan goal rounds round es generator first before) (sym same) h
