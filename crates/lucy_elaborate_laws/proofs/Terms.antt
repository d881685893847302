-- Terms in range.
use Rattle.std.proofs.Common.{◌≡◌, ℕ, ◌+◌, ◌<◌, ◌≤◌, ◌^◌, ◌&&◌, nat_le, nat_lt, ℤ, pos, unsigned_abs, List, [], ◌∷◌, ◌++◌, length, Bool, true, false, cond as if_then, Err, refl, ap, subst, arith}
use Rattle.std.specs.Ordering.{int_eq}
use Rattle.std.proofs.lemmas.Bool.Decides.{nat_tests}
use Rattle.lucy_model.specs.declared.terms.Share.{Share}
use Rattle.lucy_model.specs.declared.terms.Term.{Term}
use Rattle.lucy_model.specs.Terms.{are_shares, is_term, most_factor, most_constant}
use Rattle.lucy_plan.specs.declared.refusal.What.{What}
use Rattle.lucy_plan.specs.declared.refusal.What.TheVariants as what
use Rattle.lucy_gather.specs.declared.error.ElabError.{ElabError}
use Rattle.lucy_gather.specs.declared.terms.Gathered.{Gathered}
use Rattle.lucy_gather.specs.declared.terms.Wide.{Wide}
use Rattle.lucy_gather.specs.Steps.{then_of, each_from, Goes}
use Rattle.lucy_gather.specs.Terms.{within, share_in, share_of, shares_in, shares_of, term_of, term_by}
use Rattle.lucy_elaborate_laws.proofs.Keeping.{done, ok_is, only, only_is, then_passed, state_is, goes_bind, goes_pure}

-- a number that is within its limit
pub within_is : (w : What) (most : ℕ) (x k : ℤ) → within w most x ≡ only k → unsigned_abs k ≤ most
unfolding within
within_is w most x k e = by (nat_lt most (unsigned_abs x)) refl _ e
  where
    by : (b : Bool) → nat_lt most (unsigned_abs x) ≡ b → (d : ElabError) → if_then b (Err d) (only x) ≡ only k → unsigned_abs k ≤ most
    by true f d e = absurd cc
    by false f d e = subst (λ z. unsigned_abs z ≤ most) (only_is e) (grind (arith, nat_tests, f))

pub share_parts : (from end slot size : ℕ) (rest : Bool) → (nat_le from slot && nat_lt slot end && nat_le size most_factor && rest) ≡ true
    → (from ≤ slot) × (slot < end) × (size ≤ 1000000) × (rest ≡ true)
share_parts from end slot size rest h = grind (arith, nat_tests)

share_whole : (from end slot size : ℕ) (rest : Bool) → from ≤ slot → slot < end → size ≤ 1000000 → rest ≡ true
    → (nat_le from slot && nat_lt slot end && nat_le size most_factor && rest) ≡ true
share_whole from end slot size rest a b c d = grind (arith, nat_tests)

shares-more : (from at end : ℕ) (found : List Share) → at ≤ end → are_shares from at found ≡ true → are_shares from end found ≡ true
shares-more from at end [] le h = refl
shares-more from at end (x ∷ xs) le h =
    let (a, b, c, d) = share_parts from at x.slot (unsigned_abs x.by) (are_shares (x.slot + 1) at xs) h in
    share_whole from end x.slot (unsigned_abs x.by) (are_shares (x.slot + 1) end xs) a (omega arith) c (shares-more (x.slot + 1) at end xs le d)

shares-push : (from at end : ℕ) (found : List Share) (s : Share) → are_shares from at found ≡ true → from ≤ s.slot → at ≤ s.slot → s.slot < end → unsigned_abs s.by ≤ 1000000
    → are_shares from end (found ++ s ∷ []) ≡ true
shares-push from at end [] s h low above below small = share_whole from end s.slot (unsigned_abs s.by) true low below small refl
shares-push from at end (x ∷ xs) s h low above below small =
    let (a, b, c, d) = share_parts from at x.slot (unsigned_abs x.by) (are_shares (x.slot + 1) at xs) h in
    share_whole from end x.slot (unsigned_abs x.by) (are_shares (x.slot + 1) end (xs ++ s ∷ [])) a (omega arith) c
    (shares-push (x.slot + 1) at end xs s d (omega arith) above below small)

abbrev Ascends : ℕ → List Share → Type 0
Ascends at found = are_shares 0 at found ≡ true

share_goes : (slot : ℕ) (x : Wide) → Goes (Ascends slot) (share_in slot x) (λ _. Ascends (slot + 1))
unfolding share_in
share_goes slot x = record { goes = λ s t a before e. by (int_eq x.by (pos 0)) s t a before e }
  where
    by : (b : Bool) (s t : List Share) (a : Unit {0}) → Ascends slot s
        → if_then b (done (tt, s)) (then_of (within what.Coefficient 1000000 x.by) (λ k. done (tt, s ++ share_of slot k ∷ []))) ≡ done (a, t) → Ascends (slot + 1) t
    by true s t a before e = subst (Ascends (slot + 1)) (ap (λ p. p.1) (ok_is e)) (shares-more 0 slot (slot + 1) s (omega arith) before)
    by false s t a before e =
        let (k, kept, made) = then_passed (within what.Coefficient 1000000 x.by) (λ k. done (tt, s ++ share_of slot k ∷ [])) (a, t) e in
        subst (Ascends (slot + 1)) (ap (λ p. p.1) (ok_is made))
        (shares-push 0 slot (slot + 1) s (share_of slot k) before (omega arith) (omega arith) (omega arith) (within_is what.Coefficient 1000000 x.by k kept))

shares_goes : (at : ℕ) (factors : List Wide) → Goes (Ascends at) (each_from share_in at factors) (λ _. Ascends (at + length factors))
shares_goes at [] = goes_pure tt (λ s k. subst (λ n. Ascends n s) (omega arith) k)
shares_goes at (x ∷ xs) = goes_bind (share_goes at x) (λ _. subst (λ n. Goes (Ascends (at + 1)) (each_from share_in (at + 1) xs) (λ _. Ascends n)) (omega arith) (shares_goes (at + 1) xs))

pub shares_is : (factors : List Wide) (shares : List Share) → shares_of factors ≡ only shares → are_shares 0 (length factors) shares ≡ true
unfolding shares_of
shares_is factors shares e =
    let (a, gave) = state_is (shares_in factors []) shares e in
    let none_before : 0 + length factors ≡ length factors = omega arith in
    subst (λ n. are_shares 0 n shares ≡ true) none_before ((shares_goes 0 factors).goes [] shares a refl gave)

term_whole : (a b : Bool) (n : ℕ) → a ≡ true → b ≡ true → n ≤ 2 ^ 62 → (a && b && nat_le n most_constant) ≡ true
term_whole a b n e f h = grind (arith, nat_tests)

pub term_is : (g : Gathered) (t : Term) → term_of g ≡ only t → is_term (length g.leaves) (length g.arguments) t ≡ true
unfolding term_of
term_is g t e =
    let (ls, l, rest) = then_passed (shares_of g.leaves) (λ leaves. then_of (shares_of g.arguments) (λ arguments. then_of (within what.Constant (2 ^ 62) g.constant) (λ k. only (term_by leaves arguments k)))) t e in
    let (xs, a, rest') = then_passed (shares_of g.arguments) (λ arguments. then_of (within what.Constant (2 ^ 62) g.constant) (λ k. only (term_by ls arguments k))) t rest in
    let (k, c, last) = then_passed (within what.Constant (2 ^ 62) g.constant) (λ k. only (term_by ls xs k)) t rest' in
    subst (λ u. is_term (length g.leaves) (length g.arguments) u ≡ true) (only_is {u = term_by ls xs k} {v = t} last)
    (term_whole (are_shares 0 (length g.leaves) ls) (are_shares 0 (length g.arguments) xs) (unsigned_abs k)
    (shares_is g.leaves ls l) (shares_is g.arguments xs a) (within_is what.Constant (2 ^ 62) g.constant k c))
