-- The shares of a term weigh what was gathered.
use Rattle.std.proofs.Common.{◌≡◌, ℕ, ◌+◌, ◌^◌, nat_lt, ℤ, pos, ◌+ℤ◌, ◌*ℤ◌, unsigned_abs, List, [], ◌∷◌, ◌++◌, Bool, true, false, cond as if_then, Err, refl, sym, ap, ◌∙◌, arith}
use Rattle.std.specs.Ordering.{int_eq}
use Rattle.std.proofs.lemmas.Int.{ints}
use Rattle.std.proofs.lemmas.Bool.Decides.{Decides-int_eq}
use Rattle.lucy_model.specs.Numbers.{number_at}
use Rattle.lucy_model.specs.declared.terms.Share.{Share}
use Rattle.lucy_model.specs.declared.terms.Term.{Term}
use Rattle.lucy_model.specs.Terms.{shares_value, term_value}
use Rattle.lucy_plan.specs.declared.refusal.What.{What}
use Rattle.lucy_plan.specs.declared.refusal.What.TheVariants as what
use Rattle.lucy_gather.specs.declared.error.ElabError.{ElabError}
use Rattle.lucy_gather.specs.declared.terms.Gathered.{Gathered}
use Rattle.lucy_gather.specs.declared.terms.Wide.{Wide}
use Rattle.lucy_gather.specs.Steps.{then_of, each_from}
use Rattle.lucy_gather.specs.Terms.{within, share_in, share_of, shares_in, shares_of, term_of, term_by}
use Rattle.lucy_meaning_laws.proofs.Adding.{gives, left_with, given_is, one_by_one, state_given, Adds, adds_nothing, adds_both}
use Rattle.lucy_meaning_laws.proofs.Gathering.{weighed, gathered_value}

-- what is within its limit stays as it is
within_same : (w : What) (most : ℕ) (x k : ℤ) → within w most x ≡ gives k → x ≡ k
unfolding within
within_same w most x k e = by (nat_lt most (unsigned_abs x)) _ e
  where
    by : (b : Bool) (d : ElabError) → if_then b (Err d) (gives x) ≡ gives k → x ≡ k
    by true d e = absurd cc
    by false d e = given_is e

-- one more share
pushed_value : (shares : List Share) (s : Share) (xs : List ℤ) → shares_value (shares ++ s ∷ []) xs ≡ shares_value shares xs +ℤ s.by *ℤ number_at xs s.slot
pushed_value [] s xs = alone (s.by *ℤ number_at xs s.slot)
  where
    alone : (x : ℤ) → x +ℤ pos 0 ≡ pos 0 +ℤ x
    alone x = omega (arith, ints)
pushed_value (share ∷ shares) s xs =
    ap (λ n. share.by *ℤ number_at xs share.slot +ℤ n) (pushed_value shares s xs) ∙ behind (share.by *ℤ number_at xs share.slot) (shares_value shares xs) (s.by *ℤ number_at xs s.slot)
  where
    behind : (a b c : ℤ) → a +ℤ (b +ℤ c) ≡ (a +ℤ b) +ℤ c
    behind a b c = omega (arith, ints)

module _ (xs : List ℤ) where
  abbrev Any : List Share → Type 0
  Any shares = Unit {0}

  abbrev worth : List Share → ℤ
  worth shares = shares_value shares xs

  -- a factor of 0 adds nothing
  share_adds : (slot : ℕ) (w : Wide) → Adds Any worth (share_in slot w) (w.by *ℤ number_at xs slot)
  unfolding share_in
  share_adds slot w = record { adds = λ s t u any e. (tt, by (int_eq w.by (pos 0)) (Decides-int_eq w.by (pos 0)).0 s t u e) }
    where
      left_out : (x y v : ℤ) → x ≡ pos 0 → v ≡ v +ℤ x *ℤ y
      left_out x y v e = rw e (omega (arith, ints))

      by : (b : Bool) → (b ≡ true → w.by ≡ pos 0) → (s t : List Share) (u : Unit {0})
          → if_then b (left_with (tt {0}) s) (then_of (within what.Coefficient 1000000 w.by) (λ k. left_with (tt {0}) (s ++ share_of slot k ∷ []))) ≡ left_with u t
          → worth t ≡ worth s +ℤ w.by *ℤ number_at xs slot
      by true zero s t u e = ap (λ p. worth p.1) (sym (given_is e)) ∙ left_out w.by (number_at xs slot) (worth s) (zero refl)
      by false zero s t u e =
          let (k, e1, e2) = one_by_one (within what.Coefficient 1000000 w.by) (λ k. left_with (tt {0}) (s ++ share_of slot k ∷ [])) (u, t) e in
          ap (λ p. worth p.1) (sym (given_is e2)) ∙ pushed_value s (share_of slot k) xs
          ∙ ap (λ n. worth s +ℤ n *ℤ number_at xs slot) (sym (within_same what.Coefficient 1000000 w.by k e1))

  shares_add : (at : ℕ) (factors : List Wide) → Adds Any worth (each_from share_in at factors) (weighed at factors xs)
  shares_add at [] = adds_nothing tt
  shares_add at (w ∷ factors) = adds_both (w.by *ℤ number_at xs at) (weighed (at + 1) factors xs) (share_adds at w) (λ u. shares_add (at + 1) factors)

  shares_weigh : (factors : List Wide) (shares : List Share) → shares_of factors ≡ gives shares → shares_value shares xs ≡ weighed 0 factors xs
  unfolding shares_of
  shares_weigh factors shares e =
      let (a, e1) = state_given (shares_in factors []) shares e in
      ((shares_add 0 factors).adds [] shares a tt e1).1 ∙ alone (weighed 0 factors xs)
    where
      alone : (x : ℤ) → pos 0 +ℤ x ≡ x
      alone x = omega (arith, ints)

pub term_weighs : (g : Gathered) (t : Term) (xs arguments : List ℤ) → term_of g ≡ gives t → term_value t xs arguments ≡ gathered_value xs arguments g
unfolding term_of
term_weighs g t xs arguments e =
    let with_constant = λ (ls : List Share) (us : List Share) (k : ℤ). gives (term_by ls us k) in
    let with_arguments = λ (ls : List Share) (us : List Share). then_of (within what.Constant (2 ^ 62) g.constant) (with_constant ls us) in
    let (ls, e1, f1) = one_by_one (shares_of g.leaves) (λ ls. then_of (shares_of g.arguments) (with_arguments ls)) t e in
    let (us, e2, f2) = one_by_one (shares_of g.arguments) (with_arguments ls) t f1 in
    let (k, e3, f3) = one_by_one (within what.Constant (2 ^ 62) g.constant) (with_constant ls us) t f2 in
    ap (λ u. term_value u xs arguments) (sym (given_is f3))
    ∙ ap (λ n. n +ℤ shares_value ls xs +ℤ shares_value us arguments) (sym (within_same what.Constant (2 ^ 62) g.constant k e3))
    ∙ ap (λ n. g.constant +ℤ n +ℤ shares_value us arguments) (shares_weigh xs g.leaves ls e1)
    ∙ ap (λ n. g.constant +ℤ weighed 0 g.leaves xs +ℤ n) (shares_weigh arguments g.arguments us e2)
