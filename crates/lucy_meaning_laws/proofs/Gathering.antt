-- What is gathered comes to what was added.
use Rattle.std.proofs.Common.{◌≡◌, ℕ, zero, suc, ◌+◌, ◌≤◌, ℤ, pos, ◌+ℤ◌, ◌*ℤ◌, List, [], ◌∷◌, length, replicate, Option, Some, None, Result, Ok, Err, slice_get, refl, sym, ap, subst, ◌∙◌, arith}
use Rattle.std.proofs.lemmas.Int.{ints}
use Rattle.std.proofs.lemmas.List.{length-set}
use Rattle.std.proofs.Math.ListN.{get_or-eq_default}
use Rattle.lucy_model.specs.Numbers.{number_at}
use Rattle.lucy_gather.specs.declared.error.ElabError.{ElabError}
use Rattle.lucy_gather.specs.declared.scopes.Variable.{Variable}
use Rattle.lucy_gather.specs.declared.scopes.Variable.TheVariants as variable
use Rattle.lucy_gather.specs.declared.terms.Gathered.{Gathered}
use Rattle.lucy_gather.specs.declared.terms.Wide.{Wide}
use Rattle.lucy_gather.specs.Steps.{Step, then_of, state_of}
use Rattle.lucy_gather.specs.Terms.{wide, raised, raised_by, raised_all, gathered_in, gather, stepped, with_leaves, with_arguments, shifted}
use Rattle.lucy_meaning_laws.specs.Meanings.{leaves_sum}
use Rattle.lucy_meaning_laws.proofs.Integers.{sum_times, times_sum, times_nothing}
use Rattle.lucy_meaning_laws.proofs.Adding.{gives, given_is, one_by_one, state_given, Adds, adds_same, adds_nothing, adds_both}

-- ---- a list of factors, from a place on

-- the sum of the numbers at the places, each times its factor
abbrev pub weighed : ℕ → List Wide → List ℤ → ℤ
weighed at [] xs = pos 0
weighed at (w ∷ factors) xs = w.by *ℤ number_at xs at +ℤ weighed (at + 1) factors xs

raised_later : (w : Wide) (factors : List Wide) (slot : ℕ) (by : ℤ) (o : Option Wide) → raised_by (w ∷ factors) (suc slot) by o ≡ w ∷ raised_by factors slot by o
raised_later w factors slot by None = refl
raised_later w factors slot by (Some x) = refl

raised_long : (factors : List Wide) (slot : ℕ) (by : ℤ) (o : Option Wide) → length (raised_by factors slot by o) ≡ length factors
raised_long factors slot by None = refl
raised_long factors slot by (Some x) = length-set factors slot (wide (x.by +ℤ by))

-- one factor grows
pub raised_weighed : (at slot : ℕ) (factors : List Wide) (by : ℤ) (xs : List ℤ) → length xs ≤ at + length factors
    → weighed at (raised_by factors slot by (slice_get factors slot)) xs ≡ weighed at factors xs +ℤ by *ℤ number_at xs (at + slot)
raised_weighed at slot [] by xs short =
    add_product by (number_at xs (at + slot)) (get_or-eq_default xs (pos 0) (omega (arith, short)))
  where
    add_product : (x y : ℤ) → y ≡ pos 0 → pos 0 ≡ pos 0 +ℤ x *ℤ y
    add_product x y e = rw e (omega (arith, ints))
raised_weighed at zero (w ∷ factors) by xs short =
    grown w.by by (number_at xs at) (weighed (at + 1) factors xs) ∙ ap (λ n. weighed at (w ∷ factors) xs +ℤ by *ℤ number_at xs n) (no_more at)
  where
    grown : (a b x rest : ℤ) → (a +ℤ b) *ℤ x +ℤ rest ≡ (a *ℤ x +ℤ rest) +ℤ b *ℤ x
    grown a b x rest = omega (arith, ints, sum_times a b x)

    no_more : (n : ℕ) → n ≡ n + 0
    no_more n = omega arith
raised_weighed at (suc slot) (w ∷ factors) by xs short =
    ap (λ ws. weighed at ws xs) (raised_later w factors slot by (slice_get factors slot))
    ∙ ap (λ n. w.by *ℤ number_at xs at +ℤ n) (raised_weighed (at + 1) slot factors by xs (omega (arith, short)))
    ∙ ap (λ k. w.by *ℤ number_at xs at +ℤ (weighed (at + 1) factors xs +ℤ by *ℤ number_at xs k)) (next at slot)
    ∙ behind (w.by *ℤ number_at xs at) (weighed (at + 1) factors xs) (by *ℤ number_at xs (at + suc slot))
  where
    next : (m n : ℕ) → m + 1 + n ≡ m + suc n
    next m n = omega arith

    behind : (a b c : ℤ) → a +ℤ (b +ℤ c) ≡ (a +ℤ b) +ℤ c
    behind a b c = omega (arith, ints)

-- no factor at all
pub none_weighed : (at n : ℕ) (xs : List ℤ) → weighed at (replicate n (wide (pos 0))) xs ≡ pos 0
none_weighed at zero xs = refl
none_weighed at (suc n) xs = added (number_at xs at) (weighed (at + 1) (replicate n (wide (pos 0))) xs) (none_weighed (at + 1) n xs)
  where
    added : (x rest : ℤ) → rest ≡ pos 0 → pos 0 *ℤ x +ℤ rest ≡ pos 0
    added x rest e = rw e (omega (arith, ints))

module _ (xs : List ℤ) where
  -- a factor for each number
  abbrev pub AreFactors : List Wide → Type 0
  AreFactors factors = length xs ≡ length factors

  abbrev pub weight : List Wide → ℤ
  weight factors = weighed 0 factors xs

  raised_adds : (slot : ℕ) (by : ℤ) → Adds AreFactors weight (raised slot by) (by *ℤ number_at xs slot)
  unfolding raised
  raised_adds slot by = record {
    adds = λ s t u sound e.
        let made : raised_by s slot by (slice_get s slot) ≡ t = ap (λ p. p.1) (given_is e) in (
          sound ∙ sym (raised_long s slot by (slice_get s slot)) ∙ ap length made,
          ap weight (sym made) ∙ raised_weighed 0 slot s by xs (enough (length xs) (length s) sound) ∙ ap (λ n. weight s +ℤ by *ℤ number_at xs n) (start slot),
        );
  }
    where
      enough : (m n : ℕ) → m ≡ n → m ≤ 0 + n
      enough m n e = omega (arith, e)

      start : (n : ℕ) → 0 + n ≡ n
      start n = omega arith

  raised_all_adds : (first count : ℕ) (by : ℤ) → Adds AreFactors weight (raised_all first count (wide by)) (by *ℤ leaves_sum xs first count)
  raised_all_adds first zero by = adds_same (pos 0) (by *ℤ pos 0) (times_nothing by) (adds_nothing tt)
  raised_all_adds first (suc count) by =
      let x = number_at xs first in
      let rest = leaves_sum xs (first + 1) count in
      adds_same (by *ℤ x +ℤ by *ℤ rest) (by *ℤ (x +ℤ rest)) (sym (times_sum by x rest))
      (adds_both (by *ℤ x) (by *ℤ rest) (raised_adds first by) (λ u. raised_all_adds (first + 1) count by))

-- ---- what is gathered

module _ (xs arguments : List ℤ) where
  pub record IsFull (g : Gathered) : Type 0 where
    pub leaf : AreFactors xs g.leaves
    pub argument : AreFactors arguments g.arguments

  -- what it comes to
  abbrev pub gathered_value : Gathered → ℤ
  gathered_value g = g.constant +ℤ weight xs g.leaves +ℤ weight arguments g.arguments

  abbrev pub GathersMore : Step Gathered (Unit {0}) → ℤ → Type 0
  GathersMore = Adds IsFull gathered_value

  -- the value of what a product adds to
  abbrev pub variable_value : Variable → ℤ
  variable_value (variable.Leaf leaf) = number_at xs leaf
  variable_value (variable.Argument place) = number_at arguments place
  variable_value (variable.Leaves first count) = leaves_sum xs first count

  -- what a step makes of a list of factors, put back
  put_more : (numbers : List ℤ) (before : List Wide) (step : Step (List Wide) (Unit {0})) (x : ℤ) (put : List Wide → Gathered) (u : Gathered) (P : Gathered → Type 0)
      → Adds (AreFactors numbers) (weight numbers) step x → AreFactors numbers before → then_of (state_of (step before)) (λ factors. gives (put factors)) ≡ gives u
      → ((factors : List Wide) → AreFactors numbers factors → weight numbers factors ≡ weight numbers before +ℤ x → P (put factors)) → P u
  put_more numbers before step x put u P more are e made =
      let (factors, e1, e2) = one_by_one (state_of (step before)) (λ factors. gives (put factors)) u e in
      let (a, e3) = state_given (step before) factors e1 in
      let now = more.adds before factors a are e3 in
      subst P (given_is e2) (made factors now.0 now.1)

  leaves_more : (g u : Gathered) (step : Step (List Wide) (Unit {0})) (x : ℤ) → IsFull g → Adds (AreFactors xs) (weight xs) step x
      → then_of (state_of (step g.leaves)) (λ factors. gives (with_leaves g factors)) ≡ gives u → IsFull u × (gathered_value u ≡ gathered_value g +ℤ x)
  leaves_more g u step x full more e =
      let P : Gathered → Type 0 = λ v. IsFull v × (gathered_value v ≡ gathered_value g +ℤ x) in
      put_more xs g.leaves step x (with_leaves g) u P more full.leaf e
      (λ factors are now. (record { leaf = are; argument = full.argument }, moved g.constant (weight xs g.leaves) (weight arguments g.arguments) x (weight xs factors) now))
    where
      moved : (c l a x m : ℤ) → m ≡ l +ℤ x → c +ℤ m +ℤ a ≡ c +ℤ l +ℤ a +ℤ x
      moved c l a x m e = rw e (omega (arith, ints))

  arguments_more : (g u : Gathered) (step : Step (List Wide) (Unit {0})) (x : ℤ) → IsFull g → Adds (AreFactors arguments) (weight arguments) step x
      → then_of (state_of (step g.arguments)) (λ factors. gives (with_arguments g factors)) ≡ gives u → IsFull u × (gathered_value u ≡ gathered_value g +ℤ x)
  arguments_more g u step x full more e =
      let P : Gathered → Type 0 = λ v. IsFull v × (gathered_value v ≡ gathered_value g +ℤ x) in
      put_more arguments g.arguments step x (with_arguments g) u P more full.argument e
      (λ factors are now. (record { leaf = full.leaf; argument = are }, moved g.constant (weight xs g.leaves) (weight arguments g.arguments) x (weight arguments factors) now))
    where
      moved : (c l a x m : ℤ) → m ≡ a +ℤ x → c +ℤ l +ℤ m ≡ c +ℤ l +ℤ a +ℤ x
      moved c l a x m e = rw e (omega (arith, ints))

  gathered_more : (v : Variable) (by : ℤ) (g u : Gathered) → IsFull g → gathered_in v by g ≡ gives u
      → IsFull u × (gathered_value u ≡ gathered_value g +ℤ by *ℤ variable_value v)
  unfolding gathered_in
  gathered_more (variable.Leaf leaf) by g u full e = leaves_more g u (raised leaf by) (by *ℤ number_at xs leaf) full (raised_adds xs leaf by) e
  gathered_more (variable.Argument place) by g u full e = arguments_more g u (raised place by) (by *ℤ number_at arguments place) full (raised_adds arguments place by) e
  gathered_more (variable.Leaves first count) by g u full e = leaves_more g u (raised_all first count (wide by)) (by *ℤ leaves_sum xs first count) full (raised_all_adds xs first count by) e

  stepped_from : (r : Result Gathered ElabError) (u : Gathered) (a : Unit {0}) → stepped r ≡ gives (a, u) → r ≡ gives u
  stepped_from (Ok g) u a e = ap (λ p. gives p.1) (given_is e)
  stepped_from (Err d) u a e = absurd cc

  pub gather_adds : (v : Variable) (by : ℤ) → GathersMore (gather v by) (by *ℤ variable_value v)
  unfolding gather
  gather_adds v by = record { adds = λ g u a full e. gathered_more v by g u full (stepped_from (gathered_in v by g) u a e) }

  pub shifted_adds : (by : ℤ) → GathersMore (shifted by) by
  unfolding shifted
  shifted_adds by = record {
    adds = λ g u a full e.
        let P : Gathered → Type 0 = λ v. IsFull v × (gathered_value v ≡ gathered_value g +ℤ by) in
        subst P (ap (λ p. p.1) (given_is e)) (record { leaf = full.leaf; argument = full.argument }, moved g.constant (weight xs g.leaves) (weight arguments g.arguments));
  }
    where
      moved : (c l a : ℤ) → (c +ℤ by) +ℤ l +ℤ a ≡ c +ℤ l +ℤ a +ℤ by
      moved c l a = omega (arith, ints)
