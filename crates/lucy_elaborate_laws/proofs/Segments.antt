-- Points and the transactions of segments.
use Rattle.std.proofs.Common.{◌≡◌, ℕ, suc, ◌+◌, ◌<◌, ◌≤◌, ◌==◌, ◌&&◌, nat_lt, ℤ, List, [], ◌∷◌, ◌++◌, length, Bool, true, false, cond as if_then, Option, Some, None, Result, Ok, Err, refl, sym, ap, subst, ◌∙◌, length-append, slice_get, arith}
use Rattle.std.specs.Prelude.{bytes_eq}
use Rattle.std.specs.List.{list_all}
use Rattle.std.proofs.lemmas.Bool.Decides.{nat_tests}
use Rattle.lucy_model.specs.declared.leaves.Leaf.{Leaf}
use Rattle.lucy_model.specs.Ranges.{allows, all_allowed}
use Rattle.lucy_plan.specs.declared.parts.Txn.{Txn}
use Rattle.lucy_tree.specs.declared.marks.Name.{Name}
use Rattle.lucy_tree.specs.declared.marks.Int.{Int}
use Rattle.lucy_tree.specs.declared.marks.Then.{Then}
use Rattle.lucy_tree.specs.declared.marks.Chain.{Chain}
use Rattle.lucy_tree.specs.declared.plans.Point.{Point}
use Rattle.lucy_tree.specs.declared.plans.Except.{Except}
use Rattle.lucy_gather.specs.declared.error.ElabError.{ElabError}
use Rattle.lucy_gather.specs.declared.error.ElabError.TheVariants as error
use Rattle.lucy_gather.specs.Steps.{and_then, lifted, or_refused, Goes}
use Rattle.lucy_gather.specs.Ranges.{number_of, allowed}
use Rattle.lucy_gather.specs.Ranges as ranges
use Rattle.lucy_elaborate.specs.Segments.{with_number, number_by, number_in, later_numbers, numbers_in, numbers_of, long_enough, counted_point, point_of, later_points, points_of, place_from, is_listed, listed_by, listed_in, all_listed, listed}
use Rattle.lucy_elaborate_laws.proofs.Keeping.{done, ok_is, only, passed, state_is, goes_bind, goes_pure, goes_err, goes_each, all_push}
use Rattle.lucy_elaborate_laws.proofs.Meanings.{some, some_is, there}

-- ---- points

pub allowed_is : (leaf : Leaf) (int : Int) (x : ℤ) → allowed leaf int ≡ some x → allows leaf x ≡ true
unfolding allowed
allowed_is leaf int x e = by (allows leaf (number_of int)) refl e
  where
    by : (b : Bool) → allows leaf (number_of int) ≡ b → if_then b (some (number_of int)) None ≡ some x → allows leaf x ≡ true
    by true f g = subst (λ z. allows leaf z ≡ true) (some_is g) f
    by false f g = absurd cc

-- each number is in the range of its leaf, as far as there are numbers
abbrev front : List Leaf → List ℤ → Bool
front leaves [] = true
front [] (x ∷ xs) = false
front (leaf ∷ leaves) (x ∷ xs) = allows leaf x && front leaves xs

front-push : (leaves : List Leaf) (xs : List ℤ) (leaf : Leaf) (x : ℤ) → front leaves xs ≡ true → slice_get leaves (length xs) ≡ some leaf → allows leaf x ≡ true
    → front leaves (xs ++ x ∷ []) ≡ true
front-push [] [] leaf x h e f = absurd cc
front-push (y ∷ leaves) [] leaf x h e f = ap (λ b. b && true) (ap (λ z. allows z x) (some_is e) ∙ f)
front-push [] (z ∷ xs) leaf x h e f = absurd cc
front-push (y ∷ leaves) (z ∷ xs) leaf x h e f = by (allows y z) (front leaves xs) h (λ k. front-push leaves xs leaf x k e f)
  where
    by : (b r : Bool) → (b && r) ≡ true → (r ≡ true → front leaves (xs ++ x ∷ []) ≡ true) → (b && front leaves (xs ++ x ∷ [])) ≡ true
    by true r h k = k h
    by false r h k = absurd cc

front-all : (leaves : List Leaf) (xs : List ℤ) → front leaves xs ≡ true → length xs ≡ length leaves → all_allowed leaves xs ≡ true
front-all [] [] h e = refl
front-all [] (x ∷ xs) h e = absurd cc
front-all (y ∷ leaves) [] h e = absurd (none (length leaves) e)
  where
    none : (n : ℕ) → 0 ≡ suc n → ⊥
    none n e = omega arith
front-all (y ∷ leaves) (x ∷ xs) h e = by (allows y x) (front leaves xs) h (λ k. front-all leaves xs k (less (length xs) (length leaves) e))
  where
    less : (n m : ℕ) → suc n ≡ suc m → n ≡ m
    less n m e = omega arith

    by : (b r : Bool) → (b && r) ≡ true → (r ≡ true → all_allowed leaves xs ≡ true) → (b && all_allowed leaves xs) ≡ true
    by true r h k = k h
    by false r h k = absurd cc

module _ (leaves : List Leaf) where
  record Front (n : ℕ) (xs : List ℤ) : Type 0 where
    ok : front leaves xs ≡ true
    long : length xs ≡ n

  number_goes : (n at : ℕ) (int : Int) → Goes (Front n) (number_in leaves at int) (λ _. Front (n + 1))
  unfolding number_in with_number
  number_goes n at int = record { goes = λ s t u before e. by (slice_get leaves (length s)) s refl t u before e }
    where
      pushed : (leaf : Leaf) (x : ℤ) (s t : List ℤ) (u : Unit {0}) → slice_get leaves (length s) ≡ some leaf → allows leaf x ≡ true → Front n s → done (tt, s ++ x ∷ []) ≡ done (u, t) → Front (n + 1) t
      pushed leaf x s t u g f before e = subst (Front (n + 1)) (ap (λ p. p.1) (ok_is e))
          (record { ok = front-push leaves s leaf x before.ok g f; long = omega (arith, length-append s (x ∷ []), before.long) })

      inner : (leaf : Leaf) (r : Result ℤ ElabError) → ((x : ℤ) → r ≡ only x → allows leaf x ≡ true) → (s t : List ℤ) (u : Unit {0}) → slice_get leaves (length s) ≡ some leaf → Front n s
          → and_then (lifted r s) (λ x z. done (tt, z ++ x ∷ [])) ≡ done (u, t) → Front (n + 1) t
      inner leaf (Ok x) f s t u g before e = pushed leaf x s t u g (f x refl) before e
      inner leaf (Err d) f s t u g before e = absurd cc

      by : (o : Option Leaf) (s : List ℤ) → slice_get leaves (length s) ≡ o → (t : List ℤ) (u : Unit {0}) → Front n s → number_by at int o s ≡ done (u, t) → Front (n + 1) t
      by None s g t u before e = absurd cc
      by (Some leaf) s g t u before e = inner leaf (or_refused (error.Range (ranges.start_of int)) (allowed leaf int))
          (λ x h. allowed_is leaf int x (there (error.Range (ranges.start_of int)) (allowed leaf int) x h)) s t u g before e

  later_goes : (n at : ℕ) (ts : List (Then Int)) → Goes (Front n) (later_numbers leaves at ts) (λ _. Front (n + length ts))
  later_goes n at [] = goes_pure tt (λ s k. subst (λ m. Front m s) (omega arith) k)
  later_goes n at (t ∷ ts) = goes_bind (number_goes n at t.item) (λ _. subst (λ m. Goes (Front (n + 1)) (later_numbers leaves at ts) (λ _. Front m)) (omega arith) (later_goes (n + 1) at ts))

  numbers_goes : (at : ℕ) (chain : Chain Int) → Goes (Front 0) (numbers_in leaves at chain) (λ _. Front (1 + length chain.others))
  unfolding numbers_in
  numbers_goes at chain = goes_bind (number_goes 0 at chain.first) (λ _. later_goes 1 at chain.others)

  numbers_allowed : (at : ℕ) (chain : Chain Int) (xs : List ℤ) → length chain.others + 1 ≡ length leaves → numbers_of leaves at chain ≡ only xs → all_allowed leaves xs ≡ true
  unfolding numbers_of
  numbers_allowed at chain xs enough e =
      let (u, gave) = state_is (numbers_in leaves at chain []) xs e in
      let made = (numbers_goes at chain).goes [] xs u (record { ok = refl; long = refl }) gave in
      front-all leaves xs made.ok (omega (arith, made.long, enough))

  enough_is : (point : Point) (u : Unit {0}) → long_enough leaves point ≡ only u → length point.numbers.others + 1 ≡ length leaves
  unfolding long_enough
  enough_is point u e = by (length point.numbers.others + 1 == length leaves) refl _ e
    where
      by : (b : Bool) → (length point.numbers.others + 1 == length leaves) ≡ b → (d : ElabError) → if_then b (only (tt {0})) (Err d) ≡ only u → length point.numbers.others + 1 ≡ length leaves
      by true f d g = grind (arith, nat_tests, f)
      by false f d g = absurd cc

  -- so many points, each of them allowed, and no more than 256 in all
  pub record Pointed (n m : ℕ) (ps : List (List ℤ)) : Type 0 where
    pub count : m ≡ n + length ps
    pub few : n ≤ 256 → m ≤ 256
    pub fine : list_all (all_allowed leaves) ps ≡ true

  counted_is : (n m : ℕ) (u : Unit {0}) → counted_point n ≡ done (u, m) → (m ≡ n + 1) × (m ≤ 256)
  unfolding counted_point
  counted_is n m u e = by (nat_lt n 256) refl _ e
    where
      by : (b : Bool) → nat_lt n 256 ≡ b → (d : ElabError) → if_then b (done (tt {0}, n + 1)) (Err d) ≡ done (u, m) → (m ≡ n + 1) × (m ≤ 256)
      by true f d g = let is : n + 1 ≡ m = ap (λ p. p.1) (ok_is g) in (sym is, subst (λ x. x ≤ 256) is (grind (arith, nat_tests, f)))
      by false f d g = absurd cc

  point_steps : (point : Point) (n m : ℕ) (xs : List ℤ) → point_of leaves point n ≡ done (xs, m) → (m ≡ n + 1) × (m ≤ 256) × (all_allowed leaves xs ≡ true)
  unfolding point_of
  point_steps point n m xs e =
      let (u, t, gave, gone) = passed (lifted (long_enough leaves point) n) _ (xs, m) e in
      let (v, w, gave', gone') = passed (counted_point t) _ (xs, m) gone in
      let first = lifted_gave (long_enough leaves point) n t u gave in
      let count = counted_is t w v gave' in
      let last = lifted_gave (numbers_of leaves point.open_paren.start point.numbers) w m xs gone' in
      (omega (arith, first.0, count.0, last.0), subst (λ x. x ≤ 256) last.0 count.1, numbers_allowed point.open_paren.start point.numbers xs (enough_is point u first.1) last.1)
    where
      lifted_gave : {A : Type 0} (r : Result A ElabError) (n m : ℕ) (x : A) → lifted r n ≡ done (x, m) → (n ≡ m) × (r ≡ only x)
      lifted_gave (Ok y) n m x e = (ap (λ p. p.1) (ok_is e), ap (λ p. only p.0) (ok_is e))
      lifted_gave (Err d) n m x e = absurd cc

  later_steps : (points : List Point) (found : List (List ℤ)) (start n m : ℕ) (ps : List (List ℤ)) → Pointed start n found → later_points leaves points found n ≡ done (ps, m) → Pointed start m ps
  later_steps [] found start n m ps before e =
      let K : List (List ℤ) × ℕ → Type 0 = λ p. Pointed start p.1 p.0 in subst K (ok_is e) before
  later_steps (p ∷ points) found start n m ps before e =
      let (xs, t, gave, gone) = passed (point_of leaves p n) (λ numbers. later_points leaves points (found ++ numbers ∷ [])) (ps, m) e in
      let one = point_steps p n t xs gave in
      later_steps points (found ++ xs ∷ []) start t m ps (record {
        count = omega (arith, before.count, one.0, length-append found (xs ∷ []));
        few = λ h. one.1;
        fine = all_push (all_allowed leaves) found xs before.fine one.2;
      }) gone

  pub points_steps : (except : Option Except) (n m : ℕ) (ps : List (List ℤ)) → points_of leaves except n ≡ done (ps, m) → Pointed n m ps
  unfolding points_of
  points_steps None n m ps e =
      let K : List (List ℤ) × ℕ → Type 0 = λ p. Pointed n p.1 p.0 in subst K (ok_is e) (record { count = omega arith; few = λ h. h; fine = refl })
  points_steps (Some except) n m ps e =
      let (xs, t, gave, gone) = passed (point_of leaves except.first n) (λ first. later_points leaves except.others (first ∷ [])) (ps, m) e in
      let one = point_steps except.first n t xs gave in
      later_steps except.others (xs ∷ []) n t m ps (record { count = one.0; few = λ h. one.1; fine = ap (λ b. b && true) one.2 }) gone

-- ---- the transactions that are listed

place_below : (from : ℕ) (name : List ℕ) (txns : List Txn) (place : ℕ) → place_from from name txns ≡ some place → place < from + length txns
place_below from name [] place e = absurd cc
place_below from name (t ∷ ts) place e = by (bytes_eq t.name name) (λ f. place_below (from + 1) name ts place f) e
  where
    by : (b : Bool) → (place_from (from + 1) name ts ≡ some place → place < from + 1 + length ts) → if_then b (some from) (place_from (from + 1) name ts) ≡ some place
        → place < from + suc (length ts)
    by true h e = subst (λ n. n < from + suc (length ts)) (some_is e) (omega arith)
    by false h e = let below : place < from + 1 + length ts = h e in omega (arith, below)

module _ (txns : List Txn) where
  abbrev Listed : List ℕ → Type 0
  Listed places = list_all (λ place. nat_lt place (length txns)) places ≡ true

  listed_push : (places : List ℕ) (place : ℕ) → Listed places → place < length txns → Listed (places ++ place ∷ [])
  listed_push places place h below = all_push (λ q. nat_lt q (length txns)) places place h (there_is place (length txns) below)
    where
      there_is : (n m : ℕ) → n < m → nat_lt n m ≡ true
      there_is n m h = grind (arith, nat_tests)

  listed_goes : (name : Name) → Goes Listed (listed_in txns name) (λ _. Listed)
  unfolding listed_in
  listed_goes name = by (place_from 0 name.text txns) (λ place e. place_below 0 name.text txns place e)
    where
      pushed : (place : ℕ) (s t : List ℕ) (u : Unit {0}) (b : Bool) (d : ElabError) → Listed s → place < length txns → if_then b (Err d) (done (tt {0}, s ++ place ∷ [])) ≡ done (u, t) → Listed t
      pushed place s t u true d before below e = absurd cc
      pushed place s t u false d before below e = subst Listed (ap (λ p. p.1) (ok_is e)) (listed_push s place before below)

      by : (o : Option ℕ) → ((place : ℕ) → o ≡ some place → place < 0 + length txns) → Goes Listed (listed_by name.span.start o) (λ _. Listed)
      by None h = goes_err (error.UnknownName name.span.start)
      by (Some place) h = record { goes = λ s t u before e. pushed place s t u (is_listed place s) _ before (omega (arith, h place refl)) e }

  pub listed_below : (names : List Name) (places : List ℕ) → listed txns names ≡ only places → Listed places
  unfolding listed
  listed_below names places e =
      let (u, gave) = state_is (all_listed txns names []) places e in
      (goes_each (listed_in txns) listed_goes names).goes [] places u refl gave
