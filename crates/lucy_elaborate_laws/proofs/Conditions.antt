-- Conditions in range, and how many nodes they have.
use Rattle.std.proofs.Common.{◌≡◌, ℕ, ◌+◌, ◌<◌, ◌≤◌, ◌&&◌, nat_lt, List, [], ◌∷◌, ◌++◌, length, map, Bool, true, false, cond as if_then, Option, Some, None, Result, Ok, Err, refl, sym, ap, subst, ◌∙◌, arith}
use Rattle.std.specs.Prelude.{sum, sum_by}
use Rattle.std.specs.List.{list_all}
use Rattle.std.proofs.lemmas.Bool.Decides.{nat_tests}
use Rattle.std.proofs.lemmas.List.{map-append}
use Rattle.std.proofs.lemmas.List.Sums.{sum_by-append, sum-map}
use Rattle.lucy_model.specs.declared.terms.Term as model
use Rattle.lucy_model.specs.declared.conditions.Op.{Op}
use Rattle.lucy_model.specs.declared.conditions.Condition.{Condition, roll-Condition, map-Condition}
use Rattle.lucy_model.specs.declared.conditions.Condition.TheOpen.{Condition-F}
use Rattle.lucy_model.specs.declared.conditions.Condition.TheFolds.{fold-roll-Condition}
use Rattle.lucy_model.specs.declared.conditions.Condition.TheVariants as form
use Rattle.lucy_model.specs.declared.conditions.Condition.TheVariants.{rolls-True, rolls-False, rolls-Compare, rolls-Is, rolls-Not, rolls-And, rolls-Or, rolls-Implies}
use Rattle.lucy_model.specs.Terms.{is_term}
use Rattle.lucy_model.specs.Conditions.{range_step, is_condition}
use Rattle.lucy_plan.specs.Counts.{node_step, nodes_of}
use Rattle.lucy_tree.specs.declared.marks.Name.{Name}
use Rattle.lucy_tree.specs.declared.marks.Then.{Then}
use Rattle.lucy_tree.specs.declared.marks.Chain.{Chain}
use Rattle.lucy_tree.specs.declared.terms.Relation.{Relation}
use Rattle.lucy_tree.specs.declared.terms.Term.{Term}
use Rattle.lucy_tree.specs.declared.conditions.Cond.{Cond, roll-Cond, map-Cond}
use Rattle.lucy_tree.specs.declared.conditions.Unary.{Unary, roll-Unary, map-Unary}
use Rattle.lucy_tree.specs.declared.conditions.Unary.TheOpen.{Unary-F}
use Rattle.lucy_tree.specs.declared.conditions.Unary.TheFolds.{fold-roll-Unary, fold-roll-Cond, ind-Cond}
use Rattle.lucy_gather.specs.declared.error.ElabError.{ElabError}
use Rattle.lucy_gather.specs.declared.scopes.Entry.{Entry}
use Rattle.lucy_gather.specs.declared.scopes.Scope.{Scope}
use Rattle.lucy_gather.specs.Steps.{Step, and_then, lifted}
use Rattle.lucy_gather.specs.Scopes.{Path, flag_at, atom_at}
use Rattle.lucy_gather.specs.Terms.{compared}
use Rattle.lucy_gather.specs.Conditions.{Counted, counted, op_of, then_map, chain_map, all_of, listed, itself, conj_step, disj_step, opened, comparison, known, member, flag, constant, negated, unary_step, cond_step, unary_of, condition_of}
use Rattle.lucy_elaborate_laws.specs.Meanings.{Means, AllMean}
use Rattle.lucy_elaborate_laws.proofs.Keeping.{done, ok_is, only, passed}
use Rattle.lucy_elaborate_laws.proofs.Meanings.{flag_is, atom_is}
use Rattle.lucy_elaborate_laws.proofs.Gathering.{compared_in_range}

-- ---- how many nodes a step counts

pub record Counts {A : Type 0} (p : Step ℕ A) (W : A → ℕ → Type 0) : Type 0 where
  pub counts : (n m : ℕ) (a : A) → p n ≡ done (a, m) → (k : ℕ) × (m ≡ n + k) × (n ≤ 4096 → m ≤ 4096) × W a k

pub counts_bind : {A B : Type 0} {V : A → ℕ → Type 0} {W : B → ℕ → Type 0} {p : Step ℕ A} {f : A → Step ℕ B}
    → Counts p V → ((a : A) (k : ℕ) → V a k → Counts (f a) (λ b j. W b (k + j))) → Counts (λ s. and_then (p s) f) W
counts_bind {A} {B} {V} {W} {p} {f} first after = record {
  counts = λ n m b e.
      let (x, t, gave, gone) = passed (p n) f (b, m) e in
      let (k, e1, le1, v) = first.counts n t x gave in
      let (j, e2, le2, w) = (after x k v).counts t m b gone in
      (k + j, omega (arith, e1, e2), (λ h. le2 (le1 h)), w);
}

pub counts_pure : {A : Type 0} {W : A → ℕ → Type 0} (a : A) → W a 0 → Counts (λ s. Ok (a, s)) W
counts_pure {A} {W} a w = record {
  counts = λ n m b e.
      (0, sym (ap (λ p. p.1) (ok_is e)) ∙ add_none n, (λ h. subst (λ x. x ≤ 4096) (ap (λ p. p.1) (ok_is e)) h), subst (λ x. W x 0) (ap (λ p. p.0) (ok_is e)) w);
}
  where
    add_none : (n : ℕ) → n ≡ n + 0
    add_none n = omega arith

pub counts_lifted : {A : Type 0} {R : A → Type 0} (r : Result A ElabError) → ((a : A) → r ≡ only a → R a) → Counts (lifted r) (λ a k. (k ≡ 0) × R a)
counts_lifted (Ok a) h = counts_pure a (refl, h a refl)
counts_lifted (Err d) h = record { counts = λ n m b e. absurd cc }

pub counted_counts : Counts counted (λ u k. k ≡ 1)
unfolding counted
counted_counts = record { counts = λ n m u e. by n m u (nat_lt n 4096) refl _ e }
  where
    by : (n m : ℕ) (u : Unit {0}) (b : Bool) → nat_lt n 4096 ≡ b → (d : ElabError) → if_then b (done (tt {0}, n + 1)) (Err d) ≡ done (u, m) → (k : ℕ) × (m ≡ n + k) × (n ≤ 4096 → m ≤ 4096) × (k ≡ 1)
    by n m u true f d e = (1, sym (ap (λ p. p.1) (ok_is e)), (λ h. subst (λ x. x ≤ 4096) (ap (λ p. p.1) (ok_is e)) (grind (arith, nat_tests, f))), refl)
    by n m u false f d e = absurd cc

-- ---- what is known of each form

module _ (l a : ℕ) where
  -- it has so many nodes, and is in range
  pub record Good (c : Condition) (k : ℕ) : Type 0 where
    pub nodes : k ≡ nodes_of c
    pub range : is_condition l a c ≡ true

  good_by : (x : Condition-F Condition) (c : Condition) (k : ℕ) → roll-Condition x ≡ c → k ≡ node_step (map-Condition Condition ℕ nodes_of x)
      → range_step l a (map-Condition Condition Bool (is_condition l a) x) ≡ true → Good c k
  good_by x c k made n r = record {
    nodes = n ∙ sym (fold-roll-Condition ℕ node_step x) ∙ ap nodes_of made;
    range = ap (is_condition l a) (sym made) ∙ fold-roll-Condition Bool (range_step l a) x ∙ r;
  }

  abbrev AllGood : List Condition → ℕ → Type 0
  AllGood cs k = (sum (map nodes_of cs) ≡ k) × (list_all (λ b. b) (map (is_condition l a) cs) ≡ true)

  all_true : (bs cs : List Bool) → list_all (λ b. b) bs ≡ true → list_all (λ b. b) cs ≡ true → list_all (λ b. b) (bs ++ cs) ≡ true
  all_true [] cs h k = k
  all_true (true ∷ bs) cs h k = all_true bs cs h k
  all_true (false ∷ bs) cs h k = absurd cc

  good_push : (cs : List Condition) (c : Condition) (k j : ℕ) → AllGood cs k → Good c j → AllGood (cs ++ c ∷ []) (k + j)
  good_push cs c k j all g = (
    sum-map nodes_of (cs ++ c ∷ []) ∙ sum_by-append nodes_of cs (c ∷ []) ∙ last,
    ap (list_all (λ b. b)) (map-append (is_condition l a) cs (c ∷ [])) ∙ all_true (map (is_condition l a) cs) (is_condition l a c ∷ []) all.1 (ap (λ b. b && true) g.range),
  )
    where
      last : sum_by nodes_of cs + sum_by nodes_of (c ∷ []) ≡ k + j
      last = omega (arith, all.0, g.nodes, sum-map nodes_of cs)

  abbrev Fine : Counted → Type 0
  Fine p = Counts p Good

  -- ---- lists

  all_fine : {X Y Z : Type 0} (f : Z → Counted) (g : Y → Z) (h : X → Y) → ((x : X) → Fine (f (g (h x)))) → (ts : List (Then X)) (found : List Condition) (k : ℕ) → AllGood found k
      → Counts (all_of f (map (then_map g) (map (then_map h) ts)) found) (λ cs j. AllGood cs (k + j))
  all_fine f g h ok [] found k all = counts_pure found (subst (AllGood found) (no_more k) all)
    where
      no_more : (n : ℕ) → n ≡ n + 0
      no_more n = omega arith
  all_fine f g h ok (t ∷ ts) found k all = counts_bind (ok t.item) (λ c i good. counts_more k i (all_fine f g h ok ts (found ++ c ∷ []) (k + i) (good_push found c k i all good)))
    where
      counts_more : {p : Step ℕ (List Condition)} (k i : ℕ) → Counts p (λ cs j. AllGood cs (k + i + j)) → Counts p (λ cs j. AllGood cs (k + (i + j)))
      counts_more k i w = record { counts = λ n m cs e. let (j, e1, le, all) = w.counts n m cs e in (j, e1, le, (grind (arith, all.0), all.1)) }

  listed_fine : {X Y Z : Type 0} (build : List Condition → Condition) → ((cs : List Condition) (k : ℕ) → AllGood cs k → Good (build cs) (k + 1))
      → (f : Z → Counted) (g : Y → Z) (h : X → Y) → ((x : X) → Fine (f (g (h x)))) → (ts : List (Then X)) (first : Condition) (k : ℕ) → Good first k
      → Counts (listed build f (map (then_map g) (map (then_map h) ts)) first) (λ c j. Good c (k + j))
  listed_fine build built f g h ok [] first k good = counts_pure first (subst (Good first) (no_more k) good)
    where
      no_more : (n : ℕ) → n ≡ n + 0
      no_more n = omega arith
  listed_fine build built f g h ok (t ∷ ts) first k good =
      counts_bind counted_counts (λ u i one. counts_bind (all_fine f g h ok (t ∷ ts) (first ∷ []) k (grind (arith, good.nodes), ap (λ b. b && true) good.range)) (λ cs j all.
      counts_pure (build cs) (subst (Good (build cs)) (sum_is k i j one) (built cs (k + j) all))))
    where
      sum_is : (k i j : ℕ) → i ≡ 1 → k + j + 1 ≡ k + (i + (j + 0))
      sum_is k i j e = omega arith

  and_good : (cs : List Condition) (k : ℕ) → AllGood cs k → Good (form.And cs) (k + 1)
  and_good cs k all = good_by (Condition-F.And cs) (form.And cs) (k + 1) (rolls-And cs) (grind (arith, all.0)) all.1

  or_good : (cs : List Condition) (k : ℕ) → AllGood cs k → Good (form.Or cs) (k + 1)
  or_good cs k all = good_by (Condition-F.Or cs) (form.Or cs) (k + 1) (rolls-Or cs) (grind (arith, all.0)) all.1

  implies_good : (left right : Condition) (k j : ℕ) → Good left k → Good right j → Good (form.Implies left right) (k + (1 + (j + 0)))
  implies_good left right k j g h = good_by (Condition-F.Implies left right) (form.Implies left right) (k + (1 + (j + 0))) (rolls-Implies left right)
      (omega (arith, g.nodes, h.nodes)) (ap (λ b. b && is_condition l a right) g.range ∙ h.range)

  -- ---- parts

  constant_fine : (scope : Scope) (params : List Entry) (c : Condition) → Good c 1 → Fine (constant scope params c)
  constant_fine scope params c good = counts_bind counted_counts (λ u i one. counts_pure c (subst (Good c) (sum_is i one) good))
    where
      sum_is : (i : ℕ) → i ≡ 1 → 1 ≡ i + 0
      sum_is i e = omega arith

  negated_fine : (scope : Scope) (params : List Entry) (p : Counted) → Fine p → Fine (negated scope params p)
  negated_fine scope params p fine = counts_bind counted_counts (λ u i one. counts_bind fine (λ c j good. counts_pure (form.Not c)
      (good_by (Condition-F.Not c) (form.Not c) (i + (j + 0)) (rolls-Not c) (omega (arith, good.nodes, one)) good.range)))

  is_good : (leaf k : ℕ) → leaf < l → k ≡ 1 → Good (form.Is leaf) k
  is_good leaf k below e = good_by (Condition-F.Is leaf) (form.Is leaf) k (rolls-Is leaf) e (grind (arith, nat_tests))

  compare_good : (t : model.Term) (op : Op) (k : ℕ) → is_term l a t ≡ true → k ≡ 1 → Good (form.Compare t op) k
  compare_good t op k h e = good_by (Condition-F.Compare t op) (form.Compare t op) k (rolls-Compare t op) e h

module _ (scope : Scope) (params : List Entry) (fields : AllMean (length scope.leaves) (length params) scope.entries) (arguments : AllMean (length scope.leaves) (length params) params) where
  abbrev l : ℕ
  l = length scope.leaves

  abbrev a : ℕ
  a = length params

  flag_fine : (path : Path) → Fine l a (flag scope params path)
  unfolding flag
  flag_fine path = counts_bind (counts_lifted {R = λ leaf. leaf < l} (flag_at scope params path) (λ leaf e. flag_is (Means l a) scope params fields arguments path leaf e)) (λ leaf k h.
      counts_bind counted_counts (λ u i one. counts_pure (form.Is leaf) (is_good l a leaf (k + (i + 0)) h.1 (omega (arith, h.0, one)))))

  member_fine : (atom : Name) (set : Path) → Fine l a (member scope params atom set)
  unfolding member
  member_fine atom set = counts_bind (counts_lifted {R = λ u. Unit {0}} (known scope params atom set) (λ u e. tt)) (λ u k h.
      counts_bind counted_counts (λ v i one.
      counts_bind (counts_lifted {R = λ leaf. leaf < l} (atom_at scope params set atom) (λ leaf e. atom_is (Means l a) scope params fields arguments set atom leaf e)) (λ leaf j g.
      counts_pure (form.Is leaf) (is_good l a leaf (k + (i + (j + 0))) g.1 (omega (arith, h.0, one, g.0))))))

  comparison_fine : (left : Term) (relation : Relation) (right : Term) → Fine l a (comparison scope params left relation right)
  unfolding comparison
  comparison_fine left relation right = counts_bind (counts_lifted {R = λ u. Unit {0}} (opened scope params left) (λ u e. tt)) (λ u k h.
      counts_bind counted_counts (λ v i one.
      counts_bind (counts_lifted {R = λ t. is_term l a t ≡ true} (compared scope params left right) (λ t e. compared_in_range scope params left right t e)) (λ t j g.
      counts_pure (form.Compare t (op_of relation)) (compare_good l a t (op_of relation) (k + (i + (j + 0))) g.1 (omega (arith, h.0, one, g.0))))))

  abbrev KU : Type 0
  KU = (u : Unary) × Fine l a (unary_of scope params u)

  abbrev KC : Type 0
  KC = (c : Cond) × Fine l a (condition_of scope params c)

  unary_at : KU → Unary
  unary_at e = e.0

  conj_fine : (c : Chain KU) → Fine l a (conj_step (chain_map (unary_of scope params) (chain_map (λ (e : KU). e.0) c)))
  unfolding conj_step
  conj_fine c = counts_bind c.first.1 (λ first k good. listed_fine l a form.And (and_good l a) itself (unary_of scope params) (λ (e : KU). e.0) (λ e. e.1) c.others first k good)

  disj_fine : (c : Chain (Chain KU)) → Fine l a (disj_step (chain_map (chain_map (unary_of scope params)) (chain_map (chain_map (λ (e : KU). e.0)) c)))
  unfolding disj_step
  disj_fine c = counts_bind (conj_fine c.first) (λ first k good.
      listed_fine l a form.Or (or_good l a) conj_step (chain_map (unary_of scope params)) (chain_map (λ (e : KU). e.0)) conj_fine c.others first k good)

  by_unary : (y : Unary-F KU KC) → Fine l a (unary_step scope params (map-Unary Unary Cond Counted Counted (unary_of scope params) (condition_of scope params) (map-Unary KU KC Unary Cond (λ e. e.0) (λ e. e.0) y)))
  by_unary (Unary-F.Not word e) = negated_fine l a scope params (unary_of scope params e.0) e.1
  by_unary (Unary-F.True word) = constant_fine l a scope params form.True (good_by l a Condition-F.True form.True 1 rolls-True refl refl)
  by_unary (Unary-F.False word) = constant_fine l a scope params form.False (good_by l a Condition-F.False form.False 1 rolls-False refl refl)
  by_unary (Unary-F.Parens open_paren e close_paren) = e.1
  by_unary (Unary-F.Member atom word set) = member_fine atom set
  by_unary (Unary-F.Compare left relation mark right) = comparison_fine left relation right
  by_unary (Unary-F.Flag path) = flag_fine path

  by_cond : (left : Chain (Chain KU)) (right : Option (Then KC))
      → Fine l a (cond_step scope params (map-Cond Unary Cond Counted Counted (unary_of scope params) (condition_of scope params) (map-Cond KU KC Unary Cond (λ e. e.0) (λ e. e.0) (record { left = left; implied = right }))))
  by_cond left None = counts_bind (disj_fine left) (λ c k good. counts_pure c (subst (Good l a c) (no_more k) good))
    where
      no_more : (n : ℕ) → n ≡ n + 0
      no_more n = omega arith
  by_cond left (Some t) = counts_bind (disj_fine left) (λ c k good. counts_bind counted_counts (λ u i one. counts_bind t.item.1 (λ d j h.
      counts_pure (form.Implies c d) (subst (Good l a (form.Implies c d)) (sum_is k i j one) (implies_good l a c d k j good h)))))
    where
      sum_is : (k i j : ℕ) → i ≡ 1 → k + (1 + (j + 0)) ≡ k + (i + (j + 0))
      sum_is k i j e = omega arith

  pub condition_fine : (c : Cond) → Fine l a (condition_of scope params c)
  condition_fine = ind-Cond (λ u. Fine l a (unary_of scope params u)) (λ c. Fine l a (condition_of scope params c))
      (λ x y e. subst (λ z. Fine l a (unary_of scope params (roll-Unary z))) e (subst (λ p. Fine l a p) (sym (fold-roll-Unary Counted Counted (unary_step scope params) (cond_step scope params) (map-Unary KU KC Unary Cond (λ k. k.0) (λ k. k.0) y))) (by_unary y)))
      (λ x y e. subst (λ z. Fine l a (condition_of scope params (roll-Cond z))) e (subst (λ p. Fine l a p) (sym (fold-roll-Cond Counted Counted (unary_step scope params) (cond_step scope params) (map-Cond KU KC Unary Cond (λ k. k.0) (λ k. k.0) y))) (by_cond y.left y.implied)))

  pub conditions_in_range : (c : Cond) (n m : ℕ) (v : Condition) → condition_of scope params c n ≡ Ok (v, m) → (m ≡ n + nodes_of v) × (n ≤ 4096 → m ≤ 4096) × (is_condition l a v ≡ true)
  conditions_in_range c n m v e = let (k, e1, le, good) = (condition_fine c).counts n m v e in (e1 ∙ ap (λ x. n + x) good.nodes, le, good.range)
