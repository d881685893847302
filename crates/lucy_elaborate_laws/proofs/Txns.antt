-- Transactions in range, and how many nodes their conditions have.
use Rattle.std.proofs.Common.{◌≡◌, ℕ, ◌+◌, ◌<◌, ◌≤◌, nat_le, List, [], ◌∷◌, ◌++◌, length, map, true, Option, Some, None, Ok, refl, sym, ap, subst, ◌∙◌, length-append, arith}
use Rattle.std.specs.Prelude.{sum_by}
use Rattle.std.specs.List.{list_all}
use Rattle.std.specs.Option.{option_or}
use Rattle.std.proofs.lemmas.Bool.Decides.{nat_tests}
use Rattle.std.proofs.lemmas.List.Sums.{sum_by-append}
use Rattle.lucy_model.specs.Conditions.{is_condition}
use Rattle.lucy_plan.specs.declared.parts.Limits.{Limits}
use Rattle.lucy_plan.specs.declared.parts.Branch.{Branch}
use Rattle.lucy_plan.specs.declared.parts.Txn.{Txn}
use Rattle.lucy_plan.specs.Counts.{nodes_of, txn_nodes}
use Rattle.lucy_plan.specs.Faults.{first_of, again_fault, branch_twice_fault, twice_fault}
use Rattle.lucy_plan.specs.Plans.{is_set, is_branch, is_txn}
use Rattle.lucy_tree.specs.declared.marks.Name.{Name}
use Rattle.lucy_tree.specs.declared.marks.Chain.{Chain}
use Rattle.lucy_tree.specs.declared.plans.Param.{Param}
use Rattle.lucy_tree.specs.declared.plans.Txn as tree
use Rattle.lucy_tree.specs.declared.plans.Branch as tree_branch
use Rattle.lucy_gather.specs.declared.scopes.Meaning.{Meaning}
use Rattle.lucy_gather.specs.declared.scopes.Meaning.TheVariants as meaning
use Rattle.lucy_gather.specs.declared.scopes.Entry.{Entry}
use Rattle.lucy_gather.specs.declared.scopes.Scope.{Scope}
use Rattle.lucy_gather.specs.Steps.{Step, Goes}
use Rattle.lucy_gather.specs.Ranges.{limits_between}
use Rattle.lucy_gather.specs.Tables.{held, entry_of}
use Rattle.lucy_elaborate.specs.declared.txns.Head.{Head}
use Rattle.lucy_elaborate.specs.Changes.{sets_of, branch_by, branch_of, branches_of}
use Rattle.lucy_elaborate.specs.Txns.{text_of, head_by, next_param, unused_by, unused, with_param, param_in, params_in, head_of, txn_by, txn_of}
use Rattle.lucy_elaborate_laws.specs.Meanings.{Means, AllMean}
use Rattle.lucy_elaborate_laws.proofs.Keeping.{done, ok_is, only, state_is, goes_bind, goes_pure, goes_lifted, goes_each, all_push, no_fault, none_push, both, goes_next}
use Rattle.lucy_elaborate_laws.proofs.Meanings.{each_push, each_more}
use Rattle.lucy_elaborate_laws.proofs.Conditions.{Counts, counts_bind, counts_pure, counts_lifted, condition_fine}
use Rattle.lucy_elaborate_laws.proofs.Changes.{sets_in_range}

-- ---- more parameters

more_mean : (l a b : ℕ) (m : Meaning) → a ≤ b → Means l a m → Means l b m
more_mean l a b (meaning.Number leaf) le h = h
more_mean l a b (meaning.Flag leaf) le h = h
more_mean l a b (meaning.Atom leaf) le h = h
more_mean l a b (meaning.Argument place) le h = omega (arith, le, h)
more_mean l a b (meaning.Set group first count) le h = tt
more_mean l a b (meaning.Pair group) le h = tt

module _ (l : ℕ) where
  pub record Fine (h : Head) : Type 0 where
    pub few : length h.params ≤ 4
    pub ranges : length h.limits ≡ length h.params
    pub mean : AllMean l (length h.params) h.params

  record Room (n : ℕ) (h : Head) : Type 0 where
    fine : Fine h
    next : n ≡ length h.params
    room : n < 4

  next_goes : Goes Fine next_param Room
  unfolding next_param
  next_goes = goes_next (λ (h : Head). length h.params) 4 _ (λ h before room. record { fine = before; next = refl; room = room })

  unused_goes : (scope : Scope) (name : Name) → Goes Fine (unused scope name) (λ _. Fine)
  unfolding unused
  unused_goes scope name = record { goes = λ s t u before e. by (option_or (held 0 name.text scope.entries) (held 0 name.text s.params)) s t u before e }
    where
      by : (o : Option Meaning) (s t : Head) (u : Unit {0}) → Fine s → unused_by name.span.start o s ≡ done (u, t) → Fine t
      by None s t u before e = subst Fine (ap (λ p. p.1) (ok_is e)) before
      by (Some m) s t u before e = absurd cc

  with_goes : (name : Name) (n : ℕ) (limits : Limits) → Goes (Room n) (with_param name n limits) (λ _. Fine)
  unfolding with_param
  with_goes name n limits = record {
    goes = λ s t u before e.
        let entry = entry_of 0 name.text (meaning.Argument n) in
        let longer : length (s.params ++ entry ∷ []) ≡ length s.params + 1 = length-append s.params (entry ∷ []) in
        let more : length (s.limits ++ limits ∷ []) ≡ length s.limits + 1 = length-append s.limits (limits ∷ []) in
        subst Fine (ap (λ p. p.1) (ok_is e)) (record {
          few = omega (arith, longer, before.next, before.room);
          ranges = omega (arith, longer, more, before.fine.ranges);
          mean = each_push (Means l (length (s.params ++ entry ∷ []))) s.params entry
              (each_more (Means l (length (s.params ++ entry ∷ []))) (Means l (length s.params)) (λ m k. more_mean l (length s.params) (length (s.params ++ entry ∷ [])) m (omega (arith, longer)) k) s.params before.fine.mean)
              (omega (arith, longer, before.next));
        });
  }

  param_goes : (scope : Scope) (param : Param) → Goes Fine (param_in scope param) (λ _. Fine)
  unfolding param_in
  param_goes scope param = goes_bind (unused_goes scope param.name) (λ _. goes_bind next_goes (λ n. goes_bind (goes_lifted (limits_between param.bounds)) (λ limits. with_goes param.name n limits)))

  params_goes : (scope : Scope) (params : Option (Chain Param)) → Goes Fine (params_in scope params) (λ _. Fine)
  unfolding params_in
  params_goes scope None = goes_pure tt (λ s k. k)
  params_goes scope (Some chain) = goes_bind (param_goes scope chain.first) (λ _. goes_each (λ t. param_in scope t.item) (λ t. param_goes scope t.item) chain.others)

  pub head_fine : (scope : Scope) (params : Option (Chain Param)) (h : Head) → head_of scope params ≡ only h → Fine h
  unfolding head_of
  head_fine scope params h e =
      let (u, gave) = state_is (params_in scope params (head_by [] [])) h e in
      (params_goes scope params).goes (head_by [] []) h u (record { few = omega arith; ranges = refl; mean = tt }) gave

-- ---- branches

module _ (l a : ℕ) where
  record GoodBranch (b : Branch) (k : ℕ) : Type 0 where
    nodes : k ≡ nodes_of b.when
    range : is_branch l a b ≡ true
    once : branch_twice_fault b ≡ no_fault

  pub record GoodBranches (bs : List Branch) (k : ℕ) : Type 0 where
    pub nodes : sum_by (λ (b : Branch). nodes_of b.when) bs ≡ k
    pub range : list_all (is_branch l a) bs ≡ true
    pub once : first_of (map branch_twice_fault bs) ≡ no_fault

  branches_push : (bs : List Branch) (b : Branch) (k j : ℕ) → GoodBranches bs k → GoodBranch b j → GoodBranches (bs ++ b ∷ []) (k + j)
  branches_push bs b k j all good = record {
    nodes = sum_by-append (λ (x : Branch). nodes_of x.when) bs (b ∷ []) ∙ last;
    range = all_push (is_branch l a) bs b all.range good.range;
    once = none_push branch_twice_fault bs b all.once good.once;
  }
    where
      last : sum_by (λ (x : Branch). nodes_of x.when) bs + sum_by (λ (x : Branch). nodes_of x.when) (b ∷ []) ≡ k + j
      last = omega (arith, all.nodes, good.nodes)

module _ (scope : Scope) (params : List Entry) (fields : AllMean (length scope.leaves) (length params) scope.entries) (arguments : AllMean (length scope.leaves) (length params) params) where
  abbrev l : ℕ
  l = length scope.leaves

  abbrev a : ℕ
  a = length params

  branch_counts : (b : tree_branch.Branch) → Counts (branch_of scope params b) (GoodBranch l a)
  unfolding branch_of
  branch_counts b = counts_bind (condition_fine scope params fields arguments b.cond) (λ when k good.
      counts_bind (counts_lifted {R = λ sets. (list_all (is_set l a) sets ≡ true) × (again_fault [] sets ≡ None)} (sets_of scope params b.changes)
      (λ sets e. sets_in_range scope params fields arguments b.changes sets e)) (λ sets j h.
      counts_pure (branch_by scope params when sets) (record {
        nodes = omega (arith, good.nodes, h.0);
        range = both (is_condition l a when) (list_all (is_set l a) sets) good.range h.1.0;
        once = h.1.1;
      })))

  pub branches_count : (bs : List tree_branch.Branch) (found : List Branch) (k : ℕ) → GoodBranches l a found k → Counts (branches_of scope params bs found) (λ made j. GoodBranches l a made (k + j))
  branches_count [] found k all = counts_pure found (subst (GoodBranches l a found) (no_more k) all)
    where
      no_more : (n : ℕ) → n ≡ n + 0
      no_more n = omega arith
  branches_count (b ∷ bs) found k all = counts_bind (branch_counts b) (λ made i good. regrouped k i (branches_count bs (found ++ made ∷ []) (k + i) (branches_push l a found made k i all good)))
    where
      regrouped : {p : Step ℕ (List Branch)} (k i : ℕ) → Counts p (λ made j. GoodBranches l a made (k + i + j)) → Counts p (λ made j. GoodBranches l a made (k + (i + j)))
      regrouped k i w = record {
        counts = λ n m made e. let (j, e1, le, good) = w.counts n m made e in
            (j, e1, le, record { nodes = grind (arith, good.nodes); range = good.range; once = good.once });
      }

-- ---- transactions

pub record GoodTxn (l : ℕ) (t : Txn) (k : ℕ) : Type 0 where
  pub nodes : k ≡ txn_nodes t
  pub range : is_txn l t ≡ true
  pub once : twice_fault t ≡ no_fault

pub txn_counts : (scope : Scope) (txn : tree.Txn) → AllMean (length scope.leaves) 0 scope.entries → Counts (txn_of scope txn) (GoodTxn (length scope.leaves))
unfolding txn_of
txn_counts scope txn fields = counts_bind (counts_lifted {R = λ name. Unit {0}} (text_of txn.name) (λ name e. tt)) (λ name i one.
    counts_bind (counts_lifted {R = Fine (length scope.leaves)} (head_of scope txn.params) (λ h e. head_fine (length scope.leaves) scope txn.params h e)) (λ h j head.
    counts_bind (branches_count scope h.params (each_more (Means (length scope.leaves) (length h.params)) (Means (length scope.leaves) 0) (λ m k. more_mean (length scope.leaves) 0 (length h.params) m (omega arith) k) scope.entries fields) head.1.mean txn.branches [] 0 (record { nodes = refl; range = refl; once = refl })) (λ bs k good.
    counts_pure (txn_by name h.limits bs) (record {
      nodes = omega (arith, one.0, head.0, good.nodes);
      range = both (nat_le (length h.limits) 4) (list_all (is_branch (length scope.leaves) (length h.limits)) bs)
          (few (length h.limits) (omega (arith, head.1.few, head.1.ranges)))
          (subst (λ n. list_all (is_branch (length scope.leaves) n) bs ≡ true) (sym head.1.ranges) good.range);
      once = good.once;
    }))))
  where
    few : (n : ℕ) → n ≤ 4 → nat_le n 4 ≡ true
    few n h = grind (arith, nat_tests)

pub txn_in_range : (scope : Scope) (txn : tree.Txn) (n m : ℕ) (made : Txn) → AllMean (length scope.leaves) 0 scope.entries → txn_of scope txn n ≡ Ok (made, m)
    → (m ≡ n + txn_nodes made) × (n ≤ 4096 → m ≤ 4096) × (is_txn (length scope.leaves) made ≡ true) × (twice_fault made ≡ None)
txn_in_range scope txn n m made fields e = let (k, e1, le, good) = (txn_counts scope txn fields).counts n m made e in (e1 ∙ ap (λ x. n + x) good.nodes, le, good.range, good.once)
