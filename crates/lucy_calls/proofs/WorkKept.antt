-- What is known of the calls of a work text.
use Rattle.std.proofs.Common.{◌≡◌, ℕ, zero, suc, ◌+◌, ◌-◌, ◌^◌, ◌<◌, ◌≤◌, Bool, true, false, cond, nat_lt, nat_le, min, ◌&&◌, ℤ, int_le, List, [], ◌∷◌, ◌++◌, length, replicate, get_or, set, slice_get, Option, Some, None, Ok, Err, refl, sym, ◌∙◌, arith, subst, append_assoc}
use Rattle.std.proofs.Math.ListN.{length-set}
use Rattle.std.proofs.lemmas.Bool.{ltb-true}
use Rattle.std.proofs.lemmas.Bool.Decides.{nat_tests}
use Rattle.std.proofs.lemmas.List.{append-nil, length-append, length-map}
use Rattle.std.proofs.lemmas.List.Elements.{All-nil, All-cons, All-push, All-set}
use Rattle.std.proofs.lemmas.Option.{slice_get-get_or}
use Rattle.std.specs.List.{All, position_or_len}
use Rattle.std.specs.Prelude.{IfOk, bytes_eq, codes}
use Rattle.lucy_names.specs.Plans.{txn_names}
use Rattle.lucy_names.specs.Tables.{place_of}
use Rattle.lucy_plan.specs.Calls.{Fits, takes, are_arguments}
use Rattle.lucy_plan.specs.declared.parts.Call.{Call}
use Rattle.lucy_plan.specs.declared.parts.Limits.{Limits}
use Rattle.lucy_plan.specs.declared.parts.PlanParts.{PlanParts}
use Rattle.lucy_plan.specs.declared.parts.Txn.{Txn}
use Rattle.lucy_plan.specs.declared.refusal.What.TheVariants.{Replicas, Calls}
use Rattle.lucy_io.specs.Decimals.{number_of}
use Rattle.lucy_calls.specs.declared.error.CallsError.{CallsError}
use Rattle.lucy_calls.specs.declared.error.CallsError.TheVariants.{Limit}
use Rattle.lucy_calls.specs.Fields.{fields_of, heading}
use Rattle.lucy_calls.specs.Laws.{IsWorkOf, WorkFits}
use Rattle.lucy_calls.specs.Lines.{within_bytes, Listing, listing, next, up_to_end}
use Rattle.lucy_calls.specs.Numbers.{number, number_behind, below, between, where_between}
use Rattle.lucy_io.specs.Outcomes.{Outcome}
use Rattle.lucy_calls.specs.Work.{within, replicas_in, replicas_of, argument, or_bad_argument, arguments_of, params_of, txn_named, or_unknown, call_of, Placed, placed, placed_of, put, with_call, lists_of, text_of, work_of}
use Rattle.lucy_calls.proofs.OutcomeLemmas.{bind, bind_with, bind_any, test, next_keeps, up_to_end_keeps}
use Rattle.lucy_calls.proofs.StepsKept.{below_is}

-- arguments

Ranged : Limits → ℤ → Type 0
Ranged limits x = (int_le limits.lo x && int_le x limits.hi) ≡ true

argument_is : (n : ℕ) (limits : Limits) (text : List ℕ) → IfOk (argument n limits text) (Ranged limits)
unfolding between Ranged
argument_is n limits text = by (number_of text)
  where
    by_test : (t : Bool) (z : ℤ) → (int_le limits.lo z && int_le z limits.hi) ≡ t → IfOk (or_bad_argument n (cond t (Some z) None)) (λ x. (int_le limits.lo x && int_le x limits.hi) ≡ true)
    by_test true z e = e
    by_test false z e = tt

    by : (read : Option ℤ) → IfOk (or_bad_argument n (where_between limits.lo limits.hi read)) (λ x. (int_le limits.lo x && int_le x limits.hi) ≡ true)
    by None = tt
    by (Some z) = by_test (int_le limits.lo z && int_le z limits.hi) z refl

both : (s t : Bool) → s ≡ true → t ≡ true → (s && t) ≡ true
both s t h k = rw (h, k) refl

-- the arguments that were read are behind those before, and are one for each parameter
record Behind (found : List ℤ) (params : List Limits) (all : List ℤ) : Type 0 where
  new : List ℤ
  is : all ≡ found ++ new
  ranged : are_arguments params new ≡ true

arguments_are : (n : ℕ) (found : List ℤ) (params : List Limits) (texts : List (List ℕ)) → IfOk (arguments_of n found params texts) (Behind found params)
unfolding Ranged
arguments_are n found [] [] = record { new = []; is = sym (append-nil found); ranged = refl }
arguments_are n found [] (text ∷ texts) = tt
arguments_are n found (limits ∷ params) [] = tt
arguments_are n found (limits ∷ params) (text ∷ texts) =
    bind (Ranged limits) (Behind found (limits ∷ params)) (argument n limits text) _ (argument_is n limits text) (λ x ranged.
    more (arguments_of n (found ++ x ∷ []) params texts) x ranged (arguments_are n (found ++ x ∷ []) params texts))
  where
    more : (o : Outcome CallsError (List ℤ)) (x : ℤ) → (int_le limits.lo x && int_le x limits.hi) ≡ true → IfOk o (Behind (found ++ x ∷ []) params) → IfOk o (Behind found (limits ∷ params))
    more (Err e) x ranged h = tt
    more (Ok all) x ranged h = record { new = x ∷ h.new; is = h.is ∙ append_assoc found (x ∷ []) h.new; ranged = both (int_le limits.lo x && int_le x limits.hi) (are_arguments params h.new) ranged h.ranged }

-- calls

found_by : (n count place : ℕ) → cond (nat_lt n count) (Some n) None ≡ Some place → place < count
found_by n count place e = by (nat_lt n count) refl e
  where
    by : (t : Bool) → nat_lt n count ≡ t → cond t (Some n) None ≡ Some place → place < count
    by true is e' = let same : n ≡ place = cc in omega (arith, ltb-true n count is, same)
    by false is e' = absurd (cc)

known : (n place : ℕ) (read : Option ℕ) → or_unknown n read ≡ Ok place → read ≡ Some place
known n place None e = absurd (cc)
known n place (Some other) e = cc

takes_there : (txns : List Txn) (place : ℕ) (xs : List ℤ) (txn : Option Txn) → slice_get txns place ≡ txn → place < length txns → are_arguments (params_of txn) xs ≡ true → takes txn xs ≡ true
takes_there [] place xs None e lt h = absurd (omega arith)
takes_there (txn ∷ txns) place xs None e lt h =
    let some = slice_get-get_or (txn ∷ txns) place txn lt in
    absurd (cc)
takes_there txns place xs (Some txn) e lt h = h

module _ (plan : PlanParts) where
  call_is : (n : ℕ) (name : List ℕ) (texts : List (List ℕ)) → IfOk (call_of plan n name texts) (Fits plan)
  unfolding call_of
  call_is n name texts =
      bind_with (Fits plan) (txn_named plan n name) _ (λ place e.
      bind (Behind [] (params_of (slice_get plan.txns place))) (Fits plan) (arguments_of n [] (params_of (slice_get plan.txns place)) texts) _ (arguments_are n [] (params_of (slice_get plan.txns place)) texts) (λ xs b.
      let names = txn_names plan in
      let lt = found_by (position_or_len (bytes_eq name) names) (length names) place (known n place (place_of names name) e) in
      let ranged = subst (λ (ys : List ℤ). are_arguments (params_of (slice_get plan.txns place)) ys ≡ true) (sym b.is) b.ranged in
      takes_there plan.txns place xs (slice_get plan.txns place) refl (omega (arith, lt, length-map plan.txns (λ txn. txn.name))) ranged))

  abbrev IsPlaced : ℕ → Placed → Type 0
  IsPlaced replicas p = (p.0 < replicas) × Fits plan p.1

  placed_is : (replicas n : ℕ) (digits name : List ℕ) (texts : List (List ℕ)) → IfOk (placed plan replicas n digits name texts) (IsPlaced replicas)
  unfolding placed
  placed_is replicas n digits name texts =
      bind_any (IsPlaced replicas) (number n digits) _ (λ k.
      bind (λ r. r < replicas) (IsPlaced replicas) (below replicas n k) _ (below_is replicas n k) (λ replica lt.
      bind (Fits plan) (IsPlaced replicas) (call_of plan n name texts) _ (call_is n name texts) (λ call fits. (lt, fits))))

  placed_of_is : (replicas n : ℕ) (fields : List (List ℕ)) → IfOk (placed_of plan replicas n fields) (IsPlaced replicas)
  unfolding placed_of
  placed_of_is replicas n [] = tt
  placed_of_is replicas n (digits ∷ []) = tt
  placed_of_is replicas n (digits ∷ name ∷ texts) = placed_is replicas n digits name texts

  -- so many lists within their limit, of calls that fit
  record AreLists (replicas : ℕ) (lists : List (List Call)) : Type 0 where
    many : length lists ≡ replicas
    short : All (λ calls. length calls ≤ 4096) lists
    fits : All (λ calls. All (Fits plan) calls) lists

  nothing_fits : All (Fits plan) []
  nothing_fits = All-nil (Fits plan)

  list_fits : (lists : List (List Call)) (replica : ℕ) → replica < length lists → All (λ calls. All (Fits plan) calls) lists → All (Fits plan) (get_or lists replica [])
  list_fits lists replica lt all = all replica [] lt

  put_is : (replicas : ℕ) (p : Placed) (lists : List (List Call)) → IsPlaced replicas p → AreLists replicas lists → IfOk (put p lists) (AreLists replicas)
  unfolding put
  put_is replicas p lists is all =
      let calls = get_or lists p.0 [] in
      let there : p.0 < length lists = omega (arith, is.0, all.many) in
      test (AreLists replicas) (nat_lt (length calls) 4096) (Ok (set lists p.0 (calls ++ p.1 ∷ []))) (Limit Calls 4097) (λ room.
      let less : length calls < 4096 = ltb-true (length calls) 4096 room in
      let few : length (calls ++ p.1 ∷ []) ≤ 4096 = omega (arith, less, length-append calls (p.1 ∷ [])) in
      record {
        many = length-set lists p.0 (calls ++ p.1 ∷ []) ∙ all.many;
        short = All-set (λ (cs : List Call). length cs ≤ 4096) lists p.0 (calls ++ p.1 ∷ []) few all.short;
        fits = All-set (λ cs. All (Fits plan) cs) lists p.0 (calls ++ p.1 ∷ []) (All-push (Fits plan) calls p.1 (list_fits lists p.0 there all.fits) is.1) all.fits;
      })

  with_is : (replicas n : ℕ) (l : List ℕ) (lists : List (List Call)) → AreLists replicas lists → IfOk (with_call plan replicas n l lists) (AreLists replicas)
  unfolding with_call
  with_is replicas n l lists all =
      bind_any (AreLists replicas) (fields_of n l) _ (λ fields.
      bind (IsPlaced replicas) (AreLists replicas) (placed_of plan replicas n fields) _ (placed_of_is replicas n fields) (λ p is. put_is replicas p lists is all))

  empty_lists : (replicas : ℕ) → AreLists replicas (replicate replicas [])
  empty_lists zero = record { many = refl; short = All-nil (λ (cs : List Call). length cs ≤ 4096); fits = All-nil (λ cs. All (Fits plan) cs) }
  empty_lists (suc n) =
      let rest = empty_lists n in
      record {
        many = omega (arith, rest.many);
        short = All-cons (λ (cs : List Call). length cs ≤ 4096) [] (replicate n []) (omega arith) rest.short;
        fits = All-cons (λ cs. All (Fits plan) cs) [] (replicate n []) nothing_fits rest.fits;
      }

  work_of_lists : (replicas : ℕ) (lists : List (List Call)) → 1 ≤ replicas → replicas ≤ 16 → AreLists replicas lists → IsWorkOf plan lists
  work_of_lists replicas lists some few all = record { some = omega (arith, all.many); few = omega (arith, all.many); short = all.short; fits = all.fits }

  lists_are : (replicas : ℕ) (lines : Listing) → 1 ≤ replicas → replicas ≤ 16 → IfOk (lists_of plan replicas lines) (IsWorkOf plan)
  unfolding lists_of
  lists_are replicas lines some few =
      weaker (up_to_end (with_call plan replicas) (replicate replicas []) lines) (up_to_end_keeps (AreLists replicas) (with_call plan replicas) (with_is replicas) (replicate replicas []) lines (empty_lists replicas))
    where
      weaker : (o : Outcome CallsError (List (List Call))) → IfOk o (AreLists replicas) → IfOk o (IsWorkOf plan)
      weaker (Err e) h = tt
      weaker (Ok lists) h = work_of_lists replicas lists some few h

  abbrev IsCount : ℕ → Type 0
  IsCount count = (1 ≤ count) × (count ≤ 16)

  counted : (k : ℕ) → (nat_le 1 k && nat_le k 16) ≡ true → (1 ≤ k) × (k ≤ 16)
  counted k h = grind (arith, nat_tests)

  within_is : (k : ℕ) → IfOk (within k) IsCount
  within_is k = test IsCount (nat_le 1 k && nat_le k 16) (Ok k) (Limit Replicas (min k (2 ^ 64 - 1))) (counted k)

  replicas_are : (n : ℕ) (fields : List (List ℕ)) → IfOk (replicas_in n fields) IsCount
  unfolding replicas_in
  replicas_are n [] = tt
  replicas_are n (word ∷ []) = tt
  replicas_are n (word ∷ digits ∷ []) = bind_any IsCount (number_behind (codes "replicas") n word digits) within within_is
  replicas_are n (word ∷ digits ∷ other ∷ others) = tt

  line_is : (n : ℕ) (l : List ℕ) → IfOk (replicas_of n l) IsCount
  unfolding replicas_of
  line_is n l = bind_any IsCount (fields_of n l) (replicas_in n) (replicas_are n)

  text_is : (text : List ℕ) → IfOk (text_of plan text) (IsWorkOf plan)
  unfolding text_of
  text_is text =
      bind_any (IsWorkOf plan) (next (heading (codes "work")) (listing 1 text)) _ (λ found.
      next_keeps IsCount (IsWorkOf plan) replicas_of found.1 (λ counted. lists_of plan counted.0 counted.1) line_is (λ count rest is. lists_are count rest is.0 is.1))

pub work_is : WorkFits
unfolding work_of
work_is plan text = bind_any (IsWorkOf plan) (within_bytes (2 ^ 25) text) _ (λ _. text_is plan text)
