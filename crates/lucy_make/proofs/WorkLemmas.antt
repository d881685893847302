-- Made calls fit the plan.
use Rattle.std.proofs.Common.{◌≡◌, ℕ, zero, suc, ◌+◌, ◌-◌, ◌%◌, ◌^◌, ◌<◌, ◌≤◌, ◌≢◌, ◌==◌, ◌&&◌, Bool, true, false, cond, min, ℤ, pos, ◌+ℤ◌, ◌-ℤ◌, ◌≤ℤ◌, List, [], ◌∷◌, ◌++◌, length, Option, Some, None, refl, sym, subst, arith, append_assoc, append-nil, length-append}
use Rattle.std.specs.Prelude.{int_le, unsigned_abs, slice_get}
use Rattle.std.specs.List.{All}
use Rattle.std.proofs.lemmas.List.Elements.{All-append, All-cons}
use Rattle.std.proofs.lemmas.Int.{ints}
use Rattle.std.proofs.Math.Nat.{mod-lt}
use Rattle.std.proofs.lemmas.Bool.{eqb-false}
use Rattle.rand_pcg.specs.Lcg.{Lcg}
use Rattle.lucy_calls.specs.Work.{params_of}
use Rattle.lucy_net.specs.Draws.{generator_of, drawn}
use Rattle.lucy_plan.specs.Calls.{are_arguments, call_fits, takes, Fits}
use Rattle.lucy_plan.specs.declared.parts.Limits.{Limits}
use Rattle.lucy_plan.specs.declared.parts.PlanParts.{PlanParts}
use Rattle.lucy_plan.specs.declared.parts.Txn.{Txn}
use Rattle.lucy_make.specs.Drawing.{Drawing, many}
use Rattle.lucy_make.specs.Work.{span, argument, arguments, call, calls_of, lists_of, made_work, MadeWorkFits}

-- a number above the least one, by less than how many are taken, is in the range
pub in_range : (lo hi : ℤ) (d : ℕ) → lo ≤ℤ hi → d < min (unsigned_abs (hi -ℤ lo) + 1) (2 ^ 32 - 1) → (int_le lo (lo +ℤ pos d) && int_le (lo +ℤ pos d) hi) ≡ true
in_range lo hi d ordered less = grind (arith, ints)

pub below_span : (limits : Limits) (n : ℕ) → n % span limits < span limits
below_span limits n = mod-lt n (omega arith)

pub argument_in_range : (limits : Limits) (g : Lcg) → (int_le limits.lo (argument limits g).0 && int_le (argument limits g).0 limits.hi) ≡ true
argument_in_range limits g = in_range limits.lo limits.hi (drawn (span limits) g).0 limits.ordered (below_span limits _)

pub both_fit : (a b c : Bool) → (a && b) ≡ true → (b ≡ true → c ≡ true) → (a && c) ≡ true
both_fit true b c h f = f h
both_fit false b c h f = h

-- one more argument in the range of one more parameter
pub one_more_fits : (params : List Limits) (found : List ℤ) (limits : Limits) (x : ℤ) → are_arguments params found ≡ true → (int_le limits.lo x && int_le x limits.hi) ≡ true → are_arguments (params ++ limits ∷ []) (found ++ x ∷ []) ≡ true
one_more_fits [] [] limits x h e = rw e refl
one_more_fits [] (y ∷ found) limits x h e = absurd (cc h)
one_more_fits (p ∷ params) [] limits x h e = absurd (cc h)
one_more_fits (p ∷ params) (y ∷ found) limits x h e = both_fit (int_le p.lo y && int_le y p.hi) (are_arguments params found) _ h (λ more. one_more_fits params found limits x more e)

-- drawn arguments fit the parameters
pub arguments_fit : (passed params : List Limits) (found : List ℤ) (g : Lcg) → are_arguments passed found ≡ true → are_arguments (passed ++ params) (arguments params found g).0 ≡ true
arguments_fit passed [] found g h = subst (λ ps. are_arguments ps found ≡ true) (sym (append-nil passed)) h
arguments_fit passed (limits ∷ params) found g h =
    let here = one_more_fits passed found limits (argument limits g).0 h (argument_in_range limits g) in
    let there = arguments_fit (passed ++ limits ∷ []) params (found ++ (argument limits g).0 ∷ []) (argument limits g).1 here in
    subst (λ ps. are_arguments ps (arguments params (found ++ (argument limits g).0 ∷ []) (argument limits g).1).0 ≡ true) (append_assoc passed (limits ∷ []) params) there

pub txn_takes : (o : Option Txn) (g : Lcg) → o ≢ None → takes o (arguments (params_of o) [] g).0 ≡ true
txn_takes None g h = absurd (h refl)
txn_takes (Some txn) g h = arguments_fit [] txn.params [] g refl

pub found_within : (txns : List Txn) (place : ℕ) → place < length txns → slice_get txns place ≢ None
found_within [] place h e = omega arith
found_within (t ∷ txns) zero h e = absurd (cc e)
found_within (t ∷ txns) (suc place) h e = found_within txns place (omega arith) e

-- a drawn call fits a plan with these transactions
pub call_is_taken : (plan : PlanParts) (g : Lcg) → 0 < length plan.txns → call_fits plan (call plan.txns g).0 ≡ true
unfolding call
call_is_taken plan g some =
    let place = drawn (length plan.txns) g in
    let within : place.0 < length plan.txns = mod-lt _ some in
    txn_takes (slice_get plan.txns place.0) place.1 (found_within plan.txns place.0 within)

-- what is so of each that is drawn is so of all
pub many_all : {A : Type 0} (P : A → Type 0) (draw : Drawing A) (n : ℕ) (made : List A) (g : Lcg) → ((h : Lcg) → P (draw h).0) → All P made → All P (many draw n made g).0
many_all P draw zero made g each all = all
many_all P draw (suc n) made g each all = many_all P draw n (made ++ (draw g).0 ∷ []) (draw g).1 each (All-append P made ((draw g).0 ∷ []) all (All-cons P (draw g).0 [] (each g) (λ k d less. absurd (omega arith))))

-- as many are made as are asked for
pub many_length : {A : Type 0} (draw : Drawing A) (n : ℕ) (made : List A) (g : Lcg) → length (many draw n made g).0 ≡ length made + n
many_length draw zero made g = omega arith
many_length draw (suc n) made g =
    let more = many_length draw n (made ++ (draw g).0 ∷ []) (draw g).1 in
    let size : length (made ++ (draw g).0 ∷ []) ≡ length made + 1 = simp length-append in
    omega arith

pub none : {A : Type 0} (P : A → Type 0) → All P []
none P k d less = absurd (omega arith)

pub chosen_calls_fit : (plan : PlanParts) (count : ℕ) (g : Lcg) (b : Bool) → (b ≡ false → 0 < length plan.txns) → All (Fits plan) (cond b ([], g) (many (call plan.txns) count [] g)).0
chosen_calls_fit plan count g true some = none (Fits plan)
chosen_calls_fit plan count g false some = many_all (Fits plan) (call plan.txns) count [] g (λ h. call_is_taken plan h (some refl)) (none (Fits plan))

pub all_calls_fit : (plan : PlanParts) (count : ℕ) (g : Lcg) → All (Fits plan) (calls_of plan.txns count g).0
unfolding calls_of
all_calls_fit plan count g = chosen_calls_fit plan count g (length plan.txns == 0) (λ h. (let differ = eqb-false (length plan.txns) 0 h in omega arith))

pub chosen_length : (plan : PlanParts) (count : ℕ) (g : Lcg) (b : Bool) → length (cond b ([], g) (many (call plan.txns) count [] g)).0 ≤ count
chosen_length plan count g true = omega arith
chosen_length plan count g false = let size = many_length (call plan.txns) count [] g in omega arith

pub calls_length : (plan : PlanParts) (count : ℕ) (g : Lcg) → length (calls_of plan.txns count g).0 ≤ count
unfolding calls_of
calls_length plan count g = chosen_length plan count g (length plan.txns == 0)

pub made_work_fits : MadeWorkFits
unfolding made_work lists_of
made_work_fits plan seed replicas count some few short =
    let size : length (many (calls_of plan.txns count) replicas [] (generator_of seed)).0 ≡ 0 + replicas = many_length (calls_of plan.txns count) replicas [] (generator_of seed) in
    record {
      some = omega arith;
      few = omega arith;
      short = many_all (λ calls. length calls ≤ 4096) (calls_of plan.txns count) replicas [] (generator_of seed) (λ h. (let most = calls_length plan count h in omega arith)) (none _);
      fits = many_all (λ calls. All (Fits plan) calls) (calls_of plan.txns count) replicas [] (generator_of seed) (λ h. all_calls_fit plan count h) (none _);
    }
