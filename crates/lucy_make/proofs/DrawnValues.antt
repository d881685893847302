-- What draws make, from the equation of each draw.
use Rattle.std.proofs.Common.{◌≡◌, ℕ, ◌<◌, ◌==◌, Bool, true, false, cond, ℤ, List, [], length, sym, ◌∙◌, ap, subst, arith}
use Rattle.std.specs.Prelude.{slice_get}
use Rattle.std.proofs.lemmas.Bool.{ne_eqb}
use Rattle.rand_pcg.specs.Lcg.{Lcg}
use Rattle.lucy_calls.specs.Work.{params_of}
use Rattle.lucy_net.specs.Draws.{generator_of, drawn}
use Rattle.lucy_plan.specs.declared.parts.Call.{Call}
use Rattle.lucy_plan.specs.declared.parts.Limits.{Limits}
use Rattle.lucy_plan.specs.declared.parts.PlanParts.{PlanParts}
use Rattle.lucy_plan.specs.declared.parts.Txn.{Txn}
use Rattle.lucy_make.specs.Drawing.{many}
use Rattle.lucy_make.specs.PlanTexts.{plan_text}
use Rattle.lucy_make.specs.Plans.{heights, gaps, plan_after, made_plan}
use Rattle.lucy_make.specs.Work.{arguments, with_txn, call_at, call, calls_of, lists_of, made_work}

pub plan_is : (seed size : ℕ) (start first second : Lcg) (hs gs : List ℕ) → start ≡ generator_of seed → (hs, first) ≡ heights size start → (gs, second) ≡ gaps size first → plan_text hs gs ≡ made_plan seed size
unfolding made_plan plan_after
plan_is seed size start first second hs gs s h k =
    let one : plan_after size (hs, first) ≡ plan_after size (heights size start) = ap (plan_after size) h in
    let two : plan_text hs gs ≡ plan_text hs (gaps size first).0 = ap (λ (p : List ℕ × Lcg). plan_text hs p.0) k in
    two ∙ one ∙ ap (λ g. plan_after size (heights size g)) s

pub not_zero : (n : ℕ) → 0 < n → (n == 0) ≡ false
not_zero n some = ne_eqb n 0 (λ e. omega (arith, some, e))

pub call_is : (txns : List Txn) (g first second : Lcg) (n txn : ℕ) (found : List ℤ) (params : List Limits) → n ≡ length txns → (txn, first) ≡ drawn n g → params ≡ params_of (slice_get txns txn) → (found, second) ≡ arguments params [] first → (with_txn txn (found, second)) ≡ call txns g
unfolding call
call_is txns g first second n txn found params size h at k =
    let e : call_at txns (txn, first) ≡ call_at txns (drawn n g) = ap (call_at txns) h in
    let f : (found, second) ≡ arguments (params_of (slice_get txns txn)) [] first = subst (λ ps. (found, second) ≡ arguments ps [] first) at k in
    ap (with_txn txn) f ∙ e ∙ ap (λ m. call_at txns (drawn m g)) size

pub some_calls : (txns : List Txn) (count : ℕ) (g : Lcg) → 0 < length txns → many (call txns) count [] g ≡ calls_of txns count g
unfolding calls_of
some_calls txns count g some = sym (ap (λ b. cond b ([], g) (many (call txns) count [] g)) (not_zero (length txns) some))

pub no_calls : (txns : List Txn) (count : ℕ) (g : Lcg) (b : Bool) (calls : List Call) → b ≡ (length txns == 0) → b ≡ true → calls ≡ [] → (calls, g) ≡ calls_of txns count g
unfolding calls_of
no_calls txns count g b calls is holds none =
    ap (λ (cs : List Call). (cs, g)) none ∙ sym (ap (λ t. cond t ([], g) (many (call txns) count [] g)) (sym is ∙ holds))

pub work_is : (plan parts : PlanParts) (txns : List Txn) (seed replicas count : ℕ) (start after : Lcg) (lists : List (List Call)) → parts ≡ plan → txns ≡ parts.txns → start ≡ generator_of seed → (lists, after) ≡ lists_of txns replicas count start → lists ≡ made_work plan seed replicas count
unfolding made_work
work_is plan parts txns seed replicas count start after lists p t s h =
    ap (λ (p : List (List Call) × Lcg). p.0) h ∙ ap (λ g. (lists_of txns replicas count g).0) s ∙ ap (λ ts. (lists_of ts replicas count (generator_of seed)).0) (t ∙ ap (λ (q : PlanParts). q.txns) p)
