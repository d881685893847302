-- The names that come with a plan are those that it holds.
use Rattle.std.proofs.Common.{ℕ, Bool, true, false, cond, Result, Ok, Err, refl}
use Rattle.std.specs.Prelude.{IfOk, ◌&&◌}
use Rattle.lucy_plan.specs.declared.parts.PlanParts.{PlanParts}
use Rattle.lucy_names.specs.declared.names.Names.{Names}
use Rattle.lucy_names.specs.Plans.{AreNamesOf, segment_names, txn_names}
use Rattle.lucy_names.specs.Tables.{differ}
use Rattle.lucy_tree.specs.declared.plans.Tree.{Tree}
use Rattle.lucy_gather.specs.Steps.{then_of}
use Rattle.lucy_gather.specs.declared.error.ElabError.{ElabError}
use Rattle.lucy_gather.specs.declared.error.ElabError.TheVariants as error
use Rattle.lucy_elaborate.specs.Plans.{parts_of, accepted, named, names_of, elaborated}

given : {A B : Type 0} (r : Result A ElabError) (f : A → Result B ElabError) (P : B → Type 0) → ((a : A) → IfOk (f a) P) → IfOk (then_of r f) P
given (Ok a) f P all = all a
given (Err e) f P all = tt

by_test : (plan : PlanParts) (test : Bool) (e : ElabError) → IfOk (cond test (Ok (names_of plan)) (Err e)) (AreNamesOf plan)
by_test plan true e = record { segments = refl; txns = refl }
by_test plan false e = tt

named_so : (at : ℕ) (plan : PlanParts) → IfOk (named at plan) (AreNamesOf plan)
unfolding named
named_so at plan = by_test plan (differ (segment_names plan) && differ (txn_names plan)) (error.Twice at)

with_plan : (plan : PlanParts) (r : Result Names ElabError) → IfOk r (AreNamesOf plan) → IfOk {T = PlanParts × Names} (then_of r (λ names. Ok (plan, names))) (λ found. AreNamesOf found.0 found.1)
with_plan plan (Ok names) are = are
with_plan plan (Err e) are = tt

pub elaborated_so : (tree : Tree) → IfOk (elaborated tree) (λ found. AreNamesOf found.0 found.1)
unfolding elaborated
elaborated_so tree =
    given (parts_of tree) _ (λ found. AreNamesOf found.0 found.1)
    (λ parts. given (accepted tree.end_word.start parts) _ (λ found. AreNamesOf found.0 found.1)
    (λ plan. with_plan plan (named tree.end_word.start plan) (named_so tree.end_word.start plan)))
