-- Leaves that are raised one after another.
use Rattle.std.proofs.Common.{◌≡◌, ◌≢◌, ℕ, suc, ◌+◌, ◌-◌, ◌<◌, List, Err, ap, sym, ◌∙◌, arith}
use Rattle.lucy_gather.specs.declared.error.ElabError.{ElabError}
use Rattle.lucy_gather.specs.declared.error.ElabError.TheVariants.{OutOfMemory}
use Rattle.lucy_gather.specs.declared.terms.Wide.{Wide}
use Rattle.lucy_gather.specs.Steps.{Outcome, and_then, pure}
use Rattle.lucy_gather.specs.Terms.{raised, raised_all}

abbrev Raised : Type 0
Raised = Outcome (List Wide) (Unit {0})

-- one of those that are left is raised, and then the others
raised_next : (leaf count done : ℕ) (by : Wide) (factors : List Wide) → done < count
    → raised_all leaf (count - done) by factors ≡ and_then (raised leaf by.by factors) (λ _. raised_all (leaf + 1) (count - (done + 1)) by)
raised_next leaf count done by factors lt =
    let one : count - done ≡ suc (count - (done + 1)) = omega (arith, lt) in
    ap (λ n. raised_all leaf n by factors) one

pub raised_more : (leaf count done : ℕ) (by : Wide) (factors new : List Wide) (total : Raised) → done < count → raised leaf by.by factors ≡ pure tt new
    → raised_all leaf (count - done) by factors ≡ total → raised_all (leaf + 1) (count - (done + 1)) by new ≡ total
raised_more leaf count done by factors new total lt gave so_far =
    sym (raised_next leaf count done by factors lt ∙ ap (λ (o : Raised). and_then o (λ _. raised_all (leaf + 1) (count - (done + 1)) by)) gave) ∙ so_far

pub raised_stops : (leaf count done : ℕ) (by : Wide) (factors : List Wide) (total : Raised) (e : ElabError) → done < count → (e ≢ OutOfMemory → raised leaf by.by factors ≡ Err e)
    → raised_all leaf (count - done) by factors ≡ total → e ≢ OutOfMemory → total ≡ Err e
raised_stops leaf count done by factors total e lt stopped so_far other =
    sym so_far ∙ raised_next leaf count done by factors lt ∙ ap (λ (o : Raised). and_then o (λ _. raised_all (leaf + 1) (count - (done + 1)) by)) (stopped other)
