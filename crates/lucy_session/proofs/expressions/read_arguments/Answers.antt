use Rattle.std.proofs.Common.{◌≡◌, true, List, ℤ, [], ◌∷◌, ◌++◌, ◌<◌, length, append-nil, subst, refl, arith}
use Rattle.lucy_plan.specs.declared.parts.Limits.{Limits}
use Rattle.lucy_plan.specs.Calls.{are_arguments}
use Rattle.lucy_session.proofs.expressions.read_arguments.Goals as goal

-- an argument for each parameter, where none is left
fit_end : (all params : List Limits) (found : List ℤ) → length params < 1 → ((more : List ℤ) → are_arguments params more ≡ true → are_arguments all (found ++ more) ≡ true) → are_arguments all found ≡ true
fit_end all [] found below h = subst (λ (xs : List ℤ). are_arguments all xs ≡ true) (append-nil found) (h [] refl)
fit_end all (limits ∷ params) found below h = absurd (omega (arith, below))

pub returns-clause-fit : goal.returns-clause-fit
returns-clause-fit c = fit_end c.args.params.now c.loop-params.params.now c.loop-params.arguments c.in_default.len_below c.loop-params.invariant.1
