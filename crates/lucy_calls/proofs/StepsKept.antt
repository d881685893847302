-- What is known of the steps of a script.
use Rattle.std.proofs.Common.{ℕ, ◌^◌, ◌<◌, nat_lt, List, [], ◌∷◌, Ok}
use Rattle.std.proofs.lemmas.Bool.{ltb-true}
use Rattle.std.proofs.lemmas.List.Elements.{All-nil, All-push}
use Rattle.std.specs.List.{All}
use Rattle.std.specs.Prelude.{IfOk, bytes_eq, codes}
use Rattle.lucy_calls.specs.declared.error.CallsError.TheVariants.{BadLine, BadReplica}
use Rattle.lucy_calls.specs.declared.step_lines.Act.{Act}
use Rattle.lucy_calls.specs.declared.step_lines.Act.TheVariants as act
use Rattle.lucy_calls.specs.declared.steps.Step.{Step}
use Rattle.lucy_calls.specs.declared.steps.Step.TheVariants.{OpenEpoch}
use Rattle.lucy_calls.specs.Fields.{fields_of, heading}
use Rattle.lucy_calls.specs.Laws.{IsStepOf, StepsNameReplicas}
use Rattle.lucy_calls.specs.Lines.{within_bytes, listing, next}
use Rattle.lucy_calls.specs.Numbers.{number, number_behind, below}
use Rattle.lucy_calls.specs.Steps.{act_in, step_by, alone, of_replica, packet_of, delivery, step_of, with_step, script_of, steps_of}
use Rattle.lucy_calls.proofs.OutcomeLemmas.{bind, bind_any, test, up_to_end_keeps}

pub below_is : (replicas n replica : ℕ) → IfOk (below replicas n replica) (λ r. r < replicas)
unfolding below
below_is replicas n replica = test (λ r. r < replicas) (nat_lt replica replicas) (Ok replica) (BadReplica n) (ltb-true replica replicas)

module _ (replicas : ℕ) where
  act_is : (what : Act) (replica : ℕ) → replica < replicas → IsStepOf replicas (step_by what replica)
  act_is act.Submit replica lt = lt
  act_is act.Send replica lt = lt
  act_is act.Begin replica lt = lt
  act_is act.Freeze replica lt = lt
  act_is act.Thaw replica lt = lt

  alone_is : (n : ℕ) (word : List ℕ) → IfOk (alone n word) (IsStepOf replicas)
  unfolding alone
  alone_is n word = test (IsStepOf replicas) (bytes_eq word (codes "open")) (Ok OpenEpoch) (BadLine n) (λ _. tt)

  of_replica_is : (n : ℕ) (word digits : List ℕ) → IfOk (of_replica replicas n word digits) (IsStepOf replicas)
  unfolding of_replica
  of_replica_is n word digits =
      bind_any (IsStepOf replicas) (act_in n word) _ (λ what.
      bind_any (IsStepOf replicas) (number n digits) _ (λ k.
      bind (λ r. r < replicas) (IsStepOf replicas) (below replicas n k) _ (below_is replicas n k) (λ replica lt. act_is what replica lt)))

  packet_is : (n : ℕ) (digits : List ℕ) → IfOk (packet_of n digits) (λ p. p < 2 ^ 64)
  unfolding packet_of
  packet_is n digits = bind_any (λ p. p < 2 ^ 64) (number n digits) _ (λ k. test (λ p. p < 2 ^ 64) (nat_lt k (2 ^ 64)) (Ok k) (BadLine n) (ltb-true k (2 ^ 64)))

  delivery_is : (n : ℕ) (word digits packet : List ℕ) → IfOk (delivery replicas n word digits packet) (IsStepOf replicas)
  unfolding delivery
  delivery_is n word digits packet =
      bind_any (IsStepOf replicas) (number_behind (codes "deliver") n word digits) _ (λ k.
      bind (λ p. p < 2 ^ 64) (IsStepOf replicas) (packet_of n packet) _ (packet_is n packet) (λ p small.
      bind (λ r. r < replicas) (IsStepOf replicas) (below replicas n k) _ (below_is replicas n k) (λ to lt. (lt, small))))

  step_is : (n : ℕ) (fields : List (List ℕ)) → IfOk (step_of replicas n fields) (IsStepOf replicas)
  unfolding step_of
  step_is n [] = tt
  step_is n (word ∷ []) = alone_is n word
  step_is n (word ∷ digits ∷ []) = of_replica_is n word digits
  step_is n (word ∷ digits ∷ packet ∷ []) = delivery_is n word digits packet
  step_is n (word ∷ digits ∷ packet ∷ other ∷ others) = tt

  with_is : (n : ℕ) (l : List ℕ) (steps : List Step) → All (IsStepOf replicas) steps → IfOk (with_step replicas n l steps) (All (IsStepOf replicas))
  unfolding with_step
  with_is n l steps all =
      bind_any (All (IsStepOf replicas)) (fields_of n l) _ (λ fields.
      bind (IsStepOf replicas) (All (IsStepOf replicas)) (step_of replicas n fields) _ (step_is n fields) (λ step is. All-push (IsStepOf replicas) steps step all is))

  script_is : (text : List ℕ) → IfOk (script_of replicas text) (All (IsStepOf replicas))
  unfolding script_of
  script_is text =
      bind_any (All (IsStepOf replicas)) (next (heading (codes "steps")) (listing 1 text)) _ (λ found.
      up_to_end_keeps (All (IsStepOf replicas)) (with_step replicas) with_is [] found.1 (All-nil (IsStepOf replicas)))

pub steps_named : StepsNameReplicas
unfolding steps_of
steps_named replicas text = bind_any (All (IsStepOf replicas)) (within_bytes (2 ^ 20) text) _ (λ _. script_is replicas text)
