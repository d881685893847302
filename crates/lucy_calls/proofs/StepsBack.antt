-- Steps that were written, as they are read.
use Rattle.std.proofs.Common.{◌≡◌, ℕ, ◌+◌, ◌^◌, ◌<◌, ◌≤◌, Bool, true, false, nat_lt, ◌&&◌, List, [], ◌∷◌, ◌++◌, length, Ok, refl, ap, sym, ◌∙◌, arith, append_assoc}
use Rattle.std.proofs.lemmas.Bool.Decides.{nat_tests}
use Rattle.std.proofs.lemmas.List.{append-nil}
use Rattle.std.proofs.lemmas.List.Elements.{All-tail}
use Rattle.std.specs.Fmt.{decimal}
use Rattle.std.specs.List.{All}
use Rattle.std.specs.Prelude.{bytes_eq, codes}
use Rattle.lucy_io.specs.Decimals.{WrittenIsRead}
use Rattle.lucy_calls.specs.declared.steps.Step.{Step}
use Rattle.lucy_calls.specs.declared.steps.Step.TheVariants.{Submit, Send, Deliver, Begin, Freeze, OpenEpoch, Thaw}
use Rattle.lucy_calls.specs.Fields.{fields_of, heading}
use Rattle.lucy_calls.specs.Laws.{IsStepOf, StepsAreReadBack, is_field}
use Rattle.lucy_calls.specs.Lines.{is_skipped, listing, up_to_end}
use Rattle.lucy_calls.specs.Numbers.{number, number_behind, below}
use Rattle.lucy_io.specs.Outcomes.{◌>>=◌}
use Rattle.lucy_calls.specs.Steps.{step_of, with_step, of_replica, delivery, packet_of, alone, script_of, steps_of}
use Rattle.lucy_calls.specs.Texts.{step_fields, step_line, step_lines, steps_text, spaced}
use Rattle.lucy_calls.proofs.DigitLemmas.{number_back, decimal_field}
use Rattle.lucy_calls.proofs.OutcomeLemmas.{within_back}
use Rattle.lucy_calls.proofs.SpacedLemmas.{are_fields, fields_back, spaced_plain, is_plain, one_more}

is_below : (n m : ℕ) → n < m → nat_lt n m ≡ true
is_below n m lt = grind (arith, nat_tests)

pub below_back : (replicas line replica : ℕ) → replica < replicas → below replicas line replica ≡ Ok replica
unfolding below
below_back replicas line replica lt = rw (is_below replica replicas lt) refl

module _ (read : WrittenIsRead) (replicas : ℕ) (few : replicas < 2 ^ 32) where
  -- a line of one replica
  act_back : (n replica : ℕ) → replica < replicas → (number n (decimal replica) >>= λ k. below replicas n k) ≡ Ok replica
  act_back n replica lt = rw (number_back read n replica (omega arith)) (below_back replicas n replica lt)

  pub step_back : (n : ℕ) (step : Step) → IsStepOf replicas step → step_of replicas n (step_fields step) ≡ Ok step
  unfolding step_of of_replica delivery number_behind packet_of alone
  step_back n (Submit replica) lt = rw (number_back read n replica (omega arith), below_back replicas n replica lt) refl
  step_back n (Send replica) lt = rw (number_back read n replica (omega arith), below_back replicas n replica lt) refl
  step_back n (Deliver to packet) lt =
      rw (number_back read n to (omega (arith, lt.0)), number_back read n packet lt.1, is_below packet (2 ^ 64) lt.1, below_back replicas n to lt.0) refl
  step_back n (Begin replica) lt = rw (number_back read n replica (omega arith), below_back replicas n replica lt) refl
  step_back n (Freeze replica) lt = rw (number_back read n replica (omega arith), below_back replicas n replica lt) refl
  step_back n OpenEpoch lt = refl
  step_back n (Thaw replica) lt = rw (number_back read n replica (omega arith), below_back replicas n replica lt) refl

  one_field : (t : Bool) → t ≡ true → (t && true) ≡ true
  one_field t h = rw (h) refl

  two_fields : (s t : Bool) → s ≡ true → t ≡ true → (s && (t && true)) ≡ true
  two_fields s t h k = rw (h, k) refl

  fields_good : (step : Step) → IsStepOf replicas step → are_fields (step_fields step) ≡ true
  fields_good (Submit replica) lt = one_field (is_field (decimal replica)) (decimal_field read replica (omega arith))
  fields_good (Send replica) lt = one_field (is_field (decimal replica)) (decimal_field read replica (omega arith))
  fields_good (Deliver to packet) lt = two_fields (is_field (decimal to)) (is_field (decimal packet)) (decimal_field read to (omega (arith, lt.0))) (decimal_field read packet lt.1)
  fields_good (Begin replica) lt = one_field (is_field (decimal replica)) (decimal_field read replica (omega arith))
  fields_good (Freeze replica) lt = one_field (is_field (decimal replica)) (decimal_field read replica (omega arith))
  fields_good OpenEpoch lt = refl
  fields_good (Thaw replica) lt = one_field (is_field (decimal replica)) (decimal_field read replica (omega arith))

  -- the line of a step is not skipped, and is not the last one
  is_taken : (step : Step) → (is_skipped (step_line step) ≡ false) × (bytes_eq (step_line step) (codes "end") ≡ false)
  is_taken (Submit replica) = (refl, refl)
  is_taken (Send replica) = (refl, refl)
  is_taken (Deliver to packet) = (refl, refl)
  is_taken (Begin replica) = (refl, refl)
  is_taken (Freeze replica) = (refl, refl)
  is_taken OpenEpoch = (refl, refl)
  is_taken (Thaw replica) = (refl, refl)

  plain_by : (fs : List (List ℕ)) → are_fields fs ≡ true → is_plain (spaced fs) ≡ true
  plain_by [] h = refl
  plain_by (f ∷ fs) h = spaced_plain f fs h

  fields_by : (n : ℕ) (step : Step) → are_fields (step_fields step) ≡ true → fields_of n (step_line step) ≡ Ok (step_fields step)
  fields_by n (Submit replica) h = fields_back n (codes "submit") (decimal replica ∷ []) h
  fields_by n (Send replica) h = fields_back n (codes "send") (decimal replica ∷ []) h
  fields_by n (Deliver to packet) h = fields_back n (codes "deliver") (decimal to ∷ decimal packet ∷ []) h
  fields_by n (Begin replica) h = fields_back n (codes "begin") (decimal replica ∷ []) h
  fields_by n (Freeze replica) h = fields_back n (codes "freeze") (decimal replica ∷ []) h
  fields_by n OpenEpoch h = fields_back n (codes "open") [] h
  fields_by n (Thaw replica) h = fields_back n (codes "thaw") (decimal replica ∷ []) h

  with_back : (n : ℕ) (step : Step) (steps : List Step) → IsStepOf replicas step → with_step replicas n (step_line step) steps ≡ Ok (steps ++ step ∷ [])
  unfolding with_step
  with_back n step steps is = rw (fields_by n step (fields_good step is), step_back n step is) refl

  ends_back : (n : ℕ) (found : List Step) → up_to_end (with_step replicas) found (listing n (codes "end" ++ 10 ∷ [])) ≡ Ok found
  unfolding up_to_end
  ends_back n found = refl

  lines_back : (n : ℕ) (steps found : List Step) → All (IsStepOf replicas) steps → up_to_end (with_step replicas) found (listing n (step_lines steps ++ (codes "end" ++ 10 ∷ []))) ≡ Ok (found ++ steps)
  lines_back n [] found all = ends_back n found ∙ ap (λ (ss : List Step). Ok ss) (sym (append-nil found))
  lines_back n (step ∷ steps) found all =
      let is : IsStepOf replicas step = all 0 step (omega arith) in
      ap (λ (text : List ℕ). up_to_end (with_step replicas) found (listing n text)) (append_assoc (step_line step) (10 ∷ step_lines steps) (codes "end" ++ 10 ∷ []))
      ∙ one_more (with_step replicas) found (found ++ step ∷ []) n (step_line step) (step_lines steps ++ (codes "end" ++ 10 ∷ [])) (plain_by (step_fields step) (fields_good step is)) (is_taken step).0 (is_taken step).1 (with_back n step found is)
      ∙ lines_back (n + 1) steps (found ++ step ∷ []) (All-tail (IsStepOf replicas) step steps all)
      ∙ ap (λ (ss : List Step). Ok ss) (append_assoc found (step ∷ []) steps)

  head_back : (text : List ℕ) → script_of replicas ((codes "steps 1" ++ 10 ∷ []) ++ text) ≡ up_to_end (with_step replicas) [] (listing 2 text)
  unfolding script_of heading fields_of
  head_back text = refl

pub steps_back : WrittenIsRead → StepsAreReadBack
unfolding steps_of steps_text
steps_back read replicas steps few all short =
    rw (within_back (2 ^ 20) (steps_text steps) short)
    (ap (script_of replicas) (append_assoc (codes "steps 1" ++ 10 ∷ []) (step_lines steps) (codes "end" ++ 10 ∷ []))
    ∙ head_back read replicas few (step_lines steps ++ (codes "end" ++ 10 ∷ []))
    ∙ lines_back read replicas few 2 steps [] all)
