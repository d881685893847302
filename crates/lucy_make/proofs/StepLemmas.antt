-- Made steps name replicas.
use Rattle.std.proofs.Common.{◌≡◌, ℕ, zero, suc, ◌+◌, ◌^◌, ◌<◌, ◌≤◌, ◌==◌, Bool, true, false, cond, List, [], ◌∷◌, ◌++◌, refl, arith}
use Rattle.std.specs.Prelude.{nat_le}
use Rattle.std.specs.List.{All}
use Rattle.std.proofs.lemmas.Bool.{eqb-false}
use Rattle.std.proofs.lemmas.List.Elements.{All-append, All-cons}
use Rattle.std.proofs.Math.Nat.{mod-lt}
use Rattle.rand_pcg.specs.Lcg.{Lcg}
use Rattle.lucy_calls.specs.declared.steps.Step.{Step}
use Rattle.lucy_calls.specs.declared.steps.Step.TheVariants.{Submit, Send, Deliver, Begin, Freeze, OpenEpoch, Thaw}
use Rattle.lucy_calls.specs.Laws.{IsStepOf}
use Rattle.lucy_net.specs.Draws.{generator_of, drawn}
use Rattle.lucy_make.specs.declared.steps.Script.{Script}
use Rattle.lucy_make.specs.Steps.{with_step, with_send, submits, sends, delivers, deliver_to, freeze_at, freezes, thaws, begun, change_of, changes, round, rounds, empty, made_steps, MadeStepsNameReplicas}

-- each step of a script names a replica, and so many of them at the most send a packet
pub record IsSound (n most : ℕ) (script : Script) : Type 0 where
  pub names : All (IsStepOf n) script.steps
  pub few : script.sent ≤ most

pub one_more : (n : ℕ) (steps : List Step) (step : Step) → IsStepOf n step → All (IsStepOf n) steps → All (IsStepOf n) (steps ++ step ∷ [])
one_more n steps step h all = All-append (IsStepOf n) steps (step ∷ []) all (All-cons (IsStepOf n) step [] h (λ k d less. absurd (omega arith)))

pub step_sound : (n most : ℕ) (script : Script) (step : Step) → IsStepOf n step → IsSound n most script → IsSound n most (with_step step script)
step_sound n most script step h s = record { names = one_more n script.steps step h s.names; few = s.few }

pub send_sound : (n most : ℕ) (script : Script) (replica : ℕ) → replica < n → IsSound n most script → IsSound n (suc most) (with_send replica script)
send_sound n most script replica h s = record { names = one_more n script.steps (Send replica) h s.names; few = (let few = s.few in omega arith) }

pub more_sound : (n most : ℕ) (script : Script) → IsSound n most script → IsSound n (suc most) script
more_sound n most script s = record { names = s.names; few = (let few = s.few in omega arith) }

pub submits_sound : (n most : ℕ) (script : Script) (g : Lcg) → 0 < n → IsSound n most script → IsSound n most (submits n script g).0
submits_sound n most script g some s = step_sound n most script (Submit (drawn n g).0) (mod-lt _ some) s

pub sends_sound : (n most : ℕ) (script : Script) (g : Lcg) → 0 < n → IsSound n most script → IsSound n (suc most) (sends n script g).0
sends_sound n most script g some s = send_sound n most script (drawn n g).0 (mod-lt _ some) s

pub deliver_sound : (n most : ℕ) (script : Script) (draw : ℕ × Lcg) → draw.0 < n → 0 < script.sent → most < 2 ^ 64 → IsSound n most script → IsSound n (suc most) (deliver_to script draw).0
deliver_sound n most script draw within one limit s =
    let packet : (drawn script.sent draw.1).0 < script.sent = mod-lt _ one in
    more_sound n most _ (step_sound n most script (Deliver draw.0 (drawn script.sent draw.1).0) (within, (let few = s.few in omega arith)) s)

pub delivers_by : (n most : ℕ) (script : Script) (g : Lcg) (b : Bool) → (b ≡ false → 0 < script.sent) → 0 < n → most < 2 ^ 64 → IsSound n most script → IsSound n (suc most) (cond b (sends n script g) (deliver_to script (drawn n g))).0
delivers_by n most script g true one some limit s = sends_sound n most script g some s
delivers_by n most script g false one some limit s = deliver_sound n most script (drawn n g) (mod-lt _ some) (one refl) limit s

pub delivers_sound : (n most : ℕ) (script : Script) (g : Lcg) → 0 < n → most < 2 ^ 64 → IsSound n most script → IsSound n (suc most) (delivers n script g).0
delivers_sound n most script g some limit s = delivers_by n most script g (script.sent == 0) (λ h. (let differ = eqb-false script.sent 0 h in omega arith)) some limit s

pub freezes_sound : (n most left k : ℕ) (made : Script × Lcg) → 0 < n → k + left ≤ n → IsSound n most made.0 → IsSound n most (freezes n left k made).0
freezes_sound n most zero k made some within s = s
freezes_sound n most (suc left) k made some within s =
    freezes_sound n most left (suc k) (freeze_at k (submits n made.0 made.1)) some (omega arith) (step_sound n most _ (Freeze k) (omega arith) (submits_sound n most made.0 made.1 some s))

pub thaws_sound : (n most left k : ℕ) (script : Script) → k + left ≤ n → IsSound n most script → IsSound n most (thaws left k script)
thaws_sound n most zero k script within s = s
thaws_sound n most (suc left) k script within s =
    thaws_sound n most left (suc k) (with_step (Thaw k) script) (omega arith) (step_sound n most script (Thaw k) (omega arith) s)

pub change_sound : (n most : ℕ) (script : Script) (draw : ℕ × Lcg) → 0 < n → draw.0 < n → IsSound n most script → IsSound n most (change_of n script draw).0
change_sound n most script draw some within s =
    let first = step_sound n most script (Submit draw.0) within s in
    let second = step_sound n most (with_step (Submit draw.0) script) (Begin draw.0) within first in
    let third = freezes_sound n most n 0 (begun draw.0 script, draw.1) some (omega arith) second in
    thaws_sound n most n 0 (with_step OpenEpoch (freezes n n 0 (begun draw.0 script, draw.1)).0) (omega arith) (step_sound n most _ OpenEpoch tt third)

pub changes_sound : (n most : ℕ) (script : Script) (g : Lcg) → 0 < n → IsSound n most script → IsSound n most (changes n script g).0
unfolding changes
changes_sound n most script g some s = change_sound n most script (drawn n g) some (mod-lt _ some) s

pub chosen_sound : (n most : ℕ) (a b c : Bool) (p q r t : Script × Lcg) → IsSound n most p.0 → IsSound n most q.0 → IsSound n most r.0 → IsSound n most t.0 → IsSound n most (cond a p (cond b q (cond c r t))).0
chosen_sound n most true b c p q r t h i j k = h
chosen_sound n most false true c p q r t h i j k = i
chosen_sound n most false false true p q r t h i j k = j
chosen_sound n most false false false p q r t h i j k = k

pub round_sound : (n most : ℕ) (script : Script) (g : Lcg) → 0 < n → most < 2 ^ 64 → IsSound n most script → IsSound n (suc most) (round n script g).0
unfolding round
round_sound n most script g some limit s =
    let draw = drawn 16 g in
    chosen_sound n (suc most) (nat_le draw.0 6) (nat_le draw.0 9) (nat_le draw.0 13) _ _ _ _
    (more_sound n most _ (submits_sound n most script draw.1 some s))
    (sends_sound n most script draw.1 some s)
    (delivers_sound n most script draw.1 some limit s)
    (more_sound n most _ (changes_sound n most script draw.1 some s))

pub rounds_sound : (n most left : ℕ) (made : Script × Lcg) → 0 < n → most + left < 2 ^ 64 → IsSound n most made.0 → IsSound n (most + left) (rounds n left made).0
rounds_sound n most zero made some limit s = record { names = s.names; few = (let few = s.few in omega arith) }
rounds_sound n most (suc left) made some limit s =
    let next = rounds_sound n (suc most) left (round n made.0 made.1) some (omega arith) (round_sound n most made.0 made.1 some (omega arith) s) in
    record { names = next.names; few = (let few = next.few in omega arith) }

pub empty_sound : (n : ℕ) → IsSound n 0 empty
empty_sound n = record { names = λ k d less. absurd (omega arith); few = omega arith }

pub made_steps_name_replicas : MadeStepsNameReplicas
unfolding made_steps
made_steps_name_replicas n seed count some limit =
    (rounds_sound n 0 count (empty, generator_of seed) (omega arith) (omega arith) (empty_sound n)).names

pub few_by : (a b c : Bool) (p q r t : Script × Lcg) (sent : ℕ) → p.0.sent ≤ sent + 1 → q.0.sent ≤ sent + 1 → r.0.sent ≤ sent + 1 → t.0.sent ≤ sent + 1 → (cond a p (cond b q (cond c r t))).0.sent ≤ sent + 1
few_by true b c p q r t sent h i j k = h
few_by false true c p q r t sent h i j k = i
few_by false false true p q r t sent h i j k = j
few_by false false false p q r t sent h i j k = k

pub delivers_few : (n : ℕ) (script : Script) (g : Lcg) (b : Bool) → (cond b (sends n script g) (deliver_to script (drawn n g))).0.sent ≤ script.sent + 1
delivers_few n script g true = omega arith
delivers_few n script g false = omega arith

pub freezes_send_none : (n left k : ℕ) (made : Script × Lcg) → (freezes n left k made).0.sent ≡ made.0.sent
freezes_send_none n zero k made = refl
freezes_send_none n (suc left) k made = freezes_send_none n left (suc k) (freeze_at k (submits n made.0 made.1))

pub thaws_send_none : (left k : ℕ) (script : Script) → (thaws left k script).sent ≡ script.sent
thaws_send_none zero k script = refl
thaws_send_none (suc left) k script = thaws_send_none left (suc k) (with_step (Thaw k) script)

pub changes_few : (n : ℕ) (script : Script) (g : Lcg) → (changes n script g).0.sent ≤ script.sent + 1
unfolding changes
changes_few n script g =
    let made = freezes n n 0 (begun (drawn n g).0 script, (drawn n g).1) in
    let frozen : made.0.sent ≡ script.sent = freezes_send_none n n 0 (begun (drawn n g).0 script, (drawn n g).1) in
    let thawed : (thaws n 0 (with_step OpenEpoch made.0)).sent ≡ made.0.sent = thaws_send_none n 0 (with_step OpenEpoch made.0) in
    omega (arith, frozen, thawed)

-- a round sends one packet at the most
pub sends_few : (n : ℕ) (script : Script) (g : Lcg) → (round n script g).0.sent ≤ script.sent + 1
unfolding round
sends_few n script g =
    let draw = drawn 16 g in
    few_by (nat_le draw.0 6) (nat_le draw.0 9) (nat_le draw.0 13) (submits n script draw.1) (sends n script draw.1) (delivers n script draw.1) (changes n script draw.1) script.sent
    (omega arith) (omega arith) (delivers_few n script draw.1 (script.sent == 0)) (changes_few n script draw.1)
