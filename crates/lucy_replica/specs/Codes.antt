-- How a replica, and what it sends, is told by numbers.
use Rattle.std.specs.Prelude.{◌≡◌, ◌⊎◌, ℕ, ℤ, List, Option, refl}
use Rattle.std.specs.Coded.{Coded, code_by, coded×, coded⊎, coded_ℕ, coded_ℤ, coded_list, coded_option}
use Rattle.std.proofs.Common.{inl, inr}
use Rattle.lucy_plan.specs.declared.parts.Call.{Call}
use Rattle.lucy_expr.specs.Trees.{Tree}
use Rattle.lucy_expr.specs.Expressions.{Expression, expression_code, tree_code}
use Rattle.lucy_expr.specs.declared.ids.Id.{Id}
use Rattle.lucy_epochs.specs.Records.{Record, record_code}
use Rattle.lucy_epochs.specs.Contributions.{Contribution, contribution_code}
use Rattle.lucy_replica.specs.Replicas.{Answer, Done, Broken, Moved, Refused, Stay, Message, Replica, Seen}

abbrev pub id_code : Coded Id
id_code = code_by (ℕ × ℕ) (coded× coded_ℕ coded_ℕ) (λ id. (id.replica, id.count)) (λ p. record { replica = p.0; count = p.1 }) (λ _. refl)

abbrev pub call_code : Coded Call
call_code = code_by (ℕ × List ℤ) (coded× coded_ℕ (coded_list coded_ℤ)) (λ call. (call.txn, call.arguments)) (λ p. record { txn = p.0; arguments = p.1 }) (λ _. refl)

-- the parts of a reply, by its kind
abbrev pub Told : Type 0
Told = (Record × Id) ⊎ ((Record × Tree) ⊎ ((Record × (Tree × Id)) ⊎ (Tree × List Contribution)))

abbrev pub told : Answer → Told
told (Done epoch id) = inl (epoch, id)
told (Broken epoch point) = inr (inl (epoch, point))
told (Moved epoch point id) = inr (inr (inl (epoch, (point, id))))
told (Refused point parts) = inr (inr (inr (point, parts)))

abbrev pub answer_of_told : Told → Answer
answer_of_told (inl p) = Done p.0 p.1
answer_of_told (inr (inl p)) = Broken p.0 p.1
answer_of_told (inr (inr (inl p))) = Moved p.0 p.1.0 p.1.1
answer_of_told (inr (inr (inr p))) = Refused p.0 p.1

pub answer-told : (answer : Answer) → answer_of_told (told answer) ≡ answer
answer-told (Done epoch id) = refl
answer-told (Broken epoch point) = refl
answer-told (Moved epoch point id) = refl
answer-told (Refused point parts) = refl

abbrev pub answer_code : Coded Answer
answer_code =
    code_by Told
    (coded⊎ (coded× record_code id_code)
    (coded⊎ (coded× record_code tree_code) (coded⊎ (coded× record_code (coded× tree_code id_code)) (coded× tree_code (coded_list contribution_code)))))
    told answer_of_told answer-told

abbrev pub stay_code : Coded Stay
stay_code =
    code_by (Record × (List ℤ × Tree)) (coded× record_code (coded× (coded_list coded_ℤ) tree_code)) (λ stay. (stay.epoch, (stay.state, stay.tree)))
    (λ p. record { epoch = p.0; state = p.1.0; tree = p.1.1 }) (λ _. refl)

abbrev pub message_code : Coded Message
message_code =
    code_by (Record × (List ℤ × Expression)) (coded× record_code (coded× (coded_list coded_ℤ) expression_code))
    (λ message. (message.epoch, (message.state, message.expression))) (λ p. record { epoch = p.0; state = p.1.0; expression = p.1.1 }) (λ _. refl)

abbrev pub replica_code : Coded Replica
replica_code =
    code_by (ℕ × (Record × (Expression × (Option Tree × (List Call × (List Answer × List Stay))))))
    (coded× coded_ℕ (coded× record_code (coded× expression_code (coded× (coded_option tree_code)
    (coded× (coded_list call_code) (coded× (coded_list answer_code) (coded_list stay_code)))))))
    (λ r. (r.number, (r.epoch, (r.expression, (r.wanted, (r.calls, (r.replies, r.closings)))))))
    (λ p. record {
      number = p.0;
      epoch = p.1.0;
      expression = p.1.1.0;
      wanted = p.1.1.1.0;
      calls = p.1.1.1.1.0;
      replies = p.1.1.1.1.1.0;
      closings = p.1.1.1.1.1.1;
    })
    (λ _. refl)

abbrev pub seen_code : Coded Seen
seen_code = code_by (Replica × ℕ) (coded× replica_code coded_ℕ) (λ seen. (seen.replica, seen.spare)) (λ p. record { replica = p.0; spare = p.1 }) (λ _. refl)
