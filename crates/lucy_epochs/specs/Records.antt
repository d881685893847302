-- The records of epochs, and which calls their openings contain.
use Rattle.std.specs.Prelude.{ℕ, ℤ, ◌+◌, unwrap_or, List, [], ◌∷◌, ◌++◌, map, Option, Some, None, refl}
use Rattle.std.specs.List.{flat_map}
use Rattle.std.specs.Coded.{Coded, code_by, coded×, coded_ℕ, coded_ℤ, coded_list, coded_option}
use Rattle.lucy_model.specs.Merging.{merged_all}
use Rattle.lucy_plan.specs.Calls.{applied}
use Rattle.lucy_plan.specs.Segments.{first_segment}
use Rattle.lucy_plan.specs.declared.parts.Call.{Call}
use Rattle.lucy_plan.specs.declared.parts.PlanParts.{PlanParts}
use Rattle.lucy_plan.specs.declared.plans.Plan as plan
use Rattle.lucy_expr.specs.Trees.{Tree, value, ids}
use Rattle.lucy_expr.specs.declared.ids.Id.{Id}
use Rattle.lucy_epochs.specs.declared.causes.By.{By}

-- an epoch's record, without pointers
pub record Record : Type 0 where
  pub number : ℕ
  pub segment : ℕ
  pub opening : List ℤ
  pub plan : PlanParts
  pub by : Option By

abbrev pub by_code : Coded By
by_code = code_by (ℕ × (ℕ × ℕ)) (coded× coded_ℕ (coded× coded_ℕ coded_ℕ)) (λ b. (b.replica, (b.place, b.count)))
    (λ p. record { replica = p.0; place = p.1.0; count = p.1.1 }) (λ _. refl)

abbrev pub record_code : Coded Record
record_code = code_by (ℕ × (ℕ × (List ℤ × (PlanParts × Option By))))
    (coded× coded_ℕ (coded× coded_ℕ (coded× (coded_list coded_ℤ) (coded× plan.the_code (coded_option by_code)))))
    (λ r. (r.number, (r.segment, (r.opening, (r.plan, r.by)))))
    (λ p. record { number = p.0; segment = p.1.0; opening = p.1.1.0; plan = p.1.1.1.0; by = p.1.1.1.1 }) (λ _. refl)

-- the record that all replicas begin at: number 0, the first segment that holds the start, the start, and
-- no call that opened it
abbrev pub first_record : PlanParts → Record
first_record plan = record { number = 0; segment = unwrap_or (first_segment plan plan.start) 0; opening = plan.start; plan = plan; by = None }

-- what the next record opens with: the merge of what the replicas had, with the call applied
abbrev pub next_opening : Record → List Tree → Call → List ℤ
next_opening before trees call = applied before.plan call (merged_all before.plan.object (map (value before.plan before.opening) trees))

-- the record after another, from one expression for each replica and the call that opens it: the next
-- number, and the first segment that holds the opening
abbrev pub next_record : Record → List Tree → Call → By → Record
next_record before trees call by = record {
  number = before.number + 1;
  segment = unwrap_or (first_segment before.plan (next_opening before trees call)) 0;
  opening = next_opening before trees call;
  plan = before.plan;
  by = Some by;
}

-- a change: each replica's expression at its end, and the call that opened the next record
pub record Change : Type 0 where
  pub trees : List Tree
  pub by : By

-- the ids of the calls that a change puts into the next opening
abbrev pub added_ids : Change → List Id
added_ids change = flat_map ids change.trees ++ record { replica = change.by.replica; count = change.by.count } ∷ []

-- the ids of the calls that the opening contains after these changes, the oldest first: none before a change
abbrev pub contents : List Change → List Id
contents changes = flat_map added_ids changes
