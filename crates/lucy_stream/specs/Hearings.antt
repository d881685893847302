-- What the items of a certificate make of a judge.
use Rattle.std.specs.Prelude.{ℕ, Option, Some, None}
use Rattle.std.specs.Option.{option_map}
use Rattle.lucy_plan.specs.declared.parts.PlanParts.{PlanParts}
use Rattle.lucy_cert.specs.declared.entries.Item.{Item}
use Rattle.lucy_cert.specs.declared.entries.Item.TheVariants as item
use Rattle.lucy_judge.specs.declared.trial.Trial.{Trial}
use Rattle.lucy_judge.specs.Judges.{Judging, judging}
use Rattle.lucy_judge.specs.Trials.{opening, part_taken, step_taken}
use Rattle.lucy_stream.specs.declared.hearing.Hearing.{Hearing}

abbrev pub hearing : Option ℕ → Judging → Hearing
hearing live judge = record { live = live; judge = judge }

-- no item yet
abbrev pub begun : PlanParts → Hearing
begun plan = hearing None (judging plan (Some (opening plan)))

-- what a change of its trial makes of a judge
abbrev pub changed : Judging → (Trial → Trial) → Judging
changed j change = judging j.plan (option_map change j.trial)

-- what an item makes of it
abbrev pub heard : Hearing → Item → Hearing
heard h (item.Live live) = hearing live h.judge
heard h (item.Part name) = hearing h.live (changed h.judge (λ t. part_taken h.judge.plan h.live t name))
heard h (item.Step step) = hearing h.live (changed h.judge (λ t. step_taken t step))
