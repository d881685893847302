use Rattle.std.proofs.Common.{rules, ◌≡◌, ◌∙◌, sym, ap, length, List}
use Rattle.std.specs.Arc.{arc_value}
use Rattle.lucy_epochs.specs.Records.{first_record}
use Rattle.lucy_plan.specs.declared.parts.Call.{Call}
use Rattle.lucy_core.specs.Worlds.{World}
use Rattle.lucy_core.proofs.Starting.{newcomers_many}
use Rattle.lucy_core.proofs.one_thread.alone.Goals as goal

pub call_lists-requires-clause-many : goal.call_lists-requires-clause-many
call_lists-requires-clause-many c =
    let lists = c.args.work.now.lists in
    let same : c.as_slice.result.now ≡ lists = search rules in
    ap (λ (w : World). length w.replicas) c.in_ok-world.ensures.opening ∙ newcomers_many (first_record (arc_value c.args.checked)) (length lists) 0 lists ∙ ap (λ (work : List (List Call)). length work) (sym same)
