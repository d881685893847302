use Rattle.std.proofs.Common.{rules, ◌≡◌, ◌≤◌, length}
use Rattle.std.specs.List.{list_all}
use Rattle.lucy_core.specs.Worlds.{are_calls_of}
use Rattle.lucy_core.proofs.WorkLemmas.{work_from}
use Rattle.lucy_core.proofs.fitting.is_work_of.Goals as goal

pub returns-then-lists-le16 : goal.returns-then-lists-le16
returns-then-lists-le16 c =
    let some : 1 ≤ length c.args.work.now.lists = search rules in
    let few : length c.args.work.now.lists ≤ 16 = search rules in
    let is : c.are_lists_of.result ≡ list_all (are_calls_of c.args.plan.now) c.args.work.now.lists = search rules in
    rw is (work_from c.args.plan.now c.args.work.now.lists some few)
