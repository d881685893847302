use Rattle.std.proofs.Common.{◌≡◌, ◌++◌, drop, true}
use Rattle.std.specs.List.{list_all}
use Rattle.lucy_calls.specs.Texts.{lists_lines, are_named}
use Rattle.lucy_calls.proofs.work_text.write_lists.Given as goal

abbrev pub invariant-loop-replica : goal.invariant-loop-replica
invariant-loop-replica l = record {
  text : l.out.items ++ lists_lines l.names.txns l.replica (drop l.replica l.lists) ≡ l.fn.out.items ++ lists_lines l.names.txns 0 l.lists;
  named : list_all (are_named l.names.txns) (drop l.replica l.lists) ≡ true;
}
