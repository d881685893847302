use Rattle.std.proofs.Common.{◌≡◌, ◌++◌, map, drop}
use Rattle.lucy_names.specs.Tables.{differ, differ_behind}
use Rattle.lucy_names.proofs.names.txn_table.Given as goal

abbrev pub invariant-loop-txn : goal.invariant-loop-txn
invariant-loop-txn l = record {
  all : l.table ++ map (λ x. x.name) (drop l.txn-index l.txns) ≡ map (λ x. x.name) l.txns;
  left : differ_behind l.table (map (λ x. x.name) (drop l.txn-index l.txns)) ≡ differ (map (λ x. x.name) l.txns);
}
