use Rattle.std.proofs.Common.{◌≡◌, ◌++◌, map, drop}
use Rattle.lucy_names.specs.Tables.{differ, differ_behind}
use Rattle.lucy_names.proofs.names.segment_table.Given as goal

abbrev pub invariant-loop-segment : goal.invariant-loop-segment
invariant-loop-segment l = record {
  all : l.table ++ map (λ x. x.name) (drop l.segment-index l.segments) ≡ map (λ x. x.name) l.segments;
  left : differ_behind l.table (map (λ x. x.name) (drop l.segment-index l.segments)) ≡ differ (map (λ x. x.name) l.segments);
}
