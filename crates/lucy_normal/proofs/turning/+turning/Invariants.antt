use Rattle.std.proofs.Common.{◌≡◌, ◌++◌, drop, map, true}
use Rattle.std.specs.List.{list_all}
use Rattle.lucy_model.specs.Conditions.{is_condition}
use Rattle.lucy_normal.specs.Fronts.{Begins}
use Rattle.lucy_normal.specs.Normals.{normal_of, side}
use Rattle.lucy_normal.specs.Gathering.{GathersStill}
use Rattle.lucy_normal.specs.Joints.{flat, other}
use Rattle.lucy_normal.proofs.turning.+turning.Given as goal

abbrev pub invariant-add_sides-loop-part : goal.invariant-add_sides-loop-part
invariant-add_sides-loop-part l =
    record {
      so_far : l.fn.flat ++ flat l.joint (side l.positive (map (normal_of l.at.first) l.parts)) ≡ l.flat ++ flat l.joint (side l.positive (map (normal_of l.at.first) (drop l.part-index l.parts)));
      conditions : list_all (λ b. b) (map (is_condition l.at.leaves 0) (drop l.part-index l.parts)) ≡ true;
      front : Begins l.fn.flat l.flat;
    }

abbrev pub invariant-gather_sides-loop-part : goal.invariant-gather_sides-loop-part
invariant-gather_sides-loop-part l =
    record {
      sides : GathersStill l.joint l.fn.flat l.flat l.sides (flat (other l.joint) (side l.positive (map (normal_of l.at.first) l.parts))) (flat (other l.joint) (side l.positive (map (normal_of l.at.first) (drop l.part-index l.parts))));
      conditions : list_all (λ b. b) (map (is_condition l.at.leaves 0) (drop l.part-index l.parts)) ≡ true;
    }
