use Rattle.std.proofs.Common.{◌≡◌, drop, map}
use Rattle.lucy_normal.specs.Shapes.{shape, all_placed, below}
use Rattle.lucy_normal.specs.Fronts.{Extends}
use Rattle.lucy_normal.proofs.placing.+placing.Given as goal

abbrev pub invariant-place_all-loop-part : goal.invariant-place_all-loop-part
invariant-place_all-loop-part l =
    record {
      so_far : all_placed (map shape l.fn.parts) l.fn.under l.fn.formula ≡ all_placed (map shape (drop l.part-index l.parts)) l.under l.formula;
      front : Extends l.fn.formula l.formula;
    }

abbrev pub invariant-place_named-loop-part : goal.invariant-place_named-loop-part
invariant-place_named-loop-part l =
    record {
      so_far : below (map shape l.fn.parts) l.fn.first l.fn.formula ≡ below (map shape (drop l.part-index l.parts)) l.name l.formula;
      front : Extends l.fn.formula l.formula;
    }
