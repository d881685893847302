use Rattle.std.proofs.Common.{◌≡◌, drop, map}
use Rattle.lucy_normal.specs.Shapes.{shape, named}
use Rattle.lucy_normal.specs.Fronts.{Extends}
use Rattle.lucy_normal.proofs.placing.name_all.Given as goal

abbrev pub invariant-loop-part : goal.invariant-loop-part
invariant-loop-part l = record { so_far : named (map shape l.parts) l.fn.formula ≡ named (map shape (drop l.part-index l.parts)) l.formula; front : Extends l.fn.formula l.formula }
