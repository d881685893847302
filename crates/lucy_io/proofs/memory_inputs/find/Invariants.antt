use Rattle.std.proofs.Common.{◌≡◌, drop, map}
use Rattle.lucy_io.specs.InputsInMemory.{input_of, pair_of}
use Rattle.lucy_io.proofs.memory_inputs.find.Given as goal

abbrev pub invariant-loop-pair : goal.invariant-loop-pair
invariant-loop-pair l = input_of (map pair_of (drop l.pair-index l.pairs)) l.name ≡ input_of (map pair_of l.pairs) l.name
