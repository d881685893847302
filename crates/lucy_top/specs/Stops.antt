-- The end of a command, unless memory ran out.
use Rattle.std.specs.Prelude.{◌≡◌, ℕ, List}
use Rattle.lucy_top.specs.declared.said.Stop.{Stop}
use Rattle.lucy_top.specs.declared.said.Stop.TheVariants as stops

abbrev pub StopsWith : ℕ → List ℕ → Stop → Type 0
StopsWith status text (stops.Ended s) = (s.status ≡ status) × (s.text.items ≡ text)
StopsWith status text stops.OutOfMemory = Unit {0}
