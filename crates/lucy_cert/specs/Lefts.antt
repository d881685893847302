-- The pieces that are left of a line.
use Rattle.std.specs.Prelude.{ℕ, List, [], if◌then◌else◌}
use Rattle.lucy_cert.specs.declared.cutting.Pieces.{Pieces}
use Rattle.lucy_cert.specs.Cutting.{pieces}

abbrev pub left : Pieces → List (List ℕ)
left p = if p.is_over then [] else pieces p.text.now
