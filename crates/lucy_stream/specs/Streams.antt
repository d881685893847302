-- What a stream was fed.
use Rattle.std.specs.Prelude.{◌≡◌, ℕ, List, Some, None}
use Rattle.lucy_plan.specs.declared.parts.PlanParts.{PlanParts}
use Rattle.lucy_cert.specs.Feeding as feeding
use Rattle.lucy_stream.specs.declared.stream.Stream.{Stream}
use Rattle.lucy_stream.specs.Hearings.{begun, heard}

-- a stream for this plan was fed this text, in whichever pieces, and memory has not run out
unfoldable pub IsFed : PlanParts → List ℕ → Stream → Type 0
IsFed plan text stream = stream.reader ≡ Some (feeding.phase_after heard (feeding.begun (begun plan)) text)

-- memory has run out
unfoldable pub HasFailed : Stream → Type 0
HasFailed stream = stream.reader ≡ None
