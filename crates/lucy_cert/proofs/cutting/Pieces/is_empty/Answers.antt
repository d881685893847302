use Rattle.std.proofs.Common.{◌≡◌, Bool, true, false, cond, List, ℕ, [], IsTrue, ◌↔◌, refl}
use Rattle.lucy_cert.specs.Cutting.{pieces}
use Rattle.lucy_cert.proofs.CutLemmas.{some_piece}
use Rattle.lucy_cert.proofs.cutting.Pieces.is_empty.Goals as goal

over : (b : Bool) (text : List ℕ) → IsTrue b ↔ (cond b [] (pieces text) ≡ [])
over true text = ((λ h. refl), (λ e. refl))
over false text = ((λ h. absurd (cc)), (λ e. absurd (some_piece text e)))

pub returns : goal.returns
returns c = over c.args.self.is_over c.args.self.text.now
