-- Tests that are false, of values that differ.
use Rattle.std.proofs.Common.{◌≡◌, IsTrue, true, false}

pub differ : {X : Type 0} (x y : X) → (x ≡ y → ⊥) → (IsTrue false → x ≡ y) × (x ≡ y → IsTrue false)
differ x y apart = (λ h. let wrong : false ≡ true = h in absurd (cc), λ e. absurd (apart e))
