-- What is drawn from a generator.
use Rattle.std.specs.Prelude.{ℕ, zero, suc, List, [], ◌∷◌, ◌++◌}
use Rattle.rand_pcg.specs.Lcg.{Lcg}

-- what the next draws of a generator make, and the generator behind them
abbrev pub Drawing : Type 0 → Type 0
Drawing A = Lcg → A × Lcg

-- so many of them, one after another, behind those that were made before
abbrev pub many : {A : Type 0} → Drawing A → ℕ → List A → Drawing (List A)
many draw zero made generator = (made, generator)
many draw (suc n) made generator = many draw n (made ++ (draw generator).0 ∷ []) (draw generator).1
