-- Numbers that are drawn from a seed.
use Rattle.std.specs.Prelude.{ℕ, ◌%◌}
use Rattle.rand_pcg.specs.Lcg.{Lcg, started, increment_of}
use Rattle.rand_pcg.specs.Pcg.{multiplier_64, pcg32}

-- the generator of a seed: 64 bits of state, on stream 54
abbrev pub generator_of : ℕ → Lcg
generator_of seed = started 64 multiplier_64 seed (increment_of 64 54)

-- the next word modulo a number, and the generator after it
abbrev pub drawn : ℕ → Lcg → ℕ × Lcg
drawn below generator = ((pcg32 generator).0 % below, (pcg32 generator).1)
