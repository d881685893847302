-- What becomes of a packet on its way.
use Rattle.std.specs.Prelude.{ℕ, ◌+◌, nat_lt, if◌then◌else◌}
use Rattle.rand_pcg.specs.Lcg.{Lcg}
use Rattle.lucy_net.specs.Draws.{drawn}
use Rattle.lucy_net.specs.declared.fates.Fate.{Fate}
use Rattle.lucy_net.specs.declared.fates.Fate.TheVariants.{Lost, PostedTwice, PostedOnce}
use Rattle.lucy_net.specs.declared.fates.Weather.{Weather}

-- what a number says that was drawn
abbrev pub fate_of : Weather → ℕ → Fate
fate_of weather number =
    if nat_lt number weather.lose then Lost
    else if nat_lt number (weather.lose + weather.twice) then PostedTwice
    else PostedOnce

-- what becomes of the next packet, and the generator after it
abbrev pub fate_drawn : Weather → Lcg → Fate × Lcg
fate_drawn weather generator =
    (fate_of weather (drawn weather.of generator).0, (drawn weather.of generator).1)
