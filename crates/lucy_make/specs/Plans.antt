-- The plan of a seed and a size.
use Rattle.std.specs.Prelude.{ℕ, ◌+◌, ◌-◌, List, []}
use Rattle.rand_pcg.specs.Lcg.{Lcg}
use Rattle.lucy_net.specs.Draws.{generator_of, drawn}
use Rattle.lucy_make.specs.Drawing.{Drawing, many}
use Rattle.lucy_make.specs.PlanTexts.{plan_text}

-- the upper bound of a number: 10 to 99
abbrev pub height : Drawing ℕ
height generator = (10 + (drawn 90 generator).0, (drawn 90 generator).1)

-- by how much a number may be above the next one: 0 to 9
abbrev pub gap : Drawing ℕ
gap generator = drawn 10 generator

-- a height for each number, and then a gap for each but the last
unfoldable pub heights : ℕ → Drawing (List ℕ)
heights size generator = many height size [] generator

unfoldable pub gaps : ℕ → Drawing (List ℕ)
gaps size generator = many gap (size - 1) [] generator

-- the text, once the heights are drawn
unfoldable pub plan_after : ℕ → List ℕ × Lcg → List ℕ
plan_after size drawn_heights = plan_text drawn_heights.0 (gaps size drawn_heights.1).0

-- the text of the plan
unfoldable pub made_plan : ℕ → ℕ → List ℕ
made_plan seed size = plan_after size (heights size (generator_of seed))
