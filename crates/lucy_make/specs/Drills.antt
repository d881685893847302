-- The summary of a drill.
use Rattle.std.specs.Prelude.{ℕ, List, ◌++◌, codes, decimal}
use Rattle.lucy_make.specs.declared.drills.Drill.{Drill}
use Rattle.lucy_make.specs.PlanTexts.{line}

abbrev pub asked_line : Drill → List ℕ
asked_line drill = line (codes "drill " ++ decimal drill.seed ++ codes " " ++ decimal drill.size)

abbrev pub made_line : Drill → List ℕ
made_line drill = line (codes "leaves " ++ decimal drill.leaves ++ codes " calls 200 steps " ++ decimal drill.steps)

-- a word and a count, each with a space behind it
abbrev pub counted : List ℕ → ℕ → List ℕ
counted word count = word ++ codes " " ++ decimal count ++ codes " "

abbrev pub ended_line : Drill → List ℕ
ended_line drill =
    counted (codes "done") drill.done
    ++ counted (codes "broken") drill.broken
    ++ counted (codes "moved") drill.moved
    ++ counted (codes "refused") drill.refused
    ++ line (codes "epochs " ++ decimal drill.epochs)

-- the text of the summary
unfoldable pub drill_text : Drill → List ℕ
drill_text drill = asked_line drill ++ made_line drill ++ ended_line drill ++ line (codes "end")
