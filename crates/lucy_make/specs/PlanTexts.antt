-- The text of a made plan.
use Rattle.std.specs.Prelude.{ℕ, ◌+◌, List, [], ◌∷◌, ◌++◌, codes, decimal}

abbrev pub line : List ℕ → List ℕ
line text = text ++ 10 ∷ []

-- a name or a number, with a space behind it
abbrev pub named : List ℕ → ℕ → List ℕ
named text number = text ++ decimal number ++ codes " "

-- the number at a place, and its upper bound
abbrev pub number_line : ℕ → ℕ → List ℕ
number_line i height = codes "max " ++ named (codes "x") i ++ codes "in 0 .. " ++ named [] height ++ line (codes ";")

-- the numbers from place i on
abbrev pub number_lines : ℕ → List ℕ → List ℕ
number_lines i [] = []
number_lines i (height ∷ heights) = number_line i height ++ number_lines (i + 1) heights

abbrev pub object_text : List ℕ → List ℕ
object_text heights = line (codes "object {") ++ number_lines 0 heights ++ (line (codes "orflag f ;") ++ line (codes "}"))

-- a number is at most the next one and a gap
abbrev pub below_next : ℕ → ℕ → List ℕ
below_next i gap = named (codes "x") i ++ codes "<= " ++ named (codes "x") (i + 1) ++ codes "+ " ++ named [] gap

-- the numbers from place i on
abbrev pub more_below : ℕ → List ℕ → List ℕ
more_below i [] = []
more_below i (gap ∷ gaps) = (codes "and " ++ below_next i gap) ++ more_below (i + 1) gaps

-- each number is at most the next one and the gap between them
abbrev pub all_below : List ℕ → List ℕ
all_below [] = codes "true "
all_below (gap ∷ gaps) = below_next 0 gap ++ more_below 1 gaps

abbrev pub invariant_text : List ℕ → List ℕ
invariant_text gaps = codes "invariant " ++ all_below gaps ++ line (codes ";")

-- up to the transactions
abbrev pub front_text : List ℕ → List ℕ → List ℕ
front_text heights gaps = line (codes "lucy 1") ++ object_text heights ++ (line (codes "start {") ++ line (codes "}")) ++ invariant_text gaps

-- a transaction adds its argument to the number at place i
abbrev pub add_head : ℕ → List ℕ
add_head i = codes "txn " ++ named (codes "add") i ++ line (codes "( n in 0 .. 9 ) {")

abbrev pub add_change : ℕ → List ℕ
add_change i = named (codes "x") i ++ codes ":= " ++ named (codes "x") i ++ line (codes "+ n ;")

abbrev pub add_text : ℕ → List ℕ
add_text i = add_head i ++ line (codes "when true {") ++ add_change i ++ (line (codes "}") ++ line (codes "}"))

-- a text for each number from place i on
abbrev pub each_place : (ℕ → List ℕ) → ℕ → List ℕ → List ℕ
each_place text i [] = []
each_place text i (height ∷ heights) = text i ++ each_place text (i + 1) heights

-- the transaction that sets the flag
abbrev pub flip_text : List ℕ
flip_text = line (codes "txn flip ( ) {") ++ line (codes "when true {") ++ line (codes "f := on ;") ++ line (codes "}") ++ line (codes "}")

-- the name of the transaction that adds to the number at place i
abbrev pub add_name : ℕ → List ℕ
add_name i = named (codes "add") i

-- a segment with all transactions that add
abbrev pub segment_text : List ℕ → List ℕ → List ℕ
segment_text head heights = head ++ each_place add_name 0 heights ++ line (codes ";")

-- from the transactions on
abbrev pub back_text : List ℕ → List ℕ
back_text heights =
    each_place add_text 0 heights ++ flip_text ++ segment_text (codes "segment low when not f do ") heights ++ segment_text (codes "segment high when f do ") heights ++ line (codes "end")

-- a plan of a flag and a number for each height
unfoldable pub plan_text : List ℕ → List ℕ → List ℕ
plan_text heights gaps = front_text heights gaps ++ back_text heights
