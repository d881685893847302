-- The words of a made plan, and their layout.
use Rattle.std.specs.Prelude.{◌≡◌, ℕ, ◌+◌, Bool, false, ◌||◌, if◌then◌else◌, List, [], ◌∷◌, ◌++◌, codes, decimal, bytes_eq}
use Rattle.lucy_make.specs.PlanTexts.{line, plan_text}

-- a word: a text, or a text with a number behind it, as a number and a numbered name are
pub data Word : Type 0 where
  said : (text : List ℕ) → Word
  counted : (text : List ℕ) (number : ℕ) → Word

abbrev pub spelled : Word → List ℕ
spelled (said text) = text
spelled (counted text number) = text ++ decimal number

-- a line ends behind `;`, `{` and `}`
abbrev pub ends_line : Word → Bool
ends_line (said text) = bytes_eq text (codes ";") || bytes_eq text (codes "{") || bytes_eq text (codes "}")
ends_line (counted text number) = false

-- words with a space behind each, or a line's end
abbrev pub laid : List Word → List ℕ
laid [] = []
laid (word ∷ words) = spelled word ++ (if ends_line word then 10 else 32) ∷ laid words

abbrev pub number_words : ℕ → ℕ → List Word
number_words i height = said (codes "max") ∷ counted (codes "x") i ∷ said (codes "in") ∷ said (codes "0") ∷ said (codes "..") ∷ counted [] height ∷ said (codes ";") ∷ []

abbrev pub all_numbers : ℕ → List ℕ → List Word
all_numbers i [] = []
all_numbers i (height ∷ heights) = number_words i height ++ all_numbers (i + 1) heights

abbrev pub object_words : List ℕ → List Word
object_words heights =
    said (codes "object") ∷ said (codes "{") ∷ (all_numbers 0 heights ++ said (codes "orflag") ∷ said (codes "f") ∷ said (codes ";") ∷ said (codes "}") ∷ [])

abbrev pub below_words : ℕ → ℕ → List Word
below_words i gap = counted (codes "x") i ∷ said (codes "<=") ∷ counted (codes "x") (i + 1) ∷ said (codes "+") ∷ counted [] gap ∷ []

abbrev pub more_words : ℕ → List ℕ → List Word
more_words i [] = []
more_words i (gap ∷ gaps) = said (codes "and") ∷ (below_words i gap ++ more_words (i + 1) gaps)

abbrev pub all_below_words : List ℕ → List Word
all_below_words [] = said (codes "true") ∷ []
all_below_words (gap ∷ gaps) = below_words 0 gap ++ more_words 1 gaps

abbrev pub invariant_words : List ℕ → List Word
invariant_words gaps = said (codes "invariant") ∷ (all_below_words gaps ++ said (codes ";") ∷ [])

-- the head of a transaction, its branch and its end
abbrev pub add_words : ℕ → List Word
add_words i =
    said (codes "txn") ∷ counted (codes "add") i ∷ said (codes "(") ∷ said (codes "n") ∷ said (codes "in") ∷ said (codes "0") ∷ said (codes "..") ∷ said (codes "9") ∷ said (codes ")") ∷ said (codes "{")
    ∷ said (codes "when") ∷ said (codes "true") ∷ said (codes "{")
    ∷ counted (codes "x") i ∷ said (codes ":=") ∷ counted (codes "x") i ∷ said (codes "+") ∷ said (codes "n") ∷ said (codes ";")
    ∷ said (codes "}") ∷ said (codes "}") ∷ []

-- words for each number from place i on
abbrev pub each_words : (ℕ → List Word) → ℕ → List ℕ → List Word
each_words words i [] = []
each_words words i (height ∷ heights) = words i ++ each_words words (i + 1) heights

abbrev pub flip_words : List Word
flip_words =
    said (codes "txn") ∷ said (codes "flip") ∷ said (codes "(") ∷ said (codes ")") ∷ said (codes "{") ∷ said (codes "when") ∷ said (codes "true") ∷ said (codes "{")
    ∷ said (codes "f") ∷ said (codes ":=") ∷ said (codes "on") ∷ said (codes ";") ∷ said (codes "}") ∷ said (codes "}") ∷ []

abbrev pub name_words : ℕ → List Word
name_words i = counted (codes "add") i ∷ []

abbrev pub segment_words : List Word → List ℕ → List Word
segment_words head heights = head ++ (each_words name_words 0 heights ++ said (codes ";") ∷ [])

abbrev pub low_head : List Word
low_head = said (codes "segment") ∷ said (codes "low") ∷ said (codes "when") ∷ said (codes "not") ∷ said (codes "f") ∷ said (codes "do") ∷ []

abbrev pub high_head : List Word
high_head = said (codes "segment") ∷ said (codes "high") ∷ said (codes "when") ∷ said (codes "f") ∷ said (codes "do") ∷ []

-- the words of a plan between its version and its last word
abbrev pub plan_words : List ℕ → List ℕ → List Word
plan_words heights gaps =
    object_words heights ++ (said (codes "start") ∷ said (codes "{") ∷ said (codes "}") ∷ (invariant_words gaps ++ (each_words add_words 0 heights ++ (flip_words ++ (segment_words low_head heights ++ segment_words high_head heights)))))

-- The text of a plan is in the layout of printed plans: one space between two words, and a line's end behind `;`, `{`, `}`, the
-- version and the last word.
abbrev pub PlanIsLaid : Type 0
PlanIsLaid = (heights gaps : List ℕ) → plan_text heights gaps ≡ line (codes "lucy 1") ++ laid (plan_words heights gaps) ++ line (codes "end")
