-- The texts of work and of steps.
use Rattle.std.specs.Prelude.{ℕ, ◌+◌, nat_lt, Bool, IsTrue, List, [], ◌∷◌, ◌++◌, length, map, codes, decimal}
use Rattle.std.specs.Fmt.{signed_decimal}
use Rattle.std.specs.List.{list_all}
use Rattle.lucy_names.specs.Tables.{name_at}
use Rattle.lucy_plan.specs.declared.parts.Call.{Call}
use Rattle.lucy_calls.specs.declared.steps.Step.{Step}
use Rattle.lucy_calls.specs.declared.steps.Step.TheVariants.{Submit, Send, Deliver, Begin, Freeze, OpenEpoch, Thaw}

-- each field behind a space
abbrev pub behind_spaces : List (List ℕ) → List ℕ
behind_spaces [] = []
behind_spaces (f ∷ fs) = (32 ∷ f) ++ behind_spaces fs

-- fields with a space between them
abbrev pub spaced : List (List ℕ) → List ℕ
spaced [] = []
spaced (f ∷ fs) = f ++ behind_spaces fs

-- lines, each ended by an LF
abbrev pub lines_text : List (List ℕ) → List ℕ
lines_text [] = []
lines_text (l ∷ ls) = l ++ 10 ∷ lines_text ls

-- the fields of a step's line
abbrev pub step_fields : Step → List (List ℕ)
step_fields (Submit replica) = codes "submit" ∷ decimal replica ∷ []
step_fields (Send replica) = codes "send" ∷ decimal replica ∷ []
step_fields (Deliver to packet) = codes "deliver" ∷ decimal to ∷ decimal packet ∷ []
step_fields (Begin replica) = codes "begin" ∷ decimal replica ∷ []
step_fields (Freeze replica) = codes "freeze" ∷ decimal replica ∷ []
step_fields OpenEpoch = codes "open" ∷ []
step_fields (Thaw replica) = codes "thaw" ∷ decimal replica ∷ []

abbrev pub step_line : Step → List ℕ
step_line step = spaced (step_fields step)

abbrev pub step_lines : List Step → List ℕ
step_lines steps = lines_text (map step_line steps)

-- the line `steps 1`, a line for each step, the line `end`
unfoldable pub steps_text : List Step → List ℕ
steps_text steps = (codes "steps 1" ++ 10 ∷ []) ++ step_lines steps ++ (codes "end" ++ 10 ∷ [])

-- the fields of a call's line
abbrev pub call_fields : List (List ℕ) → ℕ → Call → List (List ℕ)
call_fields names replica call = decimal replica ∷ name_at names call.txn ∷ map signed_decimal call.arguments

abbrev pub call_line : List (List ℕ) → ℕ → Call → List ℕ
call_line names replica call = spaced (call_fields names replica call)

abbrev pub call_lines : List (List ℕ) → ℕ → List Call → List ℕ
call_lines names replica calls = lines_text (map (call_line names replica) calls)

-- the calls of replica `from`, then those of the next one, and so on
abbrev pub lists_lines : List (List ℕ) → ℕ → List (List Call) → List ℕ
lists_lines names from [] = []
lists_lines names from (calls ∷ lists) = call_lines names from calls ++ lists_lines names (from + 1) lists

-- the lines `work 1` and `replicas N`, a line for each call, the line `end`
unfoldable pub work_text : List (List ℕ) → List (List Call) → List ℕ
work_text names lists =
    (codes "work 1" ++ 10 ∷ []) ++ (codes "replicas " ++ decimal (length lists) ++ 10 ∷ []) ++ lists_lines names 0 lists ++ (codes "end" ++ 10 ∷ [])

-- each call's transaction has a name
abbrev pub are_named : List (List ℕ) → List Call → Bool
are_named names calls = list_all (λ call. nat_lt call.txn (length names)) calls

abbrev pub AreNamed : List (List ℕ) → List (List Call) → Type 0
AreNamed names lists = IsTrue (list_all (are_named names) lists)
