-- What a certificate is found to be.
use Rattle.std.specs.Prelude.{ℕ, ℤ, List, [], ◌++◌, codes, decimal}
use Rattle.lucy_cert.specs.declared.names.PartName.{PartName}
use Rattle.lucy_cert.specs.declared.names.PartName.TheVariants.{Closure, Cover}
use Rattle.lucy_cert.specs.declared.steps.Why.{Why}
use Rattle.lucy_cert.specs.declared.steps.Why.TheVariants.{Unknown, TooWide, NoConflict, NoEmpty, TooMany}
use Rattle.lucy_judge.specs.declared.refusal.Refusal.{Refusal}
use Rattle.lucy_judge.specs.declared.refusal.Refusal.TheVariants as refusal
use Rattle.lucy_plan.specs.declared.parts.PlanParts.{PlanParts}
use Rattle.lucy_report.specs.StepTexts.{state_text}

-- the name of a part
unfoldable pub part_text : PartName → List ℕ
part_text (Closure segment) = codes "closure " ++ decimal segment
part_text Cover = codes "cover"

-- why a step is not justified
abbrev pub why_text : Why → List ℕ
why_text Unknown = codes "unknown"
why_text TooWide = codes "too wide"
why_text NoConflict = codes "no conflict"
why_text NoEmpty = codes "no empty clause"
why_text TooMany = codes "too many"

-- the certificate is accepted
unfoldable pub accepted : List ℕ
accepted = codes "accepted\n"

-- the start breaks the invariant
unfoldable pub start_breaks : List ℤ → List ℕ
start_breaks start = codes "start breaks " ++ state_text start ++ codes "\n"

-- a part that is needed is missing
unfoldable pub missing : PartName → List ℕ
missing part = codes "missing " ++ part_text part ++ codes "\n"

-- a part is rejected: its first step that is not justified, and why
unfoldable pub rejected : PartName → ℕ → Why → List ℕ
rejected part step why = codes "rejected " ++ part_text part ++ codes " step " ++ decimal step ++ codes " " ++ why_text why ++ codes "\n"

-- why a certificate is refused for a plan; want of memory is no refusal
abbrev pub refusal_text : PlanParts → Refusal → List ℕ
refusal_text plan refusal.StartBreaks = start_breaks plan.start
refusal_text plan (refusal.Missing part) = missing part
refusal_text plan (refusal.Rejected part step why) = rejected part step why
refusal_text plan refusal.OutOfMemory = []
