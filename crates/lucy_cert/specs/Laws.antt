-- Laws of refutations.
use Rattle.std.specs.Prelude.{◌≡◌, ℕ, ◌≤◌, ◌^◌, length, true, Ok, ◌↔◌, Option, None, Some, List, [], ◌∷◌, ◌++◌, ℤ}
use Rattle.lucy_clauses.specs.declared.formulas.Formula.{Formula}
use Rattle.lucy_clauses.specs.Formulas.{Models}
use Rattle.lucy_cert.specs.declared.steps.Proof.{Proof}
use Rattle.lucy_cert.specs.declared.steps.ProofStep.{ProofStep}
use Rattle.lucy_cert.specs.Certificates.{Contents}
use Rattle.lucy_cert.specs.Certifying.{certificate_of}
use Rattle.lucy_cert.specs.declared.entries.Entry.{Entry}
use Rattle.lucy_cert.specs.Entries.{entry_of}
use Rattle.lucy_cert.specs.Texts.{entry_text, certificate_text}
use Rattle.lucy_cert.specs.Writable.{entry_fits, is_writable}
use Rattle.lucy_cert.specs.Justified.{nothing, step_fault}
use Rattle.lucy_cert.specs.Refuting.{IsJustified, known_after, Refutes, fault_of}

-- a proof refutes a formula exactly where it has no fault
abbrev pub RefutesExactly : Type 0
RefutesExactly = (f : Formula) (proof : Proof) (live : Option ℕ) → Refutes f proof live ↔ (fault_of f proof live ≡ None)

-- a justified step behind justified steps
abbrev pub StepsGoOn : Type 0
StepsGoOn = (f : Formula) (live : Option ℕ) (steps : List ProofStep) (s : ProofStep)
    → IsJustified f steps live → step_fault f live (known_after nothing steps) s ≡ None → IsJustified f (steps ++ s ∷ []) live

-- a refuted formula has no model
abbrev pub RefutedHasNoModel : Type 0
RefutedHasNoModel = (f : Formula) (proof : Proof) (live : Option ℕ) → Refutes f proof live → (a : List ℤ) → ¬ (Models f a)

-- A certificate that is written is read back, where its numbers are those that a text may have and the text is within its limit.
abbrev pub WrittenIsReadBack : Type 0
WrittenIsReadBack = (c : Contents) → is_writable c ≡ true → length (certificate_text c) ≤ 2 ^ 26 → certificate_of (certificate_text c) ≡ Ok c

-- A line that is read is the one that is written of what it says.
abbrev pub LinesAreWritten : Type 0
LinesAreWritten = (line : List ℕ) (e : Entry) → entry_of line ≡ Some e → (line ≡ entry_text e) × (entry_fits e ≡ true)

-- A text that is read is the text of the certificate that was read, and the numbers of that are those that a text may have.
abbrev pub ReadIsWrittenBack : Type 0
ReadIsWrittenBack = (text : List ℕ) (c : Contents) → certificate_of text ≡ Ok c → (text ≡ certificate_text c) × (is_writable c ≡ true)
