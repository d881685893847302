-- Journals and the faults that they count.
use Rattle.std.proofs.Common.{◌≡◌, ℕ, ◌+◌, List, [], ◌∷◌, ◌++◌, ap, ◌∙◌, sym, add_assoc, zero-add, Result, Ok, Err, Option, Some, None, refl}
use Rattle.std.specs.Global.{Vec}
use Rattle.lucy_io.specs.Inputs.{Entry, entry, entries_of, failures_of, faults_in, failures, CountsFailures}
use Rattle.lucy_io.specs.declared.inputs.FetchError.{FetchError}
use Rattle.lucy_io.specs.declared.inputs.FetchError.TheVariants as errors

faults_in-append : (xs ys : List Entry) → faults_in (xs ++ ys) ≡ faults_in xs + faults_in ys
faults_in-append [] ys = sym (zero-add (faults_in ys))
faults_in-append (x ∷ xs) ys = ap (λ n. failures_of x.ending + n) (faults_in-append xs ys) ∙ sym (add_assoc (failures_of x.ending) (faults_in xs) (faults_in ys))

added : (name : List ℕ) (result : Result (Option (Vec ℕ)) FetchError) → faults_in (entries_of name result) ≡ failures result
unfolding entry
added name (Ok (Some bytes)) = refl
added name (Ok None) = refl
added name (Err errors.Failed) = refl
added name (Err errors.OutOfMemory) = refl

pub counts : CountsFailures
counts journal name result = faults_in-append journal (entries_of name result) ∙ ap (λ n. faults_in journal + n) (added name result)
