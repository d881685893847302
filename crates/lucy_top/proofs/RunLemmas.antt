-- How a command that fetches an input goes on, and where it ends.
use Rattle.std.proofs.Common.{◌≡◌, ℕ, ◌+◌, ◌<◌, ◌≤◌, List, [], ◌∷◌, ◌++◌, length, take, Option, Some, None, Result, Ok, Err, refl, sym, ap, ◌∙◌, append_assoc, arith, inl, inr, length-take}
use Rattle.std.specs.Prelude.{IfSome, IsSomeAnd}
use Rattle.lucy_io.specs.Inputs.{Entry, entry, Told}
use Rattle.lucy_io.specs.declared.inputs.Ending.TheVariants.{Given, Absent, Failed}
use Rattle.lucy_top.specs.Ends.{Follows, FollowsBy}
use Rattle.lucy_reading.specs.Faults.{too_long}
use Rattle.lucy_reading.specs.Outcomes.{Outcome, Reads}
use Rattle.lucy_reading.specs.declared.refusal.Refusal.{Refusal}
use Rattle.lucy_reading.specs.declared.refusal.Refusal.TheVariants.{Bad, OutOfMemory}
use Rattle.lucy_top.specs.Fetching.{Takes, Loads, OrRefused}
use Rattle.lucy_top.specs.Script.{Script, asks, takes, Gave}
use Rattle.lucy_report.specs.FaultLines.{no_input, read_fault}
use Rattle.lucy_top.specs.declared.said.Said.{Said}
use Rattle.lucy_top.specs.declared.said.Stop.{Stop}
use Rattle.lucy_top.specs.declared.said.Stop.TheVariants as stops
use Rattle.std.proofs.lemmas.List.{take_all, append-nil}
use Rattle.lucy_top.specs.Stops.{StopsWith}

-- what is told of a fetch that gave these bytes
all_there : (most : ℕ) (bytes : List ℕ) (input : Option (List ℕ)) → IsSomeAnd input (λ all. bytes ≡ take (most + 1) all) → length bytes ≤ most → input ≡ Some bytes
all_there most bytes None is le = absurd is
all_there most bytes (Some all) is le =
    let short : length all ≤ most + 1 = omega (arith, ap length is, length-take (most + 1) all) in
    ap (λ (b : List ℕ). Some b) (sym (is ∙ take_all (most + 1) all short))

pub gave : (told : Option Told) (name : List ℕ) (most : ℕ) (bytes : List ℕ) → IfSome told (λ t. IsSomeAnd (t name) (λ all. bytes ≡ take (most + 1) all)) → length bytes ≤ most → Gave told name most bytes
gave None name most bytes is le = record { told_so = tt; within = le }
gave (Some t) name most bytes is le = record { told_so = all_there most bytes (t name) is le; within = le }

more_there : (most : ℕ) (bytes : List ℕ) (input : Option (List ℕ)) → IsSomeAnd input (λ all. bytes ≡ take (most + 1) all) → most < length bytes → IsSomeAnd input (λ all. most < length all)
more_there most bytes None is lt = is
more_there most bytes (Some all) is lt = omega (arith, ap length is, length-take (most + 1) all)

more_told : (told : Option Told) (name : List ℕ) (most : ℕ) (bytes : List ℕ) → IfSome told (λ t. IsSomeAnd (t name) (λ all. bytes ≡ take (most + 1) all)) → most < length bytes → IfSome told (λ t. IsSomeAnd (t name) (λ all. most < length all))
more_told None name most bytes is lt = tt
more_told (Some t) name most bytes is lt = more_there most bytes (t name) is lt

pub too_long_ends : (name : List ℕ) (most : ℕ) (next : List ℕ → Script) (told : Option Told) (old new : List Entry) (bytes : List ℕ) (e : Stop) → new ≡ old ++ entry name Given ∷ []
    → IfSome told (λ t. IsSomeAnd (t name) (λ all. bytes ≡ take (most + 1) all)) → most < length bytes → StopsWith 3 (too_long name most) e → Follows (asks name most next) told old new (Err e)
unfolding entry
too_long_ends name most next told old new bytes stops.OutOfMemory j is lt said = record { added = entry name Given ∷ []; journal = j; answer = (refl, inl refl) }
too_long_ends name most next told old new bytes (stops.Ended s) j is lt said = record { added = entry name Given ∷ []; journal = j; answer = (refl, inr (record { last = refl; told_so = more_told told name most bytes is lt; status_is = said.0; text_is = said.1 })) }

pub absent_ends : (name : List ℕ) (most : ℕ) (next : List ℕ → Script) (told : Option Told) (old new : List Entry) (e : Stop) → new ≡ old ++ entry name Absent ∷ []
    → IfSome told (λ t. t name ≡ None) → StopsWith 4 (no_input name) e → Follows (asks name most next) told old new (Err e)
unfolding entry
absent_ends name most next told old new stops.OutOfMemory j is said = record { added = entry name Absent ∷ []; journal = j; answer = (refl, inl refl) }
absent_ends name most next told old new (stops.Ended s) j is said = record { added = entry name Absent ∷ []; journal = j; answer = (refl, record { last = refl; told_so = is; status_is = said.0; text_is = said.1 }) }

pub failed_ends : (name : List ℕ) (most : ℕ) (next : List ℕ → Script) (told : Option Told) (old new : List Entry) (e : Stop) → new ≡ old ++ entry name Failed ∷ []
    → StopsWith 5 (read_fault name) e → Follows (asks name most next) told old new (Err e)
unfolding entry
failed_ends name most next told old new stops.OutOfMemory j said = record { added = entry name Failed ∷ []; journal = j; answer = (refl, inl refl) }
failed_ends name most next told old new (stops.Ended s) j said = record { added = entry name Failed ∷ []; journal = j; answer = (refl, record { last = refl; status_is = said.0; text_is = said.1 }) }

pub not_begun : (script : Script) (told : Option Told) (old : List Entry) → Follows script told old old (Err stops.OutOfMemory)
not_begun script told old = record { added = []; journal = sym (append-nil old); answer = tt }

goes_on_by : (name : List ℕ) (most : ℕ) (next : List ℕ → Script) (told : Option Told) (bytes : List ℕ) (added : List Entry) (r : Result Said Stop) → Gave told name most bytes → FollowsBy (next bytes) told added r → FollowsBy (asks name most next) told (entry name Given ∷ added) r
unfolding entry
goes_on_by name most next told bytes added (Ok s) g h = (refl, inl (bytes, g, h))
goes_on_by name most next told bytes added (Err (stops.Ended s)) g h = (refl, inl (bytes, g, h))
goes_on_by name most next told bytes added (Err stops.OutOfMemory) g h = (refl, inr (refl, (bytes, g, h)))

-- the input was given, and the rest follows what its bytes say
pub goes_on : (name : List ℕ) (most : ℕ) (next : List ℕ → Script) (told : Option Told) (old mid new : List Entry) (bytes : List ℕ) (r : Result Said Stop) → (mid ≡ old ++ entry name Given ∷ []) × Gave told name most bytes → Follows (next bytes) told mid new r → Follows (asks name most next) told old new r
goes_on name most next told old mid new bytes r first rest = record {
  added = entry name Given ∷ rest.added;
  journal = rest.journal ∙ ap (λ (m : List Entry). m ++ rest.added) first.0 ∙ append_assoc old (entry name Given ∷ []) rest.added;
  answer = goes_on_by name most next told bytes rest.added r first.1 rest.answer;
}

-- a text that was read, or is refused
pub takes_so : {X Y : Type 0} (view : X → Y) (read : Outcome Y) (found : Result X Refusal) (result : Result X Stop)
    → Reads view read found → OrRefused found result → Takes view read result
unfolding takes
takes_so view read (Ok x) result is so = rw (is, so) (λ next told old last r h. h)
takes_so view read (Err (Bad line)) (Ok x) is so = absurd so
takes_so view read (Err (Bad line)) (Err stops.OutOfMemory) is so = λ next told old. not_begun (takes read next) told old
takes_so view read (Err (Bad line)) (Err (stops.Ended s)) is so = rw is (λ next told old. record { added = []; journal = sym (append-nil old); answer = so })
takes_so view read (Err OutOfMemory) result is so = rw so (λ next told old. not_begun (takes read next) told old)

-- an input that was fetched, and then read or refused
pub loads_so : {X Y : Type 0} (view : X → Y) (name : List ℕ) (most : ℕ) (read : List ℕ → Outcome Y) (told : Option Told) (old mid : List Entry) (bytes : List ℕ) (result : Result X Stop)
    → ((next : List ℕ → Script) (last : List Entry) (r : Result Said Stop) → Follows (next bytes) told mid last r → Follows (asks name most next) told old last r)
    → Takes view (read bytes) result → Loads view (λ (next : Y → Script). asks name most (λ text. takes (read text) next)) told old mid result
loads_so view name most read told old mid bytes (Ok x) fetched taken = λ next last r follows. fetched (λ text. takes (read text) next) last r (taken next told mid last r follows)
loads_so view name most read told old mid bytes (Err e) fetched taken = λ next. fetched (λ text. takes (read text) next) mid (Err e) (taken next told mid)
