-- Lists that begin with others.
use Rattle.std.proofs.Common.{◌≡◌, List, [], ◌++◌, sym, ap, ◌∙◌, append_assoc}
use Rattle.std.specs.Prelude.{IfOk, OnErr, Result, Ok, Err}
use Rattle.std.specs.declared.alloc.AllocError.{AllocError}
use Rattle.std.proofs.lemmas.List.{append-nil}
use Rattle.lucy_normal.specs.Fronts.{Begins}

pub begins_then : {X : Type 0} (xs ys zs : List X) → Begins xs ys → Begins ys zs → Begins xs zs
begins_then xs ys zs a b = record { rest = a.rest ++ b.rest; is = b.is ∙ ap (λ l. l ++ b.rest) a.is ∙ append_assoc xs a.rest b.rest }

-- after an addition that leaves the list as it was where memory is wanted
pub begins_after : {X : Type 0} (xs ys more : List X) (result : Result (Unit {0}) AllocError) → IfOk result (λ _. ys ≡ xs ++ more) → OnErr result (ys ≡ xs) → Begins xs ys
begins_after xs ys more (Ok u) h k = record { rest = more; is = h }
begins_after xs ys more (Err e) h k = record { rest = []; is = k ∙ sym (append-nil xs) }
