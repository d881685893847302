-- Calls that were accepted, in replies with one more at their end.
use Rattle.std.proofs.Common.{◌≡◌, ◌+◌, ◌++◌, ◌==◌, ℕ, suc, List, [], ◌∷◌, if◌then◌else◌, Bool, true, false, length, refl, ap, ◌∙◌, subst, arith}
use Rattle.std.specs.Prelude.{Some, slice_get}
use Rattle.std.proofs.lemmas.Option.{none-some, same_Some}
use Rattle.lucy_plan.specs.declared.parts.Call.{Call}
use Rattle.lucy_expr.specs.declared.ids.Id.{Id}
use Rattle.lucy_epochs.specs.Records.{Record}
use Rattle.lucy_replica.specs.Replicas.{Answer, Done, Broken, Moved, Refused}
use Rattle.lucy_replica.specs.Submitting.{accepted_ids}
use Rattle.lucy_replica.specs.Facts.{AreCounted, done_in}

pub accepted_ids-append : (xs ys : List Answer) → accepted_ids (xs ++ ys) ≡ accepted_ids xs ++ accepted_ids ys
accepted_ids-append [] ys = refl
accepted_ids-append (Done epoch id ∷ xs) ys = ap (λ (ids : List Id). id ∷ ids) (accepted_ids-append xs ys)
accepted_ids-append (Broken epoch point ∷ xs) ys = accepted_ids-append xs ys
accepted_ids-append (Moved epoch point id ∷ xs) ys = ap (λ (ids : List Id). id ∷ ids) (accepted_ids-append xs ys)
accepted_ids-append (Refused point parts ∷ xs) ys = accepted_ids-append xs ys

-- one more id, with the next count
pub counted_more : (number : ℕ) (ids : List Id) (count : ℕ) → AreCounted number count ids
    → AreCounted number count (ids ++ record { replica = number; count = count + length ids } ∷ [])
counted_more number [] count h = (ap (λ (n : ℕ). let id : Id = record { replica = number; count = n } in id) (omega arith), tt)
counted_more number (id ∷ ids) count h =
    let e : (count + 1) + length ids ≡ count + length (id ∷ ids) = omega arith in
    (h.0, subst (λ (n : ℕ). AreCounted number (count + 1) (ids ++ record { replica = number; count = n } ∷ [])) e (counted_more number ids (count + 1) h.1))

pub none_done : (number : ℕ) (calls : List Call) → done_in number calls [] ≡ []
none_done number [] = refl
none_done number (call ∷ calls) = refl

-- a reply that is not `Done` adds nothing
abbrev pub IsOther : Answer → Type 0
IsOther answer = (epoch : Record) (id : Id) → answer ≡ Done epoch id → ⊥

alone_other : (number : ℕ) (call : Call) (calls : List Call) (last : Answer) → IsOther last → done_in number (call ∷ calls) (last ∷ []) ≡ []
alone_other number call calls (Done epoch id) other = absurd (other epoch id refl)
alone_other number call calls (Broken epoch point) other = none_done number calls
alone_other number call calls (Moved epoch point id) other = none_done number calls
alone_other number call calls (Refused point parts) other = none_done number calls

pub done_in-other : (number : ℕ) (calls : List Call) (replies : List Answer) (last : Answer) → IsOther last
    → done_in number calls (replies ++ last ∷ []) ≡ done_in number calls replies
done_in-other number [] [] last other = refl
done_in-other number [] (reply ∷ replies) last other = refl
done_in-other number (call ∷ calls) [] last other = alone_other number call calls last other
done_in-other number (call ∷ calls) (Done at id ∷ replies) last other =
    ap (λ (done : List (Id × Call)). if at.number == number then (id, call) ∷ done else done) (done_in-other number calls replies last other)
done_in-other number (call ∷ calls) (Broken at spot ∷ replies) last other = done_in-other number calls replies last other
done_in-other number (call ∷ calls) (Moved at spot id ∷ replies) last other = done_in-other number calls replies last other
done_in-other number (call ∷ calls) (Refused spot parts ∷ replies) last other = done_in-other number calls replies last other

-- nothing is done in a record of which no reply is
pub nothing_done : (number : ℕ) (calls : List Call) (replies : List Answer)
    → ((place : ℕ) (epoch : Record) (id : Id) → slice_get replies place ≡ Some (Done epoch id) → (epoch.number == number) ≡ false) → done_in number calls replies ≡ []
nothing_done number [] replies none = refl
nothing_done number (call ∷ calls) [] none = refl
nothing_done number (call ∷ calls) (Done at id ∷ replies) none =
    ap (λ (b : Bool). if b then (id, call) ∷ done_in number calls replies else done_in number calls replies) (none 0 at id refl)
    ∙ nothing_done number calls replies (λ place epoch made h. none (suc place) epoch made h)
nothing_done number (call ∷ calls) (Broken at spot ∷ replies) none = nothing_done number calls replies (λ place epoch made h. none (suc place) epoch made h)
nothing_done number (call ∷ calls) (Moved at spot id ∷ replies) none = nothing_done number calls replies (λ place epoch made h. none (suc place) epoch made h)
nothing_done number (call ∷ calls) (Refused spot parts ∷ replies) none = nothing_done number calls replies (λ place epoch made h. none (suc place) epoch made h)

-- a reply `Done` adds its call, where it is of this record
abbrev pub one_more : Bool → Id → Call → List (Id × Call)
one_more yes_it_is id call = if yes_it_is then (id, call) ∷ [] else []

if_append : (b : Bool) (p : Id × Call) (xs ys : List (Id × Call)) → (if b then p ∷ (xs ++ ys) else xs ++ ys) ≡ (if b then p ∷ xs else xs) ++ ys
if_append true p xs ys = refl
if_append false p xs ys = refl

pub done_in-done : (number : ℕ) (calls : List Call) (replies : List Answer) (call : Call) (epoch : Record) (id : Id) → slice_get calls (length replies) ≡ Some call
    → done_in number calls (replies ++ Done epoch id ∷ []) ≡ done_in number calls replies ++ one_more (epoch.number == number) id call
done_in-done number [] [] call epoch id next = absurd (none-some call next)
done_in-done number [] (reply ∷ replies) call epoch id next = absurd (none-some call next)
done_in-done number (first ∷ calls) [] call epoch id next =
    none_then (epoch.number == number) first (same_Some first call next)
  where
    none_left : (calls : List Call) → done_in number calls [] ≡ []
    none_left [] = refl
    none_left (call ∷ calls) = refl

    none_then : (b : Bool) (first : Call) → first ≡ call → (if b then (id, first) ∷ done_in number calls [] else done_in number calls []) ≡ one_more b id call
    none_then true first is = ap (λ (c : Call). (id, c) ∷ done_in number calls []) is ∙ ap (λ (done : List (Id × Call)). (id, call) ∷ done) (none_left calls)
    none_then false first is = none_left calls
done_in-done number (first ∷ calls) (Done at made ∷ replies) call epoch id next =
    ap (λ (done : List (Id × Call)). if at.number == number then (made, first) ∷ done else done) (done_in-done number calls replies call epoch id next)
    ∙ if_append (at.number == number) (made, first) (done_in number calls replies) (one_more (epoch.number == number) id call)
done_in-done number (first ∷ calls) (Broken at spot ∷ replies) call epoch id next = done_in-done number calls replies call epoch id next
done_in-done number (first ∷ calls) (Moved at spot made ∷ replies) call epoch id next = done_in-done number calls replies call epoch id next
done_in-done number (first ∷ calls) (Refused spot parts ∷ replies) call epoch id next = done_in-done number calls replies call epoch id next
