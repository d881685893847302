-- Parts of one joint that are gathered within a list of the other.
use Rattle.std.proofs.Common.{◌≡◌, ℕ, ◌-◌, ◌<◌, List, [], ◌∷◌, ◌++◌, length, take, drop, refl, sym, ap, ◌∙◌, arith}
use Rattle.std.proofs.lemmas.List.{append_cancel_left, length-append, take-append-drop, take-append-le, take_at, drop_at}
use Rattle.std.specs.Prelude.{IfOk, Result, Ok, Err}
use Rattle.std.specs.declared.alloc.AllocError.{AllocError}
use Rattle.lucy_normal.specs.declared.joints.Joint.{Joint}
use Rattle.lucy_normal.specs.declared.joints.Joint.TheVariants as joint
use Rattle.lucy_normal.specs.declared.normals.Normal.{Normal}
use Rattle.lucy_normal.specs.Fronts.{Begins}
use Rattle.lucy_normal.specs.Joints.{within, one, other, list_of}
use Rattle.lucy_normal.specs.Gathering.{IsNotOne, StandsAlone, Added}
use Rattle.lucy_normal.proofs.Joins.{one_is, one_list, within_list, within_other}

-- ---- the end of a list

pub begins_take : {X : Type 0} (n : ℕ) (xs ys : List X) → take n xs ≡ take n ys → Begins (take n xs) ys
begins_take n xs ys e = record { rest = drop n ys; is = sym (take-append-drop n ys) ∙ ap (λ l. l ++ drop n ys) (sym e) }

pub take_less : {X : Type 0} (n : ℕ) (all items less : List X) (last : X) → n < length items → take n all ≡ take n items → items ≡ less ++ last ∷ [] → take n all ≡ take n less
take_less n all items less last h e f =
    e ∙ ap (take n) f ∙ take-append-le n less (last ∷ []) (omega (arith, h, ap length f ∙ length-append less (last ∷ [])))

-- an item alone
pub last_alone : {X : Type 0} (old more less all : List X) (last : X) → all ≡ old ++ more → all ≡ less ++ last ∷ [] → length all - length old ≡ 1 → (less ≡ old) × (more ≡ last ∷ [])
last_alone old more less all last e f one =
    let size : length less ≡ length old = omega (arith, one, ap length f ∙ length-append less (last ∷ [])) in
    let same : less ≡ old = sym (take_at less (last ∷ []) (length old) size) ∙ ap (take (length old)) (sym f ∙ e) ∙ take_at old more (length old) refl in
    (same, append_cancel_left old more (last ∷ []) (sym e ∙ f ∙ ap (λ l. l ++ last ∷ []) same))

-- ---- the other joint

pub other_of : (own j : Joint) → (own ≡ j → ⊥) → own ≡ other j
other_of joint.All joint.All h = absurd (h refl)
other_of joint.All joint.Any h = refl
other_of joint.Any joint.All h = refl
other_of joint.Any joint.Any h = absurd (h refl)

not_one : {n : ℕ} (old more all : List Normal) → all ≡ old ++ more → n ≡ length old → (length all - n ≡ 1 → ⊥) → IsNotOne more
not_one {n} old [] all e s h = tt
not_one {n} old (p ∷ []) all e s h = absurd (h (omega (arith, s, ap length e ∙ length-append old (p ∷ []))))
not_one {n} old (p ∷ q ∷ ps) all e s h = tt

-- ---- what was added to the list around

pub stands_alone : (j : Joint) (old more flat : List Normal) (start : ℕ) → start ≡ length old → flat ≡ old ++ more → IsNotOne more → StandsAlone j old flat start (within (other j) (one j more))
stands_alone j old more flat start s e h = record { rest = more; start_is = s; flat_is = e; not_one = h; parts_are = ap (within (other j)) (one_list j more h) ∙ within_other j more }

pub stands_finished : (j : Joint) (old flat parts : List Normal) (start : ℕ) → StandsAlone j old flat start parts → flat ≡ old ++ within j (one (other j) parts)
stands_finished j old flat parts start a =
    a.flat_is ∙ ap (λ ps. old ++ ps) (sym (within_list j a.rest) ∙ ap (within j) (sym (one_is (other j) (list_of j a.rest)) ∙ ap (one (other j)) (sym a.parts_are)))

-- with more parts behind it
pub alone_then : (j : Joint) (old flat parts new alone more whole : List Normal) (start : ℕ) → StandsAlone j old flat start parts → new ≡ take start flat → alone ≡ drop start flat →
    whole ≡ list_of j alone ∷ more → (new ≡ old) × (whole ≡ parts ++ more)
alone_then j old flat parts new alone more whole start a n f w =
    let same : new ≡ old = n ∙ ap (take start) a.flat_is ∙ take_at old a.rest start (sym a.start_is) in
    let rest : alone ≡ a.rest = f ∙ ap (drop start) a.flat_is ∙ drop_at old a.rest start (sym a.start_is) in
    (same, w ∙ ap (λ l. list_of j l ∷ more) rest ∙ ap (λ l. l ++ more) (sym a.parts_are))

-- ---- what was added

pub added_ok : (old new xs ys : List Normal) (result : Result (Unit {0}) AllocError) → Added old new result xs → xs ≡ ys → IfOk result (λ _. new ≡ old ++ ys)
added_ok old new xs ys (Ok u) h e = h ∙ ap (λ l. old ++ l) e
added_ok old new xs ys (Err x) h e = tt

pub added_front : (old new xs : List Normal) (result : Result (Unit {0}) AllocError) → Added old new result xs → Begins old new
added_front old new xs (Ok u) h = record { rest = xs; is = h }
added_front old new xs (Err x) h = h
