-- A record of a list is named.
use Rattle.std.proofs.Common.{◌≡◌, ◌<◌, ℕ, List, map, length, get_or, sym, ◌∙◌, ap, arith, subst}
use Rattle.std.proofs.lemmas.List.{length-map, get_or-map}
use Rattle.lucy_epochs.specs.Records.{Record}
use Rattle.lucy_report.specs.WorldTexts.{AreNamed}

pub named_at : {A : Type 0} (f : A → Record) (names : List (List ℕ)) (xs : List A) (k : ℕ) (x : A) → AreNamed names (map f xs) → k < length xs → x ≡ get_or xs k x → (f x).segment < length names
named_at f names xs k x named within is =
    let short : k < length (map f xs) = omega (arith, within, length-map xs f) in
    let P : Record → Type 0 = λ r. r.segment < length names in
    subst P (get_or-map f xs k x (f x) within ∙ ap f (sym is)) (named k (f x) short)
