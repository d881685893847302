-- The records of a replica are those that its closings tell, and its present one.
use Rattle.std.proofs.Common.{◌≡◌, ◌++◌, ◌<◌, ℕ, List, [], ◌∷◌, length, map, get_or, sym, ap, subst, ◌∙◌, arith}
use Rattle.std.proofs.lemmas.List.{append-nil, append_assoc, get_or_append_left, length-append, map-append}
use Rattle.std.proofs.lemmas.Simd.{map-map}
use Rattle.std.specs.Arc.{arc_value}
use Rattle.lucy_epochs.specs.Records.{Record}
use Rattle.lucy_replica.specs.Answering.{stay_of}
use Rattle.lucy_replica.specs.Legal.{records_of}
use Rattle.lucy_replica.specs.Replicas.{Replica, Seen, Stay, present}
use Rattle.lucy_replica.specs.declared.replies.Closing.{Closing}
use Rattle.lucy_report.specs.OutcomeTexts.{records_in}
use Rattle.lucy_report.specs.WorldTexts.{AreNamed, record_line, record_lines}

-- the record of a closing
abbrev record_in : Closing → Record
record_in closing = arc_value closing.epoch

told_records : (closings : List Closing) (replica : Replica) → map stay_of closings ≡ replica.closings → records_of replica ≡ map record_in closings ++ replica.epoch ∷ []
told_records closings replica are =
    map-append (λ (s : Stay). s.epoch) replica.closings (present replica ∷ [])
    ∙ ap (λ (ss : List Stay). map (λ (s : Stay). s.epoch) ss ++ replica.epoch ∷ []) (sym are)
    ∙ ap (λ (rs : List Record). rs ++ replica.epoch ∷ []) (map-map (λ (s : Stay). s.epoch) stay_of closings)

named_front : (names : List (List ℕ)) (xs ys : List Record) → AreNamed names (xs ++ ys) → AreNamed names xs
named_front names xs ys named = λ k d within.
    subst (λ (r : Record). r.segment < length names) (get_or_append_left xs ys d k within) (named k d (omega (arith, within, length-append xs ys)))

pub closings_named : (names : List (List ℕ)) (closings : List Closing) (replica : Replica) → map stay_of closings ≡ replica.closings
    → AreNamed names (records_of replica) → AreNamed names (map record_in closings)
closings_named names closings replica are named =
    named_front names (map record_in closings) (replica.epoch ∷ []) (subst (λ (rs : List Record). AreNamed names rs) (told_records closings replica are) named)

lines_end : (names : List (List ℕ)) (xs : List Record) (x : Record) → record_lines names (xs ++ x ∷ []) ≡ record_lines names xs ++ record_line names x
lines_end names [] x = append-nil (record_line names x)
lines_end names (y ∷ ys) x = ap (λ (ls : List ℕ). record_line names y ++ ls) (lines_end names ys x) ∙ sym (append_assoc (record_line names y) (record_lines names ys) (record_line names x))

-- the lines of the closings and then that of the present record are the lines of all of them
pub lines_told : (names : List (List ℕ)) (closings : List Closing) (replica : Replica) (epoch : Record) (old between new : List ℕ) → map stay_of closings ≡ replica.closings
    → epoch ≡ replica.epoch → between ≡ old ++ record_lines names (map record_in closings) → new ≡ between ++ record_line names epoch → new ≡ old ++ record_lines names (records_of replica)
lines_told names closings replica epoch old between new are is first then_one =
    let ended : record_lines names (records_of replica) ≡ record_lines names (map record_in closings) ++ record_line names replica.epoch =
    ap (record_lines names) (told_records closings replica are) ∙ lines_end names (map record_in closings) replica.epoch in
    let one : new ≡ (old ++ record_lines names (map record_in closings)) ++ record_line names replica.epoch =
    then_one ∙ ap (λ (r : Record). between ++ record_line names r) is ∙ ap (λ (b : List ℕ). b ++ record_line names replica.epoch) first in
    one ∙ append_assoc old (record_lines names (map record_in closings)) (record_line names replica.epoch) ∙ ap (λ (ls : List ℕ). old ++ ls) (sym ended)

pub first_named : (names : List (List ℕ)) (lives : List Seen) (life : Seen) → 0 < length lives → life ≡ get_or lives 0 life
    → AreNamed names (records_in (map (λ (l : Seen). l.replica) lives)) → AreNamed names (records_of life.replica)
first_named names [] life below is named = absurd (omega (arith, below))
first_named names (x ∷ xs) life below is named = subst (λ (l : Seen). AreNamed names (records_of l.replica)) (sym is) named
