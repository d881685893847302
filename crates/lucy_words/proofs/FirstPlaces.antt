-- Where words that are in no form go wrong.
use Rattle.std.proofs.Common.{◌≡◌, ℕ, zero, suc, ◌+◌, ◌≤◌, ◌==◌, ◌&&◌, Bool, true, false, cond, List, [], ◌∷◌, ◌++◌, length, map, take, drop, max, Option, Some, None, is_some, inl, inr, ◌⊎◌, Err, refl, sym, ◌∙◌, ap, subst, arith, length-append, length-drop}
use Rattle.std.proofs.lemmas.Bool.{eqb-true, eq-eqb, cases_lt, false≢true}
use Rattle.std.proofs.lemmas.List.{take-append-drop, length-take-le, length-map}
use Rattle.std.proofs.Math.Nat.{le-max_left, le-max_right, max-le, max-eq_right}
use Rattle.std.specs.Prelude.{codes}
use Rattle.std.specs.List.{list_all}
use Rattle.lucy_words.specs.declared.forms.Form.{Form}
use Rattle.lucy_words.specs.declared.forms.Slot.TheVariants as slot
use Rattle.lucy_words.specs.declared.error.WordsError.TheVariants.{BadWords}
use Rattle.lucy_words.specs.Grammar.{Word, Place, Row, rows, takes, agreed, is_of, first_form, form_of, bad_place, reached, IsFirstBad}
use Rattle.lucy_words.specs.Commands.{command_of, asked_by, BadWordsAreFirst}

-- a word that may stand in a place
abbrev pub example : Place → Word
example (text, slot.Word) = text
example (text, slot.Name) = codes "p"
example (text, slot.NameOrDash) = codes "-"
example (text, slot.Number bounds) = codes "1"

-- each place takes its example
abbrev pub are_exampled : List Place → Bool
are_exampled [] = true
are_exampled (s ∷ slots) = takes s (example s) && are_exampled slots

-- no more words stand than there are
pub agreed-le : (slots : List Place) (words : List Word) → agreed slots words ≤ length words
agreed-le slots [] = omega arith
agreed-le [] (w ∷ words) = omega arith
agreed-le (s ∷ slots) (w ∷ words) =
    elim (takes s w) as (λ t. cond t (suc (agreed slots words)) 0 ≤ suc (length words)) [ true ↦ (let more = agreed-le slots words in omega arith) | false ↦ omega arith ]

pub both : (a b : Bool) → (a && b) ≡ true → (a ≡ true) × (b ≡ true)
both true b h = (refl, h)
both false b h = cc

pub and_true : (a b : Bool) → a ≡ true → b ≡ true → (a && b) ≡ true
and_true true b h k = k
and_true false b h k = h

-- of words of a form all stand
pub is_of-agreed : (slots : List Place) (words : List Word) → is_of slots words ≡ true → agreed slots words ≡ length words
is_of-agreed slots words h = eqb-true _ _ (both (agreed slots words == length words) (length words == length slots) h).0

pub is_of-both : (slots : List Place) (words : List Word) → agreed slots words ≡ length words → length words ≡ length slots → is_of slots words ≡ true
is_of-both slots words a b = and_true (agreed slots words == length words) (length words == length slots) (eq-eqb (agreed slots words) (length words) a) (eq-eqb (length words) (length slots) b)

-- whether the first word stands decides how many do
pub more_stand : (t : Bool) (n m k : ℕ) → (suc k ≤ suc n → suc k ≤ suc m) → suc k ≤ cond t (suc n) 0 → suc k ≤ cond t (suc m) 0
more_stand true n m k f h = f h
more_stand false n m k f h = h

-- where the front of a list stands, it stands with other words behind it
pub agreed-front : (slots : List Place) (xs ys zs : List Word) → length xs ≤ agreed slots (xs ++ ys) → length xs ≤ agreed slots (xs ++ zs)
agreed-front slots [] ys zs h = omega arith
agreed-front [] (x ∷ xs) ys zs h = h
agreed-front (s ∷ slots) (x ∷ xs) ys zs h =
    let again : length xs ≤ agreed slots (xs ++ ys) → length xs ≤ agreed slots (xs ++ zs) = agreed-front slots xs ys zs in
    more_stand (takes s x) (agreed slots (xs ++ ys)) (agreed slots (xs ++ zs)) (length xs) (λ g. let less : length xs ≤ agreed slots (xs ++ ys) = omega arith in let more = again less in omega arith) h

-- no more words stand than there are places
pub agreed-places : (slots : List Place) (words : List Word) → agreed slots words ≤ length slots
agreed-places slots [] = omega arith
agreed-places [] (w ∷ words) = omega arith
agreed-places (s ∷ slots) (w ∷ words) =
    let more = agreed-places slots words in
    elim (takes s w) as (λ t. cond t (suc (agreed slots words)) 0 ≤ suc (length slots)) [ true ↦ omega arith | false ↦ omega arith ]

pub stands_here : (t : Bool) (n m : ℕ) → t ≡ true → n ≡ m → cond t (suc n) 0 ≡ suc m
stands_here true n m h e = ap suc e
stands_here false n m h e = absurd (cc h)

-- examples stand in all places
pub examples_stand : (slots : List Place) → are_exampled slots ≡ true → agreed slots (map example slots) ≡ length slots
examples_stand [] e = refl
examples_stand (s ∷ slots) e =
    let here : (takes s (example s) ≡ true) × (are_exampled slots ≡ true) = both (takes s (example s)) (are_exampled slots) e in
    let more = examples_stand slots here.1 in
    stands_here (takes s (example s)) (agreed slots (map example slots)) (length slots) here.0 more

-- the first word stands, as more than one does
pub stand : (t : Bool) (n m p k : ℕ) → (k ≤ n → m ≡ p) → suc k ≤ cond t (suc n) 0 → cond t (suc m) 0 ≡ suc p
stand true n m p k f h = ap suc (f (omega arith))
stand false n m p k f h = absurd (omega arith)

-- examples behind words that stand fill the form
pub filled : (slots : List Place) (words : List Word) (k : ℕ) → are_exampled slots ≡ true → k ≤ agreed slots words → agreed slots (take k words ++ map example (drop k slots)) ≡ length slots
filled slots words zero e h = examples_stand slots e
filled slots [] (suc k) e h = absurd (omega arith)
filled [] (w ∷ words) (suc k) e h = absurd (omega arith)
filled (s ∷ slots) (w ∷ words) (suc k) e h =
    let here : (takes s (example s) ≡ true) × (are_exampled slots ≡ true) = both (takes s (example s)) (are_exampled slots) e in
    let again : k ≤ agreed slots words → agreed slots (take k words ++ map example (drop k slots)) ≡ length slots = filled slots words k here.1 in
    stand (takes s w) (agreed slots words) _ _ k again h

-- a front that stands, and the examples of the other places, are of the form
pub filled_is_of : (slots : List Place) (words : List Word) (k : ℕ) → are_exampled slots ≡ true → k ≤ agreed slots words → is_of slots (take k words ++ map example (drop k slots)) ≡ true
filled_is_of slots words k e h =
    let all = filled slots words k e h in
    let in_words = agreed-le slots words in
    let in_places = agreed-places slots words in
    let within : k ≤ length words = omega arith in
    let size : length (take k words ++ map example (drop k slots)) ≡ length slots = simp (length-append, length-map, length-drop, length-take-le k words within) (omega arith) in
    is_of-both slots (take k words ++ map example (drop k slots)) (all ∙ sym size) size

pub found_here : (b : Bool) (form : Form) (o : Option Form) → b ≡ true → is_some (cond b (Some form) o) ≡ true
found_here true form o h = refl
found_here false form o h = cc

pub found_later : (b : Bool) (form : Form) (o : Option Form) → is_some o ≡ true → is_some (cond b (Some form) o) ≡ true
found_later true form o h = refl
found_later false form o h = h

-- some words make words of a form of the most words that stand
abbrev pub Goes : List Row → List Word → ℕ → Type 0
Goes table words n = (rest : List Word) × (is_some (first_form table (take n words ++ rest)) ≡ true)

pub goes_here : (row : Row) (more : List Row) (words : List Word) (n : ℕ) → are_exampled row.1 ≡ true → n ≤ agreed row.1 words → Goes (row ∷ more) words n
goes_here row more words n e h =
    (map example (drop n row.1), found_here _ row.0 _ (filled_is_of row.1 words n e h))

pub goes_later : (row : Row) (more : List Row) (words : List Word) (n : ℕ) → Goes more words n → Goes (row ∷ more) words n
goes_later row more words n g = (g.0, found_later (is_of row.1 (take n words ++ g.0)) row.0 _ g.1)

abbrev pub all_exampled : List Row → Bool
all_exampled table = list_all (λ row. are_exampled row.1) table

-- of two numbers the greater is one of them
pub max_cases : (a b : ℕ) → (max a b ≤ a) ⊎ (max a b ≡ b)
max_cases a b = elim (cases_lt a b) [ inl h ↦ inr (max-eq_right (omega arith)) | inr h ↦ inl (omega arith) ]

-- the words that stand go on to words of some form
pub goes_on : (row : Row) (more : List Row) (words : List Word) → all_exampled (row ∷ more) ≡ true → Goes (row ∷ more) words (reached (row ∷ more) words)
goes_on row [] words e =
    goes_here row [] words (max (agreed row.1 words) 0) (both (are_exampled row.1) (all_exampled []) e).0 (omega arith)
goes_on row (next ∷ more) words e =
    let parts = both (are_exampled row.1) (all_exampled (next ∷ more)) e in
    let later : Goes (next ∷ more) words (reached (next ∷ more) words) = goes_on next more words parts.1 in
    elim (max_cases (agreed row.1 words) (reached (next ∷ more) words)) [
      | inl here ↦ goes_here row (next ∷ more) words _ parts.0 here
      | inr there ↦ subst (Goes (row ∷ next ∷ more) words) (sym there) (goes_later row (next ∷ more) words _ later)
    ]

-- no more words stand than there are
pub reached-le : (table : List Row) (words : List Word) → reached table words ≤ length words
reached-le [] words = omega arith
reached-le (row ∷ more) words = max-le (agreed-le row.1 words) (reached-le more words)

-- what has words of a form behind it stands
pub stands : (slots : List Place) (words rest : List Word) (k : ℕ) → k ≤ length words → is_of slots (take k words ++ rest) ≡ true → k ≤ agreed slots words
stands slots words rest k within h =
    let all = is_of-agreed slots (take k words ++ rest) h in
    let size : length (take k words ++ rest) ≡ k + length rest = simp (length-append, length-take-le k words within) in
    let front : length (take k words) ≡ k = length-take-le k words within in
    let here : length (take k words) ≤ agreed slots (take k words ++ rest) = omega arith in
    let there = agreed-front slots (take k words) rest (drop k words) here in
    let whole : take k words ++ drop k words ≡ words = take-append-drop k words in
    let moved : length (take k words) ≤ agreed slots words = subst (λ ws. length (take k words) ≤ agreed slots ws) whole there in
    omega arith

pub found_cases : (b : Bool) (form : Form) (o : Option Form) → is_some (cond b (Some form) o) ≡ true → (b ≡ true) ⊎ (is_some o ≡ true)
found_cases true form o h = inl refl
found_cases false form o h = inr h

-- no words of a form go on from more words than those that stand
pub none_further : (table : List Row) (words rest : List Word) (k : ℕ) → k ≤ length words → is_some (first_form table (take k words ++ rest)) ≡ true → k ≤ reached table words
none_further [] words rest k within h = absurd (cc h)
none_further (row ∷ more) words rest k within h =
    let again : is_some (first_form more (take k words ++ rest)) ≡ true → k ≤ reached more words = none_further more words rest k within in
    let left = le-max_left (agreed row.1 words) (reached more words) in
    let right = le-max_right (agreed row.1 words) (reached more words) in
    elim (found_cases (is_of row.1 (take k words ++ rest)) row.0 (first_form more (take k words ++ rest)) h) [
      | inl here ↦ (let n : k ≤ agreed row.1 words = stands row.1 words rest k within here in omega arith)
      | inr there ↦ (let n : k ≤ reached more words = again there in omega arith)
    ]

abbrev pub has_rows : List Row → Bool
has_rows [] = false
has_rows (row ∷ more) = true

pub table_goes_on : (table : List Row) (words : List Word) → has_rows table ≡ true → all_exampled table ≡ true → Goes table words (reached table words)
table_goes_on [] words some e = absurd (cc some)
table_goes_on (row ∷ more) words some e = goes_on row more words e

pub rows_go_on : (words : List Word) → Goes rows words (reached rows words)
rows_go_on words = table_goes_on rows words refl refl

pub not_none : (o : Option Form) → o ≡ None → is_some o ≡ true → ⊥
not_none o e h = false≢true (sym (ap is_some e) ∙ h)

-- words of no form go wrong first at the first place that none of their fronts passes
pub bad_words : (words : List Word) → form_of words ≡ None → IsFirstBad words (bad_place words)
unfolding form_of bad_place
bad_words words none = record {
  outside = not_none (form_of words) none;
  within = reached-le rows words;
  before = rows_go_on words;
  none_with = λ less goes. (let more = none_further rows words goes.0 (reached rows words + 1) (omega arith) goes.1 in omega arith);
}

pub first_bad_by : (o : Option Form) (words : List Word) (n : ℕ) → form_of words ≡ o → asked_by o words ≡ Err (BadWords n) → IsFirstBad words n
first_bad_by (Some form) words n e h = absurd (cc h)
first_bad_by None words n e h = let same : bad_place words ≡ n = cc in subst (IsFirstBad words) same (bad_words words e)

pub bad_words_are_first : BadWordsAreFirst
unfolding command_of
bad_words_are_first words n h = first_bad_by (form_of words) words n refl h
