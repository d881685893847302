-- The numbers of a command are within the bounds of their places.
use Rattle.std.proofs.Common.{◌≡◌, ℕ, zero, suc, ◌^◌, ◌<◌, ◌≤◌, ◌==◌, Bool, true, false, cond, ℤ, pos, negsuc, List, [], ◌∷◌, length, get_or, Option, Some, None, is_some, unwrap_or, IfSome, IfOk, refl, sym, subst, arith}
use Rattle.std.specs.Prelude.{nat_le, nat_lt}
use Rattle.std.proofs.lemmas.Bool.{leb-true, ltb-true}
use Rattle.lucy_io.specs.Decimals.{number_of}
use Rattle.lucy_words.specs.declared.asked.Command.{Command}
use Rattle.lucy_words.specs.declared.forms.Form.{Form}
use Rattle.lucy_words.specs.declared.forms.Form.TheVariants as kinds
use Rattle.lucy_words.specs.declared.forms.Slot.TheVariants as slot
use Rattle.lucy_words.specs.declared.forms.Bounds.{Bounds}
use Rattle.lucy_words.specs.declared.forms.TheConstants.{SEED, LENGTH, SIZE, REPLICAS, CALLS, ROUNDS}
use Rattle.lucy_words.specs.Grammar.{Word, Place, Row, rows, takes, agreed, is_of, first_form, form_of, within, number_in}
use Rattle.lucy_words.specs.Commands.{word_at, number_at, command_by, command_of, asked_by, IsWithin, NumbersAreWithin}
use Rattle.lucy_words.proofs.FirstPlaces.{both, is_of-agreed}
use Rattle.std.proofs.lemmas.Bool.{eqb-true}

pub chosen_most : (b : Bool) (n most : ℕ) → (b ≡ true → n ≤ most) → unwrap_or (cond b (Some n) None) 0 ≤ most
chosen_most true n most f = f refl
chosen_most false n most f = omega arith

pub chosen_least : (b : Bool) (n least : ℕ) → (b ≡ true → least ≤ n) → is_some (cond b (Some n) None) ≡ true → least ≤ unwrap_or (cond b (Some n) None) 0
chosen_least true n least f h = f refl
chosen_least false n least f h = absurd (cc)

-- what is read is at most the greatest number
pub within-most : (least most : ℕ) (o : Option ℤ) → unwrap_or (within least most o) 0 ≤ most
within-most least most None = omega arith
within-most least most (Some (pos n)) = chosen_most _ n most (λ h. leb-true n most (both (nat_le least n) (nat_le n most) h).1)
within-most least most (Some (negsuc n)) = omega arith

-- and at least the least, where a number is read
pub within-least : (least most : ℕ) (o : Option ℤ) → is_some (within least most o) ≡ true → least ≤ unwrap_or (within least most o) 0
within-least least most None h = absurd (cc)
within-least least most (Some (pos n)) h = chosen_least _ n least (λ h. leb-true least n (both (nat_le least n) (nat_le n most) h).0) h
within-least least most (Some (negsuc n)) h = absurd (cc)

pub number_at-most : (bounds : Bounds) (words : List Word) (at : ℕ) → number_at bounds words at ≤ bounds.most
number_at-most bounds words at = within-most bounds.least bounds.most (number_of (word_at words at))

pub number_at-least : (bounds : Bounds) (words : List Word) (at : ℕ) → is_some (number_in bounds.least bounds.most (word_at words at)) ≡ true → bounds.least ≤ number_at bounds words at
number_at-least bounds words at h = within-least bounds.least bounds.most (number_of (word_at words at)) h

pub first_stands : (t : Bool) (n k : ℕ) → suc k ≤ cond t (suc n) 0 → (t ≡ true) × (k ≤ n)
first_stands true n k h = (refl, omega arith)
first_stands false n k h = absurd (omega arith)

-- a word that stands may stand in its place
pub agreed-takes : (slots : List Place) (words : List Word) (k : ℕ) (d : Place) → suc k ≤ agreed slots words → takes (get_or slots k d) (get_or words k []) ≡ true
agreed-takes slots [] k d h = absurd (omega arith)
agreed-takes [] (w ∷ words) k d h = absurd (omega arith)
agreed-takes (s ∷ slots) (w ∷ words) zero d h = (first_stands (takes s w) (agreed slots words) 0 h).0
agreed-takes (s ∷ slots) (w ∷ words) (suc k) d h =
    let here = first_stands (takes s w) (agreed slots words) (suc k) h in
    agreed-takes slots words k d here.1

-- each word of a form may stand in its place
pub is_of-takes : (slots : List Place) (words : List Word) (k : ℕ) (d : Place) → nat_lt k (length slots) ≡ true → is_of slots words ≡ true → takes (get_or slots k d) (get_or words k []) ≡ true
is_of-takes slots words k d h all =
    let stand = is_of-agreed slots words all in
    let size : length words ≡ length slots = eqb-true _ _ (both (agreed slots words == length words) (length words == length slots) all).1 in
    let less : k < length slots = ltb-true k (length slots) h in
    agreed-takes slots words k d (omega arith)

-- something is so of each row of a table
abbrev pub Each : (Row → Type 0) → List Row → Type 0
Each P [] = Unit {0}
Each P (row ∷ more) = P row × Each P more

pub chosen_form : (P : Form → Type 0) (b : Bool) (form : Form) (o : Option Form) → (b ≡ true → P form) → IfSome o P → IfSome (cond b (Some form) o) P
chosen_form P true form o here later = here refl
chosen_form P false form o here later = later

-- what each row says of words that are of its form is so of the first form that they are of
pub first_is : (P : Form → Type 0) (table : List Row) (words : List Word) → Each (λ row. is_of row.1 words ≡ true → P row.0) table → IfSome (first_form table words) P
first_is P [] words each = tt
first_is P (row ∷ more) words each = chosen_form P (is_of row.1 words) row.0 (first_form more words) each.0 (first_is P more words each.1)

pub seed_fits : (words : List Word) (at : ℕ) → number_at SEED words at < 2 ^ 64
seed_fits words at = let most : number_at SEED words at ≤ 18446744073709551615 = number_at-most SEED words at in omega arith

pub size_fits : (words : List Word) → is_some (number_in SIZE.least SIZE.most (word_at words 2)) ≡ true → (number_at SEED words 1 < 2 ^ 64) × (1 ≤ number_at SIZE words 2) × (number_at SIZE words 2 ≤ 32)
size_fits words h = (seed_fits words 1, number_at-least SIZE words 2 h, number_at-most SIZE words 2)

-- the places of the form in a row of the table
abbrev pub places_in : ℕ → List Place
places_in n = (get_or rows n (kinds.Help, [])).1

pub numbers_fit : (words : List Word) → IfSome (form_of words) (λ form. IsWithin (command_by form words))
unfolding form_of
numbers_fit words = first_is (λ form. IsWithin (command_by form words)) rows words (
  (λ h. tt),
  (
    (λ h. tt),
    (
      (λ h. tt),
      (
        (λ h. tt),
        (
          (λ h. (seed_fits words 2, number_at-most LENGTH words 3)),
          (
            (λ h. tt),
            (
              (λ h. seed_fits words 4),
              (
                (λ h. size_fits words (is_of-takes (places_in 7) words 2 ([], slot.Word) refl h)),
                (
                  (λ h. (seed_fits words 2, number_at-least REPLICAS words 3 (is_of-takes (places_in 8) words 3 ([], slot.Word) refl h), number_at-most REPLICAS words 3, number_at-most CALLS words 4)),
                  (
                    (λ h. (seed_fits words 3, number_at-most ROUNDS words 4)),
                    (
                      (λ h. size_fits words (is_of-takes (places_in 10) words 2 ([], slot.Word) refl h)),
                      ((λ h. tt), tt),
                    ),
                  ),
                ),
              ),
            ),
          ),
        ),
      ),
    ),
  ),
)

pub within_by : (o : Option Form) (words : List Word) → IfSome o (λ form. IsWithin (command_by form words)) → IfOk (asked_by o words) IsWithin
within_by (Some form) words h = h
within_by None words h = tt

pub numbers_are_within : NumbersAreWithin
unfolding command_of
numbers_are_within words = within_by (form_of words) words (numbers_fit words)

-- the numbers of what words of a form ask for
pub command_fits : (words : List Word) (form : Form) (command : Command) → Some form ≡ form_of words → command ≡ command_by form words → IsWithin command
command_fits words form command e is =
    subst IsWithin (sym is) (subst (λ o. IfSome o (λ form. IsWithin (command_by form words))) (sym e) (numbers_fit words))
