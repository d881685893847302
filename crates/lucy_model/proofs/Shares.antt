-- Lists of shares in range.
use Rattle.std.proofs.Common.{◌≡◌, ℕ, zero, suc, ◌+◌, ◌*◌, ◌^◌, ◌<◌, ◌≤◌, nat_le, nat_lt, Bool, true, ◌&&◌, ℤ, ◌+ℤ◌, ◌*ℤ◌, unsigned_abs, List, [], ◌∷◌, length, drop, get_or, refl, ap, sym, ◌∙◌, arith, add-one, drop-cons}
use Rattle.std.proofs.lemmas.Int.{ints}
use Rattle.std.proofs.lemmas.Bool.Decides.{nat_tests}
use Rattle.lucy_model.specs.Numbers.{number_at, IsWithin}
use Rattle.lucy_model.proofs.Sizes.{IsWithin-add, IsWithin-mul, IsWithin-le}
use Rattle.lucy_model.specs.Terms.{shares_value, are_shares}
use Rattle.lucy_model.specs.declared.terms.Share.{Share}

-- a share at a place of a list of shares in range
pub record IsShareAt (place end : ℕ) (share : Share) : Type 0 where
  pub above : place ≤ share.slot
  pub below : share.slot < end
  pub factor : unsigned_abs share.by ≤ 1000000

share_tested : (from end slot size : ℕ) (rest : Bool) → (nat_le from slot && nat_lt slot end && nat_le size 1000000 && rest) ≡ true → (from ≤ slot) × (slot < end) × (size ≤ 1000000) × (rest ≡ true)
share_tested from end slot size rest h = grind (arith, nat_tests)

pub are_shares-at : (from end : ℕ) (shares : List Share) → are_shares from end shares ≡ true → (i : ℕ) (d : Share) → i < length shares → IsShareAt (from + i) end (get_or shares i d)
are_shares-at from end [] h i d below = absurd (omega arith)
are_shares-at from end (share ∷ shares) h zero d below =
    let parts = share_tested from end share.slot (unsigned_abs share.by) (are_shares (share.slot + 1) end shares) h in
    record { above = omega (arith, parts.0); below = parts.1; factor = parts.2 }
are_shares-at from end (share ∷ shares) h (suc i) d below =
    let parts = share_tested from end share.slot (unsigned_abs share.by) (are_shares (share.slot + 1) end shares) h in
    let rest = are_shares-at (share.slot + 1) end shares parts.3 i d (omega arith) in
    record { above = omega (arith, parts.0, rest.above); below = rest.below; factor = rest.factor }

pub shares_value-drop : (shares : List Share) (xs : List ℤ) (i : ℕ) (d : Share) → i < length shares → shares_value (drop i shares) xs ≡ (get_or shares i d).by *ℤ number_at xs (get_or shares i d).slot +ℤ shares_value (drop (i + 1) shares) xs
shares_value-drop shares xs i d below = rw (add-one, drop-cons shares i d) refl

-- one more share
regrouped : (a b c : ℤ) → (a +ℤ b) +ℤ c ≡ a +ℤ (b +ℤ c)
regrouped a b c = omega (arith, ints)

pub shares_value_pushed : (shares : List Share) (xs : List ℤ) (i : ℕ) (d : Share) (sum number next : ℤ) → i < length shares → number ≡ number_at xs (get_or shares i d).slot → next ≡ sum +ℤ (get_or shares i d).by *ℤ number → sum +ℤ shares_value (drop i shares) xs ≡ shares_value shares xs → next +ℤ shares_value (drop (i + 1) shares) xs ≡ shares_value shares xs
shares_value_pushed shares xs i d sum number next below at is before =
    let by = (get_or shares i d).by in
    let rest = shares_value (drop (i + 1) shares) xs in
    ap (λ (n : ℤ). n +ℤ rest) is
    ∙ regrouped sum (by *ℤ number) rest
    ∙ ap (λ (n : ℤ). sum +ℤ (by *ℤ n +ℤ rest)) at
    ∙ ap (λ (n : ℤ). sum +ℤ n) (sym (shares_value-drop shares xs i d below))
    ∙ before

pub pushed_within : (i : ℕ) (share : Share) (sum number next : ℤ) → unsigned_abs share.by ≤ 1000000 → IsWithin (2 ^ 69) number → IsWithin (i * (1000000 * 2 ^ 69)) sum → next ≡ sum +ℤ share.by *ℤ number → IsWithin ((i + 1) * (1000000 * 2 ^ 69)) next
pushed_within i share sum number next by_small number_small small is =
    let product = IsWithin-mul 1000000 (2 ^ 69) share.by number (record { size = by_small }) number_small in
    let grown = IsWithin-add (i * (1000000 * 2 ^ 69)) (1000000 * 2 ^ 69) sum (share.by *ℤ number) small product in
    rw is (IsWithin-le (i * (1000000 * 2 ^ 69) + 1000000 * 2 ^ 69) ((i + 1) * (1000000 * 2 ^ 69)) (sum +ℤ share.by *ℤ number) grown (omega arith))
