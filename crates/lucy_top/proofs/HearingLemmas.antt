-- What was taken of a line, byte by byte.
use Rattle.std.proofs.Common.{◌≡◌, ◌≢◌, ◌⊎◌, ℕ, ◌+◌, ◌-◌, ◌^◌, ◌<◌, ◌≤◌, true, false, List, [], ◌∷◌, ◌++◌, length, take, get_or, Option, Some, refl, ap, subst, ◌∙◌, arith, inl, inr, ne_eqb, eq-eqb, eqb, leb, Bool}
use Rattle.std.specs.Prelude.{All, not, ◌&&◌}
use Rattle.std.proofs.lemmas.Bool.Decides.{nat_tests}
use Rattle.std.specs.Io.KnownBytes.{Consumes}
use Rattle.std.proofs.KnownBytes.{Consumes-trans}
use Rattle.std.proofs.lemmas.Bool.{le-leb}
use Rattle.std.proofs.lemmas.List.{length-append}
use Rattle.std.proofs.lemmas.List.Elements.{All-push}
use Rattle.lucy_top.specs.Hearing.{IsLine, passed, HearsPart, HearsLong, IsHearing}

one_byte : (n : ℕ) (buffer : List ℕ) → length buffer ≡ 1 → n ≤ length buffer → (n ≡ 0 → ⊥) → take n buffer ≡ get_or buffer 0 0 ∷ []
one_byte n buffer one le some = let n-is : n ≡ 1 = omega (arith, some) in ap (λ (k : ℕ). take k buffer) n-is ∙ only buffer one
  where
    only : (bytes : List ℕ) → length bytes ≡ 1 → take 1 bytes ≡ get_or bytes 0 0 ∷ []
    only [] is = absurd (omega arith)
    only (b ∷ bs) is = refl

-- a read into one cell took that byte
pub one_taken : (l1 l2 : Option (List ℕ)) (n : ℕ) (buffer : List ℕ) → length buffer ≡ 1 → n ≤ length buffer → (n ≡ 0 → ⊥) → Consumes l1 l2 (take n buffer) → Consumes l1 l2 (get_or buffer 0 0 ∷ [])
one_taken l1 l2 n buffer one le some c = subst (Consumes l1 l2) (one_byte n buffer one le some) c

pub line_passed : (size room byte : ℕ) → byte ≢ 10 → 65536 ≤ size → passed size room byte ≡ Some 65537
line_passed size room byte other more = rw (ne_eqb byte 10 other, le-leb 65536 size more) refl

off : (a b : Bool) → b ≡ false → (a && b) ≡ false
off true b is = is
off false b is = refl

lt_leb_false : (size : ℕ) → size < 65536 → leb 65536 size ≡ false
lt_leb_false size few = grind (arith, nat_tests, few)

pub input_passed : (size room byte : ℕ) → (byte ≡ 10) ⊎ (size < 65536) → room ≡ 0 → passed size room byte ≡ Some (2 ^ 20 + 1)
input_passed size room byte (inl lf) none = rw (eq-eqb byte 10 lf, none) refl
input_passed size room byte (inr few) none = rw (off (not (eqb byte 10)) (leb 65536 size) (lt_leb_false size few), none) refl

pub long_heard : {l0 l1 l2 : Option (List ℕ)} {sf0 sf1 room0 room1 : ℕ} {part : List ℕ} (count byte : ℕ) → IsHearing l0 l1 sf0 sf1 room0 room1 part → Consumes l1 l2 (byte ∷ [])
    → passed (length part) room1 byte ≡ Some count → HearsLong l0 l2 room0 count
long_heard {l0} {l1} {l2} {part = part} count byte h eaten over =
    record {
      part = part;
      byte = byte;
      consumed = Consumes-trans l0 l1 l2 part (byte ∷ []) h.consumed eaten;
      is = h.is;
      few = omega (arith, h.room);
      over = ap (λ (r : ℕ). passed (length part) r byte) (omega (arith, h.room)) ∙ over;
    }

pub part_heard : {l0 l1 l2 : Option (List ℕ)} {sf0 sf1 room0 room1 : ℕ} {part : List ℕ} (byte : ℕ) → IsHearing l0 l1 sf0 sf1 room0 room1 part → Consumes l1 l2 (byte ∷ [])
    → byte ≢ 10 → length part < 65536 → (room1 ≡ 0 → ⊥) → HearsPart l0 l2 room0
part_heard {l0} {l1} {l2} {part = part} byte h eaten other few some =
    record {
      part = part ++ byte ∷ [];
      consumed = Consumes-trans l0 l1 l2 part (byte ∷ []) h.consumed eaten;
      is = record { one = All-push (λ (b : ℕ). b ≢ 10) part byte h.is.one other; few = omega (arith, few, length-append part (byte ∷ [])) };
      few = omega (arith, h.room, some, length-append part (byte ∷ []));
    }
