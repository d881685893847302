-- Parts of a list, as a write and a read move them.
use Rattle.std.proofs.Common.{◌≡◌, ℕ, ◌+◌, ◌-◌, ◌<◌, ◌≤◌, min, List, [], ◌++◌, length, take, drop, sym, ap, ◌∙◌, arith, length-take, length-drop, length-append}
use Rattle.std.proofs.Math.ListN.{drop_of_length-le}
use Rattle.std.proofs.Math.Seq.{take-add}
use Rattle.std.proofs.lemmas.List.{take-take, take_at, take-append-drop, drop-drop}

-- a piece of at most m bytes from `at` on, of which the first n were taken, goes on with the text
taken_piece : (at m n : ℕ) (text : List ℕ) → n ≤ m → take at text ++ take n (take m (drop at text)) ≡ take (at + n) text
taken_piece at m n text le = ap (λ (p : List ℕ). take at text ++ p) (take-take n m (drop at text) le) ∙ sym (take-add at n text)

-- a piece at the front of what is left, of which the first n were taken, goes on with the text
pub given_piece : (at k n : ℕ) (text piece : List ℕ) → piece ≡ take (length piece) (take k (drop at text)) → n ≤ length piece → n ≤ k → take at text ++ take n piece ≡ take (at + n) text
given_piece at k n text piece is le fits =
    ap (λ (p : List ℕ). take at text ++ take n p) is
    ∙ ap (λ (p : List ℕ). take at text ++ p) (take-take n (length piece) (take k (drop at text)) le)
    ∙ taken_piece at k n text fits

-- what stands in front of the buffer and what is left are the bytes that were left
pub read_front : (at n : ℕ) (bytes new rest : List ℕ) → new ≡ take ((at + n) - at) (drop at bytes) → n ≤ length bytes - at → drop at bytes ≡ take n (new ++ rest) ++ drop (at + n) bytes
read_front at n bytes new rest is le =
    let k : (at + n) - at ≡ n = omega arith in
    let new-is : new ≡ take n (drop at bytes) = is ∙ ap (λ (j : ℕ). take j (drop at bytes)) k in
    let len : length new ≡ n = ap length new-is ∙ omega (arith, length-take n (drop at bytes), length-drop at bytes) in
    rw (take_at new rest n len, new-is, ← drop-drop n at bytes) (sym (take-append-drop n (drop at bytes)))

-- a read of no byte found none left
pub read_end : (at n most : ℕ) (bytes new buffer : List ℕ) → 0 < most → n ≡ min (min (length bytes - at) most) (length buffer) → n ≡ 0 → length new ≡ n → 0 < length (new ++ drop n buffer) → drop (at + n) bytes ≡ []
read_end at n most bytes new buffer some is none len more = drop_of_length-le bytes (omega (arith, length-append new (drop n buffer), length-drop n buffer))
