-- Whole numbers as decimal text, and how such text is read.
use Rattle.std.specs.Prelude.{◌≡◌, ℕ, ◌+◌, ◌-◌, ◌*◌, ◌^◌, nat_lt, ◌==◌, ◌&&◌, ℤ, pos, negsuc, FitsSigned, if◌then◌else◌, List, [], ◌∷◌, length, Option, None, Some}
use Rattle.std.specs.Char.{digit_value}
use Rattle.std.specs.Fmt.{signed_decimal}
use Rattle.std.specs.Int.{w128}

-- the number that these digits write behind the digits of n
abbrev pub digits_on : ℕ → List ℕ → Option ℕ
digits_on n [] = Some n
digits_on n (c ∷ cs) = if nat_lt (digit_value c) 10 then digits_on (n * 10 + digit_value c) cs else None

-- one digit or more, the first of them no 0 where more follow
abbrev pub natural_of : List ℕ → Option ℕ
natural_of [] = None
natural_of (c ∷ cs) = if c == 48 && nat_lt 0 (length cs) then None else digits_on 0 (c ∷ cs)

-- a number where it is below m
abbrev pub below : ℕ → Option ℕ → Option ℕ
below m None = None
below m (Some n) = if nat_lt n m then Some n else None

-- a number that is not negative, within 128 bits
abbrev pub positive_of : Option ℕ → Option ℤ
positive_of None = None
positive_of (Some n) = if nat_lt n (2 ^ 127) then Some (pos n) else None

-- a number below 0, within 128 bits
abbrev pub negative_of : Option ℕ → Option ℤ
negative_of None = None
negative_of (Some n) = if nat_lt 0 n && nat_lt (n - 1) (2 ^ 127) then Some (negsuc (n - 1)) else None

-- the number that a canonical decimal text writes: digits with no leading 0, behind a `-` where it is below 0
abbrev pub number_of : List ℕ → Option ℤ
number_of [] = None
number_of (c ∷ cs) = if c == 45 then negative_of (natural_of cs) else positive_of (natural_of (c ∷ cs))

-- what is written of a number within 128 bits is read as that number
abbrev pub WrittenIsRead : Type 0
WrittenIsRead = (z : ℤ) → FitsSigned w128 z → number_of (signed_decimal z) ≡ Some z

-- a text that is read as a number is the one text that is written of it, and the number is within 128 bits
abbrev pub ReadIsWritten : Type 0
ReadIsWritten = (text : List ℕ) (z : ℤ) → number_of text ≡ Some z → (text ≡ signed_decimal z) × FitsSigned w128 z
