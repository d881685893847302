-- What is asked of a test.
use Rattle.std.specs.Prelude.{Bool, true, false, not}

-- a test is passed, or not, as is asked
abbrev pub is_so : Bool → Bool → Bool
is_so true test = test
is_so false test = not test
