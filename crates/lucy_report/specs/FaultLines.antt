-- The lines that say why a call ended.
use Rattle.std.specs.Prelude.{ℕ, List, ◌++◌, codes, decimal}

-- the words are in no form from this one on, counted from 0
unfoldable pub bad_words : ℕ → List ℕ
bad_words at = codes "bad words at " ++ decimal at ++ codes "\n"

-- there is no input of this name
unfoldable pub no_input : List ℕ → List ℕ
no_input name = codes "no input " ++ name ++ codes "\n"

-- the input of this name could not be read
unfoldable pub read_fault : List ℕ → List ℕ
read_fault name = codes "read fault " ++ name ++ codes "\n"

-- what stands on standard input could not be read
unfoldable pub source_fault : List ℕ
source_fault = codes "read fault\n"

-- the text of this name is no certificate: none goes on up to this line, counted from 1
unfoldable pub bad_certificate : List ℕ → ℕ → List ℕ
bad_certificate name at = codes "bad " ++ name ++ codes " line " ++ decimal at ++ codes ": certificate\n"

-- what stands on standard input passes a limit of bytes, which is one less than this count
unfoldable pub long_input : ℕ → List ℕ
long_input count = codes "bad input count " ++ decimal count ++ codes ": bytes\n"
