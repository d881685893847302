-- The list of all records that were opened.
use Rattle.std.specs.Prelude.{◌≡◌, ℕ, ◌-◌, ◌<◌, List, length, Option, Some, slice_get, refl}
use Rattle.std.specs.Coded.{Coded, code_by, coded×, coded_ℕ, coded_list}
use Rattle.lucy_epochs.specs.Records.{Record, record_code}

-- what contracts see of a table: its records, and for how many more there is room
pub record Listed : Type 0 where
  pub records : List Record
  pub spare : ℕ

abbrev pub listed_code : Coded Listed
listed_code = code_by (List Record × ℕ) (coded× (coded_list record_code) coded_ℕ) (λ t. (t.records, t.spare)) (λ p. record { records = p.0; spare = p.1 }) (λ _. refl)

-- the last of the records
abbrev pub last_of : List Record → Option Record
last_of records = slice_get records (length records - 1)

-- there is a first one, and each stands at the place of its number
pub record AreNumbered (records : List Record) : Type 0 where
  pub some : 0 < length records
  pub numbered : (place : ℕ) (epoch : Record) → slice_get records place ≡ Some epoch → epoch.number ≡ place
