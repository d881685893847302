-- The journal that an implementation of `Inputs` keeps.
use Rattle.std.specs.Prelude.{List, map, string_bytes}
use Rattle.lucy_io.specs.Inputs.{Entry, entry}
use Rattle.lucy_io.specs.declared.noting.Noted.{Noted}

abbrev pub noted : Noted → Entry
noted n = entry (string_bytes n.name) n.ending

abbrev pub noted_all : List Noted → List Entry
noted_all ns = map noted ns
