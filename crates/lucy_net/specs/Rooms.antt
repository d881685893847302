-- What waits in one mailbox.
use Rattle.std.specs.Prelude.{nat_lt, if◌then◌else◌, List, [], ◌∷◌, ◌++◌, length, drop}

-- a room with one item more, behind the others; where 64 wait, the first is dropped before
abbrev pub with_item : {X : Type 0} → X → List X → List X
with_item item items = (if nat_lt (length items) 64 then items else drop 1 items) ++ item ∷ []
