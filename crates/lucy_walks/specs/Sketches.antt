-- Sketches of expressions, and how their calls get their names.
use Rattle.std.specs.Prelude.{ℕ, ◌+◌, nat_lt, ◌&&◌, Bool, true, List, replicate, slice_index, slice_set}
use Rattle.lucy_expr.specs.declared.ids.Id.{Id}
use Rattle.lucy_expr.specs.Trees.{Tree, Start, Apply, Merge}
use Rattle.lucy_walks.specs.declared.sketches.Sketch.{Sketch}
use Rattle.lucy_walks.specs.declared.sketches.Sketch as sketch

-- the id of a call that has no name yet
abbrev pub unnamed : ℕ → Id
unnamed replica = record { replica = replica; count = 0 }

-- the expression of a sketch, its calls without names
abbrev pub tree_of : Sketch → Tree
tree_of sketch.Start = Start
tree_of (sketch.Apply' replica call p inner) = Apply (unnamed replica) call (tree_of inner)
tree_of (sketch.Merge' p left q right) = Merge (tree_of left) (tree_of right)

-- how many nodes an expression has
abbrev pub size : Tree → ℕ
size Start = 1
size (Apply id call inner) = size inner + 1
size (Merge left right) = size left + size right + 1

-- the replicas whose calls an expression may have
abbrev pub most_replicas : ℕ
most_replicas = 16

-- each call is that of one of these replicas
abbrev pub are_seated : Tree → Bool
are_seated Start = true
are_seated (Apply id call inner) = are_seated inner && nat_lt id.replica most_replicas
are_seated (Merge left right) = are_seated left && are_seated right

-- the name of a replica's next call, where each replica has made so many
abbrev pub next_id : List ℕ → ℕ → Id
next_id counts replica = record { replica = replica; count = slice_index counts replica }

-- with one call more of a replica
abbrev pub counted : List ℕ → ℕ → List ℕ
counted counts replica = slice_set counts replica (slice_index counts replica + 1)

-- the calls of an expression named in the order of evaluation, an inner expression before the call around it and a merge's left part before its right one:
-- each gets the count of its replica, which then goes up by one
abbrev pub named_on : List ℕ → Tree → Tree × List ℕ
named_on counts Start = (Start, counts)
named_on counts (Apply id call inner) =
    let part = named_on counts inner in
    (Apply (next_id part.1 id.replica) call part.0, counted part.1 id.replica)
named_on counts (Merge left right) =
    let first = named_on counts left in
    let second = named_on first.1 right in
    (Merge first.0 second.0, second.1)

-- each replica counts from 0
abbrev pub named : Tree → Tree
named tree = (named_on (replicate most_replicas 0) tree).0
