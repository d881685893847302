use Rattle.std.proofs.Common.{◌≡◌, ◌++◌, length}
use Rattle.lucy_words.specs.Grammar.{places_of}
use Rattle.lucy_words.specs.Help.{words_of}
use Rattle.lucy_words.proofs.helping.write_places.Given as goal

abbrev pub invariant-loop-places : goal.invariant-loop-places
invariant-loop-places l = l.out.items ++ words_of (places_of l.places) ≡ l.fn.out.items ++ words_of (places_of l.initial.places)

abbrev pub decreases-loop-places : goal.decreases-loop-places
decreases-loop-places l = length l.places
