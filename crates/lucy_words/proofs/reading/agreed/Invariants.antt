use Rattle.std.proofs.Common.{◌≡◌, ◌+◌, length, map}
use Rattle.std.specs.String.{string_bytes}
use Rattle.lucy_words.specs.Grammar.{agreed, places_of}
use Rattle.lucy_words.proofs.reading.agreed.Given as goal

abbrev pub invariant-loop-words : goal.invariant-loop-words
invariant-loop-words l = record {
  stands : l.count + agreed (places_of l.places) (map string_bytes l.words) ≡ agreed (places_of l.initial.places) (map string_bytes l.initial.words);
  within : l.count + length l.words ≡ length l.initial.words;
}

abbrev pub decreases-loop-words : goal.decreases-loop-words
decreases-loop-words l = length l.words
