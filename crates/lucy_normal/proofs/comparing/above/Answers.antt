use Rattle.lucy_normal.proofs.Slots.{term_slots, term_stays_negative}
use Rattle.lucy_normal.proofs.comparing.above.Goals as goal

pub negative_parts-requires : goal.negative_parts-requires
negative_parts-requires c = rw c.as_slice.ensures (term_slots c.args.at.leaves c.args.term.now c.requires.term)

pub linear-requires-clause-sums : goal.linear-requires-clause-sums
linear-requires-clause-sums c = rw (c.deref.ensures.value, c.in_ok-parts.ensures, c.as_slice.ensures) (term_stays_negative c.args.at.first c.args.at.leaves c.args.term.now c.requires.term c.args.at.room)
