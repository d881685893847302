use Rattle.std.proofs.Common.{rules, ◌≡◌, ◌≢◌, ◌≤◌, ◌∙◌, get_or, arith}
use Rattle.lucy_audit.specs.Checks.{left_of}
use Rattle.lucy_audit.proofs.Seating.{life_at, other_records}
use Rattle.lucy_audit.proofs.Reaching.{all_records}
use Rattle.lucy_audit.proofs.kept.Kept.compare_records.Goals as goal

pub other_lengths-requires-clause-other : goal.other_lengths-requires-clause-other
other_lengths-requires-clause-other c =
    let kept = c.args.self.now in
    let life = (get_or kept.lives.now c.args.place c.index-self-place.result).replica in
    let first = (get_or kept.lives.now 0 c.index-self-0.result).replica in
    let ours = c.how_many_records-ours in
    let theirs = c.how_many_records-theirs in
    let differ : ours.result ≢ theirs.result = search rules in
    other_records (left_of kept) c.args.place ours.result theirs.result life first
    (life_at kept c.args.place c.index-self-place.result c.requires.within) (life_at kept 0 c.index-self-0.result (omega (arith, c.requires.within)))
    ours.ensures theirs.ensures differ

pub returns-clause-ok : goal.returns-clause-ok
returns-clause-ok c =
    let kept = c.args.self.now in
    let life = (get_or kept.lives.now c.args.place c.index-self-place.result).replica in
    let first = (get_or kept.lives.now 0 c.index-self-0.result).replica in
    let ours = c.how_many_records-ours in
    let theirs = c.how_many_records-theirs in
    let same : ours.result ≡ theirs.result = search rules in
    let past : ours.result ≤ c.loop-number.number = search rules in
    all_records (left_of kept) c.args.place ours.result life first
    (life_at kept c.args.place c.index-self-place.result c.requires.within) (life_at kept 0 c.index-self-0.result (omega (arith, c.requires.within)))
    ours.ensures (same ∙ theirs.ensures) (λ number h. c.loop-number.invariant number (omega (arith, h, past)))
