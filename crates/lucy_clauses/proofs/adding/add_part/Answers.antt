use Rattle.std.proofs.Common.{◌≡◌, ◌+◌, ◌++◌, [], List, ap, sym, ◌∙◌, subst}
use Rattle.lucy_clauses.specs.declared.parts.Part.{Part}
use Rattle.lucy_clauses.specs.Parts.{is_within, sum_part, grown}
use Rattle.lucy_clauses.specs.Adding.{Places}
use Rattle.lucy_clauses.proofs.Merges.{none_is, some_is, placed_here, placed_met, placed_wide}
use Rattle.lucy_clauses.proofs.adding.add_part.Goals as goal

pub returns-in_ok-push-in-None : goal.returns-in_ok-push-in-None
returns-in_ok-push-in-None c =
    let q = c.args.part in
    let parts = c.args.parts.now in
    let old = c.args.sum.now.items in
    let new = c.keep_below.new.sum.items in
    subst (λ (ps : List Part). Places q parts old ps c.args.place c.in_ok-next.next) (sym c.in_ok-push-in-None.ensures.items)
    (placed_here q parts old new c.args.place c.in_ok-next.next c.requires.nonzero c.requires.within c.requires.gathered c.requires.below c.in_ok-next.ensures (sym c.in-None.ensures))

pub returns-in-None-joined : goal.returns-in-None-joined
returns-in-None-joined c =
    let q = c.args.part in
    let r = c.in-Some.old in
    placed_wide q r c.args.parts.now c.args.sum.now.items c.keep_below.new.sum.items c.args.place c.in_ok-next.next c.requires.nonzero c.requires.gathered c.requires.below c.in_ok-next.ensures (sym c.in-Some.ensures)
    (none_is (is_within ((sum_part r q).by)) (sum_part r q) c.in-None-joined.ensures)

pub returns-in_ok-push_part-in-Some-joined : goal.returns-in_ok-push_part-in-Some-joined
returns-in_ok-push_part-in-Some-joined c =
    let q = c.args.part in
    let r = c.in-Some.old in
    let parts = c.args.parts.now in
    let old = c.args.sum.now.items in
    let new = c.keep_below.new.sum.items in
    let both = some_is (is_within ((sum_part r q).by)) (sum_part r q) c.in-Some-joined.both c.in-Some-joined.ensures in
    let pushed : c.push_part.new.sum.items ≡ new ++ grown (sum_part r q) [] = c.in_ok-push_part-in-Some-joined.ensures ∙ ap (λ (p : Part). new ++ grown p []) (sym both.1) in
    subst (λ (ps : List Part). Places q parts old ps c.args.place (c.in_ok-next.next + 1)) (sym pushed)
    (placed_met q r parts old new c.args.place c.in_ok-next.next c.requires.nonzero c.requires.gathered c.requires.below c.in_ok-next.ensures (sym c.in-Some.ensures) both.0)
