use Rattle.std.proofs.Common.{rules, ◌≡◌, ◌∙◌, true, false, length, sym, ap, subst}
use Rattle.std.specs.Arc.{arc_value}
use Rattle.lucy_plan.specs.Calls.{Fits}
use Rattle.lucy_plan.specs.declared.parts.PlanParts.{PlanParts}
use Rattle.lucy_epochs.specs.Records.{Record, next_opening}
use Rattle.lucy_replica.specs.Openings.{trees_in}
use Rattle.lucy_audit.specs.Differences.{IsOtherOpening}
use Rattle.lucy_audit.specs.Checks.{left_of, HadAll, IsOpeningOf}
use Rattle.lucy_audit.proofs.Reopening.{follows, had_all, call_there, call_fits, opened_again, opened_otherwise, none_some}
use Rattle.lucy_audit.proofs.kept.Kept.compare_opening.Goals as goal

pub unreachable-requires : goal.unreachable-requires
unreachable-requires c =
    let there = call_there (left_of c.args.self.now) (arc_value c.in-Some.after.now) c.in_ok-by.by c.requires.fine c.in_ok-by.ensures.ok.1 in
    none_some there.0 (c.in_default-call_of.ensures ∙ there.1)

pub opening-requires-clause-had : goal.opening-requires-clause-had
opening-requires-clause-had c =
    let left = left_of c.args.self.now in
    let before = arc_value c.in-Some.before.now in
    let f = follows left c.args.number before (arc_value c.in-Some.after.now) c.requires.fine c.in-Some.ensures in
    subst (λ (e : Record). HadAll e c.args.number left.replicas) (sym c.deref.ensures) (had_all left c.args.number f.first before c.requires.fine f.at_first f.before_has)

pub opening-requires-clause-fits : goal.opening-requires-clause-fits
opening-requires-clause-fits c =
    let left = left_of c.args.self.now in
    let before = arc_value c.in-Some.before.now in
    let f = follows left c.args.number before (arc_value c.in-Some.after.now) c.requires.fine c.in-Some.ensures in
    subst (λ (e : Record). Fits e.plan c.in-Some-call_of.call.now) (sym c.deref.ensures)
    (call_fits left c.args.number f.first before c.in_ok-by.by c.in-Some-call_of.call.now c.requires.fine f.at_first f.before_has (sym c.in-Some-call_of.ensures))

pub is_opening_of-requires : goal.is_opening_of-requires
is_opening_of-requires c =
    let left = left_of c.args.self.now in
    let before = arc_value c.in-Some.before.now in
    let after = arc_value c.in-Some.after.now in
    let f = follows left c.args.number before after c.requires.fine c.in-Some.ensures in
    let plan : c.deref.result.now.plan ≡ c.deref-2.result.now.plan =
    ap (λ (e : Record). e.plan) c.deref.ensures ∙ sym f.same_plan ∙ ap (λ (e : Record). e.plan) (sym c.deref-2.ensures) in
    c.in_ok-result.ensures.length ∙ ap (λ (p : PlanParts). length p.object) plan

pub returns-then-is_opening_of-clause-ok : goal.returns-then-is_opening_of-clause-ok
returns-then-is_opening_of-clause-ok c =
    let left = left_of c.args.self.now in
    let before = arc_value c.in-Some.before.now in
    let after = arc_value c.in-Some.after.now in
    let call = c.in-Some-call_of.call.now in
    let f = follows left c.args.number before after c.requires.fine c.in-Some.ensures in
    let value = c.in_ok-result.ensures.value ∙ ap (λ (e : Record). next_opening e (trees_in left.replicas c.args.number) call) c.deref.ensures in
    let opening : IsOpeningOf c.deref-2.result.now c.in_ok-result.result true = c.if-is_opening_of.ensures in
    opened_again left c.args.number before after c.in_ok-by.by call c.in_ok-result.result f c.in_ok-by.ensures.ok (sym c.in-Some-call_of.ensures) value
    (subst (λ (e : Record). IsOpeningOf e c.in_ok-result.result true) c.deref-2.ensures opening)

pub returns-clause-err : goal.returns-clause-err
returns-clause-err c =
    let left = left_of c.args.self.now in
    let before = arc_value c.in-Some.before.now in
    let after = arc_value c.in-Some.after.now in
    let call = c.in-Some-call_of.call.now in
    let f = follows left c.args.number before after c.requires.fine c.in-Some.ensures in
    let value = c.in_ok-result.ensures.value ∙ ap (λ (e : Record). next_opening e (trees_in left.replicas c.args.number) call) c.deref.ensures in
    let opening : IsOpeningOf c.deref-2.result.now c.in_ok-result.result false = c.if-is_opening_of.ensures in
    let same : arc_value c.in_ok-kept.kept ≡ after = search rules in
    subst (λ (e : Record). IsOtherOpening left e c.in_ok-result.result) (sym same)
    (opened_otherwise left c.args.number before after c.in_ok-by.by call c.in_ok-result.result f c.in_ok-by.ensures.ok (sym c.in-Some-call_of.ensures) value
    (subst (λ (e : Record). IsOpeningOf e c.in_ok-result.result false) c.deref-2.ensures opening))
