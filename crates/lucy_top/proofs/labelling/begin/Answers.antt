use Rattle.std.proofs.Common.{rules, refl, inl, inr}
use Rattle.std.specs.Arc.{arc_value}
use Rattle.lucy_report.specs.VerdictLines.{start_breaks}
use Rattle.lucy_top.proofs.labelling.begin.Goals as goal

pub returns-in-Err-StartBreaks-clause-begins : goal.returns-in-Err-StartBreaks-clause-begins
returns-in-Err-StartBreaks-clause-begins g c =
    let breaks = c.in-Err-StartBreaks.ensures.starts c.in-Err-StartBreaks.field-0-is in
    let text = rw c.deref.ensures at c.start_text.ensures in
    inr (inl (record {
      start = search (rules, breaks);
      tells = c.say_last.ensures.tells (start_breaks (arc_value c.args.plan.now).start) text;
      untaken = refl;
      still = refl;
    }))
