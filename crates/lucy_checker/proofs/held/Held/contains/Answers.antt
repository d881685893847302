use Rattle.std.proofs.Common.{◌∙◌, ap}
use Rattle.lucy_cert.specs.Numbers.{contains}
use Rattle.lucy_checker.specs.Held.{Kept}
use Rattle.lucy_checker.proofs.HeldLemmas.{found_contained}
use Rattle.lucy_checker.proofs.held.Held.contains.Goals as goal

pub returns-in-Some : goal.returns-in-Some
returns-in-Some c =
    found_contained c.self.inside.numbers c.as_slice.result.now c.in-Some.field-0 c.args.number c.as_slice.ensures c.in-Some.ensures
    ∙ ap (λ (k : Kept). contains c.args.number k.numbers) c.self.view_is
