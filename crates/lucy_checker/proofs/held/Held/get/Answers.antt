use Rattle.std.proofs.Common.{◌≡◌, ◌∙◌, ap, sym, false}
use Rattle.lucy_cert.specs.Numbers.{contains}
use Rattle.lucy_checker.specs.Held.{Kept, named}
use Rattle.lucy_checker.proofs.HeldLemmas.{found_named, named_none}
use Rattle.lucy_checker.proofs.held.Held.get.Goals as goal

pub returns-in-Some : goal.returns-in-Some
returns-in-Some c =
    c.get.ensures.value
    ∙ found_named c.self.inside.numbers c.as_slice.result.now c.self.inside.clauses c.in-Some.place c.args.number c.as_slice.ensures c.self.invariant.ascending c.in-Some.ensures
    ∙ ap (λ (k : Kept). named k.numbers k.clauses c.args.number) c.self.view_is

pub returns-in-None : goal.returns-in-None
returns-in-None c =
    let absent : contains c.args.number c.self.inside.numbers ≡ false = rw c.as_slice.ensures at c.in-None.ensures in
    sym (named_none c.self.inside.numbers c.self.inside.clauses c.args.number absent)
    ∙ ap (λ (k : Kept). named k.numbers k.clauses c.args.number) c.self.view_is
