use Rattle.std.proofs.Common.{◌≡◌, None, nat_lt, sym, ap, ◌∙◌}
use Rattle.std.specs.Prelude.{slice_get, slice_index}
use Rattle.std.specs.Option.{option_copied}
use Rattle.lucy_trim.proofs.Counts.{none_past}
use Rattle.lucy_trim.proofs.uses.Uses.is_used_behind.Goals as goal

pub returns-in-None : goal.returns-in-None
returns-in-None c =
    let none : slice_get c.args.self.now.last c.saturating_sub.result ≡ None = sym c.get.ensures.value ∙ ap option_copied c.in-None.is in
    none_past c.args.self.now.last c.saturating_sub.result c.args.steps none ∙ ap (λ k. nat_lt c.args.steps (slice_index c.args.self.now.last k)) c.saturating_sub.ensures
