use Rattle.std.proofs.Common.{inl, sym, ◌∙◌}
use Rattle.lucy_simplex.proofs.Finding.{lows_right, not_both, open_at_once}
use Rattle.lucy_simplex.proofs.solving.solve.Goals as goal

pub returns-then-lows_hold-clause-right : goal.returns-then-lows_hold-clause-right
returns-then-lows_hold-clause-right c = (lows_right c.args.rows.now c.args.bounds.now c.in_ok-point.point.items c.requires (sym c.lows_hold.ensures ∙ c.if-lows_hold.true) c.in_ok-point.ensures, inl (sym c.lows_hold.ensures ∙ c.if-lows_hold.true))

pub returns-then-lows_hold-clause-alone : goal.returns-then-lows_hold-clause-alone
returns-then-lows_hold-clause-alone c = λ h.
    not_both c.args.rows.now c.args.bounds.now c.in_ok-point.point.items c.requires (lows_right c.args.rows.now c.args.bounds.now c.in_ok-point.point.items c.requires (sym c.lows_hold.ensures ∙ c.if-lows_hold.true) c.in_ok-point.ensures) h

pub returns-then-turns-eq0-clause-right : goal.returns-then-turns-eq0-clause-right
returns-then-turns-eq0-clause-right c = open_at_once c.args.rows.now c.args.bounds.now c.args.turns c.if-turns-eq0.true (sym c.lows_hold.ensures ∙ c.if-lows_hold.false) c.in_default.ensures.none
