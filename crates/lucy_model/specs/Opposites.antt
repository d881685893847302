-- The relation that is left where another fails.
use Rattle.lucy_model.specs.declared.conditions.Op.{Op}
use Rattle.lucy_model.specs.declared.conditions.Op.TheVariants as op

-- the relation in which a number stands to 0 exactly where it does not stand in this one
abbrev pub opposite : Op → Op
opposite op.Le = op.Gt
opposite op.Lt = op.Ge
opposite op.Ge = op.Lt
opposite op.Gt = op.Le
opposite op.Eq = op.Ne
opposite op.Ne = op.Eq
