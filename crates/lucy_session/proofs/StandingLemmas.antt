-- The pair that is shown behind an answer.
use Rattle.std.proofs.Common.{◌≡◌, List, Option, Some, None, refl, sym, subst}
use Rattle.lucy_expr.specs.Expressions.{Expression}
use Rattle.lucy_session.specs.declared.answers.Next.{Next}
use Rattle.lucy_session.specs.declared.reached.Pair.{Pair}
use Rattle.lucy_session.specs.declared.reached.Reached.{Reached}
use Rattle.lucy_session.specs.Sessions.{answer_of, answer_by, expr_of, Stands}

stands_by : (p : Pair) (e f : Option Expression) → Stands (Some p) (answer_by p e f)
stands_by p (Some e) (Some f) = refl
stands_by p (Some e) None = refl
stands_by p None (Some f) = refl
stands_by p None None = refl

pub stands_of : (reached : List Reached) (pair : Option Pair) (next : Next) → next ≡ answer_of reached pair → Stands pair next
stands_of reached None next is = subst (Stands None) (sym is) refl
stands_of reached (Some p) next is = subst (Stands (Some p)) (sym is) (stands_by p (expr_of reached p.left) (expr_of reached p.right))
