use Rattle.std.proofs.Common.{ap, sym, ◌∙◌, rules}
use Rattle.std.proofs.lemmas.Int.{to_z-of_z}
use mir.Syntax.{w128}
use mir.Val.{SFits}
use Rattle.lucy_clauses.specs.Sums.{Form, form}
use Rattle.lucy_clauses.specs.Lines.{add_multiple}
use Rattle.lucy_clauses.proofs.Merges.{put_multiples_gathered}
use Rattle.lucy_clauses.proofs.Derived.{added_form}
use Rattle.lucy_clauses.proofs.inequalities.Inequality.add_multiple.Goals as goal

pub invariant_of-self : goal.invariant_of-self
invariant_of-self c =
    let fits = c.ranges.by in
    let ensured = rw (c.in-Some-2.is, c.deref.ensures.value, c.deref-2.ensures.value) at c.in_ok-parts.ensures in
    let merged = simp to_z-of_z at ensured in
    put_multiples_gathered c.args.by c.other.inside.parts.items c.self.inside.parts.items c.in-Some-2.parts.items c.self.invariant (sym merged)

pub returns-clause-sum : goal.returns-clause-sum
returns-clause-sum c =
    let fits = c.ranges.by in
    let own : SFits w128 c.self.inside.bound = search rules in
    let others : SFits w128 c.other.inside.bound = search rules in
    let made : SFits w128 c.in-Some.bound = search rules in
    let ensured = rw (c.in-Some-2.is, c.deref.ensures.value, c.deref-2.ensures.value) at c.in_ok-parts.ensures in
    let merged = simp to_z-of_z at ensured in
    let bound = simp to_z-of_z at c.in-Some.ensures in
    let sum = added_form c.args.by (form c.other.inside.parts.items c.other.inside.bound) (form c.self.inside.parts.items c.self.inside.bound) c.in-Some-2.parts.items c.in-Some.bound merged bound in
    simp to_z-of_z (ap (λ (f : Form). add_multiple c.args.by f c.args.self.now) (sym c.other.view_is) ∙ ap (λ (f : Form). add_multiple c.args.by (form c.other.inside.parts.items c.other.inside.bound) f) (sym c.self.view_is) ∙ sum)
