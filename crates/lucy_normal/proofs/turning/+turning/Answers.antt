use Rattle.std.proofs.Common.{◌≡◌, ◌++◌, [], length, refl, sym, ap, ◌∙◌, subst, rules}
use Rattle.lucy_normal.specs.Gathering.{Gathers, Gave}
use Rattle.lucy_normal.specs.Joints.{within, other}
use Rattle.lucy_normal.specs.Normals.{normal_of}
use Rattle.lucy_normal.proofs.Beginnings.{begins_then}
use Rattle.lucy_normal.proofs.Gatherings.{other_of, added_ok, added_front}
use Rattle.lucy_normal.proofs.ProperForms.{side_is}
use Rattle.lucy_normal.proofs.Sides.{sides_more, conditions_more, list_likewise, implied_likewise, implied_otherwise}
use Rattle.lucy_normal.proofs.turning.+turning.Goals as goal

pub add_form-returns-then-eq-clause-ok : goal.add_form-returns-then-eq-clause-ok
add_form-returns-then-eq-clause-ok t c =
    let same : c.implied_joint.result ≡ c.args.joint = search rules in
    implied_likewise c.args.at.first c.args.positive c.implied_joint.result c.args.joint c.args.condition.now c.in-Implies.left c.in-Implies.right
    c.args.flat.now c.add_form-then-eq.new.flat c.add_form-then-eq-2.new.flat c.add_form-then-eq-2.result
    c.in-Implies.is c.implied_joint.ensures same (rw c.get-then-eq.ensures at c.in_ok-add_form-in-Implies.ensures.ok) (rw c.get-then-eq-2.ensures at c.add_form-then-eq-2.ensures.ok)

pub add_form-returns-in_err-one-in-Implies-clause-front : goal.add_form-returns-in_err-one-in-Implies-clause-front
add_form-returns-in_err-one-in-Implies-clause-front t c = c.in_err-one-in-Implies.ensures c.args.flat.now [] (refl, c.new.ensures)

pub add_form-returns-in_err-both-in-Implies-clause-front : goal.add_form-returns-in_err-both-in-Implies-clause-front
add_form-returns-in_err-both-in-Implies-clause-front t c =
    c.in_err-both-in-Implies.ensures c.args.flat.now _ (c.in_ok-one-in-Implies.ensures c.args.flat.now [] (refl, c.new.ensures))

pub add_form-returns-in_ok-both-in-Implies-clause-ok : goal.add_form-returns-in_ok-both-in-Implies-clause-ok
add_form-returns-in_ok-both-in-Implies-clause-ok t c =
    let otherwise : c.implied_joint.result ≡ other c.args.joint = other_of c.implied_joint.result c.args.joint (search rules) in
    let left = c.in_ok-one-in-Implies.ensures c.args.flat.now [] (refl, c.new.ensures) in
    let added = c.finish.ensures c.args.flat.now _ (c.in_ok-both-in-Implies.ensures c.args.flat.now _ left) in
    added_ok c.args.flat.now c.finish.new.flat _ _ c.finish.result (rw (c.get-in-Implies.ensures, c.get-in-Implies-2.ensures) at added)
    (implied_otherwise c.args.at.first c.args.positive c.implied_joint.result c.args.joint c.args.condition.now c.in-Implies.left c.in-Implies.right c.in-Implies.is c.implied_joint.ensures otherwise)

pub add_form-returns-in_ok-both-in-Implies-clause-front : goal.add_form-returns-in_ok-both-in-Implies-clause-front
add_form-returns-in_ok-both-in-Implies-clause-front t c =
    let left = c.in_ok-one-in-Implies.ensures c.args.flat.now [] (refl, c.new.ensures) in
    added_front c.args.flat.now c.finish.new.flat _ c.finish.result (c.finish.ensures c.args.flat.now _ (c.in_ok-both-in-Implies.ensures c.args.flat.now _ left))

pub add_list-returns-then-eq-clause-ok : goal.add_list-returns-then-eq-clause-ok
add_list-returns-then-eq-clause-ok t c =
    let same : c.args.own ≡ c.args.joint = search rules in
    list_likewise c.args.at.first c.args.positive c.args.own c.args.joint c.args.parts.now c.args.flat.now c.add_sides.new.flat c.add_sides.result same c.add_sides.ensures.ok

pub add_sides-loop-part-preserved : goal.add_sides-loop-part-preserved
add_sides-loop-part-preserved t c =
    record {
      so_far = sides_more c.args.at.first c.args.positive c.args.joint c.args.parts.now c.loop-part.part-index c.part-item.result _ c.loop-part.flat c.add_form.new.flat
          c.loop-part-test.true c.part-item.is c.loop-part.invariant.so_far c.in_ok-add_form.ensures.ok;
      conditions = conditions_more c.args.at.leaves c.args.parts.now c.loop-part.part-index c.part-item.result c.loop-part-test.true c.part-item.is c.loop-part.invariant.conditions;
      front = begins_then c.args.flat.now c.loop-part.flat c.add_form.new.flat c.loop-part.invariant.front c.in_ok-add_form.ensures.front;
    }

pub gather-returns-then-not-is_leaf : goal.gather-returns-then-not-is_leaf
gather-returns-then-not-is_leaf t c old parts h =
    let side = normal_of c.args.at.first c.args.condition.now c.args.positive in
    let was : (c.args.flat.now ≡ old) × (c.in-Parts.parts ≡ parts) = subst (λ g. Gathers c.args.joint old c.args.flat.now g parts) c.in-Parts.is h in
    let none : c.in-Parts.parts ≡ [] = search rules in
    subst (λ ps. Gave c.args.joint old c.settled.new.flat c.settled.result ps)
    (ap (within (other c.args.joint)) (side_is c.args.at.first c.args.joint c.args.positive c.args.condition.now) ∙ ap (λ l. l ++ within (other c.args.joint) side) (sym none ∙ was.1))
    (c.settled.ensures old (within c.args.joint side) (c.len-start.ensures ∙ ap length was.0) (c.in_ok-add_form-in-Parts.ensures.ok ∙ ap (λ l. l ++ within c.args.joint side) was.0))

pub gather_sides-loop-part-preserved : goal.gather_sides-loop-part-preserved
gather_sides-loop-part-preserved t c =
    let so_far = c.loop-part.invariant.sides in
    record {
      sides = record {
        parts = so_far.parts ++ within (other c.args.joint) (normal_of c.args.at.first c.part-item.result c.args.positive);
        are = c.in_ok-sides.ensures c.args.flat.now so_far.parts so_far.are;
        all_are = sides_more c.args.at.first c.args.positive (other c.args.joint) c.args.parts.now c.loop-part.part-index c.part-item.result _ so_far.parts _
            c.loop-part-test.true c.part-item.is so_far.all_are refl;
      };
      conditions = conditions_more c.args.at.leaves c.args.parts.now c.loop-part.part-index c.part-item.result c.loop-part-test.true c.part-item.is c.loop-part.invariant.conditions;
    }
