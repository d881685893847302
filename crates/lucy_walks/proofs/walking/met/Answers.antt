use Rattle.std.proofs.Common.{sym, subst, ap, ◌∙◌}
use Rattle.std.specs.Prelude.{Result, Ok, Err, IfOk}
use Rattle.lucy_walks.specs.Sketches.{named, tree_of}
use Rattle.lucy_walks.specs.declared.sketches.Sketch.{Sketch}
use Rattle.lucy_walks.specs.Entries.{tree_in}
use Rattle.lucy_walks.specs.Laws.{Meets}
use Rattle.lucy_walks.proofs.NamingLemmas.{named_meets}
use Rattle.lucy_walks.proofs.walking.met.Goals as goal

if_ok : {A E : Type 0} (r : Result A E) (P Q : A → Type 0) → IfOk r P → ((x : A) → P x → Q x) → IfOk r Q
if_ok (Ok x) P Q h f = f x h
if_ok (Err e) P Q h f = h

pub returns-clause-meets : goal.returns-clause-meets
returns-clause-meets c =
    let here = named_meets c.args.plan.now c.args.goal.now (tree_in c.args.entry.now) c.requires.entry.reached (sym c.requires.entry.state_is ∙ c.requires.goal) c.requires.entry.few in
    if_ok c.name.result _ _ c.name.ensures.tree (λ e same. subst (Meets c.args.plan.now c.args.goal.now) (sym (same ∙ ap (λ (s : Sketch). named (tree_of s)) c.deref.ensures)) here)
