-- What holds of each shape made from parts of which it holds.
use Rattle.std.proofs.Common.{◌≡◌, List, [], ◌∷◌, map, sym}
use Rattle.std.proofs.Math.Path.{subst}
use Rattle.lucy_clauses.specs.Sums.{Form}
use Rattle.lucy_normal.specs.declared.normals.Normal.{Normal}
use Rattle.lucy_normal.specs.declared.normals.Normal.TheOpen.{Normal-F}
use Rattle.lucy_normal.specs.declared.normals.Normal.TheFolds.{fold-roll-Normal, ind-Normal, map-Normal}
use Rattle.lucy_normal.specs.Shapes.{Shape, shape, shape_step}

abbrev pub Each : {X : Type 0} → (X → Type 0) → List X → Type 0
Each P [] = Unit {0}
Each P (x ∷ xs) = P x × Each P xs

each_of : (Q : Shape → Type 0) (ys : List ((p : Normal) × Q (shape p))) → Each Q (map shape (map (λ (e : (p : Normal) × Q (shape p)). e.0) ys))
each_of Q [] = tt
each_of Q (y ∷ ys) = (y.1, each_of Q ys)

pub shapes : (Q : Shape → Type 0) → ((t : Form) → Q (shape_step (Normal-F.Atom t))) → ((ss : List Shape) → Each Q ss → Q (shape_step (Normal-F.All ss))) → ((ss : List Shape) → Each Q ss → Q (shape_step (Normal-F.Any ss))) → (p : Normal) → Q (shape p)
shapes Q one all any = ind-Normal (λ (p : Normal). Q (shape p)) (λ x y e. subst Q (sym (fold-roll-Normal Shape shape_step x)) (at x y e))
  where
    at : (x : Normal-F Normal) (y : Normal-F ((p : Normal) × Q (shape p))) → map-Normal ((p : Normal) × Q (shape p)) Normal (λ e. e.0) y ≡ x → Q (shape_step (map-Normal Normal Shape shape x))
    at x y e = subst (λ (z : Normal-F Normal). Q (shape_step (map-Normal Normal Shape shape z))) e (made y)
      where
        made : (y : Normal-F ((p : Normal) × Q (shape p))) → Q (shape_step (map-Normal Normal Shape shape (map-Normal ((p : Normal) × Q (shape p)) Normal (λ e. e.0) y)))
        made (Normal-F.Atom t) = one t
        made (Normal-F.All ys) = all (map shape (map (λ (e : (p : Normal) × Q (shape p)). e.0) ys)) (each_of Q ys)
        made (Normal-F.Any ys) = any (map shape (map (λ (e : (p : Normal) × Q (shape p)). e.0) ys)) (each_of Q ys)
