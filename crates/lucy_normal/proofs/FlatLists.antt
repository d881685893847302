-- Flattened lists hold where the lists do.
use Rattle.std.proofs.Common.{◌≡◌, Bool, ◌||◌, ◌&&◌, ℤ, List, [], ◌∷◌, map, refl, sym, ap, ◌∙◌}
use Rattle.std.specs.List.{list_any}
use Rattle.std.proofs.lemmas.List.Folds.{list_all-append, list_any-append, list_all-map}
use Rattle.lucy_clauses.specs.Sums.{Form, is_true}
use Rattle.lucy_normal.specs.declared.normals.Normal.{Normal, All, Any}
use Rattle.lucy_normal.specs.declared.normals.Normal.TheVariants.{Atom as Lone, rolls-All, rolls-Any, rolls-Atom}
use Rattle.lucy_normal.specs.declared.normals.Normal.TheViews.{roll-Normal, out-Normal, roll-out-Normal}
use Rattle.lucy_normal.specs.declared.normals.Normal.TheOpen.{Normal-F}
use Rattle.lucy_normal.specs.declared.normals.Normal.TheFolds.{fold-roll-Normal}
use Rattle.lucy_normal.specs.Flat.{within_all, within_any, flat_all, flat_any, one_all, one_any, all_of, any_of}
use Rattle.lucy_normal.specs.Shapes.{Shape, shape, shape_step, true_at, all_true_at, any_true_at}
use Rattle.lucy_normal.specs.Laws.{FlatMeans}
use Rattle.lucy_normal.proofs.Tests.{and_true, or_false}

pub list_any-map : {X Y : Type 0} (p : X → Bool) (h : Y → X) (ys : List Y) → list_any p (map h ys) ≡ list_any (λ y. p (h y)) ys
list_any-map p h [] = refl
list_any-map p h (y ∷ ys) = ap (λ b. p (h y) || b) (list_any-map p h ys)

roll_all : (b : List ℤ) (ps : List Normal) → true_at (roll-Normal (Normal-F.All ps)) b ≡ all_true_at b ps
roll_all b ps = ap (λ (s : Shape). s.truth b) (fold-roll-Normal Shape shape_step (Normal-F.All ps)) ∙ list_all-map (λ (s : Shape). s.truth b) shape ps

roll_any : (b : List ℤ) (ps : List Normal) → true_at (roll-Normal (Normal-F.Any ps)) b ≡ any_true_at b ps
roll_any b ps = ap (λ (s : Shape). s.truth b) (fold-roll-Normal Shape shape_step (Normal-F.Any ps)) ∙ list_any-map (λ (s : Shape). s.truth b) shape ps

pub true_all : (b : List ℤ) (ps : List Normal) → true_at (All ps) b ≡ all_true_at b ps
true_all b ps = ap (λ p. true_at p b) (sym (rolls-All ps)) ∙ roll_all b ps

pub true_any : (b : List ℤ) (ps : List Normal) → true_at (Any ps) b ≡ any_true_at b ps
true_any b ps = ap (λ p. true_at p b) (sym (rolls-Any ps)) ∙ roll_any b ps

spread_all : (b : List ℤ) (p : Normal) (x : Normal-F Normal) → roll-Normal x ≡ p → all_true_at b (within_all p x) ≡ true_at p b
spread_all b p (Normal-F.Atom t) e = and_true (true_at p b)
spread_all b p (Normal-F.All ps) e = sym (roll_all b ps) ∙ ap (λ p. true_at p b) e
spread_all b p (Normal-F.Any ps) e = and_true (true_at p b)

spread_any : (b : List ℤ) (p : Normal) (x : Normal-F Normal) → roll-Normal x ≡ p → any_true_at b (within_any p x) ≡ true_at p b
spread_any b p (Normal-F.Atom t) e = or_false (true_at p b)
spread_any b p (Normal-F.All ps) e = or_false (true_at p b)
spread_any b p (Normal-F.Any ps) e = sym (roll_any b ps) ∙ ap (λ p. true_at p b) e

flat_all_is : (b : List ℤ) (ps : List Normal) → all_true_at b (flat_all ps) ≡ all_true_at b ps
flat_all_is b [] = refl
flat_all_is b (p ∷ ps) =
    list_all-append (λ (p : Normal). true_at p b) (within_all p (out-Normal p)) (flat_all ps)
    ∙ ap (λ x. x && all_true_at b (flat_all ps)) (spread_all b p (out-Normal p) (roll-out-Normal p)) ∙ ap (λ x. true_at p b && x) (flat_all_is b ps)

flat_any_is : (b : List ℤ) (ps : List Normal) → any_true_at b (flat_any ps) ≡ any_true_at b ps
flat_any_is b [] = refl
flat_any_is b (p ∷ ps) =
    list_any-append (λ (p : Normal). true_at p b) (within_any p (out-Normal p)) (flat_any ps)
    ∙ ap (λ x. x || any_true_at b (flat_any ps)) (spread_any b p (out-Normal p) (roll-out-Normal p)) ∙ ap (λ x. true_at p b || x) (flat_any_is b ps)

one_all_is : (b : List ℤ) (ps : List Normal) → true_at (one_all ps) b ≡ all_true_at b ps
one_all_is b [] = true_all b []
one_all_is b (p ∷ []) = sym (and_true (true_at p b))
one_all_is b (p ∷ q ∷ ps) = true_all b (p ∷ q ∷ ps)

one_any_is : (b : List ℤ) (ps : List Normal) → true_at (one_any ps) b ≡ any_true_at b ps
one_any_is b [] = true_any b []
one_any_is b (p ∷ []) = sym (or_false (true_at p b))
one_any_is b (p ∷ q ∷ ps) = true_any b (p ∷ q ∷ ps)

pub all_of_is : (b : List ℤ) (ps : List Normal) → true_at (all_of ps) b ≡ all_true_at b ps
all_of_is b ps = one_all_is b (flat_all ps) ∙ flat_all_is b ps

pub any_of_is : (b : List ℤ) (ps : List Normal) → true_at (any_of ps) b ≡ any_true_at b ps
any_of_is b ps = one_any_is b (flat_any ps) ∙ flat_any_is b ps

pub true_lone : (b : List ℤ) (t : Form) → true_at (Lone t) b ≡ is_true b t
true_lone b t = ap (λ p. true_at p b) (sym (rolls-Atom t)) ∙ ap (λ (s : Shape). s.truth b) (fold-roll-Normal Shape shape_step (Normal-F.Atom t))

pub flat_means : FlatMeans
flat_means ps a = (all_of_is a ps, any_of_is a ps)
