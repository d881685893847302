-- Each atom of a normal condition passes a test, by its form.
use Rattle.std.proofs.Common.{◌≡◌, Bool, ◌&&◌, List, [], ◌∷◌, sym, ap, ◌∙◌, refl}
use Rattle.std.proofs.lemmas.List.Folds.{list_all-append, list_all-map}
use Rattle.lucy_clauses.specs.Sums.{Form}
use Rattle.lucy_normal.specs.declared.normals.Normal.{Normal, All, Any}
use Rattle.lucy_normal.specs.declared.normals.Normal.TheVariants.{Atom as Lone, rolls-All, rolls-Any, rolls-Atom}
use Rattle.lucy_normal.specs.declared.normals.Normal.TheViews.{roll-Normal, out-Normal, roll-out-Normal}
use Rattle.lucy_normal.specs.declared.normals.Normal.TheOpen.{Normal-F}
use Rattle.lucy_normal.specs.declared.normals.Normal.TheFolds.{fold-roll-Normal}
use Rattle.lucy_normal.specs.Flat.{within_all, within_any, flat_all, flat_any, one_all, one_any, all_of, any_of}
use Rattle.lucy_normal.specs.Shapes.{Shape, shape, shape_step, each_atom, each_atom_of_all}
use Rattle.lucy_normal.proofs.Tests.{and_true}

roll_all : (test : Form → Bool) (ps : List Normal) → each_atom test (roll-Normal (Normal-F.All ps)) ≡ each_atom_of_all test ps
roll_all test ps = ap (λ (s : Shape). s.each test) (fold-roll-Normal Shape shape_step (Normal-F.All ps)) ∙ list_all-map (λ (s : Shape). s.each test) shape ps

roll_any : (test : Form → Bool) (ps : List Normal) → each_atom test (roll-Normal (Normal-F.Any ps)) ≡ each_atom_of_all test ps
roll_any test ps = ap (λ (s : Shape). s.each test) (fold-roll-Normal Shape shape_step (Normal-F.Any ps)) ∙ list_all-map (λ (s : Shape). s.each test) shape ps

pub each_all : (test : Form → Bool) (ps : List Normal) → each_atom test (All ps) ≡ each_atom_of_all test ps
each_all test ps = ap (each_atom test) (sym (rolls-All ps)) ∙ roll_all test ps

pub each_any : (test : Form → Bool) (ps : List Normal) → each_atom test (Any ps) ≡ each_atom_of_all test ps
each_any test ps = ap (each_atom test) (sym (rolls-Any ps)) ∙ roll_any test ps

pub each_lone : (test : Form → Bool) (t : Form) → each_atom test (Lone t) ≡ test t
each_lone test t = ap (each_atom test) (sym (rolls-Atom t)) ∙ ap (λ (s : Shape). s.each test) (fold-roll-Normal Shape shape_step (Normal-F.Atom t))

spread_all : (test : Form → Bool) (p : Normal) (x : Normal-F Normal) → roll-Normal x ≡ p → each_atom_of_all test (within_all p x) ≡ each_atom test p
spread_all test p (Normal-F.Atom t) e = and_true (each_atom test p)
spread_all test p (Normal-F.All ps) e = sym (roll_all test ps) ∙ ap (each_atom test) e
spread_all test p (Normal-F.Any ps) e = and_true (each_atom test p)

spread_any : (test : Form → Bool) (p : Normal) (x : Normal-F Normal) → roll-Normal x ≡ p → each_atom_of_all test (within_any p x) ≡ each_atom test p
spread_any test p (Normal-F.Atom t) e = and_true (each_atom test p)
spread_any test p (Normal-F.All ps) e = and_true (each_atom test p)
spread_any test p (Normal-F.Any ps) e = sym (roll_any test ps) ∙ ap (each_atom test) e

flat_all_is : (test : Form → Bool) (ps : List Normal) → each_atom_of_all test (flat_all ps) ≡ each_atom_of_all test ps
flat_all_is test [] = refl
flat_all_is test (p ∷ ps) =
    list_all-append (each_atom test) (within_all p (out-Normal p)) (flat_all ps)
    ∙ ap (λ x. x && each_atom_of_all test (flat_all ps)) (spread_all test p (out-Normal p) (roll-out-Normal p)) ∙ ap (λ x. each_atom test p && x) (flat_all_is test ps)

flat_any_is : (test : Form → Bool) (ps : List Normal) → each_atom_of_all test (flat_any ps) ≡ each_atom_of_all test ps
flat_any_is test [] = refl
flat_any_is test (p ∷ ps) =
    list_all-append (each_atom test) (within_any p (out-Normal p)) (flat_any ps)
    ∙ ap (λ x. x && each_atom_of_all test (flat_any ps)) (spread_any test p (out-Normal p) (roll-out-Normal p)) ∙ ap (λ x. each_atom test p && x) (flat_any_is test ps)

one_all_is : (test : Form → Bool) (ps : List Normal) → each_atom test (one_all ps) ≡ each_atom_of_all test ps
one_all_is test [] = each_all test []
one_all_is test (p ∷ []) = sym (and_true (each_atom test p))
one_all_is test (p ∷ q ∷ ps) = each_all test (p ∷ q ∷ ps)

one_any_is : (test : Form → Bool) (ps : List Normal) → each_atom test (one_any ps) ≡ each_atom_of_all test ps
one_any_is test [] = each_any test []
one_any_is test (p ∷ []) = sym (and_true (each_atom test p))
one_any_is test (p ∷ q ∷ ps) = each_any test (p ∷ q ∷ ps)

pub each_all_of : (test : Form → Bool) (ps : List Normal) → each_atom test (all_of ps) ≡ each_atom_of_all test ps
each_all_of test ps = one_all_is test (flat_all ps) ∙ flat_all_is test ps

pub each_any_of : (test : Form → Bool) (ps : List Normal) → each_atom test (any_of ps) ≡ each_atom_of_all test ps
each_any_of test ps = one_any_is test (flat_any ps) ∙ flat_any_is test ps
