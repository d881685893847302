-- Where the clauses of a normal condition are true, so is the condition.
use Rattle.std.proofs.Common.{◌≡◌, Bool, true, false, ◌||◌, ◌&&◌, ℕ, ℤ, ◌+◌, List, [], ◌∷◌, ◌++◌, length, map, Option, Some, None, refl, sym, ap, ◌∙◌}
use Rattle.std.specs.List.{list_all, list_any}
use Rattle.std.proofs.lemmas.List.Folds.{list_all-append, list_any-append}
use Rattle.lucy_clauses.specs.declared.formulas.Formula.{Formula}
use Rattle.lucy_clauses.specs.Sums.{Form, is_true}
use Rattle.lucy_clauses.specs.Formulas.{clause_true}
use Rattle.lucy_normal.specs.declared.normals.Normal.{Normal}
use Rattle.lucy_normal.specs.declared.normals.Normal.TheOpen.{Normal-F}
use Rattle.lucy_normal.specs.Shapes.{Shape, shape, shape_step, added, guard, is_on, is_off, lits, lit_then, named, name_one, below, below_then, all_placed, any_placed, all_truth, any_truth, put_all}
use Rattle.lucy_normal.proofs.Induction.{Each, shapes}
use Rattle.lucy_normal.proofs.Tests.{or_true, or_and, or_both, or_in, left_out, on_off}

-- each clause is true
abbrev pub Stand : List ℤ → Formula → Type 0
Stand b f = list_all (clause_true b) f.clauses ≡ true

-- an atom of the guard is
abbrev pub guarded : List ℤ → Option ℕ → Bool
guarded b g = list_any (is_true b) (guard g)

pub record Sound (b : List ℤ) (s : Shape) : Type 0 where
  pub is : (g : Option ℕ) (f : Formula) → Stand b (s.place g f) → Stand b f × ((guarded b g || s.truth b) ≡ true)
  pub lone : (t : Form) → s.atom ≡ Some t → is_true b t ≡ s.truth b

two : (x y : Bool) → (x && (y && true)) ≡ true → (x ≡ true) × (y ≡ true)
two true true h = (refl, refl)
two true false h = (refl, h)
two false y h = (h, absurd (cc))

pub added_stands : (b : List ℤ) (atoms : List Form) (f : Formula) → list_all (clause_true b) (added atoms f).clauses ≡ (list_all (clause_true b) f.clauses && (list_any (is_true b) atoms && true))
added_stands b atoms f = list_all-append (clause_true b) f.clauses (record { atoms = atoms } ∷ [])

added_sound : (b : List ℤ) (g : Option ℕ) (atoms : List Form) (f : Formula) → Stand b (added (guard g ++ atoms) f) → Stand b f × ((guarded b g || list_any (is_true b) atoms) ≡ true)
added_sound b g atoms f h =
    let both = two _ _ (sym (added_stands b (guard g ++ atoms) f) ∙ h) in
    (both.0, sym (list_any-append (is_true b) (guard g) atoms) ∙ both.1)

all_sound : (b : List ℤ) (ss : List Shape) → Each (Sound b) ss → (g : Option ℕ) (f : Formula) → Stand b (all_placed ss g f) → Stand b f × ((guarded b g || all_truth ss b) ≡ true)
all_sound b [] e g f h = (h, or_true (guarded b g))
all_sound b (s ∷ ss) e g f h =
    let rest = all_sound b ss e.1 g (s.place g f) h in
    let this = e.0.is g f rest.0 in
    (this.0, or_and (guarded b g) (s.truth b) (all_truth ss b) this.1 rest.1)

pub named_keeps : (ss : List Shape) (f : Formula) → (named ss f).clauses ≡ f.clauses
named_keeps [] f = refl
named_keeps (s ∷ ss) f = named_keeps ss (name_one s.atom f) ∙ one s.atom
  where
    one : (o : Option Form) → (name_one o f).clauses ≡ f.clauses
    one (Some t) = refl
    one None = refl

-- what stands below names: each that is on has its part
abbrev pub Below : List ℤ → Formula → List Form → Bool → Type 0
Below b f atoms any = Stand b f × (list_any (is_true b) atoms ≡ true → any ≡ true)

below_one : (b : List ℤ) (s : Shape) (ss : List Shape) → Sound b s → ((y : ℕ) (f : Formula) → Stand b (below ss y f) → Below b f (lits ss y) (any_truth ss b)) →
    (o : Option Form) → s.atom ≡ o → (y : ℕ) (f : Formula) → Stand b (below_then o s.place y f (below ss)) → Below b f (lit_then o y (lits ss)) (s.truth b || any_truth ss b)
below_one b s ss e rest (Some t) at y f h =
    let more = rest y f h in
    (more.0, or_both (is_true b t) (s.truth b) (list_any (is_true b) (lits ss y)) (any_truth ss b) (λ p. sym (e.lone t at) ∙ p) more.1)
below_one b s ss e rest None at y f h =
    let more = rest (y + 1) (s.place (Some y) f) h in
    let this = e.is (Some y) f more.0 in
    (this.0, or_both (is_true b (is_on y)) (s.truth b) (list_any (is_true b) (lits ss (y + 1))) (any_truth ss b) (left_out (is_true b (is_on y)) (is_true b (is_off y)) (s.truth b) (on_off b y) this.1) more.1)

below_sound : (b : List ℤ) (ss : List Shape) → Each (Sound b) ss → (y : ℕ) (f : Formula) → Stand b (below ss y f) → Below b f (lits ss y) (any_truth ss b)
below_sound b [] e y f h = (h, λ k. k)
below_sound b (s ∷ ss) e y f h = below_one b s ss e.0 (below_sound b ss e.1) s.atom refl y f h

any_sound : (b : List ℤ) (ss : List Shape) → Each (Sound b) ss → (g : Option ℕ) (f : Formula) → Stand b (any_placed ss g f) → Stand b f × ((guarded b g || any_truth ss b) ≡ true)
any_sound b ss e g f h =
    let under = below_sound b ss e (length f.ranges) (added (guard g ++ lits ss (length f.ranges)) (named ss f)) h in
    let top = added_sound b g (lits ss (length f.ranges)) (named ss f) under.0 in
    (ap (λ cs. list_all (clause_true b) cs) (sym (named_keeps ss f)) ∙ top.0, or_in (guarded b g) (list_any (is_true b) (lits ss (length f.ranges))) (any_truth ss b) under.1 top.1)

pub some_is : (t u : Form) → Some t ≡ Some u → t ≡ u
some_is t u e = cc

pub none_is : {X : Type 0} (t : Form) → (λ (o : Option Form). o ≡ Some t) None → X
none_is t e = absurd (cc)

atom_sound : (b : List ℤ) (t : Form) → Sound b (shape_step (Normal-F.Atom t))
atom_sound b t = record {
  is = λ g f h. (let top = added_sound b g (t ∷ []) f h in (top.0, or_in (guarded b g) (is_true b t || false) (is_true b t) (alone (is_true b t)) top.1));
  lone = λ u at. ap (is_true b) (sym (some_is t u at));
}
  where
    alone : (x : Bool) → (x || false) ≡ true → x ≡ true
    alone true k = refl
    alone false k = k

pub sound : (b : List ℤ) (p : Normal) → Sound b (shape p)
sound b = shapes (Sound b) (atom_sound b)
    (λ ss e. record { is = all_sound b ss e; lone = λ t at. none_is t at })
    (λ ss e. record { is = any_sound b ss e; lone = λ t at. none_is t at })

-- of several, each part does
pub each_sound : (b : List ℤ) (ps : List Normal) → Each (Sound b) (map shape ps)
each_sound b [] = tt
each_sound b (p ∷ ps) = (sound b p, each_sound b ps)

pub put_all_says : (ps : List Normal) (f : Formula) (b : List ℤ) → Stand b (put_all ps f) → Stand b f × (all_truth (map shape ps) b ≡ true)
put_all_says ps f b h = all_sound b (map shape ps) (each_sound b ps) None f h
