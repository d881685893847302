-- Where the atoms of normal conditions pass a test, so do those of their clauses.
use Rattle.std.proofs.Common.{◌≡◌, Bool, true, ◌&&◌, ℕ, suc, ◌+◌, ◌<◌, ◌≤◌, ℤ, List, [], ◌∷◌, ◌++◌, map, length, length-append, Option, Some, None, refl, sym, ap, ◌∙◌, arith}
use Rattle.std.specs.List.{list_all}
use Rattle.std.proofs.lemmas.List.Folds.{list_all-append, list_all-map}
use Rattle.lucy_clauses.specs.declared.formulas.Clause.{Clause}
use Rattle.lucy_clauses.specs.declared.formulas.Range.{Range}
use Rattle.lucy_clauses.specs.declared.formulas.Formula.{Formula}
use Rattle.lucy_clauses.specs.Sums.{Form}
use Rattle.lucy_normal.specs.declared.normals.Normal.{Normal}
use Rattle.lucy_normal.specs.declared.normals.Normal.TheOpen.{Normal-F}
use Rattle.lucy_normal.specs.Shapes.{Shape, shape, shape_step, added, guard, is_on, is_off, lits, lit_then, named, below, below_then, bits, bit_then, binaries, all_placed, any_placed, all_each, put_all, all_atoms, each_atom_of_all}
use Rattle.lucy_normal.proofs.Induction.{Each, shapes}
use Rattle.lucy_normal.proofs.Tests.{two, both, and_true}
use Rattle.lucy_normal.proofs.Soundness.{named_keeps, some_is, none_is}
use Rattle.lucy_normal.proofs.Growing.{Grows, all_grows, any_grows, below_grows, named_grows}

-- the literals of names below n pass the test
pub record Literals (test : Form → Bool) (n : ℕ) : Type 0 where
  pub on : (y : ℕ) → y < n → test (is_on y) ≡ true
  pub off : (y : ℕ) → y < n → test (is_off y) ≡ true

abbrev pub NameBelow : ℕ → Option ℕ → Type 0
NameBelow n None = Unit {0}
NameBelow n (Some y) = y < n

pub record Keeps (test : Form → Bool) (n : ℕ) (s : Shape) : Type 0 where
  pub keeps : (g : Option ℕ) (f : Formula) → s.each test ≡ true → NameBelow n g → all_atoms test f ≡ true → length (s.place g f).ranges ≤ n → all_atoms test (s.place g f) ≡ true
  pub lone : (t : Form) → s.atom ≡ Some t → s.each test ≡ test t
  pub grows : Grows [] s

each_grows : (test : Form → Bool) (n : ℕ) (ss : List Shape) → Each (Keeps test n) ss → Each (Grows []) ss
each_grows test n [] e = tt
each_grows test n (s ∷ ss) e = (e.0.grows, each_grows test n ss e.1)

pub longer : (rs qs more : List Range) → rs ≡ qs ++ more → length qs ≤ length rs
longer rs qs more e = rw e (omega (arith, length-append qs more))

all_keeps : (test : Form → Bool) (n : ℕ) (ss : List Shape) → Each (Keeps test n) ss → (g : Option ℕ) (f : Formula) → all_each ss test ≡ true → NameBelow n g → all_atoms test f ≡ true →
    length (all_placed ss g f).ranges ≤ n → all_atoms test (all_placed ss g f) ≡ true
all_keeps test n [] e g f h k a l = a
all_keeps test n (s ∷ ss) e g f h k a l =
    let t = two (s.each test) (all_each ss test) h in
    let more = longer (all_placed ss g (s.place g f)).ranges (s.place g f).ranges _ (all_grows [] ss (each_grows test n ss e.1) g (s.place g f)) in
    all_keeps test n ss e.1 g (s.place g f) t.1 k (e.0.keeps g f t.0 k a (omega (arith, more, l))) l

added_keeps : (test : Form → Bool) (atoms : List Form) (f : Formula) → all_atoms test f ≡ true → list_all test atoms ≡ true → all_atoms test (added atoms f) ≡ true
added_keeps test atoms f h k =
    list_all-append (λ (c : Clause). list_all test c.atoms) f.clauses (record { atoms = atoms } ∷ [])
    ∙ both (all_atoms test f) (list_all test atoms && true) h (and_true (list_all test atoms) ∙ k)

guard_passes : (test : Form → Bool) (n : ℕ) (g : Option ℕ) → Literals test n → NameBelow n g → list_all test (guard g) ≡ true
guard_passes test n None lit k = refl
guard_passes test n (Some y) lit k = and_true (test (is_off y)) ∙ lit.off y k

-- how many names the parts need
abbrev count : List Shape → ℕ
count ss = length (bits ss [])

abbrev count_then : Option Form → Bool → List Shape → ℕ
count_then o b ss = length (bit_then o b (bits ss []))

lits_one : (test : Form → Bool) (n : ℕ) (s : Shape) (ss : List Shape) → Literals test n → Keeps test n s → s.each test ≡ true → ((y : ℕ) → y + count ss ≤ n → list_all test (lits ss y) ≡ true) →
    (o : Option Form) → s.atom ≡ o → (y : ℕ) → y + count_then o (s.truth []) ss ≤ n → list_all test (lit_then o y (lits ss)) ≡ true
lits_one test n s ss lit e h rest (Some t) at y k = both (test t) (list_all test (lits ss y)) (sym (e.lone t at) ∙ h) (rest y k)
lits_one test n s ss lit e h rest None at y k =
    both (test (is_on y)) (list_all test (lits ss (y + 1))) (lit.on y (omega (arith, k))) (rest (y + 1) (omega (arith, k)))

lits_pass : (test : Form → Bool) (n : ℕ) (ss : List Shape) → Literals test n → Each (Keeps test n) ss → all_each ss test ≡ true → (y : ℕ) → y + count ss ≤ n → list_all test (lits ss y) ≡ true
lits_pass test n [] lit e h y k = refl
lits_pass test n (s ∷ ss) lit e h y k =
    let t = two (s.each test) (all_each ss test) h in
    lits_one test n s ss lit e.0 t.0 (lits_pass test n ss lit e.1 t.1) s.atom refl y k

below_one : (test : Form → Bool) (n : ℕ) (s : Shape) (ss : List Shape) → Keeps test n s → Each (Keeps test n) ss → s.each test ≡ true →
    ((y : ℕ) (f : Formula) → y + count ss ≤ n → all_atoms test f ≡ true → length (below ss y f).ranges ≤ n → all_atoms test (below ss y f) ≡ true) →
    (o : Option Form) → s.atom ≡ o → (y : ℕ) (f : Formula) → y + count_then o (s.truth []) ss ≤ n → all_atoms test f ≡ true → length (below_then o s.place y f (below ss)).ranges ≤ n → all_atoms test (below_then o s.place y f (below ss)) ≡ true
below_one test n s ss e es h rest (Some t) at y f k a l = rest y f k a l
below_one test n s ss e es h rest None at y f k a l =
    let more = longer (below ss (y + 1) (s.place (Some y) f)).ranges (s.place (Some y) f).ranges _ (below_grows [] ss (each_grows test n ss es) (y + 1) (s.place (Some y) f)) in
    rest (y + 1) (s.place (Some y) f) (omega (arith, k)) (e.keeps (Some y) f h (omega (arith, k)) a (omega (arith, more, l))) l

below_keeps : (test : Form → Bool) (n : ℕ) (ss : List Shape) → Each (Keeps test n) ss → all_each ss test ≡ true → (y : ℕ) (f : Formula) → y + count ss ≤ n → all_atoms test f ≡ true →
    length (below ss y f).ranges ≤ n → all_atoms test (below ss y f) ≡ true
below_keeps test n [] e h y f k a l = a
below_keeps test n (s ∷ ss) e h y f k a l =
    let t = two (s.each test) (all_each ss test) h in
    below_one test n s ss e.0 e.1 t.0 (below_keeps test n ss e.1 t.1) s.atom refl y f k a l

same_count : (rs qs : List Range) (xs : List ℤ) → rs ≡ qs ++ binaries xs → length rs ≡ length qs + length xs
same_count rs qs xs e = rw e (length-append qs (binaries xs) ∙ ap (λ (k : ℕ). length qs + k) (length_of xs))
  where
    length_of : (xs : List ℤ) → length (binaries xs) ≡ length xs
    length_of [] = refl
    length_of (x ∷ xs) = ap suc (length_of xs)

any_keeps : (test : Form → Bool) (n : ℕ) (ss : List Shape) → Literals test n → Each (Keeps test n) ss → (g : Option ℕ) (f : Formula) → all_each ss test ≡ true → NameBelow n g → all_atoms test f ≡ true →
    length (any_placed ss g f).ranges ≤ n → all_atoms test (any_placed ss g f) ≡ true
any_keeps test n ss lit e g f h k a l =
    let y = length f.ranges in
    let top = added (guard g ++ lits ss y) (named ss f) in
    let more = longer (below ss y top).ranges (named ss f).ranges _ (below_grows [] ss (each_grows test n ss e) y top) in
    let names = same_count (named ss f).ranges f.ranges (bits ss []) (named_grows [] ss f) in
    let few : y + count ss ≤ n = omega (arith, more, names, l) in
    let atoms = list_all-append test (guard g) (lits ss y) ∙ both (list_all test (guard g)) (list_all test (lits ss y)) (guard_passes test n g lit k) (lits_pass test n ss lit e h y few) in
    let clauses = ap (λ (cs : List Clause). list_all (λ (c : Clause). list_all test c.atoms) cs) (named_keeps ss f) ∙ a in
    below_keeps test n ss e h y top few (added_keeps test (guard g ++ lits ss y) (named ss f) clauses atoms) l

atom_keeps : (test : Form → Bool) (n : ℕ) → Literals test n → (t : Form) → Keeps test n (shape_step (Normal-F.Atom t))
atom_keeps test n lit t = record {
  keeps = λ g f h k a l. added_keeps test (guard g ++ t ∷ []) f a (list_all-append test (guard g) (t ∷ []) ∙ both (list_all test (guard g)) (test t && true) (guard_passes test n g lit k) (and_true (test t) ∙ h));
  lone = λ u at. ap test (some_is t u at);
  grows = record { is = λ g f. sym (nil f.ranges); plain = λ u at. refl };
}
  where
    nil : (rs : List Range) → rs ++ [] ≡ rs
    nil [] = refl
    nil (r ∷ rs) = ap (λ (qs : List Range). r ∷ qs) (nil rs)

keeping : (test : Form → Bool) (n : ℕ) → Literals test n → (p : Normal) → Keeps test n (shape p)
keeping test n lit = shapes (Keeps test n) (atom_keeps test n lit)
    (λ ss e. record { keeps = all_keeps test n ss e; lone = λ t at. none_is t at; grows = record { is = all_grows [] ss (each_grows test n ss e); plain = λ t at. none_is t at } })
    (λ ss e. record { keeps = any_keeps test n ss lit e; lone = λ t at. none_is t at; grows = record { is = any_grows [] ss (each_grows test n ss e); plain = λ t at. none_is t at } })

each_keeping : (test : Form → Bool) (n : ℕ) → Literals test n → (ps : List Normal) → Each (Keeps test n) (map shape ps)
each_keeping test n lit [] = tt
each_keeping test n lit (p ∷ ps) = (keeping test n lit p, each_keeping test n lit ps)

pub put_all_keeps : (test : Form → Bool) (n : ℕ) (ps : List Normal) (f : Formula) → Literals test n → each_atom_of_all test ps ≡ true → all_atoms test f ≡ true → length (put_all ps f).ranges ≤ n → all_atoms test (put_all ps f) ≡ true
put_all_keeps test n ps f lit h a l =
    all_keeps test n (map shape ps) (each_keeping test n lit ps) None f (list_all-map (λ (s : Shape). s.each test) shape ps ∙ h) tt a l

-- ---- a weaker test

pub record Weaker (strong weak : Form → Bool) : Type 0 where
  pub is : (t : Form) → strong t ≡ true → weak t ≡ true

pub forms_weaker : (strong weak : Form → Bool) → Weaker strong weak → (ts : List Form) → list_all strong ts ≡ true → list_all weak ts ≡ true
forms_weaker strong weak w [] h = refl
forms_weaker strong weak w (t ∷ ts) h =
    let u = two (strong t) (list_all strong ts) h in
    both (weak t) (list_all weak ts) (w.is t u.0) (forms_weaker strong weak w ts u.1)

clauses_weaker : (strong weak : Form → Bool) → Weaker strong weak → (cs : List Clause) → list_all (λ (c : Clause). list_all strong c.atoms) cs ≡ true → list_all (λ (c : Clause). list_all weak c.atoms) cs ≡ true
clauses_weaker strong weak w [] h = refl
clauses_weaker strong weak w (c ∷ cs) h =
    let u = two (list_all strong c.atoms) (list_all (λ (c : Clause). list_all strong c.atoms) cs) h in
    both (list_all weak c.atoms) (list_all (λ (c : Clause). list_all weak c.atoms) cs) (forms_weaker strong weak w c.atoms u.0) (clauses_weaker strong weak w cs u.1)

pub atoms_weaker : (strong weak : Form → Bool) → Weaker strong weak → (f : Formula) → all_atoms strong f ≡ true → all_atoms weak f ≡ true
atoms_weaker strong weak w f = clauses_weaker strong weak w f.clauses

record Weakens (strong weak : Form → Bool) (s : Shape) : Type 0 where
  pub is : s.each strong ≡ true → s.each weak ≡ true

all_weaker : (strong weak : Form → Bool) (ss : List Shape) → Each (Weakens strong weak) ss → all_each ss strong ≡ true → all_each ss weak ≡ true
all_weaker strong weak [] e h = refl
all_weaker strong weak (s ∷ ss) e h =
    let u = two (s.each strong) (all_each ss strong) h in
    both (s.each weak) (all_each ss weak) (e.0.is u.0) (all_weaker strong weak ss e.1 u.1)

weakens : (strong weak : Form → Bool) → Weaker strong weak → (p : Normal) → Weakens strong weak (shape p)
weakens strong weak w = shapes (Weakens strong weak) (λ t. record { is = w.is t }) (λ ss e. record { is = all_weaker strong weak ss e }) (λ ss e. record { is = all_weaker strong weak ss e })

pub normals_weaker : (strong weak : Form → Bool) → Weaker strong weak → (ps : List Normal) → each_atom_of_all strong ps ≡ true → each_atom_of_all weak ps ≡ true
normals_weaker strong weak w [] h = refl
normals_weaker strong weak w (p ∷ ps) h =
    let u = two ((shape p).each strong) (each_atom_of_all strong ps) h in
    both ((shape p).each weak) (each_atom_of_all weak ps) ((weakens strong weak w p).is u.0) (normals_weaker strong weak w ps u.1)
