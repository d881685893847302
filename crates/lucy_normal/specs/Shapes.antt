-- What a normal condition says, and the clauses that say it.
use Rattle.std.specs.Prelude.{map, ◌≡◌, ℕ, nat_le, ◌^◌, ◌&&◌, unsigned_abs, Bool, true, false, ℤ, pos, ◌+◌, List, [], ◌∷◌, ◌++◌, length, Option, Some, None}
use Rattle.std.specs.List.{list_all, list_any}
use Rattle.lucy_clauses.specs.declared.formulas.Clause.{Clause}
use Rattle.lucy_clauses.specs.declared.formulas.Range.{Range}
use Rattle.lucy_clauses.specs.declared.formulas.Formula.{Formula}
use Rattle.lucy_clauses.specs.Sums.{Form, is_true}
use Rattle.lucy_clauses.specs.Parts.{total_size}
use Rattle.lucy_clauses.specs.Formulas.{names_below, range_size}
use Rattle.lucy_normal.specs.declared.normals.Normal.{Normal}
use Rattle.lucy_normal.specs.declared.normals.Normal.TheOpen.{Normal-F}
use Rattle.lucy_normal.specs.declared.normals.Normal.TheFolds.{fold-Normal}
use Rattle.lucy_clauses.specs.Bounds.{at_most, at_least}

-- the variable y is 1, and it is 0
abbrev pub is_on : ℕ → Form
is_on y = at_least y (pos 1)

abbrev pub is_off : ℕ → Form
is_off y = at_most y (pos 0)

-- a clause more
abbrev pub added : List Form → Formula → Formula
added atoms f = record { ranges = f.ranges; clauses = f.clauses ++ record { atoms = atoms } ∷ [] }

-- the range of a fresh variable
abbrev pub binary : Range
binary = record { lo = pos 0; hi = pos 1 }

-- a fresh variable more
abbrev pub widened : Formula → Formula
widened f = record { ranges = f.ranges ++ binary ∷ []; clauses = f.clauses }

-- what stands before the atoms of each clause of a part: under the name y, that y is 0
abbrev pub guard : Option ℕ → List Form
guard None = []
guard (Some y) = is_off y ∷ []

-- what is known of a normal condition when those around it are placed
pub record Shape : Type 0 where
  -- the atom that it is, if it is one
  pub atom : Option Form
  -- each atom in it passes a test
  pub each : (Form → Bool) → Bool
  -- it holds in an assignment
  pub truth : List ℤ → Bool
  -- the numbers of its fresh variables, in their order, where the others have these numbers
  pub fresh : List ℤ → List ℤ
  -- the formula with its clauses behind, under a name or under none
  pub place : Option ℕ → Formula → Formula

-- ---- the parts of an All and of an Any

abbrev pub all_each : List Shape → (Form → Bool) → Bool
all_each ss test = list_all (λ (s : Shape). s.each test) ss

abbrev pub all_truth : List Shape → List ℤ → Bool
all_truth ss b = list_all (λ (s : Shape). s.truth b) ss

abbrev pub any_truth : List Shape → List ℤ → Bool
any_truth ss b = list_any (λ (s : Shape). s.truth b) ss

-- each part in order
abbrev pub all_placed : List Shape → Option ℕ → Formula → Formula
all_placed [] g f = f
all_placed (s ∷ ss) g f = all_placed ss g (s.place g f)

-- a literal: the atom, or that the name y of the part is 1
abbrev pub lit_of : Option Form → ℕ → Form
lit_of (Some t) y = t
lit_of None y = is_on y

-- the next free name
abbrev pub after : Option Form → ℕ → ℕ
after (Some t) y = y
after None y = y + 1

abbrev pub lit_then : Option Form → ℕ → (ℕ → List Form) → List Form
lit_then o y rest = lit_of o y ∷ rest (after o y)

-- the literals of the parts, where the first name is y
abbrev pub lits : List Shape → ℕ → List Form
lits [] y = []
lits (s ∷ ss) y = lit_then s.atom y (lits ss)

-- a variable for each part that is no atom
abbrev pub name_one : Option Form → Formula → Formula
name_one (Some t) f = f
name_one None f = widened f

abbrev pub named : List Shape → Formula → Formula
named [] f = f
named (s ∷ ss) f = named ss (name_one s.atom f)

-- each part that is no atom under its name
abbrev pub under_one : Option Form → (Option ℕ → Formula → Formula) → ℕ → Formula → Formula
under_one (Some t) place y f = f
under_one None place y f = place (Some y) f

abbrev pub below_then : Option Form → (Option ℕ → Formula → Formula) → ℕ → Formula → (ℕ → Formula → Formula) → Formula
below_then o place y f rest = rest (after o y) (under_one o place y f)

abbrev pub below : List Shape → ℕ → Formula → Formula
below [] y f = f
below (s ∷ ss) y f = below_then s.atom s.place y f (below ss)

-- the clause of the literals, and then the named parts
abbrev pub any_placed : List Shape → Option ℕ → Formula → Formula
any_placed ss g f = below ss (length f.ranges) (added (guard g ++ lits ss (length f.ranges)) (named ss f))

-- ---- the numbers of the fresh variables: 1 exactly where the part holds

abbrev pub bit : Bool → ℤ
bit true = pos 1
bit false = pos 0

abbrev pub bit_then : Option Form → Bool → List ℤ → List ℤ
bit_then (Some t) b rest = rest
bit_then None b rest = bit b ∷ rest

abbrev pub bits : List Shape → List ℤ → List ℤ
bits [] b = []
bits (s ∷ ss) b = bit_then s.atom (s.truth b) (bits ss b)

abbrev pub freshes : List Shape → List ℤ → List ℤ
freshes [] b = []
freshes (s ∷ ss) b = s.fresh b ++ freshes ss b

-- ---- normal conditions

abbrev pub shape_step : Normal-F Shape → Shape
shape_step (Normal-F.Atom t) = record { atom = Some t; each = λ test. test t; truth = λ b. is_true b t; fresh = λ b. []; place = λ g f. added (guard g ++ t ∷ []) f }
shape_step (Normal-F.All ss) = record { atom = None; each = all_each ss; truth = all_truth ss; fresh = freshes ss; place = all_placed ss }
shape_step (Normal-F.Any ss) = record { atom = None; each = all_each ss; truth = any_truth ss; fresh = λ b. bits ss b ++ freshes ss b; place = any_placed ss }

abbrev pub shape : Normal → Shape
shape = fold-Normal Shape shape_step

-- a normal condition holds in an assignment
abbrev pub true_at : Normal → List ℤ → Bool
true_at p = (shape p).truth

-- each of several does
abbrev pub all_true_at : List ℤ → List Normal → Bool
all_true_at b ps = list_all (λ (p : Normal). true_at p b) ps

-- any of several does
abbrev pub any_true_at : List ℤ → List Normal → Bool
any_true_at b ps = list_any (λ (p : Normal). true_at p b) ps

-- the formula with the clauses of a normal condition behind its own
abbrev pub put : Normal → Formula → Formula
put p = (shape p).place None

-- the ranges of fresh variables with these numbers
abbrev pub binaries : List ℤ → List Range
binaries xs = map (λ (x : ℤ). binary) xs

-- the formula with the clauses of several behind its own, one after another
abbrev pub put_all : List Normal → Formula → Formula
put_all ps = all_placed (map shape ps) None

-- the numbers of the fresh variables of several
abbrev pub fresh_of_all : List Normal → List ℤ → List ℤ
fresh_of_all ps = freshes (map shape ps)

-- ---- what holds of each atom

-- each atom of a normal condition passes a test
abbrev pub each_atom : (Form → Bool) → Normal → Bool
each_atom test p = (shape p).each test

-- each atom of several does
abbrev pub each_atom_of_all : (Form → Bool) → List Normal → Bool
each_atom_of_all test ps = list_all (each_atom test) ps

-- each atom of a formula does
abbrev pub all_atoms : (Form → Bool) → Formula → Bool
all_atoms test f = list_all (λ (c : Clause). list_all test c.atoms) f.clauses

-- each variable is below n
abbrev pub is_over : ℕ → Form → Bool
is_over n t = names_below n t.parts

-- each variable of a formula has a range
abbrev pub IsFormed : Formula → Type 0
IsFormed f = all_atoms (is_over (length f.ranges)) f ≡ true

-- each variable is below n, and the numbers are far smaller than a narrow formula may have them
abbrev pub is_small : ℕ → Form → Bool
is_small n t = is_over n t && nat_le (unsigned_abs t.bound) (2 ^ 64) && nat_le (total_size t.parts) (2 ^ 27)

-- each range has bounds of 2^40 at the most
abbrev pub are_small_ranges : List Range → Bool
are_small_ranges rs = list_all (λ (r : Range). nat_le (range_size r) (2 ^ 40)) rs
