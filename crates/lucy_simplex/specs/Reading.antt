-- Lines of fractions as equations of integers.
use Rattle.std.specs.Prelude.{◌≡◌, ℕ, ◌<◌, List, [], ◌∷◌, ◌++◌}
use Rattle.lucy_simplex.specs.declared.lines.Line.{Line}
use Rattle.lucy_simplex.specs.Tableaus.{Equation, IsTableau}
use Rattle.lucy_simplex.specs.Steps.{AreNumbers}

-- a line stands for an equation: its fractions are the numbers over `below`
pub record Reads (q : Equation) (l : Line) : Type 0 where
  pub positive : 0 < q.below
  pub basic_is : l.basic ≡ q.basic
  pub numbers_are : AreNumbers q.below l.numbers.items q.numbers

abbrev pub AreRead : List Equation → List Line → Type 0
AreRead [] [] = Unit {0}
AreRead [] (l ∷ ls) = ⊥
AreRead (q ∷ qs) [] = ⊥
AreRead (q ∷ qs) (l ∷ ls) = Reads q l × AreRead qs ls

-- lines that stand for a tableau
pub record HasShape (n : ℕ) (ls : List Line) : Type 0 where
  pub qs : List Equation
  pub read : AreRead qs ls
  pub tableau : IsTableau n qs

-- lines with those of equations behind them
abbrev pub AppendsLines : List Line → List Equation → List Line → Type 0
AppendsLines old qs new = (ps : List Equation) → AreRead ps old → AreRead (ps ++ qs) new
