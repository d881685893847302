-- When two inequalities are the same.
use Rattle.std.specs.Prelude.{◌≡◌, Bool, true, false, ◌==◌, ◌&&◌, ◌↔◌, IsTrue, List, [], ◌∷◌}
use Rattle.std.specs.Ordering.{int_eq}
use Rattle.lucy_clauses.specs.declared.parts.Part.{Part}
use Rattle.lucy_clauses.specs.Sums.{Form}

-- the same variable and the same factor
abbrev pub same_part : Part → Part → Bool
same_part p q = p.variable == q.variable && int_eq p.by q.by

abbrev pub same_parts : List Part → List Part → Bool
same_parts [] [] = true
same_parts [] (q ∷ qs) = false
same_parts (p ∷ ps) [] = false
same_parts (p ∷ ps) (q ∷ qs) = same_part p q && same_parts ps qs

-- the same parts and the same bound
abbrev pub same_form : Form → Form → Bool
same_form t u = same_parts t.parts u.parts && int_eq t.bound u.bound

-- inequalities are the same exactly where they are equal
abbrev pub EqualAtoms : Type 0
EqualAtoms = (t u : Form) → IsTrue (same_form t u) ↔ (t ≡ u)
