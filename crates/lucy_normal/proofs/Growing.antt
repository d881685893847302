-- The ranges that the placing of a normal condition adds, and the names in a condition's normal form.
use Rattle.std.proofs.Common.{◌≡◌, true, ℕ, ℤ, pos, ◌+◌, List, [], ◌∷◌, ◌++◌, map, length, take, Option, Some, None, int_le, refl, sym, ap, ◌∙◌}
use Rattle.std.proofs.lemmas.List.{append_assoc, append-nil, map-append}
use Rattle.lucy_clauses.specs.Sums.{Form}
use Rattle.lucy_clauses.specs.declared.formulas.Range.{Range}
use Rattle.lucy_clauses.specs.declared.formulas.Formula.{Formula}
use Rattle.lucy_clauses.specs.Formulas.{are_within}
use Rattle.lucy_normal.specs.declared.normals.Normal.{Normal}
use Rattle.lucy_normal.specs.Shapes.{Shape, shape, added, widened, guard, lits, after, under_one, named, name_one, below, bits, bit_then, freshes, all_placed, any_placed, binary, binaries, put_all, fresh_of_all}
use Rattle.lucy_normal.proofs.Induction.{Each, shapes}
use Rattle.lucy_normal.proofs.Soundness.{none_is}
use Rattle.lucy_normal.proofs.Tests.{and_last, and_put}

pub record Grows (b : List ℤ) (s : Shape) : Type 0 where
  pub is : (g : Option ℕ) (f : Formula) → (s.place g f).ranges ≡ f.ranges ++ binaries (s.fresh b)
  pub plain : (t : Form) → s.atom ≡ Some t → s.fresh b ≡ []

-- two steps of growth are one
joined : (rs qs : List Range) (xs ys : List ℤ) → qs ≡ rs ++ binaries xs → qs ++ binaries ys ≡ rs ++ binaries (xs ++ ys)
joined rs qs xs ys e = ap (λ q. q ++ binaries ys) e ∙ append_assoc rs (binaries xs) (binaries ys) ∙ ap (λ q. rs ++ q) (sym (map-append (λ (x : ℤ). binary) xs ys))

pub all_grows : (b : List ℤ) (ss : List Shape) → Each (Grows b) ss → (g : Option ℕ) (f : Formula) → (all_placed ss g f).ranges ≡ f.ranges ++ binaries (freshes ss b)
all_grows b [] e g f = sym (append-nil f.ranges)
all_grows b (s ∷ ss) e g f = all_grows b ss e.1 g (s.place g f) ∙ joined f.ranges (s.place g f).ranges (s.fresh b) (freshes ss b) (e.0.is g f)

pub named_grows : (b : List ℤ) (ss : List Shape) (f : Formula) → (named ss f).ranges ≡ f.ranges ++ binaries (bits ss b)
named_grows b [] f = sym (append-nil f.ranges)
named_grows b (s ∷ ss) f = one (named_grows b ss) s.atom
  where
    one : ((f : Formula) → (named ss f).ranges ≡ f.ranges ++ binaries (bits ss b)) → (o : Option Form) → (named ss (name_one o f)).ranges ≡ f.ranges ++ binaries (bit_then o (s.truth b) (bits ss b))
    one rest (Some t) = rest f
    one rest None = rest (widened f) ∙ append_assoc f.ranges (record { lo = pos 0; hi = pos 1 } ∷ []) (binaries (bits ss b))

below_one : (b : List ℤ) (s : Shape) (ss : List Shape) → Grows b s → ((y : ℕ) (f : Formula) → (below ss y f).ranges ≡ f.ranges ++ binaries (freshes ss b)) →
    (o : Option Form) → s.atom ≡ o → (y : ℕ) (f : Formula) → (below ss (after o y) (under_one o s.place y f)).ranges ≡ f.ranges ++ binaries (s.fresh b ++ freshes ss b)
below_one b s ss e rest (Some t) at y f = rest y f ∙ ap (λ xs. f.ranges ++ binaries (xs ++ freshes ss b)) (sym (e.plain t at))
below_one b s ss e rest None at y f = rest (y + 1) (s.place (Some y) f) ∙ joined f.ranges (s.place (Some y) f).ranges (s.fresh b) (freshes ss b) (e.is (Some y) f)

pub below_grows : (b : List ℤ) (ss : List Shape) → Each (Grows b) ss → (y : ℕ) (f : Formula) → (below ss y f).ranges ≡ f.ranges ++ binaries (freshes ss b)
below_grows b [] e y f = sym (append-nil f.ranges)
below_grows b (s ∷ ss) e y f = below_one b s ss e.0 (below_grows b ss e.1) s.atom refl y f

pub any_grows : (b : List ℤ) (ss : List Shape) → Each (Grows b) ss → (g : Option ℕ) (f : Formula) → (any_placed ss g f).ranges ≡ f.ranges ++ binaries (bits ss b ++ freshes ss b)
any_grows b ss e g f =
    below_grows b ss e (length f.ranges) (added (guard g ++ lits ss (length f.ranges)) (named ss f)) ∙ joined f.ranges (named ss f).ranges (bits ss b) (freshes ss b) (named_grows b ss f)

pub growing : (b : List ℤ) (p : Normal) → Grows b (shape p)
growing b = shapes (Grows b)
    (λ t. record { is = λ g f. sym (append-nil f.ranges); plain = λ u at. refl })
    (λ ss e. record { is = all_grows b ss e; plain = λ t at. none_is t at })
    (λ ss e. record { is = any_grows b ss e; plain = λ t at. none_is t at })

-- the first numbers of a model are within the first ranges
pub front_within : (rs more : List Range) (b : List ℤ) → are_within (rs ++ more) b ≡ true → are_within rs (take (length rs) b) ≡ true
front_within [] more b h = refl
front_within (r ∷ rs) more [] h = absurd (cc)
front_within (r ∷ rs) more (x ∷ b) h =
    and_put (int_le r.lo x) (int_le x r.hi) (are_within (rs ++ more) b) (are_within rs (take (length rs) b)) h
    (front_within rs more b (and_last (int_le r.lo x) (int_le x r.hi) (are_within (rs ++ more) b) h))

pub each_growing : (b : List ℤ) (ps : List Normal) → Each (Grows b) (map shape ps)
each_growing b [] = tt
each_growing b (p ∷ ps) = (growing b p, each_growing b ps)

pub put_all_grows : (ps : List Normal) (f : Formula) (b : List ℤ) → (put_all ps f).ranges ≡ f.ranges ++ binaries (fresh_of_all ps b)
put_all_grows ps f b = all_grows b (map shape ps) (each_growing b ps) None f
