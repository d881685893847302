-- Where a condition holds, the fresh variables set to what their parts come to make its clauses true.
use Rattle.std.proofs.Common.{◌≡◌, Bool, true, false, ◌||◌, ◌&&◌, ℕ, zero, suc, ℤ, pos, negsuc, int_le, ◌+ℤ◌, ◌*ℤ◌, ◌+◌, List, [], ◌∷◌, ◌++◌, length, map, drop, Option, Some, None, refl, sym, ap, ◌∙◌, add-one}
use Rattle.std.specs.List.{list_all, list_any}
use Rattle.std.proofs.Math.Path.{subst}
use Rattle.std.proofs.Math.Seq.{drop-append_seam}
use Rattle.std.proofs.lemmas.List.{append_assoc}
use Rattle.std.proofs.lemmas.List.Folds.{list_any-append}
use Rattle.lucy_clauses.specs.declared.formulas.Range.{Range}
use Rattle.lucy_clauses.specs.declared.formulas.Formula.{Formula}
use Rattle.lucy_clauses.specs.Sums.{Form, number_at, is_true}
use Rattle.lucy_clauses.specs.Formulas.{clause_true, are_within}
use Rattle.lucy_normal.specs.declared.normals.Normal.{Normal}
use Rattle.lucy_normal.specs.declared.normals.Normal.TheOpen.{Normal-F}
use Rattle.lucy_normal.specs.Shapes.{Shape, shape, shape_step, added, widened, guard, is_on, lits, lit_then, named, name_one, below, below_then, bits, bit_then, bit, freshes, all_placed, any_placed, all_truth, any_truth}
use Rattle.lucy_normal.proofs.Induction.{Each, shapes}
use Rattle.lucy_normal.proofs.Soundness.{Stand, guarded, added_stands, named_keeps, some_is, none_is}
use Rattle.lucy_normal.proofs.Tests.{or_true, and_last, and_put}

-- the assignment begins with numbers of these ranges, and goes on with the rest
pub record Split (b : List ℤ) (ranges : List Range) (rest : List ℤ) : Type 0 where
  pub front : List ℤ
  pub is : b ≡ front ++ rest
  pub within : are_within ranges front ≡ true

pub record Makes (b : List ℤ) (s : Shape) : Type 0 where
  pub makes : (g : Option ℕ) (f : Formula) (post : List ℤ) → Split b f.ranges (s.fresh b ++ post) → Stand b f → (guarded b g || s.truth b) ≡ true →
      Split b (s.place g f).ranges post × Stand b (s.place g f)
  pub lone : (t : Form) → s.atom ≡ Some t → is_true b t ≡ s.truth b
  pub plain : (t : Form) → s.atom ≡ Some t → s.fresh b ≡ []

and_three : (p q : Bool) → p ≡ true → q ≡ true → (p && q && true) ≡ true
and_three true true h k = refl
and_three true false h k = k
and_three false q h k = absurd (cc)

and_pair : (p q : Bool) → p ≡ true → q ≡ true → (p && (q && true)) ≡ true
and_pair true true h k = refl
and_pair true false h k = k
and_pair false q h k = absurd (cc)

or_left : (x y z : Bool) → (x || (y && z)) ≡ true → (x || y) ≡ true
or_left true y z h = refl
or_left false true z h = refl
or_left false false z h = h

or_right : (x y z : Bool) → (x || (y && z)) ≡ true → (x || z) ≡ true
or_right true y z h = refl
or_right false true z h = h
or_right false false z h = absurd (cc)

pub within_length : (rs : List Range) (xs : List ℤ) → are_within rs xs ≡ true → length rs ≡ length xs
within_length [] [] h = refl
within_length [] (x ∷ xs) h = absurd (cc)
within_length (r ∷ rs) [] h = absurd (cc)
within_length (r ∷ rs) (x ∷ xs) h = ap suc (within_length rs xs (and_last (int_le r.lo x) (int_le x r.hi) (are_within rs xs) h))

within_push : (rs : List Range) (xs : List ℤ) (r : Range) (x : ℤ) → are_within rs xs ≡ true → int_le r.lo x ≡ true → int_le x r.hi ≡ true → are_within (rs ++ r ∷ []) (xs ++ x ∷ []) ≡ true
within_push [] [] r x h lo hi = and_three (int_le r.lo x) (int_le x r.hi) lo hi
within_push [] (y ∷ xs) r x h lo hi = absurd (cc)
within_push (q ∷ rs) [] r x h lo hi = absurd (cc)
within_push (q ∷ rs) (y ∷ xs) r x h lo hi =
    and_put (int_le q.lo y) (int_le y q.hi) (are_within rs xs) (are_within (rs ++ r ∷ []) (xs ++ x ∷ [])) h
    (within_push rs xs r x (and_last (int_le q.lo y) (int_le y q.hi) (are_within rs xs) h) lo hi)

bit_low : (t : Bool) → int_le (pos 0) (bit t) ≡ true
bit_low true = refl
bit_low false = refl

bit_high : (t : Bool) → int_le (bit t) (pos 1) ≡ true
bit_high true = refl
bit_high false = refl

widened_split : (b : List ℤ) (f : Formula) (t : Bool) (post : List ℤ) → Split b f.ranges (bit t ∷ post) → Split b (widened f).ranges post
widened_split b f t post s = record {
  front = s.front ++ bit t ∷ [];
  is = s.is ∙ sym (append_assoc s.front (bit t ∷ []) post);
  within = within_push f.ranges s.front (record { lo = pos 0; hi = pos 1 }) (bit t) s.within (bit_low t) (bit_high t);
}

split_drop : (b : List ℤ) (rs : List Range) (rest : List ℤ) → Split b rs rest → drop (length rs) b ≡ rest
split_drop b rs rest s = rw (within_length rs s.front s.within, s.is) (drop-append_seam s.front rest)

at_drop : (b : List ℤ) (y : ℕ) (x : ℤ) (rest : List ℤ) → drop y b ≡ x ∷ rest → (number_at b y ≡ x) × (drop (suc y) b ≡ rest)
at_drop [] zero x rest h = absurd (cc)
at_drop [] (suc y) x rest h = absurd (cc)
at_drop (c ∷ b) zero x rest h = (cc, cc)
at_drop (c ∷ b) (suc y) x rest h = at_drop b y x rest h

on_bit : (b : List ℤ) (y : ℕ) (t : Bool) → number_at b y ≡ bit t → is_true b (is_on y) ≡ t
on_bit b y true h = ap (λ x. int_le (negsuc 0 *ℤ x +ℤ pos 0) (negsuc 0)) h
on_bit b y false h = ap (λ x. int_le (negsuc 0 *ℤ x +ℤ pos 0) (negsuc 0)) h

off_bit : (b : List ℤ) (y : ℕ) (t : Bool) → number_at b y ≡ bit t → (guarded b (Some y) || t) ≡ true
off_bit b y true h = or_true (guarded b (Some y))
off_bit b y false h = ap (λ x. (int_le (pos 1 *ℤ x +ℤ pos 0) (pos 0) || false) || false) h

lits_one : (b : List ℤ) (s : Shape) (ss : List Shape) → Makes b s → ((y : ℕ) (post : List ℤ) → drop y b ≡ bits ss b ++ post → list_any (is_true b) (lits ss y) ≡ any_truth ss b) →
    (o : Option Form) → s.atom ≡ o → (y : ℕ) (post : List ℤ) → drop y b ≡ bit_then o (s.truth b) (bits ss b) ++ post → list_any (is_true b) (lit_then o y (lits ss)) ≡ (s.truth b || any_truth ss b)
lits_one b s ss e rest (Some t) at y post d =
    ap (λ x. x || list_any (is_true b) (lits ss y)) (e.lone t at) ∙ ap (λ x. s.truth b || x) (rest y post d)
lits_one b s ss e rest None at y post d =
    let m = at_drop b y (bit (s.truth b)) (bits ss b ++ post) d in
    ap (λ x. x || list_any (is_true b) (lits ss (y + 1))) (on_bit b y (s.truth b) m.0) ∙ ap (λ x. s.truth b || x) (rest (y + 1) post (rw (add-one y) m.1))

lits_true : (b : List ℤ) (ss : List Shape) → Each (Makes b) ss → (y : ℕ) (post : List ℤ) → drop y b ≡ bits ss b ++ post → list_any (is_true b) (lits ss y) ≡ any_truth ss b
lits_true b [] e y post d = refl
lits_true b (s ∷ ss) e y post d = lits_one b s ss e.0 (lits_true b ss e.1) s.atom refl y post d

named_makes : (b : List ℤ) (ss : List Shape) (f : Formula) (post : List ℤ) → Split b f.ranges (bits ss b ++ post) → Split b (named ss f).ranges post
named_makes b [] f post s = s
named_makes b (s ∷ ss) f post p = one (named_makes b ss) s.atom p
  where
    one : ((f : Formula) (post : List ℤ) → Split b f.ranges (bits ss b ++ post) → Split b (named ss f).ranges post) → (o : Option Form) → Split b f.ranges (bit_then o (s.truth b) (bits ss b) ++ post) → Split b (named ss (name_one o f)).ranges post
    one rest (Some t) p = rest f post p
    one rest None p = rest (widened f) post (widened_split b f (s.truth b) (bits ss b ++ post) p)

below_one : (b : List ℤ) (s : Shape) (ss : List Shape) → Makes b s →
    ((y : ℕ) (f : Formula) (pre post : List ℤ) → drop y b ≡ bits ss b ++ pre → Split b f.ranges (freshes ss b ++ post) → Stand b f → Split b (below ss y f).ranges post × Stand b (below ss y f)) →
    (o : Option Form) → s.atom ≡ o → (y : ℕ) (f : Formula) (pre post : List ℤ) → drop y b ≡ bit_then o (s.truth b) (bits ss b) ++ pre → Split b f.ranges ((s.fresh b ++ freshes ss b) ++ post) → Stand b f →
    Split b (below_then o s.place y f (below ss)).ranges post × Stand b (below_then o s.place y f (below ss))
below_one b s ss e rest (Some t) at y f pre post d p h =
    rest y f pre post d (subst (λ (xs : List ℤ). Split b f.ranges ((xs ++ freshes ss b) ++ post)) (e.plain t at) p) h
below_one b s ss e rest None at y f pre post d p h =
    let m = at_drop b y (bit (s.truth b)) (bits ss b ++ pre) d in
    let this = e.makes (Some y) f (freshes ss b ++ post) (subst (Split b f.ranges) (append_assoc (s.fresh b) (freshes ss b) post) p) h (off_bit b y (s.truth b) m.0) in
    rest (y + 1) (s.place (Some y) f) pre post (rw (add-one y) m.1) this.0 this.1

below_makes : (b : List ℤ) (ss : List Shape) → Each (Makes b) ss → (y : ℕ) (f : Formula) (pre post : List ℤ) → drop y b ≡ bits ss b ++ pre → Split b f.ranges (freshes ss b ++ post) → Stand b f →
    Split b (below ss y f).ranges post × Stand b (below ss y f)
below_makes b [] e y f pre post d p h = (p, h)
below_makes b (s ∷ ss) e y f pre post d p h = below_one b s ss e.0 (below_makes b ss e.1) s.atom refl y f pre post d p h

added_makes : (b : List ℤ) (g : Option ℕ) (atoms : List Form) (f : Formula) → Stand b f → (guarded b g || list_any (is_true b) atoms) ≡ true → Stand b (added (guard g ++ atoms) f)
added_makes b g atoms f h k =
    added_stands b (guard g ++ atoms) f ∙ and_pair (list_all (clause_true b) f.clauses) (list_any (is_true b) (guard g ++ atoms)) h (list_any-append (is_true b) (guard g) atoms ∙ k)

pub all_makes : (b : List ℤ) (ss : List Shape) → Each (Makes b) ss → (g : Option ℕ) (f : Formula) (post : List ℤ) → Split b f.ranges (freshes ss b ++ post) → Stand b f → (guarded b g || all_truth ss b) ≡ true →
    Split b (all_placed ss g f).ranges post × Stand b (all_placed ss g f)
all_makes b [] e g f post p h k = (p, h)
all_makes b (s ∷ ss) e g f post p h k =
    let this = e.0.makes g f (freshes ss b ++ post) (subst (Split b f.ranges) (append_assoc (s.fresh b) (freshes ss b) post) p) h (or_left (guarded b g) (s.truth b) (all_truth ss b) k) in
    all_makes b ss e.1 g (s.place g f) post this.0 this.1 (or_right (guarded b g) (s.truth b) (all_truth ss b) k)

any_makes : (b : List ℤ) (ss : List Shape) → Each (Makes b) ss → (g : Option ℕ) (f : Formula) (post : List ℤ) → Split b f.ranges ((bits ss b ++ freshes ss b) ++ post) → Stand b f → (guarded b g || any_truth ss b) ≡ true →
    Split b (any_placed ss g f).ranges post × Stand b (any_placed ss g f)
any_makes b ss e g f post p h k =
    let p1 = subst (Split b f.ranges) (append_assoc (bits ss b) (freshes ss b) post) p in
    let d = split_drop b f.ranges (bits ss b ++ (freshes ss b ++ post)) p1 in
    let p2 = named_makes b ss f (freshes ss b ++ post) p1 in
    let top = added_makes b g (lits ss (length f.ranges)) (named ss f) (ap (λ cs. list_all (clause_true b) cs) (named_keeps ss f) ∙ h) (ap (λ x. guarded b g || x) (lits_true b ss e (length f.ranges) (freshes ss b ++ post) d) ∙ k) in
    below_makes b ss e (length f.ranges) (added (guard g ++ lits ss (length f.ranges)) (named ss f)) (freshes ss b ++ post) post d p2 top

atom_makes : (b : List ℤ) (t : Form) → Makes b (shape_step (Normal-F.Atom t))
atom_makes b t = record {
  makes = λ g f post p h k. (p, added_makes b g (t ∷ []) f h (ap (λ x. guarded b g || x) (alone (is_true b t)) ∙ k));
  lone = λ u at. ap (is_true b) (sym (some_is t u at));
  plain = λ u at. refl;
}
  where
    alone : (x : Bool) → (x || false) ≡ x
    alone true = refl
    alone false = refl

pub making : (b : List ℤ) (p : Normal) → Makes b (shape p)
making b = shapes (Makes b) (atom_makes b)
    (λ ss e. record { makes = all_makes b ss e; lone = λ t at. none_is t at; plain = λ t at. none_is t at })
    (λ ss e. record { makes = any_makes b ss e; lone = λ t at. none_is t at; plain = λ t at. none_is t at })

-- of several, each part does
pub each_making : (b : List ℤ) (ps : List Normal) → Each (Makes b) (map shape ps)
each_making b [] = tt
each_making b (p ∷ ps) = (making b p, each_making b ps)
