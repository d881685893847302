-- The models of a formula over two states and their merge.
use Rattle.std.proofs.Common.{◌≡◌, ℕ, ◌+◌, ◌≤◌, ◌^◌, Bool, true, false, not, ◌||◌, ◌&&◌, ℤ, List, [], ◌∷◌, ◌++◌, map, length, take, drop, refl, sym, ap, ◌∙◌, subst, arith, append_assoc}
use Rattle.std.specs.Ordering.{int_eq}
use Rattle.std.specs.List.{list_all}
use Rattle.std.specs.Cmp.Lexicographic.{pointwise}
use Rattle.std.specs.Cmp.Rules.{signed_items}
use Rattle.std.proofs.Math.Seq.{take-append_seam, drop-append_seam}
use Rattle.std.proofs.lemmas.List.{take-append-drop, append-nil, length-append}
use Rattle.std.proofs.lemmas.List.Folds.{list_all-append}
use Rattle.lucy_clauses.specs.declared.formulas.Range.{Range}
use Rattle.lucy_clauses.specs.declared.formulas.Formula.{Formula}
use Rattle.lucy_clauses.specs.Formulas.{clause_true, are_within, Models}
use Rattle.lucy_model.specs.declared.leaves.Leaf.{Leaf}
use Rattle.lucy_model.specs.declared.conditions.Condition.{Condition}
use Rattle.lucy_model.specs.Conditions.{holds_at}
use Rattle.lucy_model.specs.Merging.{merged}
use Rattle.lucy_model.specs.Ranges.{all_allowed}
use Rattle.lucy_model.proofs.MergingLemmas.{merged_allowed}
use Rattle.lucy_plan.specs.Segments.{is_among}
use Rattle.lucy_normal.specs.declared.normals.Normal.{Normal}
use Rattle.lucy_normal.specs.Normals.{normal_of}
use Rattle.lucy_normal.specs.Shapes.{binaries, true_at, all_true_at, any_true_at, each_atom, each_atom_of_all, is_over, put_all, fresh_of_all}
use Rattle.lucy_normal.specs.Laws.{SaysState}
use Rattle.lucy_normal.proofs.Tests.{two, both, and_true}
use Rattle.lucy_normal.proofs.Soundness.{put_all_says}
use Rattle.lucy_normal.proofs.Growing.{put_all_grows}
use Rattle.lucy_normal.proofs.Clauses.{truths, clauses_can_hold}
use Rattle.lucy_normal.proofs.Meanings.{normal_means}
use Rattle.lucy_normal.proofs.FlatLists.{any_of_is}
use Rattle.lucy_closure.specs.Points.{at_point, off_point}
use Rattle.lucy_closure.specs.Merges.{merged_leaves}
use Rattle.lucy_closure.specs.Formulas.{ranges_of, three_states, inside, left_out, outside, pair_parts, pair_formula}
use Rattle.lucy_closure.specs.Readings.{first_state, second_state}
use Rattle.lucy_closure.proofs.Segments.{allowed_length}
use Rattle.lucy_closure.proofs.Assignments.{says_front, says_behind, says_at, within_allowed, length-ranges, join_within, first_of}
use Rattle.lucy_closure.proofs.PointTests.{Beside, off_points_mean, at_points_mean}
use Rattle.lucy_closure.proofs.MergeTests.{Three, merges_mean}
use Rattle.lucy_closure.proofs.Passing.{Given, Any_number, pair_passes, over_passes, regroup}

-- the clauses of parts hold: so do the parts, there
pub parts_hold : (ps : List Normal) (f : Formula) (b : List ℤ) → Models (put_all ps f) b → all_true_at b ps ≡ true
parts_hold ps f b m = sym (truths ps b) ∙ (put_all_says ps f b (two (are_within (put_all ps f).ranges b) (list_all (clause_true b) (put_all ps f).clauses) m).1).1

pub parts_ranges : (ps : List Normal) (f : Formula) (b : List ℤ) → Models (put_all ps f) b → are_within (f.ranges ++ binaries (fresh_of_all ps [])) b ≡ true
parts_ranges ps f b m =
    ap (λ (rs : List Range). are_within rs b) (sym (put_all_grows ps f [])) ∙ (two (are_within (put_all ps f).ranges b) (list_all (clause_true b) (put_all ps f).clauses) m).0

-- ---- what is said of one state

-- the conditions and the points of a state that an assignment says
pub record Of (leaves v : ℕ) (i c : Condition) (points : List (List ℤ)) (xs b : List ℤ) : Type 0 where
  pub given : Given Any_number leaves i c points
  pub says : SaysState v leaves xs b
  pub length_is : length xs ≡ leaves
  pub wide : v + leaves ≤ 2 ^ 32

beside : (leaves v : ℕ) (i c : Condition) (points : List (List ℤ)) (xs b : List ℤ) → Of leaves v i c points xs b → Beside leaves v points xs b
beside leaves v i c points xs b o = record { says = o.says; length_is = o.length_is; points_are = o.given.points_are }

pub inside_means : (leaves v : ℕ) (i c : Condition) (points : List (List ℤ)) (xs b : List ℤ) → Of leaves v i c points xs b →
    all_true_at b (inside v i c points) ≡ (holds_at i xs [] && (holds_at c xs [] && not (is_among points xs)))
inside_means leaves v i c points xs b o =
    ap (λ (x : Bool). x && (true_at (normal_of v c true) b && all_true_at b (map (off_point v) points))) (normal_means v leaves i true xs b o.wide o.given.invariant_is o.says)
    ∙ ap (λ (x : Bool). holds_at i xs [] && (x && all_true_at b (map (off_point v) points))) (normal_means v leaves c true xs b o.wide o.given.condition_is o.says)
    ∙ ap (λ (x : Bool). holds_at i xs [] && (holds_at c xs [] && x)) (off_points_mean leaves v points xs b (beside leaves v i c points xs b o))

pub left_out_means : (leaves v : ℕ) (i c : Condition) (points : List (List ℤ)) (xs b : List ℤ) → Of leaves v i c points xs b → any_true_at b (left_out v c points) ≡ (not (holds_at c xs []) || is_among points xs)
left_out_means leaves v i c points xs b o =
    ap (λ (x : Bool). x || any_true_at b (map (at_point v) points)) (normal_means v leaves c false xs b o.wide o.given.condition_is o.says)
    ∙ ap (λ (x : Bool). not (holds_at c xs []) || x) (at_points_mean leaves v points xs b (beside leaves v i c points xs b o))

pub outside_means : (leaves v : ℕ) (i c : Condition) (points : List (List ℤ)) (xs b : List ℤ) → Of leaves v i c points xs b →
    true_at (outside v i c points) b ≡ (not (holds_at i xs []) || (not (holds_at c xs []) || is_among points xs))
outside_means leaves v i c points xs b o =
    any_of_is b (normal_of v i false ∷ left_out v c points)
    ∙ ap (λ (x : Bool). x || any_true_at b (left_out v c points)) (normal_means v leaves i false xs b o.wide o.given.invariant_is o.says)
    ∙ ap (λ (x : Bool). not (holds_at i xs []) || x) (left_out_means leaves v i c points xs b o)

-- ---- two states and their merge

-- a state is inside
abbrev pub is_inside : List Leaf → Condition → Condition → List (List ℤ) → List ℤ → Bool
is_inside object i c points xs = all_allowed object xs && (holds_at i xs [] && (holds_at c xs [] && not (is_among points xs)))

-- the last part says that the merge does not pass a test
pub record Last (object : List Leaf) (last : Normal) (safe : List ℤ → Bool) : Type 0 where
  pub means : (ms b : List ℤ) → SaysState (length object + length object) (length object) ms b → all_allowed object ms ≡ true → true_at last b ≡ not (safe ms)
  pub over : each_atom (is_over (length object + (length object + length object))) last ≡ true

pub record Pair (object : List Leaf) (i c : Condition) (points : List (List ℤ)) (last : Normal) (safe : List ℤ → Bool) : Type 0 where
  pub given : Given Any_number (length object) i c points
  pub last_is : Last object last safe

-- an assignment says two states and a third
pub record Trio (object : List Leaf) (xs ys ms b : List ℤ) : Type 0 where
  pub left : SaysState 0 (length object) xs b
  pub right : SaysState (length object) (length object) ys b
  pub merge : SaysState (length object + length object) (length object) ms b
  pub left_allowed : all_allowed object xs ≡ true
  pub right_allowed : all_allowed object ys ≡ true
  pub merge_allowed : all_allowed object ms ≡ true

plus_none : (n : ℕ) → n ≡ n + 0
plus_none n = omega arith

plus_nothing : (n : ℕ) → n + n ≡ n + (n + 0)
plus_nothing n = omega arith

trio_three : (object : List Leaf) (xs ys ms b : List ℤ) → Trio object xs ys ms b → Three (length object) 0 object xs ys ms b
trio_three object xs ys ms b t = record {
  left = t.left;
  right = says_at (length object) (length object + 0) (length object) ys b (plus_none (length object)) t.right;
  merge = says_at (length object + length object) (length object + (length object + 0)) (length object) ms b (plus_nothing (length object)) t.merge;
}

-- what the parts come to
pair_means : (object : List Leaf) (i c : Condition) (points : List (List ℤ)) (last : Normal) (safe : List ℤ → Bool) (xs ys ms b : List ℤ) → Pair object i c points last safe → Trio object xs ys ms b →
    all_true_at b (pair_parts object i c points last) ≡
    ((holds_at i xs [] && (holds_at c xs [] && not (is_among points xs))) && ((holds_at i ys [] && (holds_at c ys [] && not (is_among points ys))) && (pointwise int_eq ms (merged object xs ys) && not (safe ms))))
pair_means object i c points last safe xs ys ms b p t =
    let l = length object in
    let first = inside 0 i c points in
    let second = inside l i c points in
    let merges = merged_leaves l 0 object in
    let few = p.given.few in
    let x_even = allowed_length object xs t.left_allowed in
    let y_even = allowed_length object ys t.right_allowed in
    let m_even = allowed_length object ms t.merge_allowed in
    ap (all_true_at b) (regroup first second merges (last ∷ []))
    ∙ list_all-append (λ (q : Normal). true_at q b) first (second ++ (merges ++ last ∷ []))
    ∙ ap (λ (x : Bool). x && all_true_at b (second ++ (merges ++ last ∷ []))) (inside_means l 0 i c points xs b (record { given = p.given; says = t.left; length_is = x_even; wide = omega (arith, few) }))
    ∙ ap (λ (x : Bool). (holds_at i xs [] && (holds_at c xs [] && not (is_among points xs))) && x)
    (list_all-append (λ (q : Normal). true_at q b) second (merges ++ last ∷ [])
    ∙ ap (λ (x : Bool). x && all_true_at b (merges ++ last ∷ [])) (inside_means l l i c points ys b (record { given = p.given; says = t.right; length_is = y_even; wide = omega (arith, few) }))
    ∙ ap (λ (x : Bool). (holds_at i ys [] && (holds_at c ys [] && not (is_among points ys))) && x)
    (list_all-append (λ (q : Normal). true_at q b) merges (last ∷ [])
    ∙ ap (λ (x : Bool). x && (true_at last b && true)) (merges_mean l 0 object xs ys ms b x_even y_even m_even (trio_three object xs ys ms b t))
    ∙ ap (λ (x : Bool). pointwise int_eq ms (merged object xs ys) && x) (and_true (true_at last b) ∙ p.last_is.means ms b t.merge t.merge_allowed)))

-- ---- from a model to the states

abbrev pub left_of : List Leaf → List ℤ → List ℤ
left_of object b = take (length object) b

abbrev pub right_of : List Leaf → List ℤ → List ℤ
right_of object b = take (length object) (drop (length object) b)

abbrev pub merge_of : List Leaf → List ℤ → List ℤ
merge_of object b = take (length object) (drop (length object) (drop (length object) b))

pub says_taken : (n : ℕ) (b : List ℤ) → length (take n b) ≡ n → SaysState 0 n (take n b) b
says_taken n b e = subst (λ (a : List ℤ). SaysState 0 n (take n b) a) (take-append-drop n b) (says_front n (take n b) (drop n b) e)

says_dropped : (v n k : ℕ) (xs b : List ℤ) → length (take k b) ≡ k → SaysState v n xs (drop k b) → SaysState (k + v) n xs b
says_dropped v n k xs b e says = subst (λ (a : List ℤ). SaysState (k + v) n xs a) (take-append-drop k b) (says_behind v n k xs (take k b) (drop k b) e says)

plus : (n : ℕ) → n + 0 ≡ n
plus n = omega arith

plus_both : (n : ℕ) → n + (n + 0) ≡ n + n
plus_both n = omega arith

model_trio : (object : List Leaf) (more : List Range) (b : List ℤ) → are_within ((ranges_of object ++ ranges_of object ++ ranges_of object) ++ more) b ≡ true → Trio object (left_of object b) (right_of object b) (merge_of object b) b
model_trio object more b h =
    let n = length object in
    let rs = ranges_of object in
    let whole : are_within (rs ++ (rs ++ (rs ++ more))) b ≡ true =
    ap (λ (qs : List Range). are_within qs b) (sym (regroup rs rs rs more)) ∙ h in
    let f = first_of object (rs ++ (rs ++ more)) b whole in
    let s = first_of object (rs ++ more) (drop n b) f.rest in
    let t = first_of object more (drop n (drop n b)) s.rest in
    record {
      left = says_taken n b f.even;
      right = says_at (n + 0) n n (right_of object b) b (plus n) (says_dropped 0 n n (right_of object b) b f.even (says_taken n (drop n b) s.even));
      merge = says_at (n + (n + 0)) (n + n) n (merge_of object b) b (plus_both n)
          (says_dropped (n + 0) n n (merge_of object b) b f.even (says_dropped 0 n n (merge_of object b) (drop n b) s.even (says_taken n (drop n (drop n b)) t.even)));
      left_allowed = f.allowed;
      right_allowed = s.allowed;
      merge_allowed = t.allowed;
    }

-- two states inside, whose merge does not pass the test
pub record Found (object : List Leaf) (i c : Condition) (points : List (List ℤ)) (safe : List ℤ → Bool) (xs ys : List ℤ) : Type 0 where
  pub left : is_inside object i c points xs ≡ true
  pub right : is_inside object i c points ys ≡ true
  pub merge : safe (merged object xs ys) ≡ false

not_true : (x : Bool) → not x ≡ true → x ≡ false
not_true true h = sym h
not_true false h = refl

true_not : (x : Bool) → x ≡ false → not x ≡ true
true_not x h = ap not h

pub pair_found : (object : List Leaf) (i c : Condition) (points : List (List ℤ)) (last : Normal) (safe : List ℤ → Bool) (b : List ℤ) → Pair object i c points last safe → Models (pair_formula object i c points last) b →
    Found object i c points safe (left_of object b) (right_of object b)
pair_found object i c points last safe b p m =
    let ps = pair_parts object i c points last in
    let xs = left_of object b in
    let ys = right_of object b in
    let ms = merge_of object b in
    let t = model_trio object (binaries (fresh_of_all ps [])) b (parts_ranges ps (three_states object) b m) in
    let all = sym (pair_means object i c points last safe xs ys ms b p t) ∙ parts_hold ps (three_states object) b m in
    let u = two (holds_at i xs [] && (holds_at c xs [] && not (is_among points xs))) ((holds_at i ys [] && (holds_at c ys [] && not (is_among points ys))) && (pointwise int_eq ms (merged object xs ys) && not (safe ms))) all in
    let v = two (holds_at i ys [] && (holds_at c ys [] && not (is_among points ys))) (pointwise int_eq ms (merged object xs ys) && not (safe ms)) u.1 in
    let w = two (pointwise int_eq ms (merged object xs ys)) (not (safe ms)) v.1 in
    record {
      left = both (all_allowed object xs) (holds_at i xs [] && (holds_at c xs [] && not (is_among points xs))) t.left_allowed u.0;
      right = both (all_allowed object ys) (holds_at i ys [] && (holds_at c ys [] && not (is_among points ys))) t.right_allowed v.0;
      merge = ap safe (sym ((signed_items ms (merged object xs ys)).0 w.0)) ∙ not_true (safe ms) w.1;
    }

-- ---- from the states to a model

abbrev pub said_by : List ℤ → List ℤ → List ℤ → List ℤ
said_by xs ys ms = xs ++ (ys ++ (ms ++ []))

made_trio : (object : List Leaf) (xs ys ms : List ℤ) → all_allowed object xs ≡ true → all_allowed object ys ≡ true → all_allowed object ms ≡ true → Trio object xs ys ms (said_by xs ys ms)
made_trio object xs ys ms h k l =
    let n = length object in
    let x_even = allowed_length object xs h in
    let y_even = allowed_length object ys k in
    let m_even = allowed_length object ms l in
    record {
      left = says_front n xs (ys ++ (ms ++ [])) x_even;
      right = says_at (n + 0) n n ys (said_by xs ys ms) (plus n) (says_behind 0 n n ys xs (ys ++ (ms ++ [])) x_even (says_front n ys (ms ++ []) y_even));
      merge = says_at (n + (n + 0)) (n + n) n ms (said_by xs ys ms) (plus_both n)
          (says_behind (n + 0) n n ms xs (ys ++ (ms ++ [])) x_even (says_behind 0 n n ms ys (ms ++ []) y_even (says_front n ms [] m_even)));
      left_allowed = h;
      right_allowed = k;
      merge_allowed = l;
    }

said_within : (object : List Leaf) (xs ys ms : List ℤ) → all_allowed object xs ≡ true → all_allowed object ys ≡ true → all_allowed object ms ≡ true → are_within (three_states object).ranges (said_by xs ys ms) ≡ true
said_within object xs ys ms h k l =
    let rs = ranges_of object in
    ap (λ (qs : List Range). are_within qs (said_by xs ys ms)) (append_assoc rs rs rs)
    ∙ join_within rs (rs ++ rs) xs (ys ++ (ms ++ [])) (within_allowed object xs ∙ h)
    (join_within rs rs ys (ms ++ []) (within_allowed object ys ∙ k) (ap (are_within rs) (append-nil ms) ∙ within_allowed object ms ∙ l))

pub ranges_count : (object : List Leaf) → length (three_states object).ranges ≡ length object + (length object + length object)
ranges_count object =
    let rs = ranges_of object in
    ap length (append_assoc rs rs rs) ∙ length-append rs (rs ++ rs) ∙ ap (λ (k : ℕ). length rs + k) (length-append rs rs) ∙ ap (λ (k : ℕ). k + (k + k)) (length-ranges object)

bare : (object : List Leaf) (a : List ℤ) → are_within (three_states object).ranges a ≡ true → Models (three_states object) a
bare object a h = both (are_within (three_states object).ranges a) true h refl

abbrev pub pair_model : List Leaf → Condition → Condition → List (List ℤ) → Normal → List ℤ → List ℤ → List ℤ
pair_model object i c points last xs ys = said_by xs ys (merged object xs ys) ++ fresh_of_all (pair_parts object i c points last) (said_by xs ys (merged object xs ys))

pub pair_made : (object : List Leaf) (i c : Condition) (points : List (List ℤ)) (last : Normal) (safe : List ℤ → Bool) (xs ys : List ℤ) → Pair object i c points last safe → Found object i c points safe xs ys →
    Models (pair_formula object i c points last) (pair_model object i c points last xs ys)
pair_made object i c points last safe xs ys p f =
    let ps = pair_parts object i c points last in
    let ms = merged object xs ys in
    let n = length object + (length object + length object) in
    let few = p.given.few in
    let u = two (all_allowed object xs) (holds_at i xs [] && (holds_at c xs [] && not (is_among points xs))) f.left in
    let v = two (all_allowed object ys) (holds_at i ys [] && (holds_at c ys [] && not (is_among points ys))) f.right in
    let m_allowed = merged_allowed object xs ys u.0 v.0 in
    let t = made_trio object xs ys ms u.0 v.0 m_allowed in
    let true_is = pair_means object i c points last safe xs ys ms (said_by xs ys ms) p t
    ∙ both (holds_at i xs [] && (holds_at c xs [] && not (is_among points xs))) ((holds_at i ys [] && (holds_at c ys [] && not (is_among points ys))) && (pointwise int_eq ms ms && not (safe ms))) u.1
    (both (holds_at i ys [] && (holds_at c ys [] && not (is_among points ys))) (pointwise int_eq ms ms && not (safe ms)) v.1
    (both (pointwise int_eq ms ms) (not (safe ms)) ((signed_items ms ms).1 refl) (true_not (safe ms) f.merge))) in
    let over = pair_passes (is_over n) n Any_number (over_passes n (omega (arith, few))) object i c points last p.given (same n) p.last_is.over in
    clauses_can_hold ps (three_states object) (said_by xs ys ms) refl (ap (λ (k : ℕ). each_atom_of_all (is_over k) ps) (ranges_count object) ∙ over)
    (bare object (said_by xs ys ms) (said_within object xs ys ms u.0 v.0 m_allowed)) true_is
  where
    same : (n : ℕ) → n ≤ n
    same n = omega arith

-- ---- the states at the front of a model

pub front_is : (n : ℕ) (xs more : List ℤ) → length xs ≡ n → take n (xs ++ more) ≡ xs
front_is n xs more e = subst (λ (k : ℕ). take k (xs ++ more) ≡ xs) e (take-append_seam xs more)

behind_is : (n : ℕ) (xs more : List ℤ) → length xs ≡ n → drop n (xs ++ more) ≡ more
behind_is n xs more e = subst (λ (k : ℕ). drop k (xs ++ more) ≡ more) e (drop-append_seam xs more)

pub first_is : (n : ℕ) (xs ys ms more : List ℤ) → length xs ≡ n → first_state n (said_by xs ys ms ++ more) ≡ xs
first_is n xs ys ms more e = ap (λ (zs : List ℤ). take n zs) (append_assoc xs (ys ++ (ms ++ [])) more) ∙ front_is n xs ((ys ++ (ms ++ [])) ++ more) e

pub second_is : (n : ℕ) (xs ys ms more : List ℤ) → length xs ≡ n → length ys ≡ n → second_state n (said_by xs ys ms ++ more) ≡ ys
second_is n xs ys ms more e d =
    ap (λ (zs : List ℤ). take n (drop n zs)) (append_assoc xs (ys ++ (ms ++ [])) more)
    ∙ ap (λ (zs : List ℤ). take n zs) (behind_is n xs ((ys ++ (ms ++ [])) ++ more) e ∙ append_assoc ys (ms ++ []) more) ∙ front_is n ys ((ms ++ []) ++ more) d
