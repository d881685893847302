-- The clauses of normal conditions hold exactly where these do.
use Rattle.std.proofs.Common.{◌≡◌, true, ℕ, ◌≤◌, ℤ, List, [], ◌++◌, length, map, take, drop, None, sym, ap, ◌∙◌, arith}
use Rattle.std.specs.List.{list_all}
use Rattle.std.proofs.lemmas.List.{append-nil, take-append-drop}
use Rattle.std.proofs.lemmas.List.Folds.{list_all-map}
use Rattle.lucy_clauses.specs.declared.formulas.Formula.{Formula}
use Rattle.lucy_clauses.specs.Formulas.{clause_true, are_within}
use Rattle.lucy_normal.specs.declared.normals.Normal.{Normal}
use Rattle.lucy_normal.specs.Shapes.{Shape, shape, all_truth, all_each, binaries, put_all, fresh_of_all, all_true_at, each_atom_of_all, is_over}
use Rattle.lucy_normal.specs.Laws.{ClausesSay, ClausesCanHold}
use Rattle.lucy_normal.proofs.Tests.{two, both}
use Rattle.lucy_normal.proofs.Soundness.{put_all_says}
use Rattle.lucy_normal.proofs.Making.{Split, all_makes, each_making, within_length}
use Rattle.lucy_normal.proofs.Locality.{clauses_same, all_truth_same, freshes_all_same}
use Rattle.lucy_normal.proofs.Growing.{front_within, put_all_grows}

same_size : (m n : ℕ) → m ≡ n → m ≤ n
same_size m n e = omega (arith, e)

pub truths : (ps : List Normal) (b : List ℤ) → all_truth (map shape ps) b ≡ all_true_at b ps
truths ps b = list_all-map (λ (s : Shape). s.truth b) shape ps

overs : (n : ℕ) (ps : List Normal) → all_each (map shape ps) (is_over n) ≡ each_atom_of_all (is_over n) ps
overs n ps = list_all-map (λ (s : Shape). s.each (is_over n)) shape ps

pub clauses_say : ClausesSay
clauses_say ps f b formed over m =
    let n = length f.ranges in
    let a = take n b in
    let e = drop n b in
    let is : a ++ e ≡ b = take-append-drop n b in
    let model = two (are_within (put_all ps f).ranges b) (list_all (clause_true b) (put_all ps f).clauses) m in
    let front : are_within f.ranges a ≡ true = front_within f.ranges (binaries (fresh_of_all ps [])) b (ap (λ rs. are_within rs b) (sym (put_all_grows ps f [])) ∙ model.0) in
    let k : n ≤ length a = same_size n (length a) (within_length f.ranges a front) in
    let says = put_all_says ps f b model.1 in
    let stands : list_all (clause_true a) f.clauses ≡ true = sym (clauses_same n f.clauses a e k formed) ∙ ap (λ c. list_all (clause_true c) f.clauses) is ∙ says.0 in
    let true_is : all_truth (map shape ps) a ≡ true = sym (all_truth_same n ps a e k (overs n ps ∙ over)) ∙ ap (λ c. all_truth (map shape ps) c) is ∙ says.1 in
    (both (are_within f.ranges a) (list_all (clause_true a) f.clauses) front stands, sym (truths ps a) ∙ true_is)

pub clauses_can_hold : ClausesCanHold
clauses_can_hold ps f a formed over m h =
    let n = length f.ranges in
    let model = two (are_within f.ranges a) (list_all (clause_true a) f.clauses) m in
    let k : n ≤ length a = same_size n (length a) (within_length f.ranges a model.0) in
    let fresh = fresh_of_all ps a in
    let b = a ++ fresh in
    let over_is = overs n ps ∙ over in
    let rest : fresh ≡ fresh_of_all ps b ++ [] = sym (append-nil (fresh_of_all ps b) ∙ freshes_all_same n ps a fresh k over_is) in
    let split : Split b f.ranges (fresh_of_all ps b ++ []) = record { front = a; is = ap (λ xs. a ++ xs) rest; within = model.0 } in
    let made = all_makes b (map shape ps) (each_making b ps) None f [] split (clauses_same n f.clauses a fresh k formed ∙ model.1) (all_truth_same n ps a fresh k over_is ∙ truths ps a ∙ h) in
    both (are_within (put_all ps f).ranges b) (list_all (clause_true b) (put_all ps f).clauses) (whole (put_all ps f) b made.0) made.1
  where
    whole : (q : Formula) (b : List ℤ) → Split b q.ranges [] → are_within q.ranges b ≡ true
    whole q b s = ap (are_within q.ranges) (s.is ∙ append-nil s.front) ∙ s.within
