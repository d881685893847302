-- What items make of a certificate.
use Rattle.std.proofs.Common.{◌≡◌, Bool, true, false, cond, ◌&&◌, List, [], ◌∷◌, ◌++◌, refl, ap, ◌∙◌}
use Rattle.std.specs.List.{list_all}
use Rattle.lucy_cert.specs.declared.names.PartName.{PartName}
use Rattle.lucy_cert.specs.declared.steps.ProofStep.{ProofStep}
use Rattle.lucy_cert.specs.Certificates.{Part, part_names, proof, come_before, with_part, with_step, longer}
use Rattle.lucy_cert.specs.Names.{is_before, ascend}

pub with_step_last : (s : ProofStep) (ps : List Part) (p : Part) → with_step s (ps ++ p ∷ []) ≡ ps ++ longer s p ∷ []
with_step_last s [] p = refl
with_step_last s (q ∷ []) p = refl
with_step_last s (q ∷ r ∷ rs) p = ap (λ (l : List Part). q ∷ l) (with_step_last s (r ∷ rs) p)

-- a step changes no name
pub names-with_step : (s : ProofStep) (ps : List Part) → part_names (with_step s ps) ≡ part_names ps
names-with_step s [] = refl
names-with_step s (p ∷ []) = refl
names-with_step s (p ∷ q ∷ ps) = ap (λ (ns : List PartName). p.0 ∷ ns) (names-with_step s (q ∷ ps))

both : (a b : Bool) → a ≡ true → b ≡ true → (a && b) ≡ true
both a b p q = rw (p, q) refl

parts_of : (a b : Bool) → (a && b) ≡ true → (a ≡ true) × (b ≡ true)
parts_of true b e = (refl, e)
parts_of false b e = absurd (cc)

all_push : (n m : PartName) (ns : List PartName) → list_all (is_before n) ns ≡ true → is_before n m ≡ true → list_all (is_before n) (ns ++ m ∷ []) ≡ true
all_push n m [] e h = both (is_before n m) true h refl
all_push n m (k ∷ ks) e h =
    let t = parts_of (is_before n k) (list_all (is_before n) ks) e in
    both (is_before n k) (list_all (is_before n) (ks ++ m ∷ [])) t.0 (all_push n m ks t.1 h)

ascend_push : (m : PartName) (ns : List PartName) → ascend ns ≡ true → list_all (λ n. is_before n m) ns ≡ true → ascend (ns ++ m ∷ []) ≡ true
ascend_push m [] e h = refl
ascend_push m (n ∷ ns) e h =
    let s = parts_of (list_all (is_before n) ns) (ascend ns) e in
    let t = parts_of (is_before n m) (list_all (λ k. is_before k m) ns) h in
    both (list_all (is_before n) (ns ++ m ∷ [])) (ascend (ns ++ m ∷ [])) (all_push n m ns s.0 t.0) (ascend_push m ns s.1 t.1)

names_push : (ps : List Part) (p : Part) → part_names (ps ++ p ∷ []) ≡ part_names ps ++ p.0 ∷ []
names_push [] p = refl
names_push (q ∷ qs) p = ap (λ (ns : List PartName). q.0 ∷ ns) (names_push qs p)

pub ascend-push : (ps : List Part) (p : Part) → ascend (part_names ps) ≡ true → come_before p.0 ps ≡ true → ascend (part_names (ps ++ p ∷ [])) ≡ true
ascend-push ps p e h = ap ascend (names_push ps p) ∙ ascend_push p.0 (part_names ps) e h

pub ascend-with_part : (name : PartName) (ps : List Part) → ascend (part_names ps) ≡ true → ascend (part_names (with_part name ps)) ≡ true
ascend-with_part name ps e = by (come_before name ps) refl
  where
    by : (t : Bool) → come_before name ps ≡ t → ascend (part_names (cond t (ps ++ (name, proof []) ∷ []) ps)) ≡ true
    by true h = ap ascend (names_push ps (name, proof [])) ∙ ascend_push name (part_names ps) e h
    by false h = e

pub ascend-with_step : (s : ProofStep) (ps : List Part) → ascend (part_names ps) ≡ true → ascend (part_names (with_step s ps)) ≡ true
ascend-with_step s ps e = ap ascend (names-with_step s ps) ∙ e
