-- The parts of a joint, where no part is a list of one part alone.
use Rattle.std.proofs.Common.{◌≡◌, List, [], ◌∷◌, ◌++◌, refl, sym, ap, ◌∙◌, subst}
use Rattle.lucy_clauses.specs.Sums.{Form}
use Rattle.lucy_normal.specs.declared.joints.Joint.{Joint}
use Rattle.lucy_normal.specs.declared.joints.Joint.TheVariants as joint
use Rattle.lucy_normal.specs.declared.normals.Normal.{Normal, All, Any}
use Rattle.lucy_normal.specs.declared.normals.Normal.TheVariants.{Atom as Lone, rolls-All, rolls-Any, rolls-Atom}
use Rattle.lucy_normal.specs.declared.normals.Normal.TheViews.{roll-Normal, out-Normal, roll-out-Normal, out-roll-Normal}
use Rattle.lucy_normal.specs.declared.normals.Normal.TheOpen.{Normal-F}
use Rattle.lucy_normal.specs.Flat.{within_all, within_any}
use Rattle.lucy_normal.specs.Joints.{within, flat, one, joined, other, list_of}
use Rattle.lucy_normal.specs.Gathering.{IsNotOne}

abbrev Proper : Normal-F Normal → Type 0
Proper (Normal-F.Atom t) = Unit {0}
Proper (Normal-F.All ps) = IsNotOne ps
Proper (Normal-F.Any ps) = IsNotOne ps

-- a normal condition is no list of one part
abbrev pub IsProper : Normal → Type 0
IsProper p = Proper (out-Normal p)

abbrev pub AreProper : List Normal → Type 0
AreProper [] = Unit {0}
AreProper (p ∷ ps) = IsProper p × AreProper ps

-- ---- lists of a joint

out_all : (ps : List Normal) → out-Normal (All ps) ≡ Normal-F.All ps
out_all ps = ap out-Normal (sym (rolls-All ps)) ∙ out-roll-Normal (Normal-F.All ps)

out_any : (ps : List Normal) → out-Normal (Any ps) ≡ Normal-F.Any ps
out_any ps = ap out-Normal (sym (rolls-Any ps)) ∙ out-roll-Normal (Normal-F.Any ps)

out_lone : (t : Form) → out-Normal (Lone t) ≡ Normal-F.Atom t
out_lone t = ap out-Normal (sym (rolls-Atom t)) ∙ out-roll-Normal (Normal-F.Atom t)

pub lone_proper : (t : Form) → IsProper (Lone t)
lone_proper t = subst Proper (sym (out_lone t)) tt

list_proper : (j : Joint) (ps : List Normal) → IsNotOne ps → IsProper (list_of j ps)
list_proper joint.All ps h = subst Proper (sym (out_all ps)) h
list_proper joint.Any ps h = subst Proper (sym (out_any ps)) h

pub none_proper : IsProper (All [])
none_proper = list_proper joint.All [] tt

pub never_proper : IsProper (Any [])
never_proper = list_proper joint.Any [] tt

pub within_list : (j : Joint) (ps : List Normal) → within j (list_of j ps) ≡ ps
within_list joint.All ps = ap (within_all (All ps)) (out_all ps)
within_list joint.Any ps = ap (within_any (Any ps)) (out_any ps)

pub within_other : (j : Joint) (ps : List Normal) → within (other j) (list_of j ps) ≡ list_of j ps ∷ []
within_other joint.All ps = ap (within_any (All ps)) (out_all ps)
within_other joint.Any ps = ap (within_all (Any ps)) (out_any ps)

pub one_is : (j : Joint) (p : Normal) → one j (p ∷ []) ≡ p
one_is joint.All p = refl
one_is joint.Any p = refl

pub one_list : (j : Joint) (ps : List Normal) → IsNotOne ps → one j ps ≡ list_of j ps
one_list joint.All [] h = refl
one_list joint.All (p ∷ []) h = absurd h
one_list joint.All (p ∷ q ∷ ps) h = refl
one_list joint.Any [] h = refl
one_list joint.Any (p ∷ []) h = absurd h
one_list joint.Any (p ∷ q ∷ ps) h = refl

-- ---- a part of a joint is one part of it, or a list of it

seen_all : (p : Normal) (x : Normal-F Normal) → out-Normal p ≡ x → Proper x → (Q : List Normal → Type 0) → (within_all p x ≡ p ∷ [] → Q (p ∷ [])) → ((ps : List Normal) → p ≡ All ps → IsNotOne ps → Q ps) → Q (within_all p x)
seen_all p (Normal-F.Atom t) e h Q alone list = alone refl
seen_all p (Normal-F.All ps) e h Q alone list = list ps (sym (roll-out-Normal p) ∙ ap roll-Normal e ∙ rolls-All ps) h
seen_all p (Normal-F.Any ps) e h Q alone list = alone refl

seen_any : (p : Normal) (x : Normal-F Normal) → out-Normal p ≡ x → Proper x → (Q : List Normal → Type 0) → (within_any p x ≡ p ∷ [] → Q (p ∷ [])) → ((ps : List Normal) → p ≡ Any ps → IsNotOne ps → Q ps) → Q (within_any p x)
seen_any p (Normal-F.Atom t) e h Q alone list = alone refl
seen_any p (Normal-F.All ps) e h Q alone list = alone refl
seen_any p (Normal-F.Any ps) e h Q alone list = list ps (sym (roll-out-Normal p) ∙ ap roll-Normal e ∙ rolls-Any ps) h

seen : (j : Joint) (p : Normal) → IsProper p → (Q : List Normal → Type 0) → (within j p ≡ p ∷ [] → Q (p ∷ [])) → ((ps : List Normal) → p ≡ list_of j ps → IsNotOne ps → Q ps) → Q (within j p)
seen joint.All p h = seen_all p (out-Normal p) refl h
seen joint.Any p h = seen_any p (out-Normal p) refl h

-- what joins one part alone is that part
pub one_within : (j : Joint) (p : Normal) → IsProper p → one j (within j p) ≡ p
one_within j p h = seen j p h (λ (l : List Normal). one j l ≡ p) (λ e. one_is j p) (λ ps e n. one_list j ps n ∙ sym e)

-- ---- several

-- one part alone is a part of the joint as it is
abbrev Fine : Joint → List Normal → Type 0
Fine j [] = Unit {0}
Fine j (p ∷ []) = IsProper p × (within j p ≡ p ∷ [])
Fine j (p ∷ q ∷ ps) = Unit {0}

fine_cons : (j : Joint) (p : Normal) → IsProper p × (within j p ≡ p ∷ []) → (rest : List Normal) → Fine j (p ∷ rest)
fine_cons j p h [] = h
fine_cons j p h (q ∷ rest) = tt

fine_list : (j : Joint) (ps : List Normal) → IsNotOne ps → (rest : List Normal) → Fine j rest → Fine j (ps ++ rest)
fine_list j [] h rest f = f
fine_list j (p ∷ []) h rest f = absurd h
fine_list j (p ∷ q ∷ ps) h rest f = tt

fine_step : (j : Joint) (p : Normal) → IsProper p → (rest : List Normal) → Fine j rest → Fine j (within j p ++ rest)
fine_step j p h rest f = seen j p h (λ (l : List Normal). Fine j (l ++ rest)) (λ e. fine_cons j p (h, e) rest) (λ ps e n. fine_list j ps n rest f)

fine : (j : Joint) (ps : List Normal) → AreProper ps → Fine j (flat j ps)
fine joint.All [] h = tt
fine joint.All (p ∷ ps) h = fine_step joint.All p h.0 (flat joint.All ps) (fine joint.All ps h.1)
fine joint.Any [] h = tt
fine joint.Any (p ∷ ps) h = fine_step joint.Any p h.0 (flat joint.Any ps) (fine joint.Any ps h.1)

whole : (j : Joint) (ps : List Normal) → Fine j ps → IsProper (one j ps) × (within j (one j ps) ≡ ps)
whole j [] f = subst (λ (p : Normal). IsProper p × (within j p ≡ [])) (sym (one_list j [] tt)) (list_proper j [] tt, within_list j [])
whole j (p ∷ []) f = subst (λ (q : Normal). IsProper q × (within j q ≡ p ∷ [])) (sym (one_is j p)) f
whole j (p ∷ q ∷ ps) f =
    subst (λ (r : Normal). IsProper r × (within j r ≡ p ∷ q ∷ ps)) (sym (one_list j (p ∷ q ∷ ps) tt)) (list_proper j (p ∷ q ∷ ps) tt, within_list j (p ∷ q ∷ ps))

-- the parts of what joins several are the parts of these
pub joined_is : (j : Joint) (ps : List Normal) → AreProper ps → IsProper (joined j ps) × (within j (joined j ps) ≡ flat j ps)
joined_is j ps h = whole j (flat j ps) (fine j ps h)
