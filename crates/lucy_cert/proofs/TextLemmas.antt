-- Texts of pieces and of lines, put together.
use Rattle.std.proofs.Common.{◌≡◌, ℕ, suc, ◌+◌, ◌<◌, List, [], ◌∷◌, ◌++◌, length, get_or, drop, refl, ap, sym, ◌∙◌, append_assoc, add-one, drop-cons}
use Rattle.std.specs.Prelude.{map, codes}
use Rattle.std.specs.List.{flat_map}
use Rattle.lucy_clauses.specs.declared.formulas.Clause.{Clause}
use Rattle.lucy_clauses.specs.declared.lines.Line.{Line}
use Rattle.lucy_clauses.specs.Sums.{Form}
use Rattle.lucy_cert.specs.declared.entries.Entry.{Entry}
use Rattle.lucy_cert.specs.declared.entries.Entry.TheVariants as entry
use Rattle.lucy_cert.specs.Certificates.{Contents}
use Rattle.lucy_cert.specs.Cutting.{behind_spaces}
use Rattle.lucy_cert.specs.Texts.{atom_pieces, comma_before, clause_pieces, entry_text, lines_text, lemma_entries, part_entries, certificate_text}

pub behind_append : (ps qs : List (List ℕ)) → behind_spaces (ps ++ qs) ≡ behind_spaces ps ++ behind_spaces qs
behind_append [] qs = refl
behind_append (p ∷ ps) qs = ap (λ (s : List ℕ). (32 ∷ p) ++ s) (behind_append ps qs) ∙ sym (append_assoc (32 ∷ p) (behind_spaces ps) (behind_spaces qs))

pub lines_append : (es fs : List Entry) → lines_text (es ++ fs) ≡ lines_text es ++ lines_text fs
lines_append [] fs = refl
lines_append (e ∷ es) fs =
    ap (λ (s : List ℕ). entry_text e ++ 10 ∷ s) (lines_append es fs) ∙ sym (append_assoc (entry_text e) (10 ∷ lines_text es) (lines_text fs))

-- one more element of a list, each of which has some lines
pub one_more : {A : Type 0} (f : A → List Entry) (xs : List A) (i : ℕ) (x : A) (old new said : List ℕ) → i < length xs → x ≡ get_or xs i x → new ≡ old ++ lines_text (f x)
    → old ++ lines_text (flat_map f (drop i xs)) ≡ said → new ++ lines_text (flat_map f (drop (i + 1) xs)) ≡ said
one_more {A} f xs i x old new said lt at e so =
    let rest = lines_text (flat_map f (drop (i + 1) xs)) in
    let cut : drop i xs ≡ x ∷ drop (i + 1) xs = rw (add-one) (drop-cons xs i x lt ∙ ap (λ (y : A). y ∷ drop (suc i) xs) (sym at)) in
    ap (λ (s : List ℕ). s ++ rest) e ∙ append_assoc old (lines_text (f x)) rest ∙ ap (λ (s : List ℕ). old ++ s) (sym (lines_append (f x) (flat_map f (drop (i + 1) xs))))
    ∙ ap (λ (ys : List A). old ++ lines_text (flat_map f ys)) (sym cut) ∙ so

-- one more atom of a clause
pub atom_more : (t : Form) (ts us : List Form) (old new said : List ℕ) → us ≡ t ∷ ts → new ≡ old ++ behind_spaces (atom_pieces (comma_before ts) t)
    → old ++ behind_spaces (clause_pieces us) ≡ said → new ++ behind_spaces (clause_pieces ts) ≡ said
atom_more t ts us old new said is e so =
    let here = atom_pieces (comma_before ts) t in
    ap (λ (s : List ℕ). s ++ behind_spaces (clause_pieces ts)) e ∙ append_assoc old (behind_spaces here) (behind_spaces (clause_pieces ts))
    ∙ ap (λ (s : List ℕ). old ++ s) (sym (behind_append here (clause_pieces ts)))
    ∙ ap (λ (vs : List Form). old ++ behind_spaces (clause_pieces vs)) (sym is) ∙ so

-- two texts behind another
pub two : (out a b text : List ℕ) → a ++ b ≡ text → (out ++ a) ++ b ≡ out ++ text
two out a b text e = append_assoc out a b ∙ ap (λ (s : List ℕ). out ++ s) e

pub three : (out a b c text : List ℕ) → a ++ (b ++ c) ≡ text → ((out ++ a) ++ b) ++ c ≡ out ++ text
three out a b c text e = append_assoc (out ++ a) b c ∙ two out a (b ++ c) text e

pub four : (out a b c d text : List ℕ) → a ++ (b ++ (c ++ d)) ≡ text → (((out ++ a) ++ b) ++ c) ++ d ≡ out ++ text
four out a b c d text e = append_assoc ((out ++ a) ++ b) c d ∙ three out a b (c ++ d) text e

-- the pieces of a clause, `by` and hints
pub rup_text : (ts : List Form) (hints : List (List ℕ))
    → (codes "rup" ++ behind_spaces (clause_pieces ts)) ++ (codes " by" ++ (behind_spaces hints ++ 10 ∷ []))
    ≡ codes "rup" ++ behind_spaces (clause_pieces ts ++ codes "by" ∷ hints) ++ 10 ∷ []
rup_text ts hints =
    append_assoc (codes "rup") (behind_spaces (clause_pieces ts)) (codes " by" ++ (behind_spaces hints ++ 10 ∷ []))
    ∙ ap (λ (s : List ℕ). codes "rup" ++ s) (sym (append_assoc (behind_spaces (clause_pieces ts)) (behind_spaces (codes "by" ∷ hints)) (10 ∷ [])))
    ∙ ap (λ (s : List ℕ). codes "rup" ++ (s ++ 10 ∷ [])) (sym (behind_append (clause_pieces ts) (codes "by" ∷ hints)))
    ∙ sym (append_assoc (codes "rup") (behind_spaces (clause_pieces ts ++ codes "by" ∷ hints)) (10 ∷ []))

-- the lines of a lemma
pub lemma_text : (clause : Clause) (lines : List Line)
    → (codes "lemma" ++ behind_spaces (clause_pieces clause.atoms)) ++ (10 ∷ [] ++ (lines_text (map entry.Derivation lines) ++ (codes "qed" ++ 10 ∷ [])))
    ≡ lines_text (lemma_entries clause lines)
lemma_text clause lines =
    ap (λ (s : List ℕ). entry_text (entry.Lemma clause) ++ 10 ∷ s) (sym (lines_append (map entry.Derivation lines) (entry.Qed ∷ [])))

-- the text of a certificate
pub whole_text : (c : Contents)
    → (entry_text (entry.Header c.live) ++ 10 ∷ []) ++ (lines_text (flat_map part_entries c.parts) ++ (codes "end" ++ 10 ∷ [])) ≡ certificate_text c
unfolding certificate_text
whole_text c =
    append_assoc (entry_text (entry.Header c.live)) (10 ∷ []) (lines_text (flat_map part_entries c.parts) ++ (codes "end" ++ 10 ∷ []))
    ∙ ap (λ (s : List ℕ). entry_text (entry.Header c.live) ++ 10 ∷ s)
    (sym (lines_append (flat_map part_entries c.parts) (entry.End ∷ [])))
