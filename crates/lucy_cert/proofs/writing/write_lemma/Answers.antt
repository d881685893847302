use Rattle.std.proofs.Common.{◌≡◌, ℕ, List, [], ◌∷◌, ◌++◌, ap, ◌∙◌, subst}
use Rattle.std.specs.Prelude.{OnOk, map, codes}
use Rattle.lucy_cert.specs.declared.entries.Entry.TheVariants as entry
use Rattle.lucy_cert.specs.Cutting.{behind_spaces}
use Rattle.lucy_cert.specs.Texts.{clause_pieces, lines_text, lemma_entries}
use Rattle.lucy_cert.proofs.TextLemmas.{four, lemma_text}
use Rattle.lucy_cert.proofs.writing.write_lemma.Goals as goal

pub returns : goal.returns
returns c =
    let out = c.args.out.now.items in
    let clause = c.args.clause.now in
    let lines = c.args.lines.now in
    let a = codes "lemma" ++ behind_spaces (clause_pieces clause.atoms) in
    let d = lines_text (map entry.Derivation lines) in
    let text = lines_text (lemma_entries clause lines) in
    let written = c.in_ok-write_lines.ensures ∙ ap (λ (s : List ℕ). s ++ d) (c.in_ok-write_text.ensures ∙ ap (λ (s : List ℕ). s ++ 10 ∷ []) c.in_ok-write_clause.ensures) in
    let whole : c.write_lines.new.out.items ++ (codes "qed" ++ 10 ∷ []) ≡ out ++ text =
    ap (λ (s : List ℕ). s ++ (codes "qed" ++ 10 ∷ [])) written ∙ four out a (10 ∷ []) d (codes "qed" ++ 10 ∷ []) text (lemma_text clause lines) in
    subst (λ (s : List ℕ). OnOk c.write_text-2.result (c.write_text-2.new.out.items ≡ s)) whole c.write_text-2.ensures
