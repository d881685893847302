use Rattle.std.proofs.Common.{◌≡◌, ℕ, List, [], ◌∷◌, ◌++◌, ap, ◌∙◌, subst}
use Rattle.std.specs.Prelude.{OnOk, map, codes, decimal}
use Rattle.lucy_cert.specs.Cutting.{behind_spaces}
use Rattle.lucy_cert.specs.Texts.{clause_pieces}
use Rattle.lucy_cert.proofs.TextLemmas.{four, rup_text}
use Rattle.lucy_cert.proofs.writing.write_rup.Goals as goal

pub returns : goal.returns
returns c =
    let out = c.args.out.now.items in
    let atoms = c.args.clause.now.atoms in
    let hints = map decimal c.args.hints.now in
    let a = codes "rup" ++ behind_spaces (clause_pieces atoms) in
    let text = codes "rup" ++ behind_spaces (clause_pieces atoms ++ codes "by" ∷ hints) ++ 10 ∷ [] in
    let counts = c.in_ok-write_counts.ensures ∙ ap (λ (s : List ℕ). s ++ behind_spaces hints) (c.in_ok-write_text.ensures ∙ ap (λ (s : List ℕ). s ++ codes " by") c.in_ok-write_clause.ensures) in
    let whole : c.write_counts.new.out.items ++ 10 ∷ [] ≡ out ++ text =
    ap (λ (s : List ℕ). s ++ 10 ∷ []) counts ∙ four out a (codes " by") (behind_spaces hints) (10 ∷ []) text (rup_text atoms hints) in
    subst (λ (s : List ℕ). OnOk c.write_text-2.result (c.write_text-2.new.out.items ≡ s)) whole c.write_text-2.ensures
