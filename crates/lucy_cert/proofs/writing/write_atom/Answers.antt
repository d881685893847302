use Rattle.std.proofs.Common.{◌≡◌, ℕ, List, [], ◌∷◌, ◌++◌, sym, ap, ◌∙◌, subst}
use Rattle.std.specs.Prelude.{OnOk, map, codes}
use Rattle.std.specs.Fmt.{signed_decimal}
use Rattle.lucy_cert.specs.Cutting.{behind_spaces}
use Rattle.lucy_cert.specs.Tokens.{part_text}
use Rattle.lucy_cert.proofs.TextLemmas.{behind_append, two}
use Rattle.lucy_cert.proofs.writing.write_atom.Goals as goal

pub returns : goal.returns
returns c =
    let out = c.args.out.now.items in
    let parts = map part_text c.args.atom.now.parts in
    let bound = codes "<=" ∷ (signed_decimal c.args.atom.now.bound ++ c.args.comma.now) ∷ [] in
    let whole : c.write_atom_parts.new.out.items ++ behind_spaces bound ≡ out ++ behind_spaces (parts ++ bound) =
    ap (λ (s : List ℕ). s ++ behind_spaces bound) c.in_ok-write_atom_parts.ensures
    ∙ two out (behind_spaces parts) (behind_spaces bound) (behind_spaces (parts ++ bound)) (sym (behind_append parts bound)) in
    subst (λ (s : List ℕ). OnOk c.write_bound.result (c.write_bound.new.out.items ≡ s)) whole c.write_bound.ensures
