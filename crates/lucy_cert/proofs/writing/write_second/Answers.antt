use Rattle.std.proofs.Common.{◌≡◌, ℕ, List, [], ◌∷◌, ◌++◌, ap, ◌∙◌, subst, refl}
use Rattle.std.specs.Prelude.{OnOk, codes, decimal}
use Rattle.lucy_cert.proofs.TextLemmas.{three}
use Rattle.lucy_cert.proofs.writing.write_second.Goals as goal

pub returns : goal.returns
returns c =
    let out = c.args.out.now.items in
    let a = codes "lucy certificate 2 live " in
    let b = decimal c.args.live in
    let text = a ++ (b ++ 10 ∷ []) in
    let count = c.in_ok-write_count.ensures ∙ ap (λ (s : List ℕ). s ++ b) c.in_ok-write_text.ensures in
    let whole : c.write_count.new.out.items ++ 10 ∷ [] ≡ out ++ text =
    ap (λ (s : List ℕ). s ++ 10 ∷ []) count ∙ three out a b (10 ∷ []) text refl in
    subst (λ (s : List ℕ). OnOk c.write_text-2.result (c.write_text-2.new.out.items ≡ s)) whole c.write_text-2.ensures
