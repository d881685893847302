use Rattle.std.proofs.Common.{◌≡◌, ◌∙◌, ◌+◌, ◌<◌, ap, sym, subst, arith, not, map, Bool, true, false, if◌then◌else◌, List, ℕ}
use Rattle.std.specs.String.{string_bytes}
use Rattle.lucy_names.specs.Tables.{is_among, with_name, differ}
use Rattle.lucy_names.proofs.Differing.{with_name_kept}
use Rattle.lucy_names.proofs.Texts.{among_is, with_is}
use Rattle.lucy_names.proofs.table.NameTable.add.Goals as goal

pub returns-clause-new : goal.returns-clause-new
returns-clause-new c =
    let text : string_bytes c.in_ok-text.text ≡ c.args.name.now = c.in_ok-text.ensures.ok in
    c.in_ok-put.ensures.added ∙ ap not (among_is string_bytes (string_bytes c.in_ok-text.text) c.self.inside.texts.keys ∙ ap (is_among _) text ∙ ap (λ (ns : List (List ℕ)). is_among ns c.args.name.now) c.self.view_is)

pub returns-clause-value : goal.returns-clause-value
returns-clause-value c =
    let text : string_bytes c.in_ok-text.text ≡ c.args.name.now = c.in_ok-text.ensures.ok in
    ap (λ ks. map string_bytes ks) c.in_ok-put.ensures.keys ∙ with_is string_bytes c.self.inside.texts.keys c.in_ok-text.text ∙ ap (with_name _) text ∙ ap (λ (ns : List (List ℕ)). with_name ns c.args.name.now) c.self.view_is

few : (t : Bool) (m n : ℕ) → m ≡ n + (if t then 1 else 0) → n < 4294967295 → m < 4294967296
few true m n e lt = omega arith
few false m n e lt = omega arith

pub invariant_of-self-2 : goal.invariant_of-self-2
invariant_of-self-2 c =
    let keys = c.self.inside.texts.keys in
    let e = ap (λ ks. map string_bytes ks) c.in_ok-put.ensures.keys ∙ with_is string_bytes keys c.in_ok-text.text in (
      subst (λ (ns : List (List ℕ)). differ ns ≡ true) (sym e) (with_name_kept (map string_bytes keys) (string_bytes c.in_ok-text.text) c.self.invariant.0),
      few c.in_ok-put.put _ _ c.in_ok-put.ensures.len (omega arith),
    )
