-- One more line of a text that is written line by line.
use Rattle.std.proofs.Common.{◌≡◌, ℕ, ◌+◌, ◌<◌, Bool, true, false, ◌&&◌, nat_lt, List, [], ◌∷◌, ◌++◌, length, drop, get_or, append_assoc, refl, ap, sym, ◌∙◌}
use Rattle.std.proofs.lemmas.List.{drop_more}
use Rattle.std.specs.List.{list_all}
use Rattle.lucy_plan.specs.declared.parts.Call.{Call}
use Rattle.lucy_calls.specs.Texts.{call_line, call_lines, lists_lines, are_named}

second : (a b : Bool) → (a && b) ≡ true → b ≡ true
second true b h = h
second false b h = cc

module _ (names : List (List ℕ)) (calls : List Call) (i : ℕ) (call : Call) (below : i < length calls) (is : call ≡ get_or calls i call) where
  pub call_more : (replica : ℕ) (out more whole : List ℕ) → more ≡ out ++ (call_line names replica call ++ 10 ∷ []) → out ++ call_lines names replica (drop i calls) ≡ whole
      → more ++ call_lines names replica (drop (i + 1) calls) ≡ whole
  call_more replica out more whole added left =
      let line = call_line names replica call in
      let rest = call_lines names replica (drop (i + 1) calls) in
      let opened : out ++ call_lines names replica (drop i calls) ≡ out ++ (line ++ 10 ∷ rest) = rw (drop_more calls i call below, ← is) refl in
      ap (λ (o : List ℕ). o ++ rest) added ∙ append_assoc out (line ++ 10 ∷ []) rest ∙ ap (λ (r : List ℕ). out ++ r) (append_assoc line (10 ∷ []) rest) ∙ sym opened ∙ left

  pub named_more : are_named names (drop i calls) ≡ true → are_named names (drop (i + 1) calls) ≡ true
  named_more left =
      let opened : are_named names (drop i calls) ≡ (nat_lt call.txn (length names) && are_named names (drop (i + 1) calls)) = rw (drop_more calls i call below, ← is) refl in
      second (nat_lt call.txn (length names)) (are_named names (drop (i + 1) calls)) (sym opened ∙ left)

module _ (names : List (List ℕ)) (lists : List (List Call)) (i : ℕ) (calls : List Call) (below : i < length lists) (is : calls ≡ get_or lists i calls) where
  pub list_more : (written : List Call) (out more whole : List ℕ) → written ≡ calls → more ≡ out ++ call_lines names i written → out ++ lists_lines names i (drop i lists) ≡ whole
      → more ++ lists_lines names (i + 1) (drop (i + 1) lists) ≡ whole
  list_more written out more whole same added left =
      let rest = lists_lines names (i + 1) (drop (i + 1) lists) in
      let opened : out ++ lists_lines names i (drop i lists) ≡ out ++ (call_lines names i calls ++ rest) = rw (drop_more lists i calls below, ← is) refl in
      ap (λ (o : List ℕ). o ++ rest) added ∙ append_assoc out (call_lines names i written) rest ∙ ap (λ (c : List Call). out ++ (call_lines names i c ++ rest)) same ∙ sym opened ∙ left

  pub lists_named_more : list_all (are_named names) (drop i lists) ≡ true → list_all (are_named names) (drop (i + 1) lists) ≡ true
  lists_named_more left =
      let opened : list_all (are_named names) (drop i lists) ≡ (are_named names calls && list_all (are_named names) (drop (i + 1) lists)) = rw (drop_more lists i calls below, ← is) refl in
      second (are_named names calls) (list_all (are_named names) (drop (i + 1) lists)) (sym opened ∙ left)
