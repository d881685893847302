-- A condition, opened.
use Rattle.std.proofs.Common.{◌≡◌, ◌≢◌, ℕ, List, [], ◌∷◌, ◌++◌, map, Option, Some, None, refl, sym, ap, subst, ◌∙◌, Result, Ok, Err}
use Rattle.lucy_model.specs.declared.conditions.Condition.{Condition}
use Rattle.lucy_model.specs.declared.conditions.Condition.TheVariants as model
use Rattle.lucy_tree.specs.declared.marks.Then.{Then}
use Rattle.lucy_tree.specs.declared.marks.Chain.{Chain}
use Rattle.lucy_tree.specs.declared.conditions.Cond.{Cond, roll-Cond, out-Cond, roll-out-Cond}
use Rattle.lucy_tree.specs.declared.conditions.Unary.{Unary}
use Rattle.lucy_tree.specs.declared.conditions.Unary.TheOpen.{Unary-F}
use Rattle.lucy_tree.specs.declared.conditions.Unary.TheVariants as form
use Rattle.lucy_tree.specs.declared.conditions.Unary.TheVariants.{rolls-Parens}
use Rattle.lucy_tree.specs.declared.marks.Span.{Span}
use Rattle.lucy_tree.specs.declared.conditions.Unary.TheFolds.{fold-roll-Cond, fold-roll-Unary}
use Rattle.lucy_gather.specs.declared.error.ElabError.{ElabError}
use Rattle.lucy_gather.specs.declared.error.ElabError.TheVariants.{OutOfMemory}
use Rattle.lucy_gather.specs.declared.scopes.Entry.{Entry}
use Rattle.lucy_gather.specs.declared.scopes.Scope.{Scope}
use Rattle.lucy_gather.specs.Steps.{Step, Outcome, Gives, pure, and_then, ◌>>=◌}
use Rattle.lucy_gather.specs.Conditions.{Counted, counted, then_map, chain_map, all_of, itself, listed, chained, conj_step, disj_step, implied_by, unary_step, cond_step, unary_of, condition_of}

-- the same steps after the same outcome
after : {A B : Type 0} (o p : Outcome ℕ A) (f g : A → Step ℕ B) → o ≡ p → ((a : A) (m : ℕ) → f a m ≡ g a m) → and_then o f ≡ and_then p g
after {A = A} o p f g e same = ap (λ q. and_then q f) e ∙ by p
  where
    by : (q : Outcome ℕ A) → and_then q f ≡ and_then q g
    by (Ok r) = same r.0 r.1
    by (Err d) = refl

-- a list of steps that were made beforehand, and one that makes each in its turn
module _ {X Y : Type 0} (build : List Condition → Condition) (f : Y → Counted) (h : X → Y) (g : X → Counted) (same : (x : X) (n : ℕ) → f (h x) n ≡ g x n) where
  all_fused : (xs : List (Then X)) (found : List Condition) (n : ℕ) → all_of f (map (then_map h) xs) found n ≡ all_of g xs found n
  all_fused [] found n = refl
  all_fused (t ∷ ts) found n = after (f (h t.item) n) (g t.item n) _ _ (same t.item n) (λ c m. all_fused ts (found ++ c ∷ []) m)

  listed_fused : (xs : List (Then X)) (first : Condition) (n : ℕ) → listed build f (map (then_map h) xs) first n ≡ listed build g xs first n
  listed_fused [] first n = refl
  listed_fused (t ∷ ts) first n = after (counted n) (counted n) _ _ refl (λ u m. ap (λ (o : Outcome ℕ (List Condition)). and_then o (λ parts. pure (build parts))) (all_fused (t ∷ ts) (first ∷ []) m))

  chained_fused : (chain : Chain X) (n : ℕ) → chained build f (chain_map h chain) n ≡ chained build g chain n
  chained_fused chain n = after (f (h chain.first) n) (g chain.first n) _ _ (same chain.first n) (λ c m. listed_fused chain.others c m)

module _ (scope : Scope) (params : List Entry) where
  by : (left : Chain (Chain Unary)) (right : Option (Then Cond))
      → condition_of scope params (roll-Cond (record { left = left; implied = right }))
      ≡ (disj_step (chain_map (chain_map (unary_of scope params)) left) >>= implied_by (condition_of scope params) right)
  by left None = fold-roll-Cond Counted Counted (unary_step scope params) (cond_step scope params) (record { left = left; implied = None })
  by left (Some t) = fold-roll-Cond Counted Counted (unary_step scope params) (cond_step scope params) (record { left = left; implied = Some t })

  conj_is : (conj : Chain Unary) (n : ℕ) → conj_step (chain_map (unary_of scope params) conj) n ≡ chained model.And (unary_of scope params) conj n
  unfolding conj_step
  conj_is conj n = chained_fused model.And itself (unary_of scope params) (unary_of scope params) (λ u m. refl) conj n

  disj_is : (disj : Chain (Chain Unary)) (n : ℕ) → disj_step (chain_map (chain_map (unary_of scope params)) disj) n ≡ chained model.Or (chained model.And (unary_of scope params)) disj n
  unfolding disj_step
  disj_is disj n = chained_fused model.Or conj_step (chain_map (unary_of scope params)) (chained model.And (unary_of scope params)) conj_is disj n

  -- its left side, then what it implies
  condition_is : (c : Cond) (n : ℕ)
      → condition_of scope params c n ≡ and_then (chained model.Or (chained model.And (unary_of scope params)) (out-Cond c).left n) (implied_by (condition_of scope params) (out-Cond c).implied)
  condition_is c n =
      ap (λ (x : Cond). condition_of scope params x n) (sym (roll-out-Cond c))
      ∙ ap (λ (f : Counted). f n) (by (out-Cond c).left (out-Cond c).implied)
      ∙ ap (λ (o : Outcome ℕ Condition). and_then o (implied_by (condition_of scope params) (out-Cond c).implied)) (disj_is (out-Cond c).left n)

  pub goes_on : (c : Cond) (n m k : ℕ) (left : Condition) (r : Result Condition ElabError)
      → chained model.Or (chained model.And (unary_of scope params)) (out-Cond c).left n ≡ Ok (left, m)
      → Gives (implied_by (condition_of scope params) (out-Cond c).implied left m) r k → Gives (condition_of scope params c n) r k
  goes_on c n m k left r passed =
      subst (λ (o : Outcome ℕ Condition). Gives o r k) (sym (condition_is c n ∙ ap (λ (o : Outcome ℕ Condition). and_then o (implied_by (condition_of scope params) (out-Cond c).implied)) passed))

  pub stops : (c : Cond) (n : ℕ) (e : ElabError) → (e ≢ OutOfMemory → chained model.Or (chained model.And (unary_of scope params)) (out-Cond c).left n ≡ Err e)
      → e ≢ OutOfMemory → condition_of scope params c n ≡ Err e
  stops c n e refused there = condition_is c n ∙ ap (λ (o : Outcome ℕ Condition). and_then o (implied_by (condition_of scope params) (out-Cond c).implied)) (refused there)

  -- parentheses add nothing
  pub parens_is : (open_paren : Span) (c : Cond) (close_paren : Span) → unary_of scope params (form.Parens open_paren c close_paren) ≡ condition_of scope params c
  parens_is open_paren c close_paren = ap (unary_of scope params) (sym (rolls-Parens open_paren c close_paren))
      ∙ fold-roll-Unary Counted Counted (unary_step scope params) (cond_step scope params) (Unary-F.Parens open_paren c close_paren)

pub implied_is : (f : Cond → Counted) (o : Option (Then Cond)) (t : Then Cond) (left right both : Condition) (n m k : ℕ)
    → o ≡ Some t → counted n ≡ Ok (tt, m) → f t.item m ≡ Ok (right, k) → both ≡ model.Implies left right → implied_by f o left n ≡ Ok (both, k)
implied_is f o t left right both n m k e g h b = rw (e, g, h, b) refl
