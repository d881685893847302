-- Negations of conditions made of others.
use Rattle.std.proofs.Common.{◌≡◌, ℕ, ℤ, ◌<◌, ◌+◌, Bool, true, false, not, ◌||◌, ◌&&◌, List, [], ◌∷◌, ◌++◌, length, map, take, get_or, refl, ap, sym, ◌∙◌}
use Rattle.std.specs.List.{list_all, list_any, AllZip}
use Rattle.std.proofs.lemmas.List.{take_more}
use Rattle.std.proofs.lemmas.List.Elements.{AllZip-push}
use Rattle.std.proofs.lemmas.List.Folds.{list_all-map}
use Rattle.lucy_model.specs.Conditions.{Test, test_step, holds_at, is_condition, range_step}
use Rattle.lucy_model.specs.Negations.{IsNegation}
use Rattle.lucy_model.specs.declared.conditions.Condition.{Condition, And, Or, Implies}
use Rattle.lucy_model.specs.declared.conditions.Condition.TheVariants.{rolls-And, rolls-Or, rolls-Implies}
use Rattle.lucy_model.specs.declared.conditions.Condition.TheOpen.{Condition-F}
use Rattle.lucy_model.specs.declared.conditions.Condition.TheFolds.{fold-roll-Condition}

list_any-map : {X Y : Type 0} (p : X → Bool) (h : Y → X) (ys : List Y) → list_any p (map h ys) ≡ list_any (λ y. p (h y)) ys
list_any-map p h [] = refl
list_any-map p h (y ∷ ys) = ap (λ b. p (h y) || b) (list_any-map p h ys)

holds_at-And : (cs : List Condition) (xs arguments : List ℤ) → holds_at (And cs) xs arguments ≡ list_all (λ c. holds_at c xs arguments) cs
holds_at-And cs xs arguments =
    ap (λ c. holds_at c xs arguments) (sym (rolls-And cs)) ∙ ap (λ (t : Test). t xs arguments) (fold-roll-Condition Test test_step (Condition-F.And cs))
    ∙ list_all-map (λ (t : Test). t xs arguments) holds_at cs

holds_at-Or : (cs : List Condition) (xs arguments : List ℤ) → holds_at (Or cs) xs arguments ≡ list_any (λ c. holds_at c xs arguments) cs
holds_at-Or cs xs arguments =
    ap (λ c. holds_at c xs arguments) (sym (rolls-Or cs)) ∙ ap (λ (t : Test). t xs arguments) (fold-roll-Condition Test test_step (Condition-F.Or cs))
    ∙ list_any-map (λ (t : Test). t xs arguments) holds_at cs

holds_at-Implies : (a b : Condition) (xs arguments : List ℤ) → holds_at (Implies a b) xs arguments ≡ (not (holds_at a xs arguments) || holds_at b xs arguments)
holds_at-Implies a b xs arguments =
    ap (λ c. holds_at c xs arguments) (sym (rolls-Implies a b)) ∙ ap (λ (t : Test). t xs arguments) (fold-roll-Condition Test test_step (Condition-F.Implies a b))

ranges-And : (cs : List Condition) (m n : ℕ) → is_condition m n (And cs) ≡ list_all (is_condition m n) cs
ranges-And cs m n = ap (is_condition m n) (sym (rolls-And cs)) ∙ fold-roll-Condition Bool (range_step m n) (Condition-F.And cs) ∙ list_all-map (λ (b : Bool). b) (is_condition m n) cs

ranges-Or : (cs : List Condition) (m n : ℕ) → is_condition m n (Or cs) ≡ list_all (is_condition m n) cs
ranges-Or cs m n = ap (is_condition m n) (sym (rolls-Or cs)) ∙ fold-roll-Condition Bool (range_step m n) (Condition-F.Or cs) ∙ list_all-map (λ (b : Bool). b) (is_condition m n) cs

ranges-Implies : (a b : Condition) (m n : ℕ) → is_condition m n (Implies a b) ≡ (is_condition m n a && is_condition m n b)
ranges-Implies a b m n = ap (is_condition m n) (sym (rolls-Implies a b)) ∙ fold-roll-Condition Bool (range_step m n) (Condition-F.Implies a b)

not-and : (a b : Bool) → not (a && b) ≡ (not a || not b)
not-and true b = refl
not-and false b = refl

not-or : (a b : Bool) → not (a || b) ≡ (not a && not b)
not-or true b = refl
not-or false b = refl

and_one : (x : Bool) → (x && true) ≡ x
and_one true = refl
and_one false = refl

any_negated : (ns cs : List Condition) (xs arguments : List ℤ) → AllZip IsNegation ns cs → list_any (λ e. holds_at e xs arguments) ns ≡ not (list_all (λ e. holds_at e xs arguments) cs)
any_negated [] [] xs arguments h = refl
any_negated [] (c ∷ cs) xs arguments h = absurd h
any_negated (n ∷ ns) [] xs arguments h = absurd h
any_negated (n ∷ ns) (c ∷ cs) xs arguments h =
    ap (λ b. b || list_any (λ e. holds_at e xs arguments) ns) (h.0.opposite xs arguments)
    ∙ ap (λ b. not (holds_at c xs arguments) || b) (any_negated ns cs xs arguments h.1)
    ∙ sym (not-and (holds_at c xs arguments) (list_all (λ e. holds_at e xs arguments) cs))

all_negated : (ns cs : List Condition) (xs arguments : List ℤ) → AllZip IsNegation ns cs → list_all (λ e. holds_at e xs arguments) ns ≡ not (list_any (λ e. holds_at e xs arguments) cs)
all_negated [] [] xs arguments h = refl
all_negated [] (c ∷ cs) xs arguments h = absurd h
all_negated (n ∷ ns) [] xs arguments h = absurd h
all_negated (n ∷ ns) (c ∷ cs) xs arguments h =
    ap (λ b. b && list_all (λ e. holds_at e xs arguments) ns) (h.0.opposite xs arguments)
    ∙ ap (λ b. not (holds_at c xs arguments) && b) (all_negated ns cs xs arguments h.1)
    ∙ sym (not-or (holds_at c xs arguments) (list_any (λ e. holds_at e xs arguments) cs))

same_ranges : (ns cs : List Condition) (m n : ℕ) → AllZip IsNegation ns cs → list_all (is_condition m n) ns ≡ list_all (is_condition m n) cs
same_ranges [] [] m n h = refl
same_ranges [] (c ∷ cs) m n h = absurd h
same_ranges (d ∷ ns) [] m n h = absurd h
same_ranges (d ∷ ns) (c ∷ cs) m n h = ap (λ b. b && list_all (is_condition m n) ns) (h.0.ranges m n) ∙ ap (λ b. is_condition m n c && b) (same_ranges ns cs m n h.1)

pub negation-And : (c : Condition) (ns cs : List Condition) → c ≡ And cs → AllZip IsNegation ns cs → IsNegation (Or ns) c
negation-And c ns cs is h = record {
  opposite = λ xs arguments. holds_at-Or ns xs arguments ∙ any_negated ns cs xs arguments h ∙ ap not (sym (ap (λ e. holds_at e xs arguments) is ∙ holds_at-And cs xs arguments));
  ranges = λ m n. ranges-Or ns m n ∙ same_ranges ns cs m n h ∙ sym (ap (is_condition m n) is ∙ ranges-And cs m n);
}

pub negation-Or : (c : Condition) (ns cs : List Condition) → c ≡ Or cs → AllZip IsNegation ns cs → IsNegation (And ns) c
negation-Or c ns cs is h = record {
  opposite = λ xs arguments. holds_at-And ns xs arguments ∙ all_negated ns cs xs arguments h ∙ ap not (sym (ap (λ e. holds_at e xs arguments) is ∙ holds_at-Or cs xs arguments));
  ranges = λ m n. ranges-And ns m n ∙ same_ranges ns cs m n h ∙ sym (ap (is_condition m n) is ∙ ranges-Or cs m n);
}

pub negation-Implies : (c a b n : Condition) → c ≡ Implies a b → IsNegation n b → IsNegation (And (a ∷ n ∷ [])) c
negation-Implies c a b n is h = record {
  opposite = λ xs arguments. holds_at-And (a ∷ n ∷ []) xs arguments ∙ ap (λ v. holds_at a xs arguments && (v && true)) (h.opposite xs arguments)
      ∙ implied (holds_at a xs arguments) (holds_at b xs arguments) ∙ ap not (sym (ap (λ e. holds_at e xs arguments) is ∙ holds_at-Implies a b xs arguments));
  ranges = λ k l. ranges-And (a ∷ n ∷ []) k l ∙ ap (λ v. is_condition k l a && v) (and_one (is_condition k l n) ∙ h.ranges k l)
      ∙ sym (ap (is_condition k l) is ∙ ranges-Implies a b k l);
}
  where
    implied : (p q : Bool) → (p && (not q && true)) ≡ not (not p || q)
    implied true true = refl
    implied true false = refl
    implied false q = refl

pub negations_more : (ns cs : List Condition) (i : ℕ) (n c : Condition) → i < length cs → c ≡ get_or cs i c → AllZip IsNegation ns (take i cs) → IsNegation n c → AllZip IsNegation (ns ++ n ∷ []) (take (i + 1) cs)
negations_more ns cs i n c below at h negates = rw (take_more cs i c below, ← at) (AllZip-push IsNegation ns (take i cs) n c h negates)
