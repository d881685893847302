-- The first bytes that a reader has left.
use Rattle.std.proofs.Common.{◌≡◌, ℕ, ◌+◌, ◌-◌, ◌^◌, ◌<◌, min, List, [], ◌++◌, length, take, Option, None, Some, IfSome, option_map, subst, sym, ap, ◌∙◌, arith, length-take, ◌⊎◌, inl, inr}
use Rattle.std.proofs.lemmas.List.{take-take, take_all}

-- a front that is shorter than its limit is all
short_front : (limit : ℕ) (left : List ℕ) → length (take limit left) < limit → length left < limit
short_front limit left short = omega (arith, short, length-take limit left)

front_by : (most limit : ℕ) (left : List ℕ) → length (take limit left) < 2 ^ 64 - 1 → (limit ≡ most + 1) ⊎ ((limit ≡ 2 ^ 64 - 1) × (limit < most + 1)) → take limit left ≡ take (most + 1) left
front_by most limit left short (inl same) = ap (λ (n : ℕ). take n left) same
front_by most limit left short (inr p) =
    let under = short_front limit left (omega (arith, short, p.0)) in
    take_all limit left (omega (arith, under)) ∙ sym (take_all (most + 1) left (omega (arith, under, p.1)))

limit_is : (most limit : ℕ) → limit ≡ min (most + 1) (2 ^ 64 - 1) → (limit ≡ most + 1) ⊎ ((limit ≡ 2 ^ 64 - 1) × (limit < most + 1))
limit_is most limit is = grind (arith, is)

cut_front : (known : Option (List ℕ)) (most limit : ℕ) (bytes cut : List ℕ) → limit ≡ min (most + 1) (2 ^ 64 - 1) → length bytes < 2 ^ 64 - 1 → cut ≡ take limit bytes → IfSome (option_map (take limit) known) (λ xs. bytes ≡ [] ++ xs) → IfSome known (λ left. cut ≡ take (most + 1) left)
cut_front None most limit bytes cut is small at e = tt
cut_front (Some left) most limit bytes cut is small at e =
    at ∙ ap (take limit) e ∙ take-take limit limit left (omega arith)
    ∙ front_by most limit left (omega (arith, small, ap length e)) (limit_is most limit is)

-- what was read behind nothing up to the limit, and cut there, is the first bytes
pub front_read : (known inner : Option (List ℕ)) (most limit up_to : ℕ) (start bytes cut : List ℕ) → limit ≡ min (most + 1) (2 ^ 64 - 1) → up_to ≡ limit → inner ≡ known → start ≡ [] → length bytes < 2 ^ 64 - 1 → cut ≡ take limit bytes → IfSome (option_map (take up_to) inner) (λ xs. bytes ≡ start ++ xs) → IfSome known (λ left. cut ≡ take (most + 1) left)
front_read known inner most limit up_to start bytes cut is same whole none small at e =
    cut_front known most limit bytes cut is small at
    (subst (λ (b : List ℕ). IfSome (option_map (take limit) known) (λ xs. bytes ≡ b ++ xs)) none
    (subst (λ (k : Option (List ℕ)). IfSome (option_map (take limit) k) (λ xs. bytes ≡ start ++ xs)) whole
    (subst (λ (n : ℕ). IfSome (option_map (take n) inner) (λ xs. bytes ≡ start ++ xs)) same e)))
