-- `==` on kinds of tokens tells exactly equal ones.
use Rattle.std.proofs.Common.{◌≡◌, ℕ, Bool, true, false, List, [], ◌∷◌, refl, sym, ap, inl, inr, nat_eq}
use Rattle.std.proofs.lemmas.Bool.{eqb-true}
use mathlib.Core.Bool.{true≢false}
use denote.Struct.Field.{Field}
use denote.Struct.Values.{Values}
use denote.Enum.Declared.{Choice, values_one}
use denote.Enum.Compared.{Each, by}
use Rattle.lucy_lexer.specs.declared.token.TokenKind.{TokenKind}
use Rattle.lucy_lexer.specs.contracts.token.TokenKind.{enum, the_parts, as_values}
use Rattle.lucy_lexer.specs.Kind.{is_kind}

-- each variant's own test is exact
abbrev Exact : (Fss : List (List Field)) → Each Bool Fss → Type 0
Exact [] each = Unit {0}
Exact (Fs ∷ Fss) each = ((x y : Values Fs) → each.0 x y ≡ true → x ≡ y) × (Exact Fss each.1)

by_exact : (Fss : List (List Field)) (each : Each Bool Fss) → Exact Fss each → (c d : Choice Fss) → by false false Fss each c d ≡ true → c ≡ d
by_exact [] each exact c d h = absurd c
by_exact (Fs ∷ Fss) each exact (inl x) (inl y) h = ap inl (exact.0 x y h)
by_exact (Fs ∷ Fss) each exact (inr c) (inr d) h = ap inr (by_exact Fss each.1 exact.1 c d h)
by_exact (Fs ∷ Fss) each exact (inl x) (inr d) h = absurd (true≢false (sym h))
by_exact (Fs ∷ Fss) each exact (inr c) (inl y) h = absurd (true≢false (sym h))

point : (x y : Unit {0}) → true ≡ true → x ≡ y
point x y h = refl

number : (x y : ℕ × Unit {0}) → nat_eq x.0 y.0 ≡ true → x ≡ y
number x y h = ap (λ (n : ℕ). let v : ℕ × Unit {0} = (n, tt) in v) (eqb-true x.0 y.0 h)

pub same_kinds : (a b : TokenKind) → is_kind a b ≡ true → a ≡ b
same_kinds a b h = values_one enum a b (by_exact the_parts _ (point, (number, (point, (point, (point, (point, (point, (point, (point, (point, (point, (point, (point, (point, (point, (point, (point, (point, (point, (point, (point, (point, (point, (point, (point, (point, (point, (point, (point, (point, (point, (point, (point, (point, (point, (point, (point, (point, (point, (point, (point, (point, (point, (point, (point, (point, (point, (point, (point, tt))))))))))))))))))))))))))))))))))))))))))))))))) (as_values a) (as_values b) h)
