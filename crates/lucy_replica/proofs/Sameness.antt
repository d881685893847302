-- Records that are found to be the same are equal.
use Rattle.std.proofs.Common.{◌≡◌, ◌&&◌, Bool, true, false, refl, ap, ◌∙◌, subst}
use Rattle.std.specs.Cmp.Derive.{both_true}
use Rattle.std.proofs.lemmas.Bool.{eqb-true, eq-eqb}
use base.Stored.{Gv, gnil, gnum, gcons}
use Rattle.lucy_epochs.specs.Records.{Record, record_code}
use Rattle.lucy_replica.specs.Receiving.{is_same_code, is_same_record}
use Rattle.lucy_replica.specs.Laws.{SameExactly}

left_true : (a b : Bool) → (a && b) ≡ true → a ≡ true
left_true true b h = refl
left_true false b h = h

right_true : (a b : Bool) → (a && b) ≡ true → b ≡ true
right_true true b h = h
right_true false b h = absurd (false_true h)
  where
    false_true : false ≡ true → ⊥
    false_true e = cc

same_code : (a b : Gv) → is_same_code a b ≡ true → a ≡ b
same_code gnil gnil h = refl
same_code (gnum m) (gnum n) h = ap gnum (eqb-true m n h)
same_code (gcons a b) (gcons c d) h =
    ap (λ (x : Gv). gcons x b) (same_code a c (left_true (is_same_code a c) (is_same_code b d) h))
    ∙ ap (gcons c) (same_code b d (right_true (is_same_code a c) (is_same_code b d) h))
same_code gnil (gnum n) h = cc
same_code gnil (gcons c d) h = cc
same_code (gnum m) gnil h = cc
same_code (gnum m) (gcons c d) h = cc
same_code (gcons a b) gnil h = cc
same_code (gcons a b) (gnum n) h = cc

own_code : (a : Gv) → is_same_code a a ≡ true
own_code gnil = refl
own_code (gnum n) = eq-eqb n n refl
own_code (gcons a b) = both_true (own_code a) (own_code b)

pub same_exactly : SameExactly
unfolding is_same_record
same_exactly left right = (
  λ h. record_code.inj left right (same_code (record_code.code left) (record_code.code right) h),
  λ e. subst (λ (r : Record). is_same_code (record_code.code left) (record_code.code r) ≡ true) e (own_code (record_code.code left)),
)
