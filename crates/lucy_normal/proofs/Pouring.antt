-- The end of a list that is moved to the end of another, the last first.
use Rattle.std.proofs.Common.{◌≡◌, ℕ, zero, suc, ◌<◌, ◌≤◌, min, List, [], ◌∷◌, ◌++◌, length, take, drop, reverse, refl, sym, ap, ◌∙◌, append_assoc, arith}
use Rattle.std.proofs.lemmas.List.{length-append, take-append-drop, take_all, drop_all, drop_at, append-nil, reverse-reverse}
use Rattle.std.proofs.lemmas.Grind.{reverse_onto}
use Rattle.lucy_normal.specs.Fronts.{Begins}
use Rattle.lucy_normal.proofs.Gatherings.{take_less}

-- so far
pub record Poured {X : Type 0} (start : ℕ) (all from before to : List X) : Type 0 where
  pub front : take start all ≡ take start from
  pub whole : all ≡ from ++ drop (length from) all
  pub moved : to ≡ before ++ reverse (drop (length from) all)
  pub enough : min start (length all) ≤ length from

pub poured_first : {X : Type 0} (start : ℕ) (all before : List X) → Poured start all all before before
poured_first start all before =
    let none : drop (length all) all ≡ [] = drop_all (length all) all (omega arith) in
    record {
      front = refl;
      whole = sym (ap (λ l. all ++ l) none ∙ append-nil all);
      moved = sym (ap (λ l. before ++ reverse l) none ∙ append-nil before);
      enough = omega arith;
    }

reverse_first : {X : Type 0} (x : X) (xs : List X) → reverse (x ∷ xs) ≡ reverse xs ++ x ∷ []
reverse_first x xs = reverse_onto xs x []

pub poured_next : {X : Type 0} (start : ℕ) (all from less before to pushed : List X) (last : X) → Poured start all from before to → start < length from → from ≡ less ++ last ∷ [] → pushed ≡ to ++ last ∷ [] → Poured start all less before pushed
poured_next start all from less before to pushed last p h is pushed_is =
    let rest = drop (length from) all in
    let split : all ≡ less ++ (last ∷ rest) = p.whole ∙ ap (λ l. l ++ rest) is ∙ append_assoc less (last ∷ []) rest in
    let left : drop (length less) all ≡ last ∷ rest = ap (drop (length less)) split ∙ drop_at less (last ∷ rest) (length less) refl in
    record {
      front = take_less start all from less last h p.front is;
      whole = split ∙ ap (λ l. less ++ l) (sym left);
      moved =
          pushed_is ∙ ap (λ l. l ++ last ∷ []) p.moved ∙ append_assoc before (reverse rest) (last ∷ [])
          ∙ ap (λ l. before ++ l) (sym (reverse_first last rest)) ∙ ap (λ l. before ++ reverse l) (sym left);
      enough = omega (arith, h, ap length is ∙ length-append less (last ∷ []));
    }

drop_end : {X : Type 0} (start n : ℕ) (all : List X) → min start (length all) ≤ n → n ≤ start → drop n all ≡ drop start all
drop_end start n [] h k = drop_all n [] (omega arith) ∙ sym (drop_all start [] (omega arith))
drop_end zero n (x ∷ xs) h k =
    let none : n ≡ 0 = omega arith in
    ap (λ (m : ℕ). drop m (x ∷ xs)) none
drop_end (suc start) zero (x ∷ xs) h k = absurd (omega arith)
drop_end (suc start) (suc n) (x ∷ xs) h k = drop_end start n xs (omega arith) (omega arith)

pub poured_end : {X : Type 0} (start : ℕ) (all from before to : List X) → Poured start all from before to → length from ≤ start → (from ≡ take start all) × (to ≡ before ++ reverse (drop start all))
poured_end start all from before to p h = (
  sym (p.front ∙ take_all start from h),
  p.moved ∙ ap (λ l. before ++ reverse l) (drop_end start (length from) all p.enough h),
)

pub poured_front : {X : Type 0} (start : ℕ) (all from before to : List X) → Poured start all from before to → Begins (take start all) from
poured_front start all from before to p = record { rest = drop start from; is = sym (take-append-drop start from) ∙ ap (λ l. l ++ drop start from) (sym p.front) }

pub poured_behind : {X : Type 0} (start : ℕ) (all from before to : List X) → Poured start all from before to → Begins before to
poured_behind start all from before to p = record { rest = reverse (drop (length from) all); is = p.moved }

-- twice turned
pub turned_twice : {X : Type 0} (all before turned taken : List X) → turned ≡ [] ++ reverse all → taken ≡ before ++ reverse (drop 0 turned) → taken ≡ before ++ all
turned_twice all before turned taken turned_is taken_is = taken_is ∙ ap (λ l. before ++ reverse l) turned_is ∙ ap (λ l. before ++ l) (reverse-reverse all)
