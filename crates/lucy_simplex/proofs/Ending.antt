-- The two ends of a run.
use Rattle.std.proofs.Common.{◌≡◌, ℕ, zero, suc, ◌+◌, ◌*◌, ◌<◌, ◌≤◌, true, false, ℤ, pos, negsuc, ◌*ℤ◌, ◌≤ℤ◌, ◌<ℤ◌, List, [], ◌∷◌, ◌++◌, length, map, take, drop, get_or, ap, sym, ◌∙◌, refl, subst, arith}
use Rattle.std.proofs.lemmas.Int.{ints}
use Rattle.std.proofs.Math.IntN.{*ℤ-zero}
use Rattle.lucy_clauses.specs.declared.formulas.Range.{Range}
use Rattle.lucy_clauses.specs.Sums.{Form, number_at}
use Rattle.lucy_fraction.specs.Rationals.{Ratio}
use Rattle.lucy_simplex.specs.declared.lines.Line.{Line}
use Rattle.lucy_simplex.specs.declared.runs.Look.{Look}
use Rattle.lucy_simplex.specs.declared.runs.Look.TheVariants.{Point, Stuck, Improves}
use Rattle.lucy_simplex.specs.Systems.{Satisfies, Refutes, NoneNegative, dot, lows_of}
use Rattle.lucy_simplex.specs.Tableaus.{Equation}
use Rattle.lucy_simplex.specs.Steps.{AreNumbers}
use Rattle.lucy_simplex.specs.First.{places_of, first_tableau}
use Rattle.lucy_simplex.specs.Reading.{AreRead, HasShape}
use Rattle.lucy_simplex.specs.Runs.{RunsTo, HasNoAuxiliary, IsStuck}
use Rattle.lucy_simplex.specs.Ends.{LooksLike, IsOpen, Ended}
use Rattle.lucy_simplex.specs.Points.{HaveShares, moved_all}
use Rattle.lucy_simplex.specs.Multipliers.{Divide, HasMultipliers}
use Rattle.lucy_simplex.specs.Conditions.{is_system}
use Rattle.lucy_simplex.specs.Answers.{StandsOpen, HasEnd, IsStuckSomewhere}
use Rattle.std.specs.List.{list_any}
use Rattle.lucy_simplex.specs.Sure.{lows_hold, is_alone}
use Rattle.lucy_simplex.proofs.Statements.{IsStage}
use Rattle.lucy_simplex.proofs.Farkas.{no_improvement_refutes, length-mapped}
use Rattle.lucy_simplex.proofs.Keeping.{not_negative_product}
use Rattle.lucy_simplex.proofs.Orders.{multiples_refute_lem, times-dot}
use Rattle.lucy_simplex.proofs.Pivots.{holds_at}
use Rattle.lucy_simplex.proofs.Points.{shares_exist_lem}
use Rattle.lucy_simplex.proofs.PointLines.{are_over}
use Rattle.lucy_simplex.proofs.Multiples.{multiples_are}
use Rattle.lucy_simplex.proofs.Sweeping.{length_read, read_there}
use Rattle.lucy_simplex.proofs.Shapes.{shape_length, shape_lengths}
use Rattle.lucy_simplex.proofs.Staging.{below_length, runs_are_stages_lem, stage_points_lem}
use Rattle.lucy_simplex.proofs.Finding.{system_names}

pub stage_of : (rows : List Form) (bounds : List Range) (turns : ℕ) (ls : List Line) (look : Look) (e : Ended (first_tableau rows bounds) turns ls look) → IsStage rows bounds e.qs
stage_of rows bounds turns ls look e = runs_are_stages_lem rows bounds e.made e.qs e.some e.runs

shape_of : (rows : List Form) (bounds : List Range) (turns : ℕ) (ls : List Line) (look : Look) → Ended (first_tableau rows bounds) turns ls look → HasShape (places_of rows bounds) ls
shape_of rows bounds turns ls look e = record { qs = e.qs; read = e.read; tableau = (stage_of rows bounds turns ls look e).tableau }

pub lengths_above : (rows : List Form) (bounds : List Range) (turns : ℕ) (ls more : List Line) (look : Look) → more ≡ ls → Ended (first_tableau rows bounds) turns ls look → (k : ℕ) (d : Line) → k < length more → 0 < length (get_or more k d).numbers.items
lengths_above rows bounds turns ls more look same e k d below =
    let shape = subst (λ (xs : List Line). HasShape (places_of rows bounds) xs) (sym same) (shape_of rows bounds turns ls look e) in
    subst (λ (n : ℕ). 0 < n) (sym (shape_lengths (places_of rows bounds) more shape k d below)) (omega arith)

pub point_right : (rows : List Form) (bounds : List Range) (turns : ℕ) (ls more : List Line) (look : Look) (point : List Ratio) → is_system rows bounds ≡ true → more ≡ ls → Ended (first_tableau rows bounds) turns ls look → look ≡ Point
    → ((qs : List Equation) → AreRead qs more → (s : HaveShares qs) → AreNumbers s.common point (moved_all (length bounds) qs s.tops (map (λ (x : ℤ). pos s.common *ℤ x) (lows_of bounds)))) → Satisfies rows bounds point
point_right rows bounds turns ls more look point system same e is over =
    let stage = stage_of rows bounds turns ls look e in
    let shares = shares_exist_lem (places_of rows bounds) e.qs stage.tableau in
    stage_points_lem rows bounds e.qs point (system_names rows bounds system) stage (subst (λ (l : Look). LooksLike e.qs l) is e.looks)
    (record { shares = shares; over = are_over shares.common point _ (over e.qs (subst (λ (xs : List Line). AreRead e.qs xs) (sym same) e.read) shares) })

pub stuck_of : (rows : List Form) (bounds : List Range) (turns place : ℕ) (ls : List Line) (look : Look) (e : Ended (first_tableau rows bounds) turns ls look) → look ≡ Stuck place → IsStuck place e.qs
stuck_of rows bounds turns place ls look e is = subst (λ (l : Look). LooksLike e.qs l) is e.looks

pub stuck_below : (rows : List Form) (bounds : List Range) (turns place : ℕ) (ls : List Line) (look : Look) → Ended (first_tableau rows bounds) turns ls look → look ≡ Stuck place → place < length ls
stuck_below rows bounds turns place ls look e is =
    let s = stuck_of rows bounds turns place ls look e is in
    subst (λ (k : ℕ). place < k) (length_read e.qs ls e.read) (below_length e.qs place s.auxiliary s.there)

pub stuck_length : (rows : List Form) (bounds : List Range) (turns place : ℕ) (ls : List Line) (look : Look) (line : Line) → Ended (first_tableau rows bounds) turns ls look → place < length ls → get_or ls place line ≡ line → length line.numbers.items ≡ places_of rows bounds
stuck_length rows bounds turns place ls look line e below is = shape_length (places_of rows bounds) ls place line (shape_of rows bounds turns ls look e) below is

-- ---- multipliers

numbers_take : (d n : ℕ) (ps : List Ratio) (xs : List ℤ) → AreNumbers d ps xs → AreNumbers d (take n ps) (take n xs)
numbers_take d zero [] [] h = tt
numbers_take d zero [] (x ∷ xs) h = absurd h
numbers_take d zero (p ∷ ps) [] h = absurd h
numbers_take d zero (p ∷ ps) (x ∷ xs) h = tt
numbers_take d (suc n) [] [] h = tt
numbers_take d (suc n) [] (x ∷ xs) h = absurd h
numbers_take d (suc n) (p ∷ ps) [] h = absurd h
numbers_take d (suc n) (p ∷ ps) (x ∷ xs) h = (h.0, numbers_take d n ps xs h.1)

pub numbers_drop : (d n : ℕ) (ps : List Ratio) (xs : List ℤ) → AreNumbers d ps xs → AreNumbers d (drop n ps) (drop n xs)
numbers_drop d zero [] [] h = tt
numbers_drop d zero [] (x ∷ xs) h = absurd h
numbers_drop d zero (p ∷ ps) [] h = absurd h
numbers_drop d zero (p ∷ ps) (x ∷ xs) h = h
numbers_drop d (suc n) [] [] h = tt
numbers_drop d (suc n) [] (x ∷ xs) h = absurd h
numbers_drop d (suc n) (p ∷ ps) [] h = absurd h
numbers_drop d (suc n) (p ∷ ps) (x ∷ xs) h = numbers_drop d n ps xs h.1

divide_take : (w n : ℕ) (ps : List Ratio) → Divide w ps → Divide w (take n ps)
divide_take w zero [] h = tt
divide_take w zero (p ∷ ps) h = tt
divide_take w (suc n) [] h = tt
divide_take w (suc n) (p ∷ ps) h = (h.0, divide_take w n ps h.1)

divide_drop : (w n : ℕ) (ps : List Ratio) → Divide w ps → Divide w (drop n ps)
divide_drop w zero [] h = tt
divide_drop w zero (p ∷ ps) h = h
divide_drop w (suc n) [] h = tt
divide_drop w (suc n) (p ∷ ps) h = divide_drop w n ps h.1

drop_twice : {A : Type 0} (a b : ℕ) (xs : List A) → drop (a + b) xs ≡ drop b (drop a xs)
drop_twice {A = A} zero b xs = ap (λ (n : ℕ). drop n xs) (let e : 0 + b ≡ b = omega arith in e) ∙ ap (drop b) (sym (whole xs))
  where
    whole : (ys : List A) → drop 0 ys ≡ ys
    whole [] = refl
    whole (y ∷ ys) = refl
drop_twice {A = A} (suc a) b [] = nothing (suc a + b) ∙ sym (nothing b)
  where
    nothing : (n : ℕ) → drop {A = A} n [] ≡ []
    nothing zero = refl
    nothing (suc n) = refl
drop_twice (suc a) b (x ∷ xs) = ap (λ (n : ℕ). drop n (x ∷ xs)) (let e : suc a + b ≡ suc (a + b) = omega arith in e) ∙ drop_twice a b xs

take_drop : (n : ℕ) (xs : List ℤ) → take n xs ++ drop n xs ≡ xs
take_drop zero [] = refl
take_drop zero (x ∷ xs) = refl
take_drop (suc n) [] = refl
take_drop (suc n) (x ∷ xs) = ap (λ (ys : List ℤ). x ∷ ys) (take_drop n xs)

length-take : (n : ℕ) (xs : List ℤ) → n ≤ length xs → length (take n xs) ≡ n
length-take zero [] h = refl
length-take zero (x ∷ xs) h = refl
length-take (suc n) [] h = absurd (omega (arith, h))
length-take (suc n) (x ∷ xs) h = ap suc (length-take n xs (omega (arith, h)))

length-drop : (n : ℕ) (xs : List ℤ) → n ≤ length xs → n + length (drop n xs) ≡ length xs
length-drop zero [] h = omega arith
length-drop zero (x ∷ xs) h = omega arith
length-drop (suc n) [] h = absurd (omega (arith, h))
length-drop (suc n) (x ∷ xs) h = (let r = length-drop n xs (omega (arith, h)) in omega (arith, r))

pub number_drop : (n : ℕ) (xs : List ℤ) (j : ℕ) → number_at (drop n xs) j ≡ number_at xs (n + j)
number_drop zero [] j = refl
number_drop zero (x ∷ xs) j = ap (number_at (x ∷ xs)) (omega arith)
number_drop (suc n) [] j = refl
number_drop (suc n) (x ∷ xs) j = number_drop n xs j ∙ ap (number_at (x ∷ xs)) (let e : suc (n + j) ≡ suc n + j = omega arith in e)

none_take : (n : ℕ) (xs : List ℤ) → NoneNegative xs → NoneNegative (take n xs)
none_take zero [] h = tt
none_take zero (x ∷ xs) h = tt
none_take (suc n) [] h = tt
none_take (suc n) (x ∷ xs) h = (h.0, none_take n xs h.1)

none_each : (xs : List ℤ) → ((j : ℕ) → pos 0 ≤ℤ number_at xs j) → NoneNegative xs
none_each [] h = tt
none_each (x ∷ xs) h = (h 0, none_each xs (λ j. h (suc j)))

none_times : (w : ℕ) (xs : List ℤ) → NoneNegative xs → NoneNegative (map (λ (x : ℤ). pos w *ℤ x) xs)
none_times w [] h = tt
none_times w (x ∷ xs) h = (not_negative_product (pos w) x (omega (arith, ints)) h.0, none_times w xs h.1)

map-append : (w : ℕ) (xs ys : List ℤ) → map (λ (x : ℤ). pos w *ℤ x) (xs ++ ys) ≡ map (λ (x : ℤ). pos w *ℤ x) xs ++ map (λ (x : ℤ). pos w *ℤ x) ys
map-append w [] ys = refl
map-append w (x ∷ xs) ys = ap (λ (zs : List ℤ). (pos w *ℤ x) ∷ zs) (map-append w xs ys)

positive_times : (w : ℕ) (c : ℤ) → 0 < w → pos 0 <ℤ c → pos 0 <ℤ (pos w *ℤ c)
positive_times w (pos n) some h = omega (arith, ints, some_product w n some (omega (arith, ints, h)))
  where
    some_product : (a b : ℕ) → 0 < a → 0 < b → 0 < a * b
    some_product a b p q = grind arith
positive_times w (negsuc n) some h = absurd (omega (arith, ints))

-- numbers behind the constant and the auxiliary variable, in their three blocks
blocks : (n m : ℕ) (xs : List ℤ) → length xs ≡ 2 + (n + (m + n)) → xs ≡ number_at xs 0 ∷ number_at xs 1 ∷ (take n (drop 2 xs) ++ (take m (drop (2 + n) xs) ++ drop (2 + n + m) xs))
blocks n m [] h = absurd (omega (arith, h))
blocks n m (a ∷ []) h = absurd (omega (arith, h))
blocks n m (a ∷ b ∷ zs) h =
    let xs = a ∷ b ∷ zs in
    let one : drop (2 + n) xs ≡ drop n zs = drop_twice 2 n xs in
    let two : drop (2 + n + m) xs ≡ drop m (drop n zs) = drop_twice (2 + n) m xs ∙ ap (drop m) one in
    ap (λ (ys : List ℤ). a ∷ b ∷ ys)
    (sym (take_drop n zs) ∙ ap (λ (ys : List ℤ). take n zs ++ ys) (sym (take_drop m (drop n zs))) ∙ ap (λ (ys : List ℤ). take n zs ++ (take m ys ++ drop m (drop n zs))) (sym one)
    ∙ ap (λ (ys : List ℤ). take n zs ++ (take m (drop (2 + n) xs) ++ ys)) (sym two))

pub farkas_right : (rows : List Form) (bounds : List Range) (turns place : ℕ) (ls : List Line) (look : Look) (line : Line) (lows ms highs : List ℤ) → is_system rows bounds ≡ true → Ended (first_tableau rows bounds) turns ls look → look ≡ Stuck place
    → place < length ls → get_or ls place line ≡ line → HasMultipliers (length bounds) (length rows) line.numbers.items lows ms highs → Refutes rows bounds ms lows highs
farkas_right rows bounds turns place ls look line lows ms highs system e is below at h =
    let n = length bounds in
    let m = length rows in
    let w = h.common in
    let ps = line.numbers.items in
    let stage = stage_of rows bounds turns ls look e in
    let stuck = stuck_of rows bounds turns place ls look e is in
    let q = stuck.auxiliary in
    let xs = q.numbers in
    let reads = read_there e.qs ls place q line e.read stuck.there below at in
    let size : length xs ≡ 2 + (n + (m + n)) = (stage.tableau.each place q stuck.there).length_is in
    let l = take n (drop 2 xs) in
    let r = take m (drop (2 + n) xs) in
    let t = drop (2 + n + m) xs in
    let lows_is = multiples_are q.below w (take n (drop 2 ps)) l lows (numbers_take q.below n (drop 2 ps) (drop 2 xs) (numbers_drop q.below 2 ps xs reads.numbers_are)) (divide_take w n (drop 2 ps) h.is_common.divide) h.lows_are in
    let rows_is = multiples_are q.below w (take m (drop (2 + n) ps)) r ms (numbers_take q.below m (drop (2 + n) ps) (drop (2 + n) xs) (numbers_drop q.below (2 + n) ps xs reads.numbers_are))
    (divide_take w m (drop (2 + n) ps) (subst (Divide w) (sym (drop_twice 2 n ps)) (divide_drop w n (drop 2 ps) h.is_common.divide))) h.rows_are in
    let deep : drop (2 + n + m) ps ≡ drop m (drop n (drop 2 ps)) = drop_twice (2 + n) m ps ∙ ap (drop m) (drop_twice 2 n ps) in
    let highs_is = multiples_are q.below w (drop (2 + n + m) ps) t highs (numbers_drop q.below (2 + n + m) ps xs reads.numbers_are)
    (subst (Divide w) (sym deep) (divide_drop w m (drop n (drop 2 ps)) (divide_drop w n (drop 2 ps) h.is_common.divide))) h.highs_are in
    let signs : (k : ℕ) → 2 ≤ k → NoneNegative (drop k xs) =
    (λ k big. none_each (drop k xs) (λ j. subst (λ (x : ℤ). pos 0 ≤ℤ x) (sym (number_drop k xs j)) (stuck.none_improves (k + j) (omega (arith, big))))) in
    let refutes = no_improvement_refutes rows bounds (pos w *ℤ number_at xs 0) (pos w *ℤ number_at xs 1) (map (λ (x : ℤ). pos w *ℤ x) l) (map (λ (x : ℤ). pos w *ℤ x) r) (map (λ (x : ℤ). pos w *ℤ x) t) (system_names rows bounds system) (record {
      rows_count = length-mapped (λ (x : ℤ). pos w *ℤ x) r ∙ length-take m (drop (2 + n) xs) (let a = length-drop (2 + n) xs (omega (arith, size)) in omega (arith, a, size));
      lows_count = length-mapped (λ (x : ℤ). pos w *ℤ x) l ∙ length-take n (drop 2 xs) (let a = length-drop 2 xs (omega (arith, size)) in omega (arith, a, size));
      highs_count = length-mapped (λ (x : ℤ). pos w *ℤ x) t ∙ (let a = length-drop (2 + n + m) xs (omega (arith, size)) in omega (arith, a, size));
      rows_sign = none_times w r (none_take m (drop (2 + n) xs) (signs (2 + n) (omega arith)));
      lows_sign = none_times w l (none_take n (drop 2 xs) (signs 2 (omega arith)));
      highs_sign = none_times w t (signs (2 + n + m) (omega arith));
      constant = positive_times w (number_at xs 0) h.is_common.positive (stage.above place q stuck.there stuck.basic_is);
      follows = λ v k. follows v w xs l r t (blocks n m xs size) (holds_at place q e.qs v stuck.there (stage.forth v k));
    }) in
    multiples_refute_lem q.below rows bounds ms lows highs reads.positive
    (subst (λ (ys : List ℤ). Refutes rows bounds ys (map (λ (x : ℤ). pos q.below *ℤ x) lows) (map (λ (x : ℤ). pos q.below *ℤ x) highs)) (sym rows_is)
    (subst (λ (ys : List ℤ). Refutes rows bounds (map (λ (x : ℤ). pos w *ℤ x) r) ys (map (λ (x : ℤ). pos q.below *ℤ x) highs)) (sym lows_is)
    (subst (λ (ys : List ℤ). Refutes rows bounds (map (λ (x : ℤ). pos w *ℤ x) r) (map (λ (x : ℤ). pos w *ℤ x) l) ys) (sym highs_is) refutes)))
  where
    follows : (v : List ℤ) (w : ℕ) (xs l r t : List ℤ) → xs ≡ number_at xs 0 ∷ number_at xs 1 ∷ (l ++ (r ++ t)) → dot xs v ≡ pos 0
        → dot ((pos w *ℤ number_at xs 0) ∷ (pos w *ℤ number_at xs 1) ∷ (map (λ (x : ℤ). pos w *ℤ x) l ++ (map (λ (x : ℤ). pos w *ℤ x) r ++ map (λ (x : ℤ). pos w *ℤ x) t))) v ≡ pos 0
    follows v w xs l r t shape none =
        let same : map (λ (x : ℤ). pos w *ℤ x) xs ≡ (pos w *ℤ number_at xs 0) ∷ (pos w *ℤ number_at xs 1) ∷ (map (λ (x : ℤ). pos w *ℤ x) l ++ (map (λ (x : ℤ). pos w *ℤ x) r ++ map (λ (x : ℤ). pos w *ℤ x) t)) =
        ap (λ (ys : List ℤ). map (λ (x : ℤ). pos w *ℤ x) ys) shape
        ∙ ap (λ (ys : List ℤ). (pos w *ℤ number_at xs 0) ∷ (pos w *ℤ number_at xs 1) ∷ ys) (map-append w l (r ++ t) ∙ ap (λ (ys : List ℤ). map (λ (x : ℤ). pos w *ℤ x) l ++ ys) (map-append w r t)) in
        ap (λ (ys : List ℤ). dot ys v) (sym same) ∙ times-dot w xs v ∙ ap (λ (x : ℤ). pos w *ℤ x) none ∙ *ℤ-zero (pos w)

pub open_right : (rows : List Form) (bounds : List Range) (turns a e : ℕ) (ls : List Line) (look : Look) → 0 < turns → lows_hold rows bounds ≡ false → list_any (is_alone bounds) rows ≡ false → Ended (first_tableau rows bounds) turns ls look → look ≡ Improves a e
    → StandsOpen rows bounds turns
open_right rows bounds turns a e ls look some breaks none_alone ended is =
    let all : ended.made ≡ turns = ended.open_at_last (subst (λ (l : Look). IsOpen l) (sym is) tt) in
    record {
      lows_break = breaks;
      none_alone = none_alone;
      qs = ended.qs;
      runs = subst (λ (k : ℕ). RunsTo (first_tableau rows bounds) k ended.qs) all ended.runs;
      improves = λ s. (a, e, subst (λ (l : Look). LooksLike ended.qs l) is ended.looks);
    }

pub end_at : (rows : List Form) (bounds : List Range) (turns : ℕ) (ls : List Line) (look : Look) (End : List Equation → Type 0) → (ended : Ended (first_tableau rows bounds) turns ls look) → End ended.qs → HasEnd rows bounds turns End
end_at rows bounds turns ls look End ended ends = record { made = ended.made; some = ended.some; within = ended.within; qs = ended.qs; runs = ended.runs; ends = ends }

pub point_end : (rows : List Form) (bounds : List Range) (turns : ℕ) (ls : List Line) (look : Look) → Ended (first_tableau rows bounds) turns ls look → look ≡ Point → HasEnd rows bounds turns HasNoAuxiliary
point_end rows bounds turns ls look ended is = end_at rows bounds turns ls look HasNoAuxiliary ended (subst (λ (l : Look). LooksLike ended.qs l) is ended.looks)

pub stuck_end : (rows : List Form) (bounds : List Range) (turns place : ℕ) (ls : List Line) (look : Look) → Ended (first_tableau rows bounds) turns ls look → look ≡ Stuck place → HasEnd rows bounds turns IsStuckSomewhere
stuck_end rows bounds turns place ls look ended is = end_at rows bounds turns ls look IsStuckSomewhere ended (place, subst (λ (l : Look). LooksLike ended.qs l) is ended.looks)
