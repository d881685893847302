-- Work that was written, as it is read.
use Rattle.std.proofs.Common.{◌≡◌, ℕ, ◌+◌, ◌^◌, ◌<◌, ◌≤◌, Bool, true, false, eqb, nat_lt, nat_le, ◌&&◌, if◌then◌else◌, ℤ, pos, negsuc, int_le, ◌≤ℤ◌, T, FitsSigned, List, [], ◌∷◌, ◌++◌, length, map, replicate, get_or, set, slice_get, Option, None, Some, Ok, refl, ap, sym, subst, ◌∙◌, arith, append_assoc}
use Rattle.std.proofs.Math.Seq.{get_or-append_seam, set-append_seam}
use Rattle.std.proofs.lemmas.Bool.{and_parts}
use Rattle.std.proofs.lemmas.Bool.Decides.{nat_tests}
use Rattle.std.proofs.lemmas.Int.{ints}
use Rattle.std.proofs.lemmas.List.{append-nil, length-append, length-map}
use Rattle.std.proofs.lemmas.List.Elements.{All-tail}
use Rattle.std.proofs.lemmas.Option.{slice_get_within}
use Rattle.std.specs.Char.{digit_value}
use Rattle.std.specs.Fmt.{decimal, signed_decimal}
use Rattle.std.specs.Int.{w128}
use Rattle.std.specs.List.{All}
use Rattle.std.specs.Prelude.{bytes_eq, codes, IsTrue}
use Rattle.lucy_io.specs.Decimals.{natural_of, WrittenIsRead}
use Rattle.lucy_names.specs.Laws.{NamesAreFound}
use Rattle.lucy_names.specs.Plans.{txn_names}
use Rattle.lucy_names.specs.Tables.{name_at, differ}
use Rattle.lucy_plan.specs.Calls.{Fits, takes, are_arguments}
use Rattle.lucy_plan.specs.declared.parts.Call.{Call}
use Rattle.lucy_plan.specs.declared.parts.Limits.{Limits}
use Rattle.lucy_plan.specs.declared.parts.PlanParts.{PlanParts}
use Rattle.lucy_plan.specs.declared.parts.Txn.{Txn}
use Rattle.lucy_calls.specs.Fields.{fields_of, heading}
use Rattle.lucy_calls.specs.Laws.{is_field, IsWorkOf, WorkIsReadBack}
use Rattle.lucy_calls.specs.Lines.{is_skipped, Listing, listing, next, up_to_end}
use Rattle.lucy_calls.specs.Numbers.{number_behind, between}
use Rattle.lucy_calls.specs.declared.error.CallsError.{CallsError}
use Rattle.lucy_io.specs.Outcomes.{Outcome, ◌>>=◌}
use Rattle.lucy_calls.specs.Texts.{call_fields, call_line, call_lines, lists_lines, work_text, spaced, behind_spaces}
use Rattle.lucy_calls.specs.Work.{replicas_in, replicas_of, argument, arguments_of, params_of, call_of, placed, placed_of, put, with_call, lists_of, text_of, work_of}
use Rattle.lucy_calls.proofs.DigitLemmas.{number_back, natural_back, decimal_field, signed_field}
use Rattle.lucy_calls.proofs.OutcomeLemmas.{within_back}
use Rattle.lucy_calls.proofs.SpacedLemmas.{are_fields, fields_back, spaced_plain, line_listed, one_more}
use Rattle.lucy_calls.proofs.StepsBack.{below_back}

both : (s t : Bool) → s ≡ true → t ≡ true → (s && t) ≡ true
both s t h k = rw (h, k) refl

-- a decimal begins with a digit

taken : (t : Bool) (x : Option ℕ) (m : ℕ) → (if t then x else None) ≡ Some m → t ≡ true
taken true x m e = refl
taken false x m e = absurd (cc)

not_taken : (t : Bool) (x : Option ℕ) (m : ℕ) → (if t then None else x) ≡ Some m → x ≡ Some m
not_taken true x m e = absurd (cc)
not_taken false x m e = e

no_hash : (c : ℕ) → nat_lt (digit_value c) 10 ≡ true → eqb c 35 ≡ false
no_hash c h = grind (arith, nat_tests)

no_e : (c : ℕ) → nat_lt (digit_value c) 10 ≡ true → eqb c 101 ≡ false
no_e c h = grind (arith, nat_tests)

starts : (text rest : List ℕ) (m : ℕ) → natural_of text ≡ Some m → (is_skipped (text ++ rest) ≡ false) × (bytes_eq (text ++ rest) (codes "end") ≡ false)
starts [] rest m e = absurd (cc)
starts (c ∷ cs) rest m e =
    let d = taken (nat_lt (digit_value c) 10) _ m (not_taken (eqb c 48 && nat_lt 0 (length cs)) _ m e) in
    (no_hash c d, ap (λ t. t && bytes_eq (cs ++ rest) (codes "nd")) (no_e c d))

-- arguments

le_of : (x y : ℤ) → int_le x y ≡ true → x ≤ℤ y
le_of x y h = record { le = subst T (sym h) tt }

small_by : (limits : Limits) (x : ℤ) → limits.lo ≤ℤ x → x ≤ℤ limits.hi → FitsSigned w128 x
small_by limits (pos n) a b = let c = limits.high in record { sfits = omega (arith, ints) }
small_by limits (negsuc n) a b = let c = limits.low in record { sfits = omega (arith, ints) }

small : (limits : Limits) (x : ℤ) → (int_le limits.lo x && int_le x limits.hi) ≡ true → FitsSigned w128 x
small limits x h =
    let p = and_parts (int_le limits.lo x) (int_le x limits.hi) h in
    small_by limits x (le_of limits.lo x p.0) (le_of x limits.hi p.1)

module _ (read : WrittenIsRead) where
  argument_back : (n : ℕ) (limits : Limits) (x : ℤ) → (int_le limits.lo x && int_le x limits.hi) ≡ true → argument n limits (signed_decimal x) ≡ Ok x
  unfolding between
  argument_back n limits x h = rw (read x (small limits x h), h) refl

  arguments_back : (n : ℕ) (found : List ℤ) (params : List Limits) (xs : List ℤ) → are_arguments params xs ≡ true → arguments_of n found params (map signed_decimal xs) ≡ Ok (found ++ xs)
  arguments_back n found [] [] h = ap (λ (ys : List ℤ). Ok ys) (sym (append-nil found))
  arguments_back n found [] (x ∷ xs) h = absurd (cc)
  arguments_back n found (limits ∷ params) [] h = absurd (cc)
  arguments_back n found (limits ∷ params) (x ∷ xs) h =
      let p = and_parts (int_le limits.lo x && int_le x limits.hi) (are_arguments params xs) h in
      ap (λ (o : Outcome CallsError ℤ). o >>= λ y. arguments_of n (found ++ y ∷ []) params (map signed_decimal xs)) (argument_back n limits x p.0)
      ∙ arguments_back n (found ++ x ∷ []) params xs p.1 ∙ ap (λ (ys : List ℤ). Ok ys) (append_assoc found (x ∷ []) xs)

  arguments_fields : (params : List Limits) (xs : List ℤ) → are_arguments params xs ≡ true → are_fields (map signed_decimal xs) ≡ true
  arguments_fields [] [] h = refl
  arguments_fields [] (x ∷ xs) h = absurd (cc)
  arguments_fields (limits ∷ params) [] h = absurd (cc)
  arguments_fields (limits ∷ params) (x ∷ xs) h =
      let p = and_parts (int_le limits.lo x && int_le x limits.hi) (are_arguments params xs) h in
      both (is_field (signed_decimal x)) (are_fields (map signed_decimal xs)) (signed_field read x (small limits x p.0)) (arguments_fields params xs p.1)

  taken_back : (n : ℕ) (txn : Option Txn) (xs : List ℤ) → takes txn xs ≡ true → arguments_of n [] (params_of txn) (map signed_decimal xs) ≡ Ok xs
  taken_back n None xs h = absurd (cc)
  taken_back n (Some txn) xs h = arguments_back n [] txn.params xs h

  taken_fields : (txn : Option Txn) (xs : List ℤ) → takes txn xs ≡ true → are_fields (map signed_decimal xs) ≡ true
  taken_fields None xs h = absurd (cc)
  taken_fields (Some txn) xs h = arguments_fields txn.params xs h

is_there : (txns : List Txn) (place : ℕ) (txn : Option Txn) (xs : List ℤ) → slice_get txns place ≡ txn → takes txn xs ≡ true → place < length txns
is_there txns place None xs e h = absurd (cc)
is_there txns place (Some txn) xs e h = slice_get_within txns place txn e

-- one list among the others

has_room : (n : ℕ) → n < 4096 → nat_lt n 4096 ≡ true
has_room n lt = grind (arith, nat_tests)

put_back : (before : List (List Call)) (calls : List Call) (after : List (List Call)) (at : ℕ) (call : Call) → length before ≡ at → length calls < 4096
    → put (at, call) (before ++ calls ∷ after) ≡ Ok (before ++ (calls ++ call ∷ []) ∷ after)
unfolding put
put_back before calls after at call e lt =
    let there : get_or (before ++ calls ∷ after) at [] ≡ calls = ap (λ (i : ℕ). get_or (before ++ calls ∷ after) i []) (sym e) ∙ get_or-append_seam before calls after [] in
    let put_there : set (before ++ calls ∷ after) at (calls ++ call ∷ []) ≡ before ++ (calls ++ call ∷ []) ∷ after =
    ap (λ (i : ℕ). set (before ++ calls ∷ after) i (calls ++ call ∷ [])) (sym e) ∙ set-append_seam before calls after (calls ++ call ∷ []) in
    rw (there, has_room (length calls) lt) (ap (λ (ls : List (List Call)). Ok ls) put_there)

module _ (read : WrittenIsRead) (found : NamesAreFound) (plan : PlanParts) (apart : IsTrue (differ (txn_names plan))) (fields : All (λ name. IsTrue (is_field name)) (txn_names plan)) (count : ℕ) (few : count ≤ 16) where
  named_there : (call : Call) → Fits plan call → call.txn < length (txn_names plan)
  named_there call fits =
      let lt = is_there plan.txns call.txn (slice_get plan.txns call.txn) call.arguments refl fits in
      omega (arith, lt, length-map plan.txns (λ txn. txn.name))

  call_back : (n : ℕ) (call : Call) → Fits plan call → call_of plan n (name_at (txn_names plan) call.txn) (map signed_decimal call.arguments) ≡ Ok call
  unfolding call_of
  call_back n call fits =
      rw (found (txn_names plan) call.txn apart (named_there call fits), taken_back read n (slice_get plan.txns call.txn) call.arguments fits) refl

  fields_good : (replica : ℕ) (call : Call) → replica < count → Fits plan call → are_fields (call_fields (txn_names plan) replica call) ≡ true
  fields_good replica call lt fits =
      both (is_field (decimal replica)) (are_fields (name_at (txn_names plan) call.txn ∷ map signed_decimal call.arguments)) (decimal_field read replica (omega arith))
      (both (is_field (name_at (txn_names plan) call.txn)) (are_fields (map signed_decimal call.arguments)) (fields call.txn [] (named_there call fits)) (taken_fields read (slice_get plan.txns call.txn) call.arguments fits))

  with_back : (n replica : ℕ) (call : Call) (before : List (List Call)) (calls : List Call) (after : List (List Call)) → replica < count → Fits plan call → length before ≡ replica → length calls < 4096
      → with_call plan count n (call_line (txn_names plan) replica call) (before ++ calls ∷ after) ≡ Ok (before ++ (calls ++ call ∷ []) ∷ after)
  unfolding with_call placed_of placed
  with_back n replica call before calls after lt fits e room =
      rw (
        fields_back n (decimal replica) (name_at (txn_names plan) call.txn ∷ map signed_decimal call.arguments) (fields_good replica call lt fits),
        number_back read n replica (omega arith),
        below_back count n replica lt,
        call_back n call fits,
      )
      (put_back before calls after replica call e room)

  calls_back : (n replica : ℕ) (todo : List Call) (before : List (List Call)) (calls : List Call) (after : List (List Call)) (rest : List ℕ) → replica < count → All (Fits plan) todo → length before ≡ replica → length calls + length todo ≤ 4096
      → up_to_end (with_call plan count) (before ++ calls ∷ after) (listing n (call_lines (txn_names plan) replica todo ++ rest))
      ≡ up_to_end (with_call plan count) (before ++ (calls ++ todo) ∷ after) (listing (n + length todo) rest)
  calls_back n replica [] before calls after rest lt fits e room =
      ap (λ (cs : List Call). up_to_end (with_call plan count) (before ++ cs ∷ after) (listing n rest)) (sym (append-nil calls))
      ∙ ap (λ (k : ℕ). up_to_end (with_call plan count) (before ++ (calls ++ []) ∷ after) (listing k rest)) (omega arith)
  calls_back n replica (call ∷ todo) before calls after rest lt fits e room =
      let is : Fits plan call = fits 0 call (omega arith) in
      let good = fields_good replica call lt is in
      let s = starts (decimal replica) (behind_spaces (name_at (txn_names plan) call.txn ∷ map signed_decimal call.arguments)) replica (natural_back read replica (omega arith)) in
      let more : length (calls ++ call ∷ []) + length todo ≤ 4096 = omega (arith, room, length-append calls (call ∷ [])) in
      ap (λ (text : List ℕ). up_to_end (with_call plan count) (before ++ calls ∷ after) (listing n text)) (append_assoc (call_line (txn_names plan) replica call) (10 ∷ call_lines (txn_names plan) replica todo) rest)
      ∙ one_more (with_call plan count) (before ++ calls ∷ after) (before ++ (calls ++ call ∷ []) ∷ after) n (call_line (txn_names plan) replica call) (call_lines (txn_names plan) replica todo ++ rest)
      (spaced_plain (decimal replica) (name_at (txn_names plan) call.txn ∷ map signed_decimal call.arguments) good) s.0 s.1 (with_back n replica call before calls after lt is e (omega (arith, room)))
      ∙ calls_back (n + 1) replica todo before (calls ++ call ∷ []) after rest lt (All-tail (Fits plan) call todo fits) e more
      ∙ ap (λ (cs : List Call). up_to_end (with_call plan count) (before ++ cs ∷ after) (listing (n + 1 + length todo) rest)) (append_assoc calls (call ∷ []) todo)
      ∙ ap (λ (k : ℕ). up_to_end (with_call plan count) (before ++ (calls ++ call ∷ todo) ∷ after) (listing k rest)) (omega arith)

  ends_back : (n : ℕ) (lists : List (List Call)) → up_to_end (with_call plan count) lists (listing n (codes "end" ++ 10 ∷ [])) ≡ Ok lists
  unfolding up_to_end
  ends_back n lists = refl

  lists_back : (n from : ℕ) (todo before : List (List Call)) → All (λ calls. All (Fits plan) calls) todo → All (λ calls. length calls ≤ 4096) todo → length before ≡ from → from + length todo ≡ count
      → up_to_end (with_call plan count) (before ++ replicate (length todo) []) (listing n (lists_lines (txn_names plan) from todo ++ (codes "end" ++ 10 ∷ []))) ≡ Ok (before ++ todo)
  lists_back n from [] before fits short e sum = ends_back n (before ++ [])
  lists_back n from (calls ∷ todo) before fits short e sum =
      let room : length calls ≤ 4096 = short 0 calls (omega arith) in
      let later = lists_lines (txn_names plan) (from + 1) todo ++ (codes "end" ++ 10 ∷ []) in
      ap (λ (text : List ℕ). up_to_end (with_call plan count) (before ++ [] ∷ replicate (length todo) []) (listing n text)) (append_assoc (call_lines (txn_names plan) from calls) (lists_lines (txn_names plan) (from + 1) todo) (codes "end" ++ 10 ∷ []))
      ∙ calls_back n from calls before [] (replicate (length todo) []) later (omega arith) (fits 0 calls (omega arith)) e (omega arith)
      ∙ ap (λ (ls : List (List Call)). up_to_end (with_call plan count) ls (listing (n + length calls) later)) (sym (append_assoc before (calls ∷ []) (replicate (length todo) [])))
      ∙ lists_back (n + length calls) (from + 1) todo (before ++ calls ∷ []) (All-tail (λ cs. All (Fits plan) cs) calls todo fits) (All-tail (λ (cs : List Call). length cs ≤ 4096) calls todo short)
      (omega (arith, e, length-append before (calls ∷ []))) (omega (arith, sum))
      ∙ ap (λ (ls : List (List Call)). Ok ls) (append_assoc before (calls ∷ []) todo)

  counts : (n : ℕ) → 1 ≤ n → n ≤ 16 → (nat_le 1 n && nat_le n 16) ≡ true
  counts n some most = grind (arith, nat_tests)

  replicas_back : 1 ≤ count → replicas_of 2 (spaced (codes "replicas" ∷ decimal count ∷ [])) ≡ Ok count
  unfolding replicas_of replicas_in number_behind
  replicas_back some =
      let good : are_fields (codes "replicas" ∷ decimal count ∷ []) ≡ true = rw (decimal_field read count (omega arith)) refl in
      rw (fields_back 2 (codes "replicas") (decimal count ∷ []) good, number_back read 2 count (omega arith), counts count some few) refl

  head_back : (text : List ℕ) → text_of plan ((codes "work 1" ++ 10 ∷ []) ++ text) ≡ (next replicas_of (listing 2 text) >>= λ counted. lists_of plan counted.0 counted.1)
  unfolding text_of heading fields_of
  head_back text = refl

  next_back : (text : List ℕ) → 1 ≤ count → next replicas_of (listing 2 ((codes "replicas " ++ decimal count ++ 10 ∷ []) ++ text)) ≡ Ok (count, listing 3 text)
  next_back text some =
      let good : are_fields (codes "replicas" ∷ decimal count ∷ []) ≡ true = rw (decimal_field read count (omega arith)) refl in
      let l = spaced (codes "replicas" ∷ decimal count ∷ []) in
      let same : l ≡ codes "replicas " ++ decimal count = ap (λ (ds : List ℕ). codes "replicas " ++ ds) (append-nil (decimal count)) in
      ap (λ (t : List ℕ). next replicas_of (listing 2 t)) (append_assoc (codes "replicas " ++ decimal count) (10 ∷ []) text ∙ ap (λ (t : List ℕ). t ++ 10 ∷ text) (sym same))
      ∙ ap (next replicas_of) (line_listed 2 l text (spaced_plain (codes "replicas") (decimal count ∷ []) good) refl)
      ∙ ap (λ (o : Outcome CallsError ℕ). o >>= λ k. Ok (k, listing 3 text)) (replicas_back some)

  all_back : (lists : List (List Call)) → IsWorkOf plan lists → length lists ≡ count
      → text_of plan (work_text (txn_names plan) lists) ≡ Ok lists
  unfolding work_text lists_of
  all_back lists is e =
      let names = txn_names plan in
      let first = codes "work 1" ++ 10 ∷ [] in
      let second = codes "replicas " ++ decimal (length lists) ++ 10 ∷ [] in
      let body = lists_lines names 0 lists in
      let last = codes "end" ++ 10 ∷ [] in
      let grouped : first ++ second ++ body ++ last ≡ first ++ (second ++ (body ++ last)) =
      append_assoc (first ++ second) body last ∙ append_assoc first second (body ++ last) in
      ap (text_of plan) grouped ∙ head_back (second ++ (body ++ last))
      ∙ ap (λ (k : ℕ). next replicas_of (listing 2 ((codes "replicas " ++ decimal k ++ 10 ∷ []) ++ (body ++ last))) >>= λ counted. lists_of plan counted.0 counted.1) e
      ∙ ap (λ (o : Outcome CallsError (ℕ × Listing)). o >>= λ counted. lists_of plan counted.0 counted.1) (next_back (body ++ last) (omega (arith, is.some, e)))
      ∙ ap (λ (k : ℕ). up_to_end (with_call plan count) (replicate k []) (listing 3 (body ++ last))) (sym e)
      ∙ lists_back 3 0 lists [] is.fits is.short refl (omega (arith, e))

pub work_back : WrittenIsRead → NamesAreFound → WorkIsReadBack
unfolding work_of
work_back read found plan lists apart fields is short =
    rw (within_back (2 ^ 25) (work_text (txn_names plan) lists) short) (all_back read found plan apart fields (length lists) is.few lists is refl)
