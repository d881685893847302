-- Names that differ.
use Rattle.std.proofs.Common.{◌≡◌, ℕ, Bool, true, false, List, [], ◌∷◌, ◌++◌, ◌&&◌, Some, None, refl, ap, ◌∙◌, sym, not, if◌then◌else◌, append_assoc}
use Rattle.std.proofs.lemmas.List.{append-nil}
use Rattle.lucy_names.specs.Tables.{is_among, with_name, differ_behind, differ, where_differ}

and_true : (t : Bool) → (t && true) ≡ t
and_true true = refl
and_true false = refl

regroup : (s t u : Bool) → (s && (t && u)) ≡ (s && t && u)
regroup true t u = refl
regroup false t u = refl

pub differ_push : (before names : List (List ℕ)) (name : List ℕ) → differ_behind before (names ++ name ∷ []) ≡ (differ_behind before names && not (is_among (before ++ names) name))
differ_push before [] name = and_true (not (is_among before name)) ∙ ap (λ (ns : List (List ℕ)). not (is_among ns name)) (sym (append-nil before))
differ_push before (x ∷ names) name =
    ap (λ t. not (is_among before x) && t) (differ_push (before ++ x ∷ []) names name)
    ∙ regroup (not (is_among before x)) (differ_behind (before ++ x ∷ []) names) (not (is_among (before ++ x ∷ [] ++ names) name))
    ∙ ap (λ (ns : List (List ℕ)). not (is_among before x) && differ_behind (before ++ x ∷ []) names && not (is_among ns name)) (append_assoc before (x ∷ []) names)

kept_by : (t : Bool) (names : List (List ℕ)) (name : List ℕ) → is_among names name ≡ t → differ names ≡ true → differ (if t then names else names ++ name ∷ []) ≡ true
kept_by true names name is all = all
kept_by false names name is all = differ_push [] names name ∙ ap (λ t. t && not (is_among names name)) all ∙ ap not is

pub with_name_kept : (names : List (List ℕ)) (name : List ℕ) → differ names ≡ true → differ (with_name names name) ≡ true
with_name_kept names name all = kept_by (is_among names name) names name refl all

put_by : (t : Bool) → true ≡ not t → t ≡ false
put_by true e = absurd (cc)
put_by false e = refl

pub put_there : (names : List (List ℕ)) (name : List ℕ) → true ≡ not (is_among names name) → with_name names name ≡ names ++ name ∷ []
put_there names name e = ap (λ t. if t then names else names ++ name ∷ []) (put_by (is_among names name) e)

pub more_differ : (before : List (List ℕ)) (name : List ℕ) (names : List (List ℕ)) → true ≡ not (is_among before name) → differ_behind before (name ∷ names) ≡ differ_behind (before ++ name ∷ []) names
more_differ before name names e = ap (λ t. t && differ_behind (before ++ name ∷ []) names) (sym e)

pub one_again : (before : List (List ℕ)) (name : List ℕ) (names : List (List ℕ)) → false ≡ not (is_among before name) → differ_behind before (name ∷ names) ≡ false
one_again before name names e = ap (λ t. t && differ_behind (before ++ name ∷ []) names) (sym e)

pub none_where : (names : List (List ℕ)) → differ names ≡ false → None ≡ where_differ names
none_where names e = ap (λ t. if t then Some names else None) (sym e)

pub some_where : (names : List (List ℕ)) → differ names ≡ true → Some names ≡ where_differ names
some_where names e = ap (λ t. if t then Some names else None) (sym e)
