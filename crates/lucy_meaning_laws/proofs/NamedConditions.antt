-- Conditions that are given have a meaning.
use Rattle.std.proofs.Common.{◌≡◌, ℕ, List, [], ◌∷◌, ◌++◌, map, Bool, true, ◌&&◌, Option, Some, None, refl, ap, ◌∙◌}
use Rattle.std.specs.List.{list_all, AllZip}
use Rattle.lucy_model.specs.declared.conditions.Condition.{Condition}
use Rattle.lucy_model.specs.declared.conditions.Condition.TheVariants as form
use Rattle.lucy_tree.specs.declared.marks.Name.{Name}
use Rattle.lucy_tree.specs.declared.marks.Then.{Then}
use Rattle.lucy_tree.specs.declared.marks.Chain.{Chain}
use Rattle.lucy_tree.specs.declared.terms.Relation.{Relation}
use Rattle.lucy_tree.specs.declared.terms.Term.{Term}
use Rattle.lucy_tree.specs.declared.conditions.Cond.{Cond}
use Rattle.lucy_tree.specs.declared.conditions.Unary.{Unary}
use Rattle.lucy_tree.specs.declared.conditions.Unary.TheOpen.{Unary-F}
use Rattle.lucy_gather.specs.declared.scopes.Meaning.{Meaning}
use Rattle.lucy_gather.specs.declared.scopes.Meaning.TheVariants as meaning
use Rattle.lucy_gather.specs.declared.scopes.Entry.{Entry}
use Rattle.lucy_gather.specs.declared.scopes.Scope.{Scope}
use Rattle.lucy_gather.specs.Steps.{lifted}
use Rattle.lucy_gather.specs.Scopes.{Path, held, meaning_of, meaning_at, start_of, flag_by, flag_at, set_at, atom_by, atom_in, atom_at}
use Rattle.lucy_gather.specs.Terms.{compared}
use Rattle.lucy_gather.specs.Conditions.{Counted, counted, op_of, then_map, chain_map, all_of, listed, itself, conj_step, disj_step, opened, comparison, known, member, flag, constant, negated, unary_of, condition_of}
use Rattle.lucy_meaning_laws.specs.Meanings.{items_of, all_hold}
use Rattle.lucy_meaning_laws.specs.Named.{is_flag, is_atom, has_atom, term_named, unary_named, cond_named, part_named, condition_named}
use Rattle.lucy_meaning_laws.proofs.Trees.{FitPart, FitWhole, PartsFit, WholesFit, about}
use Rattle.lucy_meaning_laws.proofs.Adding.{gives, left_with, one_by_one}
use Rattle.lucy_meaning_laws.proofs.Making.{Makes, makes_then, makes_more, makes_of, makes_found, makes_any, both_true}
use Rattle.lucy_meaning_laws.proofs.Terms.{found, found_at, group_is}
use Rattle.lucy_meaning_laws.proofs.NamedTerms.{compared_named}

-- what is given shows that a test passes
abbrev Shows : Counted → Bool → Type 0
Shows p b = Makes p (λ c. b ≡ true)

-- ---- lists

abbrev AllShow : {Z : Type 0} → (Z → Counted) → List (Then Z) → List Bool → Type 0
AllShow f ts bs = AllZip (λ t b. Shows (f t.item) b) ts bs

all_show : {Z : Type 0} (f : Z → Counted) (ts : List (Then Z)) (bs : List Bool) → AllShow f ts bs → (before : List Condition) → Makes (all_of f ts before) (λ cs. list_all (λ b. b) bs ≡ true)
all_show f [] [] show before = makes_of before refl
all_show f [] (b ∷ bs) show before = absurd show
all_show f (t ∷ ts) [] show before = absurd show
all_show f (t ∷ ts) (b ∷ bs) show before =
    makes_then show.0 (λ c one. makes_more (all_show f ts bs show.1 (before ++ c ∷ [])) (λ cs all. both_true b (list_all (λ x. x) bs) one all))

listed_shows : {Z : Type 0} (build : List Condition → Condition) (f : Z → Counted) (ts : List (Then Z)) (bs : List Bool) → AllShow f ts bs → (first : Condition) (b : Bool) → b ≡ true
    → Shows (listed build f ts first) (list_all (λ x. x) (b ∷ bs))
listed_shows build f [] [] show first b one = makes_of first (both_true b true one refl)
listed_shows build f [] (c ∷ bs) show first b one = absurd show
listed_shows build f (t ∷ ts) [] show first b one = absurd show
listed_shows build f (t ∷ ts) (c ∷ bs) show first b one = makes_then (makes_any counted) (λ u any.
    makes_then (all_show f (t ∷ ts) (c ∷ bs) show (first ∷ [])) (λ cs all. makes_of (build cs) (both_true b (list_all (λ x. x) (c ∷ bs)) one all)))

module _ (scope : Scope) (params : List Entry) where
  -- ---- parts

  flag_named : (path : Path) (leaf : ℕ) → flag_at scope params path ≡ gives leaf → is_flag (meaning_of scope params path) ≡ true
  unfolding flag_at meaning_at
  flag_named path leaf e =
      let (m, e1, e2) = one_by_one (meaning_at scope params path) (flag_by (start_of path)) leaf e in
      ap is_flag (found_at _ (meaning_of scope params path) m e1) ∙ by m e2
    where
      by : (m : Meaning) → flag_by (start_of path) m ≡ gives leaf → is_flag (found m) ≡ true
      by (meaning.Flag x) f = refl
      by (meaning.Number x) f = absurd cc
      by (meaning.Set x first count) f = absurd cc
      by (meaning.Pair x) f = absurd cc
      by (meaning.Atom x) f = absurd cc
      by (meaning.Argument x) f = absurd cc

  atom_named : (atom : Name) (set : Path) (leaf : ℕ) → atom_at scope params set atom ≡ gives leaf → has_atom scope params atom (meaning_of scope params set) ≡ true
  unfolding atom_at atom_in
  atom_named atom set leaf e =
      let (group, e1, e2) = one_by_one (set_at scope params set) (λ g. atom_by atom.span.start (held g atom.text scope.entries)) leaf e in
      let (first, count, is) = group_is scope params [] [] set group e1 in
      ap (has_atom scope params atom) is ∙ by (held group atom.text scope.entries) e2
    where
      by : (o : Option Meaning) → atom_by atom.span.start o ≡ gives leaf → is_atom o ≡ true
      by None f = absurd cc
      by (Some (meaning.Atom x)) f = refl
      by (Some (meaning.Flag x)) f = absurd cc
      by (Some (meaning.Number x)) f = absurd cc
      by (Some (meaning.Set x first count)) f = absurd cc
      by (Some (meaning.Pair x)) f = absurd cc
      by (Some (meaning.Argument x)) f = absurd cc

  flag_shows : (path : Path) → Shows (flag scope params path) (is_flag (meaning_of scope params path))
  unfolding flag
  flag_shows path = makes_then (makes_found (flag_at scope params path)) (λ leaf e. makes_then (makes_any counted) (λ u any. makes_of (form.Is leaf) (flag_named path leaf e)))

  member_shows : (atom : Name) (set : Path) → Shows (member scope params atom set) (has_atom scope params atom (meaning_of scope params set))
  unfolding member
  member_shows atom set = makes_then (makes_any (lifted (known scope params atom set))) (λ u any. makes_then (makes_any counted) (λ v too.
      makes_then (makes_found (atom_at scope params set atom)) (λ leaf e. makes_of (form.Is leaf) (atom_named atom set leaf e))))

  comparison_shows : (left : Term) (r : Relation) (right : Term) → Shows (comparison scope params left r right) (term_named scope params left && term_named scope params right)
  unfolding comparison
  comparison_shows left r right = makes_then (makes_any (lifted (opened scope params left))) (λ u any. makes_then (makes_any counted) (λ v too.
      makes_then (makes_found (compared scope params left right)) (λ t e.
      let both = compared_named scope params left right t e in
      makes_of (form.Compare t (op_of r)) (both_true (term_named scope params left) (term_named scope params right) both.0 both.1))))

  constant_shows : (c : Condition) → Shows (constant scope params c) true
  constant_shows c = makes_then (makes_any counted) (λ u any. makes_of c refl)

  negated_shows : (p : Counted) (b : Bool) → Shows p b → Shows (negated scope params p) b
  negated_shows p b show = makes_then (makes_any counted) (λ u any. makes_then show (λ c one. makes_of (form.Not c) one))

  -- ---- the whole tree

  abbrev part_test : Unary → Bool
  part_test = part_named scope params

  abbrev whole_test : Cond → Bool
  whole_test = condition_named scope params

  abbrev ShownPart : Type 0
  ShownPart = FitPart scope params (unary_named scope params) (cond_named scope params) Shows

  abbrev ShownWhole : Type 0
  ShownWhole = FitWhole scope params (unary_named scope params) (cond_named scope params) Shows

  abbrev parts : Chain ShownPart → Chain Unary
  parts = chain_map (λ e. e.0)

  parts_show : (ts : List (Then ShownPart)) → AllShow itself (map (then_map (unary_of scope params)) (map (then_map (λ (e : ShownPart). e.0)) ts)) (map (λ t. t.item) (map (then_map part_test) (map (then_map (λ (e : ShownPart). e.0)) ts)))
  parts_show [] = tt
  parts_show (t ∷ ts) = (t.item.1, parts_show ts)

  conj_shows : (c : Chain ShownPart) → Shows (conj_step (chain_map (unary_of scope params) (parts c))) (all_hold (chain_map part_test (parts c)))
  unfolding conj_step
  conj_shows c = makes_then c.first.1 (λ first one. listed_shows form.And itself _ _ (parts_show c.others) first (part_test c.first.0) one)

  conjs_show : (ts : List (Then (Chain ShownPart)))
      → AllShow conj_step (map (then_map (chain_map (unary_of scope params))) (map (then_map parts) ts)) (map all_hold (map (λ t. t.item) (map (then_map (chain_map part_test)) (map (then_map parts) ts))))
  conjs_show [] = tt
  conjs_show (t ∷ ts) = (conj_shows t.item, conjs_show ts)

  disj_shows : (c : Chain (Chain ShownPart)) → Shows (disj_step (chain_map (chain_map (unary_of scope params)) (chain_map parts c))) (list_all (λ b. b) (map all_hold (items_of (chain_map (chain_map part_test) (chain_map parts c)))))
  unfolding disj_step
  disj_shows c = makes_then (conj_shows c.first) (λ first one. listed_shows form.Or conj_step _ _ (conjs_show c.others) first _ one)

  by_unary : PartsFit scope params (unary_named scope params) (cond_named scope params) Shows
  by_unary (Unary-F.Not word e) = negated_shows (unary_of scope params e.0) (part_test e.0) e.1
  by_unary (Unary-F.True word) = constant_shows form.True
  by_unary (Unary-F.False word) = constant_shows form.False
  by_unary (Unary-F.Parens open_paren e close_paren) = e.1
  by_unary (Unary-F.Member atom word set) = member_shows atom set
  by_unary (Unary-F.Compare left r mark right) = comparison_shows left r right
  by_unary (Unary-F.Flag path) = flag_shows path

  by_cond : WholesFit scope params (unary_named scope params) (cond_named scope params) Shows
  by_cond left None = makes_then (disj_shows left) (λ c one. makes_of c (both_true _ true one refl))
  by_cond left (Some t) = makes_then (disj_shows left) (λ c one. makes_then (makes_any counted) (λ u any. makes_then t.item.1 (λ d two.
      makes_of (form.Implies c d) (both_true _ (whole_test t.item.0) one two))))

  condition_shows : (c : Cond) → Shows (condition_of scope params c) (whole_test c)
  condition_shows = about scope params (unary_named scope params) (cond_named scope params) Shows by_unary by_cond

  pub conditions_named : (c : Cond) (n m : ℕ) (made : Condition) → condition_of scope params c n ≡ left_with made m → condition_named scope params c ≡ true
  conditions_named c n m made e = (condition_shows c).makes n m made e
