-- Conditions hold where their trees do.
use Rattle.std.proofs.Common.{◌≡◌, ℕ, ℤ, List, [], ◌∷◌, ◌++◌, map, Bool, true, false, not, ◌||◌, ◌&&◌, Option, Some, None, refl, sym, ap, subst, ◌∙◌, append_assoc}
use Rattle.std.specs.List.{list_all, list_any, AllZip}
use Rattle.std.proofs.lemmas.List.{append-nil, map-append}
use Rattle.std.proofs.lemmas.List.Folds.{list_all-map}
use Rattle.lucy_model.specs.declared.terms.Term as model
use Rattle.lucy_model.specs.declared.conditions.Op.{Op}
use Rattle.lucy_model.specs.declared.conditions.Condition.{Condition, roll-Condition, map-Condition}
use Rattle.lucy_model.specs.declared.conditions.Condition.TheOpen.{Condition-F}
use Rattle.lucy_model.specs.declared.conditions.Condition.TheFolds.{fold-roll-Condition}
use Rattle.lucy_model.specs.declared.conditions.Condition.TheVariants as form
use Rattle.lucy_model.specs.declared.conditions.Condition.TheVariants.{rolls-True, rolls-False, rolls-Compare, rolls-Is, rolls-Not, rolls-And, rolls-Or, rolls-Implies}
use Rattle.lucy_model.specs.Terms.{term_value}
use Rattle.lucy_model.specs.Conditions.{Test, test_step, holds_at, stands}
use Rattle.lucy_tree.specs.declared.marks.Name.{Name}
use Rattle.lucy_tree.specs.declared.marks.Then.{Then}
use Rattle.lucy_tree.specs.declared.marks.Chain.{Chain}
use Rattle.lucy_tree.specs.declared.terms.Relation.{Relation}
use Rattle.lucy_tree.specs.declared.terms.Term.{Term}
use Rattle.lucy_tree.specs.declared.conditions.Cond.{Cond}
use Rattle.lucy_tree.specs.declared.conditions.Unary.{Unary}
use Rattle.lucy_tree.specs.declared.conditions.Unary.TheOpen.{Unary-F}
use Rattle.lucy_gather.specs.declared.scopes.Meaning.{Meaning}
use Rattle.lucy_gather.specs.declared.scopes.Meaning.TheVariants as meaning
use Rattle.lucy_gather.specs.declared.scopes.Entry.{Entry}
use Rattle.lucy_gather.specs.declared.scopes.Scope.{Scope}
use Rattle.lucy_gather.specs.Steps.{lifted}
use Rattle.lucy_gather.specs.Scopes.{Path, held, meaning_of, meaning_at, start_of, flag_by, flag_at, set_at, atom_by, atom_in, atom_at}
use Rattle.lucy_gather.specs.Terms.{compared}
use Rattle.lucy_gather.specs.Conditions.{Counted, counted, op_of, then_map, chain_map, all_of, listed, itself, conj_step, disj_step, opened, comparison, known, member, flag, constant, negated, unary_of, condition_of}
use Rattle.lucy_meaning_laws.specs.Meanings.{related, all_hold, some_holds, tree_value, is_on, flag_on, atom_on, is_in, unary_holds, cond_holds, part_holds, condition_holds}
use Rattle.lucy_meaning_laws.specs.Laws.{AreOf}
use Rattle.lucy_meaning_laws.proofs.Trees.{FitPart, FitWhole, PartsFit, WholesFit, about}
use Rattle.lucy_meaning_laws.proofs.Adding.{gives, left_with, given_is, one_by_one}
use Rattle.lucy_meaning_laws.proofs.Making.{Makes, makes_then, makes_of, makes_found, makes_any}
use Rattle.lucy_meaning_laws.proofs.Terms.{found, found_at, group_is, compared_value}
use Rattle.lucy_meaning_laws.proofs.Comparisons.{stands_as}

list_any-map : {X Y : Type 0} (p : X → Bool) (h : Y → X) (ys : List Y) → list_any p (map h ys) ≡ list_any (λ y. p (h y)) ys
list_any-map p h [] = refl
list_any-map p h (y ∷ ys) = ap (λ b. p (h y) || b) (list_any-map p h ys)

and_true : (b : Bool) → (b && true) ≡ b
and_true true = refl
and_true false = refl

or_false : (b : Bool) → (b || false) ≡ b
or_false true = refl
or_false false = refl

module _ (xs arguments : List ℤ) where
  abbrev here : Condition → Bool
  here c = holds_at c xs arguments

  abbrev Says : Bool → Condition → Type 0
  Says b c = here c ≡ b

  abbrev Fair : Counted → Bool → Type 0
  Fair p b = Makes p (Says b)

  says_by : (x : Condition-F Condition) (c : Condition) (b : Bool) → roll-Condition x ≡ c → test_step (map-Condition Condition Test holds_at x) xs arguments ≡ b → Says b c
  says_by x c b made e = ap here (sym made) ∙ ap (λ (t : Test). t xs arguments) (fold-roll-Condition Test test_step x) ∙ e

  and_says : (cs : List Condition) (bs : List Bool) → map here cs ≡ bs → Says (list_all (λ b. b) bs) (form.And cs)
  and_says cs bs e = says_by (Condition-F.And cs) (form.And cs) (list_all (λ b. b) bs) (rolls-And cs)
      (list_all-map (λ (t : Test). t xs arguments) holds_at cs ∙ sym (list_all-map (λ b. b) here cs) ∙ ap (list_all (λ b. b)) e)

  or_says : (cs : List Condition) (bs : List Bool) → map here cs ≡ bs → Says (list_any (λ b. b) bs) (form.Or cs)
  or_says cs bs e = says_by (Condition-F.Or cs) (form.Or cs) (list_any (λ b. b) bs) (rolls-Or cs)
      (list_any-map (λ (t : Test). t xs arguments) holds_at cs ∙ sym (list_any-map (λ b. b) here cs) ∙ ap (list_any (λ b. b)) e)

  not_says : (c : Condition) (b : Bool) → Says b c → Says (not b) (form.Not c)
  not_says c b e = says_by (Condition-F.Not c) (form.Not c) (not b) (rolls-Not c) (ap not e)

  implies_says : (c d : Condition) (a b : Bool) → Says a c → Says b d → Says (not a || b) (form.Implies c d)
  implies_says c d a b e f = says_by (Condition-F.Implies c d) (form.Implies c d) (not a || b) (rolls-Implies c d) (ap (λ x. not x || here d) e ∙ ap (λ x. not a || x) f)

  is_says : (leaf : ℕ) (b : Bool) → is_on xs leaf ≡ b → Says b (form.Is leaf)
  is_says leaf b e = says_by (Condition-F.Is leaf) (form.Is leaf) b (rolls-Is leaf) e

  compare_says : (t : model.Term) (o : Op) (b : Bool) → stands o (term_value t xs arguments) ≡ b → Says b (form.Compare t o)
  compare_says t o b e = says_by (Condition-F.Compare t o) (form.Compare t o) b (rolls-Compare t o) e

  -- ---- lists

  abbrev Fairly : {Z : Type 0} → (Z → Counted) → List (Then Z) → List Bool → Type 0
  Fairly f ts bs = AllZip (λ t b. Fair (f t.item) b) ts bs

  all_say : {Z : Type 0} (f : Z → Counted) (ts : List (Then Z)) (bs : List Bool) → Fairly f ts bs → (before : List Condition) (ys : List Bool) → map here before ≡ ys
      → Makes (all_of f ts before) (λ cs. map here cs ≡ ys ++ bs)
  all_say f [] [] fair before ys e = makes_of before (e ∙ sym (append-nil ys))
  all_say f [] (b ∷ bs) fair before ys e = absurd fair
  all_say f (t ∷ ts) [] fair before ys e = absurd fair
  all_say f (t ∷ ts) (b ∷ bs) fair before ys e = makes_then fair.0 (λ c says.
      subst (λ goal. Makes (all_of f ts (before ++ c ∷ [])) (λ cs. map here cs ≡ goal)) (append_assoc ys (b ∷ []) bs)
      (all_say f ts bs fair.1 (before ++ c ∷ []) (ys ++ b ∷ []) (map-append here before (c ∷ []) ∙ ap (λ v. v ++ here c ∷ []) e ∙ ap (λ x. ys ++ x ∷ []) says)))

  -- a lone condition says what its list would
  listed_says : {Z : Type 0} (build : List Condition → Condition) (whole : List Bool → Bool) → ((cs : List Condition) (bs : List Bool) → map here cs ≡ bs → Says (whole bs) (build cs))
      → ((b : Bool) → whole (b ∷ []) ≡ b) → (f : Z → Counted) (ts : List (Then Z)) (bs : List Bool) → Fairly f ts bs → (first : Condition) (b : Bool) → Says b first
      → Fair (listed build f ts first) (whole (b ∷ bs))
  listed_says build whole built lone f [] [] fair first b says = makes_of first (says ∙ sym (lone b))
  listed_says build whole built lone f [] (c ∷ bs) fair first b says = absurd fair
  listed_says build whole built lone f (t ∷ ts) [] fair first b says = absurd fair
  listed_says build whole built lone f (t ∷ ts) (c ∷ bs) fair first b says = makes_then (makes_any counted) (λ u any.
      makes_then (all_say f (t ∷ ts) (c ∷ bs) fair (first ∷ []) (b ∷ []) (ap (λ x. x ∷ []) says)) (λ cs e. makes_of (build cs) (built cs (b ∷ c ∷ bs) e)))

  -- ---- parts

  constant_fair : (scope : Scope) (params : List Entry) (c : Condition) (b : Bool) → Says b c → Fair (constant scope params c) b
  constant_fair scope params c b says = makes_then (makes_any counted) (λ u any. makes_of c says)

  negated_fair : (scope : Scope) (params : List Entry) (p : Counted) (b : Bool) → Fair p b → Fair (negated scope params p) (not b)
  negated_fair scope params p b fair = makes_then (makes_any counted) (λ u any. makes_then fair (λ c says. makes_of (form.Not c) (not_says c b says)))

module _ (scope : Scope) (params : List Entry) (xs arguments : List ℤ) (of : AreOf scope params xs arguments) where
  abbrev Just : Counted → Bool → Type 0
  Just = Fair xs arguments

  -- the leaf of a flag is that of its path
  flag_leaf : (path : Path) (leaf : ℕ) → flag_at scope params path ≡ gives leaf → is_on xs leaf ≡ flag_on scope params xs arguments (meaning_of scope params path)
  unfolding flag_at meaning_at
  flag_leaf path leaf e =
      let (m, e1, e2) = one_by_one (meaning_at scope params path) (flag_by (start_of path)) leaf e in
      by m e2 ∙ ap (flag_on scope params xs arguments) (sym (found_at _ (meaning_of scope params path) m e1))
    where
      by : (m : Meaning) → flag_by (start_of path) m ≡ gives leaf → is_on xs leaf ≡ flag_on scope params xs arguments (found m)
      by (meaning.Flag x) f = ap (is_on xs) (sym (given_is f))
      by (meaning.Number x) f = absurd cc
      by (meaning.Set x first count) f = absurd cc
      by (meaning.Pair x) f = absurd cc
      by (meaning.Atom x) f = absurd cc
      by (meaning.Argument x) f = absurd cc

  -- the leaf of an atom is that of its name in the set's group
  atom_leaf : (atom : Name) (set : Path) (leaf : ℕ) → atom_at scope params set atom ≡ gives leaf → is_on xs leaf ≡ is_in scope params xs arguments atom (meaning_of scope params set)
  unfolding atom_at atom_in
  atom_leaf atom set leaf e =
      let (group, e1, e2) = one_by_one (set_at scope params set) (λ g. atom_by atom.span.start (held g atom.text scope.entries)) leaf e in
      let (first, count, is) = group_is scope params xs arguments set group e1 in
      by (held group atom.text scope.entries) e2 ∙ ap (is_in scope params xs arguments atom) (sym is)
    where
      by : (o : Option Meaning) → atom_by atom.span.start o ≡ gives leaf → is_on xs leaf ≡ atom_on xs o
      by None f = absurd cc
      by (Some (meaning.Atom x)) f = ap (is_on xs) (sym (given_is f))
      by (Some (meaning.Flag x)) f = absurd cc
      by (Some (meaning.Number x)) f = absurd cc
      by (Some (meaning.Set x first count)) f = absurd cc
      by (Some (meaning.Pair x)) f = absurd cc
      by (Some (meaning.Argument x)) f = absurd cc

  flag_just : (path : Path) → Just (flag scope params path) (flag_on scope params xs arguments (meaning_of scope params path))
  unfolding flag
  flag_just path = makes_then (makes_found (flag_at scope params path)) (λ leaf e. makes_then (makes_any counted) (λ u any. makes_of (form.Is leaf) (is_says xs arguments leaf _ (flag_leaf path leaf e))))

  member_just : (atom : Name) (set : Path) → Just (member scope params atom set) (is_in scope params xs arguments atom (meaning_of scope params set))
  unfolding member
  member_just atom set = makes_then (makes_any (lifted (known scope params atom set))) (λ u any. makes_then (makes_any counted) (λ v too.
      makes_then (makes_found (atom_at scope params set atom)) (λ leaf e. makes_of (form.Is leaf) (is_says xs arguments leaf _ (atom_leaf atom set leaf e)))))

  comparison_just : (left : Term) (r : Relation) (right : Term)
      → Just (comparison scope params left r right) (related r (tree_value scope params xs arguments left) (tree_value scope params xs arguments right))
  unfolding comparison
  comparison_just left r right = makes_then (makes_any (lifted (opened scope params left))) (λ u any. makes_then (makes_any counted) (λ v too.
      makes_then (makes_found (compared scope params left right)) (λ t e. makes_of (form.Compare t (op_of r)) (compare_says xs arguments t (op_of r) _
      (ap (stands (op_of r)) (compared_value scope params xs arguments left right t e of) ∙ stands_as r (tree_value scope params xs arguments left) (tree_value scope params xs arguments right))))))

  -- ---- the whole tree

  abbrev part_test : Unary → Bool
  part_test = part_holds scope params xs arguments

  abbrev whole_test : Cond → Bool
  whole_test = condition_holds scope params xs arguments

  abbrev JustPart : Type 0
  JustPart = FitPart scope params (unary_holds scope params xs arguments) (cond_holds scope params xs arguments) Just

  abbrev JustWhole : Type 0
  JustWhole = FitWhole scope params (unary_holds scope params xs arguments) (cond_holds scope params xs arguments) Just

  units_fair : (ts : List (Then JustPart)) → Fairly xs arguments itself (map (then_map (unary_of scope params)) (map (then_map (λ (e : JustPart). e.0)) ts)) (map (λ t. t.item) (map (then_map part_test) (map (then_map (λ (e : JustPart). e.0)) ts)))
  units_fair [] = tt
  units_fair (t ∷ ts) = (t.item.1, units_fair ts)

  conj_just : (c : Chain JustPart) → Just (conj_step (chain_map (unary_of scope params) (chain_map (λ (e : JustPart). e.0) c))) (all_hold (chain_map part_test (chain_map (λ (e : JustPart). e.0) c)))
  unfolding conj_step
  conj_just c = makes_then c.first.1 (λ first says. listed_says xs arguments form.And (list_all (λ b. b)) (and_says xs arguments) and_true itself _ _ (units_fair c.others) first (part_test c.first.0) says)

  conjs_fair : (ts : List (Then (Chain JustPart)))
      → Fairly xs arguments conj_step (map (then_map (chain_map (unary_of scope params))) (map (then_map (chain_map (λ (e : JustPart). e.0))) ts))
      (map all_hold (map (λ t. t.item) (map (then_map (chain_map part_test)) (map (then_map (chain_map (λ (e : JustPart). e.0))) ts))))
  conjs_fair [] = tt
  conjs_fair (t ∷ ts) = (conj_just t.item, conjs_fair ts)

  disj_just : (c : Chain (Chain JustPart)) → Just (disj_step (chain_map (chain_map (unary_of scope params)) (chain_map (chain_map (λ (e : JustPart). e.0)) c))) (some_holds (chain_map (chain_map part_test) (chain_map (chain_map (λ (e : JustPart). e.0)) c)))
  unfolding disj_step
  disj_just c = makes_then (conj_just c.first) (λ first says. listed_says xs arguments form.Or (list_any (λ b. b)) (or_says xs arguments) or_false conj_step _ _ (conjs_fair c.others) first _ says)

  by_unary : PartsFit scope params (unary_holds scope params xs arguments) (cond_holds scope params xs arguments) Just
  by_unary (Unary-F.Not word e) = negated_fair xs arguments scope params (unary_of scope params e.0) (part_test e.0) e.1
  by_unary (Unary-F.True word) = constant_fair xs arguments scope params form.True true (says_by xs arguments Condition-F.True form.True true rolls-True refl)
  by_unary (Unary-F.False word) = constant_fair xs arguments scope params form.False false (says_by xs arguments Condition-F.False form.False false rolls-False refl)
  by_unary (Unary-F.Parens open_paren e close_paren) = e.1
  by_unary (Unary-F.Member atom word set) = member_just atom set
  by_unary (Unary-F.Compare left r mark right) = comparison_just left r right
  by_unary (Unary-F.Flag path) = flag_just path

  by_cond : WholesFit scope params (unary_holds scope params xs arguments) (cond_holds scope params xs arguments) Just
  by_cond left None = makes_then (disj_just left) (λ c says. makes_of c says)
  by_cond left (Some t) = makes_then (disj_just left) (λ c says. makes_then (makes_any counted) (λ u any. makes_then t.item.1 (λ d too.
      makes_of (form.Implies c d) (implies_says xs arguments c d _ (whole_test t.item.0) says too))))

  condition_just : (c : Cond) → Just (condition_of scope params c) (whole_test c)
  condition_just = about scope params (unary_holds scope params xs arguments) (cond_holds scope params xs arguments) Just by_unary by_cond

  pub condition_value : (c : Cond) (n m : ℕ) (made : Condition) → condition_of scope params c n ≡ left_with made m → holds_at made xs arguments ≡ condition_holds scope params xs arguments c
  condition_value c n m made e = (condition_just c).makes n m made e
