-- What all names stand for has a property: so has what a path leads to.
use Rattle.std.proofs.Common.{◌≡◌, ℕ, ◌==◌, ◌&&◌, List, [], ◌∷◌, ◌++◌, Bool, true, false, cond as if_then, Option, Some, None, refl, ap, subst, ◌∙◌}
use Rattle.std.specs.Prelude.{bytes_eq}
use Rattle.std.specs.Option.{option_or}
use Rattle.lucy_tree.specs.declared.marks.Name.{Name}
use Rattle.lucy_tree.specs.declared.marks.Then.{Then}
use Rattle.lucy_gather.specs.declared.error.ElabError.{ElabError}
use Rattle.lucy_gather.specs.declared.scopes.Meaning.{Meaning}
use Rattle.lucy_gather.specs.declared.scopes.Meaning.TheVariants as meaning
use Rattle.lucy_gather.specs.declared.scopes.Entry.{Entry}
use Rattle.lucy_gather.specs.declared.scopes.Scope.{Scope}
use Rattle.lucy_gather.specs.Steps.{or_refused}
use Rattle.lucy_gather.specs.Scopes.{Path, on_some, held, within, walked, outermost, meaning_of, start_of, meaning_at, flag_by, flag_at, set_at, atom_by, atom_in, atom_at}
use Rattle.lucy_elaborate_laws.specs.Meanings.{EachMeans}
use Rattle.lucy_elaborate_laws.proofs.Keeping.{only, only_is, then_passed}

abbrev pub some : {A : Type 0} → A → Option A
some a = Some a

pub some_is : {A : Type 0} {u v : A} → some u ≡ some v → u ≡ v
some_is e = cc

pub there : {A : Type 0} (d : ElabError) (o : Option A) (a : A) → or_refused d o ≡ only a → o ≡ some a
there d None a e = absurd cc
there d (Some b) a e = ap (λ x. some x) (only_is e)

pub each_push : (Is : Meaning → Type 0) (es : List Entry) (e : Entry) → EachMeans Is es → Is e.meaning → EachMeans Is (es ++ e ∷ [])
each_push Is [] e all h = (h, tt)
each_push Is (x ∷ es) e all h = (all.0, each_push Is es e all.1 h)

pub each_more : (Is Was : Meaning → Type 0) → ((m : Meaning) → Was m → Is m) → (es : List Entry) → EachMeans Was es → EachMeans Is es
each_more Is Was more [] h = tt
each_more Is Was more (e ∷ es) h = (more e.meaning h.0, each_more Is Was more es h.1)

module _ (Is : Meaning → Type 0) where
  held_is : (group : ℕ) (name : List ℕ) (es : List Entry) → EachMeans Is es → (m : Meaning) → held group name es ≡ some m → Is m
  held_is group name [] all m e = absurd cc
  held_is group name (x ∷ es) all m e = by (group == x.group && bytes_eq name x.name) (held_is group name es all.1 m) e
    where
      by : (b : Bool) → (held group name es ≡ some m → Is m) → if_then b (some x.meaning) (held group name es) ≡ some m → Is m
      by true h f = subst Is (some_is f) all.0
      by false h f = h f

  within_is : (es : List Entry) (outer : Meaning) (name : Name) → EachMeans Is es → (m : Meaning) → within es outer name ≡ some m → Is m
  within_is es (meaning.Pair group) name all m e = held_is group name.text es all m e
  within_is es (meaning.Number leaf) name all m e = absurd cc
  within_is es (meaning.Flag leaf) name all m e = absurd cc
  within_is es (meaning.Set group first count) name all m e = absurd cc
  within_is es (meaning.Atom leaf) name all m e = absurd cc
  within_is es (meaning.Argument place) name all m e = absurd cc

  walked_is : (es : List Entry) (found : Meaning) (ts : List (Then Name)) → EachMeans Is es → Is found → (m : Meaning) → walked es found ts ≡ some m → Is m
  walked_is es found [] all h m e = subst Is (some_is e) h
  walked_is es found (t ∷ ts) all h m e = by (λ inner k g. walked_is es inner ts all k m g) (within es found t.item) refl e
    where
      by : ((inner : Meaning) → Is inner → walked es inner ts ≡ some m → Is m) → (o : Option Meaning) → within es found t.item ≡ o
          → on_some o (λ inner. walked es inner ts) ≡ some m → Is m
      by again None f g = absurd cc
      by again (Some inner) f g = again inner (within_is es found t.item all inner f) g

  pub atom_in_is : (entries : List Entry) (group : ℕ) (atom : Name) (leaf : ℕ) → EachMeans Is entries → atom_in entries group atom ≡ only leaf → Is (meaning.Atom leaf)
  unfolding atom_in
  atom_in_is entries group atom leaf all e = by (held group atom.text entries) (held_is group atom.text entries all) e
    where
      by : (o : Option Meaning) → ((m : Meaning) → o ≡ some m → Is m) → atom_by atom.span.start o ≡ only leaf → Is (meaning.Atom leaf)
      by None h f = absurd cc
      by (Some (meaning.Atom x)) h f = subst (λ n. Is (meaning.Atom n)) (only_is f) (h (meaning.Atom x) refl)
      by (Some (meaning.Flag x)) h f = absurd cc
      by (Some (meaning.Number x)) h f = absurd cc
      by (Some (meaning.Set x first count)) h f = absurd cc
      by (Some (meaning.Pair x)) h f = absurd cc
      by (Some (meaning.Argument x)) h f = absurd cc

  module _ (scope : Scope) (params : List Entry) (fields : EachMeans Is scope.entries) (arguments : EachMeans Is params) where
    outermost_is : (name : Name) (m : Meaning) → outermost scope params name ≡ some m → Is m
    outermost_is name m e = by (held 0 name.text scope.entries) refl e
      where
        by : (o : Option Meaning) → held 0 name.text scope.entries ≡ o → option_or o (held 0 name.text params) ≡ some m → Is m
        by None f g = held_is 0 name.text params arguments m g
        by (Some inner) f g = held_is 0 name.text scope.entries fields m (f ∙ g)

    pub meaning_is : (path : Path) (m : Meaning) → meaning_at scope params path ≡ only m → Is m
    unfolding meaning_at
    meaning_is path m e = by (outermost scope params path.first) refl (there _ (meaning_of scope params path) m e)
      where
        by : (o : Option Meaning) → outermost scope params path.first ≡ o → on_some o (λ found. walked scope.entries found path.others) ≡ some m → Is m
        by None f g = absurd cc
        by (Some found) f g = walked_is scope.entries found path.others fields (outermost_is path.first found f) m g

    pub flag_is : (path : Path) (leaf : ℕ) → flag_at scope params path ≡ only leaf → Is (meaning.Flag leaf)
    unfolding flag_at
    flag_is path leaf e =
        let (m, e1, e2) = then_passed (meaning_at scope params path) (flag_by (start_of path)) leaf e in
        by m (meaning_is path m e1) e2
      where
        by : (m : Meaning) → Is m → flag_by (start_of path) m ≡ only leaf → Is (meaning.Flag leaf)
        by (meaning.Flag x) h f = subst (λ n. Is (meaning.Flag n)) (only_is f) h
        by (meaning.Number x) h f = absurd cc
        by (meaning.Set x first count) h f = absurd cc
        by (meaning.Pair x) h f = absurd cc
        by (meaning.Atom x) h f = absurd cc
        by (meaning.Argument x) h f = absurd cc

    pub atom_is : (set : Path) (atom : Name) (leaf : ℕ) → atom_at scope params set atom ≡ only leaf → Is (meaning.Atom leaf)
    unfolding atom_at
    atom_is set atom leaf e =
        let (group, e1, e2) = then_passed (set_at scope params set) (λ group. atom_in scope.entries group atom) leaf e in
        atom_in_is scope.entries group atom leaf fields e2
