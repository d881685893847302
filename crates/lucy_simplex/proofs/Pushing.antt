-- Lists that loops make item by item.
use Rattle.std.proofs.Common.{◌≡◌, ℕ, ◌+◌, ◌<◌, List, [], ◌∷◌, ◌++◌, length, take, get_or, sym}
use Rattle.std.specs.List.{AllZip}
use Rattle.std.proofs.lemmas.List.{take_more}
use Rattle.std.proofs.lemmas.List.Elements.{AllZip-push}
use Rattle.lucy_fraction.specs.Rationals.{Ratio}
use Rattle.lucy_simplex.specs.Steps.{IsDivided, IsAdded, AreAdded}

pub push_divided : (by : Ratio) (rs ps all : List Ratio) (i : ℕ) (p r : Ratio) → i < length ps → p ≡ get_or ps i p → AllZip (IsDivided by) rs (take i ps) → IsDivided by r p → all ≡ rs ++ r ∷ [] → AllZip (IsDivided by) all (take (i + 1) ps)
push_divided by rs ps all i p r below is h k e =
    rw (e, take_more ps i p below, sym is) (AllZip-push (IsDivided by) rs (take i ps) r p h k)

push_added_lists : (f : Ratio) (ns ps rs : List Ratio) (n p r : Ratio) → AreAdded f ns ps rs → IsAdded f n p r → AreAdded f (ns ++ n ∷ []) (ps ++ p ∷ []) (rs ++ r ∷ [])
push_added_lists f [] [] [] n p r h k = (k, tt)
push_added_lists f (a ∷ ns) (b ∷ ps) (d ∷ rs) n p r h k = (h.0, push_added_lists f ns ps rs n p r h.1 k)
push_added_lists f [] [] (d ∷ rs) n p r h k = absurd h
push_added_lists f [] (b ∷ ps) [] n p r h k = absurd h
push_added_lists f [] (b ∷ ps) (d ∷ rs) n p r h k = absurd h
push_added_lists f (a ∷ ns) [] [] n p r h k = absurd h
push_added_lists f (a ∷ ns) [] (d ∷ rs) n p r h k = absurd h
push_added_lists f (a ∷ ns) (b ∷ ps) [] n p r h k = absurd h

pub push_added : (f : Ratio) (ns ps rs all : List Ratio) (i : ℕ) (n p r : Ratio) → i < length ns → i < length ps → n ≡ get_or ns i n → p ≡ get_or ps i p → AreAdded f (take i ns) (take i ps) rs → IsAdded f n p r → all ≡ rs ++ r ∷ [] → AreAdded f (take (i + 1) ns) (take (i + 1) ps) all
push_added f ns ps rs all i n p r below below2 is is2 h k e =
    rw (e, take_more ns i n below, take_more ps i p below2, sym is, sym is2) (push_added_lists f (take i ns) (take i ps) rs n p r h k)
