use Rattle.std.proofs.Common.{rules, ap, ◌∙◌, ◌≡◌, length, ◌++◌, List, String}
use Rattle.std.specs.Global.{Global}
use Rattle.std.specs.Vec.Iter.{into_iter_items, into_iter_len}
use Rattle.lucy_io.proofs.ArgumentLemmas.{behind_first}
use Rattle.lucy_io.proofs.arguments.words_behind.Goals as goal

pub loop-word-init : goal.loop-word-init
loop-word-init c =
    let size : length (into_iter_items c.args.all) ≡ into_iter_len c.args.all = search rules in
    let left : length (into_iter_items c.next.new.self) ≡ into_iter_len c.next.new.self = search rules in
    let behind = behind_first c.next.result (into_iter_items c.args.all) (into_iter_items c.next.new.self) _ _ c.next.ensures.cases size left in
    ap (λ (words : List (String Global)). words ++ into_iter_items c.into_iter-word-iterator.result) c.new-words.ensures.items
    ∙ ap into_iter_items c.into_iter-word-iterator.ensures.into_iter_gives ∙ behind
