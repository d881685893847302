use Rattle.std.proofs.Common.{◌∙◌, get_or, sym, inl, inr}
use Rattle.std.specs.Arc.{arc_value}
use Rattle.std.proofs.lemmas.Option.{slice_get-get_or}
use Rattle.lucy_audit.proofs.Places.{to_map}
use Rattle.lucy_audit.proofs.Seating.{first_at}
use Rattle.lucy_audit.proofs.Reopening.{not_true}
use Rattle.lucy_audit.proofs.kept.Kept.compare_listed.Goals as goal

pub other_records-requires : goal.other_records-requires
other_records-requires c =
    let first = c.in-Some.first.now in
    let table = c.args.self.now.table.now in
    let there = slice_get-get_or table c.args.number c.index-self-number.result c.requires in
    record {
      at = 0;
      replica = first.replica;
      replica_at = first_at c.args.self.now first c.in-Some.ensures.value;
      number = c.args.number;
      ours_is = sym c.in-Some-record_of.ensures;
      theirs_is = inr (inl (to_map arc_value table c.args.number (get_or table c.args.number c.index-self-number.result) there));
      differ = λ e. not_true c.is_same.result c.if-is_same.false (c.is_same.ensures.1 (c.deref.ensures ∙ e ∙ sym c.deref-2.ensures));
    }
