use Rattle.std.proofs.Common.{◌∙◌, refl, sym, inr}
use Rattle.lucy_audit.proofs.Seating.{first_at}
use Rattle.lucy_audit.proofs.Reopening.{not_true}
use Rattle.lucy_audit.proofs.kept.Kept.compare_first.Goals as goal

pub other_records-requires : goal.other_records-requires
other_records-requires c =
    let first = c.in-Some.first.now in
    record {
      at = 0;
      replica = first.replica;
      replica_at = first_at c.args.self.now first c.in-Some.ensures.value;
      number = 0;
      ours_is = sym c.in-Some-record_of.ensures;
      theirs_is = inr (inr (refl, c.in_ok-theirs.ensures));
      differ = λ e. not_true c.is_same.result c.if-is_same.false (c.is_same.ensures.1 (c.deref.ensures ∙ e ∙ sym c.deref-2.ensures));
    }
