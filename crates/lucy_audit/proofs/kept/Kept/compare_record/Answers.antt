use Rattle.std.proofs.Common.{◌∙◌, get_or, sym, inl, arith}
use Rattle.lucy_audit.proofs.Seating.{life_at}
use Rattle.lucy_audit.proofs.Reopening.{not_true}
use Rattle.lucy_audit.proofs.kept.Kept.compare_record.Goals as goal

pub other_records-requires : goal.other_records-requires
other_records-requires c =
    let kept = c.args.self.now in
    let first = (get_or kept.lives.now 0 c.index-self-0.result).replica in
    record {
      at = c.args.place;
      replica = (get_or kept.lives.now c.args.place c.index-self-place.result).replica;
      replica_at = life_at kept c.args.place c.index-self-place.result c.requires;
      number = c.args.number;
      ours_is = sym c.in-Some.ensures;
      theirs_is = inl (0, first, life_at kept 0 c.index-self-0.result (omega (arith, c.requires)), sym c.in-Some-record_of.ensures);
      differ = λ e. not_true c.is_same.result c.if-is_same.false (c.is_same.ensures.1 (c.deref.ensures ∙ e ∙ sym c.deref-2.ensures));
    }
