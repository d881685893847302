use Rattle.std.proofs.Common.{ap, rules, ◌-◌, ◌<◌, ◌^◌, length}
use Rattle.lucy_io.proofs.FrontLemmas.{front_read}
use Rattle.lucy_io.proofs.files.read_front.Goals as goal

pub returns-clause-bytes : goal.returns-clause-bytes
returns-clause-bytes g c =
    let small : length c.read_to_end.new.buf.items < 2 ^ 64 - 1 = search rules in
    let inner = ap g.R.Read.remaining c.take.ensures.inner in
    front_read (g.R.Read.remaining c.args.reader) _ c.args.most c.saturating_add-limit.result _ _ c.read_to_end.new.buf.items c.truncate.new.self.items
    c.saturating_add-limit.ensures c.take.ensures.limit inner c.new-bytes.ensures.items small c.truncate.ensures.items c.in_ok-read_to_end.ensures.bytes
