use Rattle.lucy_stream.proofs.Fed.{fed_more, fails, stays}
use Rattle.lucy_stream.proofs.stream.Stream.feed.Goals as goal

pub returns-clause-fed : goal.returns-clause-fed
returns-clause-fed c plan text fed =
    fed_more c.cuts_do_not_matter.ensures plan text c.args.piece.now c.args.self.now (record { reader = c.feed.new.self }) c.feed.result c.feed.ensures fed

pub returns-clause-failed : goal.returns-clause-failed
returns-clause-failed c = fails c.args.piece.now c.args.self.now (record { reader = c.feed.new.self }) c.feed.result c.feed.ensures

pub returns-clause-stays : goal.returns-clause-stays
returns-clause-stays c failed = stays c.args.piece.now c.args.self.now (record { reader = c.feed.new.self }) c.feed.result c.feed.ensures failed
