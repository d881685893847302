use Rattle.lucy_top.proofs.MakingLemmas.{work_named}
use Rattle.lucy_top.proofs.making.say_work.Goals as goal

pub write_work-requires : goal.write_work-requires
write_work-requires c =
    work_named c.args.plan.now c.in_ok-work.work.lists c.args.names.now.txns c.requires.names.txns (c.in_ok-work.ensures.fits c.requires.some c.requires.few c.requires.short)
