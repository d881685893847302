use Rattle.lucy_replica.proofs.Settling.{newcomer_settled}
use Rattle.lucy_replica.proofs.laws.newcomer_is_settled.Goals as goal

pub returns : goal.returns
returns c number replicas plan calls sound room few fits =
    newcomer_settled number replicas plan calls (c.first_record_is_in_segment.ensures plan (sound.covered plan.start sound.start)) sound room few fits
