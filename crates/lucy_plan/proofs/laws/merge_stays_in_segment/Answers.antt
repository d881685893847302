use Rattle.lucy_plan.proofs.laws.merge_stays_in_segment.Goals as goal

pub returns : goal.returns
returns c = λ plan segment left right sound some in_left in_right. sound.closed segment some left right in_left in_right
