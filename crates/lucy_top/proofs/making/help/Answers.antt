use Rattle.std.proofs.Common.{rules}
use Rattle.lucy_top.specs.Commands.{help_script}
use Rattle.lucy_top.specs.Verdicts.{exactly, answered}
use Rattle.lucy_words.specs.Help.{help_text}
use Rattle.lucy_top.proofs.making.help.Goals as goal

pub returns : goal.returns
unfolding help_script
returns c = λ told old. c.conclude.ensures (exactly answered help_text) (c.say.ensures help_text (search rules)) told old
