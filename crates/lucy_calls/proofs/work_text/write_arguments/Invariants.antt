use Rattle.std.proofs.Common.{◌≡◌, ◌++◌, drop, map}
use Rattle.std.specs.Fmt.{signed_decimal}
use Rattle.lucy_calls.specs.Texts.{behind_spaces}
use Rattle.lucy_calls.proofs.work_text.write_arguments.Given as goal

abbrev pub invariant-loop-argument : goal.invariant-loop-argument
invariant-loop-argument l = l.out.items ++ behind_spaces (map signed_decimal (drop l.argument-index l.arguments)) ≡ l.fn.out.items ++ behind_spaces (map signed_decimal l.arguments)
