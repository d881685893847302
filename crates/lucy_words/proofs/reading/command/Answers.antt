use Rattle.std.proofs.Common.{map, string_bytes, sym, subst}
use Rattle.lucy_words.specs.Grammar.{IsFirstBad}
use Rattle.lucy_words.proofs.FirstPlaces.{bad_words}
use Rattle.lucy_words.proofs.Fitting.{command_fits}
use Rattle.lucy_words.proofs.reading.command.Goals as goal

pub returns-in_ok-command_by-in-Some-clause-within :
    goal.returns-in_ok-command_by-in-Some-clause-within
returns-in_ok-command_by-in-Some-clause-within c =
    command_fits (map string_bytes c.args.words.now) c.in-Some.form c.in_ok-command_by-in-Some.field-0 c.in-Some.ensures c.in_ok-command_by-in-Some.ensures

pub returns-in-None-clause-bad : goal.returns-in-None-clause-bad
returns-in-None-clause-bad c =
    subst (IsFirstBad (map string_bytes c.args.words.now)) (sym c.bad_place.ensures) (bad_words (map string_bytes c.args.words.now) (sym c.in-None.ensures))
