-- The words of a call, as the program's arguments have them.
use Rattle.std.specs.Prelude.{List, [], Option, None, Some, String}
use Rattle.std.specs.Global.{Global}
use Rattle.std.specs.declared.io.ErrorKind.{ErrorKind}
use Rattle.std.specs.declared.io.ErrorKind.TheVariants as kind

-- the words of arguments that could not be had: want of memory has none, and arguments that are no text are no words at all
abbrev pub unread_words : ErrorKind → Option (List (String Global))
unread_words kind.OutOfMemory = None
unread_words _ = Some []
