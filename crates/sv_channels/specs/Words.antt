-- The words of a command, from what the system answers when it is asked for them.
use Rattle.std.specs.Prelude.{◌≡◌, drop, String, Vec, Result, Ok, Err}
use Rattle.std.specs.declared.alloc.Global.{Global}
use Rattle.std.specs.declared.vec.IntoIter.{IntoIter}
use Rattle.std.specs.Vec.Iter.{into_iter_items}
use Rattle.std.specs.declared.io.Error.{Error}
use Rattle.std.specs.declared.io.ErrorKind.{ErrorKind}
use Rattle.std.specs.declared.io.ErrorKind.TheVariants.{OutOfMemory}
use Rattle.std.specs.IoError.{error_kind}
use Rattle.sv_channels.specs.declared.words.WordsError.{WordsError}
use Rattle.sv_channels.specs.declared.words.WordsError.TheVariants.{NotText, NoMemory}

-- want of memory is told as such, and every other error as words that are no text
abbrev pub words_error : ErrorKind → WordsError
words_error OutOfMemory = NoMemory
words_error kind = NotText

-- the words are those behind the first, the program's name, or memory ran out; where the system gave none, the error tells why
abbrev pub WordsOf : Result (IntoIter (String Global) Global) Error → Result (Vec (String Global) Global) WordsError → Type 0
WordsOf (Ok arguments) (Ok words) = words.items ≡ drop 1 (into_iter_items arguments)
WordsOf (Ok arguments) (Err error) = error ≡ NoMemory
WordsOf (Err why) (Ok words) = ⊥
WordsOf (Err why) (Err error) = error ≡ words_error (error_kind why)
