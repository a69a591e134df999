-- What saving answers.
use Rattle.std.specs.Prelude.{◌≡◌, ℕ, ◌≤◌, ◌<◌, List, length, Result, Ok, Err, Vec}
use Rattle.std.specs.declared.alloc.Global.{Global}
use Rattle.saved_text.specs.declared.saver.SaveStop.{SaveStop}
use Rattle.saved_text.specs.declared.saver.SaveStop.TheVariants.{TooLarge, NoMemory}

-- this text, where it is no longer than the limit; that it is longer, and its length; or want of memory, which tells nothing
abbrev pub IsSaved : (limit : ℕ) → (text : List ℕ) → Result (Vec ℕ Global) SaveStop → Type 0
IsSaved limit text (Ok bytes) = (bytes.items ≡ text) × (length text ≤ limit)
IsSaved limit text (Err (TooLarge n)) = (n ≡ length text) × (limit < length text)
IsSaved limit text (Err NoMemory) = Unit {0}
