-- What words owe that ask for nothing: nothing is called, so nothing fails, nothing is written and no file changes.
use Rattle.std.specs.Prelude.{◌≡◌}
use Rattle.call_outcomes.specs.Faults.{NothingFailed}
use Rattle.call_outcomes.specs.Seen.{ShelfNow, SinkNow}
use Rattle.call_outcomes.specs.Writes.{WroteNone}

pub record IsIdle (s t : ShelfNow) (k l : SinkNow) : Type 0 where
  pub faults : NothingFailed s t k l
  pub wrote : WroteNone k l
  pub held : t.held ≡ s.held
  pub calls : t.calls ≡ s.calls
