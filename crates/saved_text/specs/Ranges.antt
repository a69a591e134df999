-- What the types of the program say of the levels of a thread (saved_spec/specs, Ranges, has the rest of a run).
use Rattle.std.specs.Prelude.{ℕ, List}
use Rattle.std.specs.List.{All}
use Rattle.thread_frames.specs.declared.level.Level.{Level}
use Rattle.thread_frames.specs.Reading.{params_in}
use Rattle.thread_frames.specs.Threads.{Thread}
use Rattle.saved_spec.specs.Ranges.{IsWhole, IsBlock, IsKept}

pub record IsLevel (l : Level) : Type 0 where
  pub block : IsBlock l.block
  pub kept : IsKept (params_in l) l.context

pub record HasThread (hat serial of : ℕ) (levels : List Level) : Type 0 where
  pub its_hat : IsWhole hat
  pub its_serial : IsWhole serial
  pub its_instance : IsWhole of
  pub its_levels : All IsLevel levels

abbrev pub IsThread : Thread → Type 0
IsThread t = HasThread t.hat t.serial t.of t.levels
