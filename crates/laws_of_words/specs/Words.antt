-- The random words of a run are those of its seed, behind those that were drawn.
use Rattle.std.specs.Prelude.{◌≡◌, ℕ, ◌≤◌}
use Rattle.script_words.specs.Words.{answers, seeded, without}
use Rattle.machine_spec.specs.Outcome.{last_number}
use Rattle.machine_spec.specs.Words.{Words}

pub record IsOfSeed (seed : ℕ) (w : Words) : Type 0 where
  pub stream : w.stream ≡ without w.drawn (answers (seeded seed))
  pub counted : w.drawn ≤ last_number
