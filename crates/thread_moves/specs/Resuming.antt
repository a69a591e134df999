-- The levels of a thread whose promise ended (scratch-vm, engine/execute.js, handlePromise).
use Rattle.std.specs.Prelude.{◌≡◌, false, List, [], ◌∷◌, None}
use Rattle.machine_spec.specs.Pending.{Position, settle}
use Rattle.machine_spec.specs.Tasks.{behind_first}
use Rattle.project_spec.specs.Trees.{Sheet}
use Rattle.thread_frames.specs.declared.level.Level.{Level}
use Rattle.thread_frames.specs.Levels.{new_level, warp_flag}
use Rattle.thread_frames.specs.Reading.{pending}
use Rattle.thread_frames.specs.Fit.{IsAtRest}

-- where the thread of these levels stands behind the statement that waited
abbrev pub behind_top : Sheet → List Level → Position
behind_top sheet levels = settle (behind_first (pending sheet levels)) (warp_flag levels)

-- the levels stand there now, between two executions
pub record IsResumed (sheet : Sheet) (old new : List Level) : Type 0 where
  pub items : pending sheet new ≡ (behind_top sheet old).items
  pub warp : warp_flag new ≡ (behind_top sheet old).warp
  pub rest : IsAtRest sheet new

-- one level without a block where none is left; a private function alone cites it
abbrev pub kept_open : List Level → List Level
kept_open [] = new_level None false ∷ []
kept_open (l ∷ ls) = l ∷ ls
