-- Helpers of private functions: that the threads of a run are told as they are.
use Rattle.std.specs.Prelude.{◌≡◌, List, [], ◌∷◌}
use Rattle.project_spec.specs.Basis.{Basis}
use Rattle.saved_spec.specs.Kept.{SavedThread, thread_told}
use Rattle.saved_spec.specs.RunShapes.{Told}
use Rattle.saved_spec.specs.Worlds.{task_told}

-- what each of these threads of the machine has to do is told so
abbrev pub AllTold : Basis → Told → List SavedThread → Type 0
AllTold b t [] = Unit {0}
AllTold b t (x ∷ xs) = (thread_told (task_told b t x) ≡ x) × AllTold b t xs
