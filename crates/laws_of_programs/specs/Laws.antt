-- Laws of the programs of project files, as statements that public functions with empty bodies prove.
use Rattle.std.specs.Prelude.{◌<◌, ◌^◌, ℕ, List, map, length}
use Rattle.machine_spec.specs.Program.{Program}
use Rattle.project_spec.specs.Reading.{File, blocks_in}
use Rattle.project_spec.specs.Refusals as file
use Rattle.laws_of_threads.specs.Playable.{IsPlayable}
use Rattle.laws_of_threads.specs.Scripts.{IsProgram}
use Rattle.laws_of_turns.specs.Within.{IsProgramWithin}
use Rattle.laws_of_programs.specs.Scripts.{BlocksTell, IsInOrder}

-- the program of each file that is accepted has this
abbrev pub OfEachFile : (List ℕ → File → Program → Type 0) → Type 0
OfEachFile P = (bytes : List ℕ) (f : File) (p : Program) → length bytes < 2 ^ 32 → file.IsAccepted bytes f → file.IsProgram f p → P bytes f p

-- its statements stand in their targets, and its procedures begin with a statement
abbrev pub ScriptsAreLegal : Type 0
ScriptsAreLegal = OfEachFile (λ bytes f p. IsProgram p)

-- each block begins one script
abbrev pub BlocksAreTold : Type 0
BlocksAreTold = OfEachFile (λ bytes f p. BlocksTell p)

-- heads stand in the order of their blocks, and statements at blocks
abbrev pub BlocksAreInOrder : Type 0
BlocksAreInOrder = OfEachFile (λ bytes f p. IsInOrder (map length (blocks_in f)) p)

-- it has one stage, its targets are well, and its blocks of monitors name what is there
abbrev pub TargetsAreWell : Type 0
TargetsAreWell = OfEachFile (λ bytes f p. IsPlayable p)

-- its numbers are within the limit
abbrev pub NumbersAreWithin : Type 0
NumbersAreWithin = OfEachFile (λ bytes f p. IsProgramWithin p)
