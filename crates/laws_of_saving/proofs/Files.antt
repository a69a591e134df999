-- The program of each project file that is accepted has runs that can be saved.
use Rattle.std.proofs.Common.{◌≡◌, ℕ, ◌<◌, ◌^◌, List, map, length, sym, subst}
use Rattle.project_spec.specs.Reading.{File, blocks_in}
use Rattle.project_spec.specs.Refusals as file
use Rattle.laws_of_programs.specs.Scripts.{IsInOrder}
use Rattle.laws_of_programs.proofs.NumbersHeld.{program_within}
use Rattle.laws_of_programs.proofs.ScriptsHeld.{scripts_legal, blocks_tell, blocks_in_order}
use Rattle.laws_of_programs.proofs.TargetsHeld.{program_playable}
use Rattle.project_spec.specs.Basis.{Basis}
use Rattle.laws_of_saving.specs.Good.{IsGood}

pub file_good : (bytes : List ℕ) (f : File) (b : Basis) → length bytes < 2 ^ 32 → file.IsAccepted bytes f → file.IsProgram f b.program → b.blocks ≡ map length (blocks_in f) → IsGood b
file_good bytes f b few accepted program same = record {
  program = record {
    scripts = scripts_legal bytes f b.program few accepted program;
    targets = program_playable bytes f b.program few accepted program;
    numbers = program_within bytes f b.program few accepted program;
  };
  blocks = blocks_tell bytes f b.program few accepted program;
  order = subst (λ blocks. IsInOrder blocks b.program) (sym same) (blocks_in_order bytes f b.program few accepted program);
}
