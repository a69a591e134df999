-- What the programs of project files have, so that their runs can be saved; and what a digest is.
use Rattle.std.specs.Prelude.{◌≡◌, ℕ, ◌<◌, List, length}
use Rattle.std.specs.List.{All}
use Rattle.laws_of_worlds.specs.Runs.{IsGoodProgram}
use Rattle.laws_of_programs.specs.Scripts.{BlocksTell, IsInOrder}
use Rattle.project_spec.specs.Basis.{Basis}

-- a program whose runs can be saved
pub record IsGood (b : Basis) : Type 0 where
  pub program : IsGoodProgram b.program
  pub blocks : BlocksTell b.program
  pub order : IsInOrder b.blocks b.program

-- a digest: 32 bytes
pub record IsDigest (digest : List ℕ) : Type 0 where
  pub size : length digest ≡ 32
  pub bytes : All (λ byte. byte < 256) digest
