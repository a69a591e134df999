-- How the blocks of a program's scripts hang together.
use Rattle.std.specs.Prelude.{◌≡◌, ℕ, ◌<◌, List, map, slice_get, unwrap_or}
use Rattle.machine_spec.specs.Program.{Program, hat_block, scripts_at}
use Rattle.machine_spec.specs.Script.{Script, End, Then, Statement, Does, Branches, NoBranch, AndBranch, place_of}
use Rattle.laws_of_threads.specs.Lists.{Each, Rise}
use Rattle.laws_of_threads.specs.Statements.{Everywhere}

-- a script and all scripts in it are those that their first blocks begin: `at` tells the script that a block begins
abbrev mutual
  pub Begun : (ℕ → Script) → Script → Type 0
  Begun at End = Unit {0}
  Begun at (Then s rest) = (Then s rest ≡ at (place_of s).block) × BegunUnder at s × Begun at rest

  pub BegunUnder : (ℕ → Script) → Statement → Type 0
  BegunUnder at (Does place command inputs branches) = BegunIn at branches

  pub BegunIn : (ℕ → Script) → Branches → Type 0
  BegunIn at NoBranch = Unit {0}
  BegunIn at (AndBranch name branch more) = Begun at branch × BegunIn at more

-- each block of a target begins one script, wherever it stands
pub record BlocksTell (p : Program) : Type 0 where
  pub at : (target block : ℕ) → Script
  pub heads : (k : ℕ) → Each (λ h. Begun (at k) h.script) (scripts_at k p).heads
  pub procedures : (k : ℕ) → Each (λ q. Begun (at k) q.body) (scripts_at k p).procedures

-- the block of a statement is one of its target, of which there are so many
abbrev pub IsInBlocks : (blocks : List ℕ) → (target : ℕ) → Statement → Type 0
IsInBlocks blocks k s = (place_of s).block < unwrap_or (slice_get blocks k) 0

-- the heads of each target stand in the order of their blocks, no block twice; statements stand at blocks
pub record IsInOrder (blocks : List ℕ) (p : Program) : Type 0 where
  pub hats : (k : ℕ) → Rise (map hat_block (scripts_at k p).heads)
  pub placed : Everywhere (IsInBlocks blocks) p
