-- What goes on while the blocks of a target are gone through.
use Rattle.std.specs.Prelude.{◌≡◌, ℕ, Bool, false, List, [], slice_get, unwrap_or, Option, None, Some}
use Rattle.std.specs.List.{sum_by}
use Rattle.std.specs.Borrow.{Bor}
use Rattle.machine_spec.specs.Program.{Records}
use Rattle.project_spec.specs.declared.blocks.Block.{Block}
use Rattle.project_spec.specs.declared.blocks.Resolved.{Resolved}
use Rattle.project_spec.specs.Resolving.{resolved_blocks}
use Rattle.name_resolving.specs.declared.scope.Scope.{Scope}
use Rattle.name_resolving.specs.Passing.{Grows}
use Rattle.name_resolving.specs.Room.{parts}
use Rattle.name_resolving.specs.Scope.{IsScope}

-- the flag of a block; false past the last
abbrev pub flag : List Bool → ℕ → Bool
flag flags k = unwrap_or (slice_get flags k) false

abbrev pub flags_by : Option (Bor (List Bool)) → List Bool
flags_by None = []
flags_by (Some flags) = flags.now

-- the flag of a block of a target
abbrev pub flag_of : List (Bor (List Bool)) → ℕ → ℕ → Bool
flag_of checked t = flag (flags_by (slice_get checked t))

-- the names in the blocks of a target were resolved
pub record PassesBlocks (old new : Scope) (checked : ℕ → Bool) (blocks : List Block) (before after : Records) (refs : List (List Resolved)) : Type 0 where
  pub resolves : resolved_blocks checked old.target 0 blocks before ≡ record { records = after; what = refs }
  pub scope : IsScope new after
  pub target : new.target ≡ old.target
  pub grows : Grows old.target before after (sum_by parts blocks)
