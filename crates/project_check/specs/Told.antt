-- What a project file that is accepted tells of a project.
use Rattle.std.specs.Prelude.{◌≡◌, ℕ, ◌<◌, ◌^◌, Bool, List, length, map}
use Rattle.machine_spec.specs.Program.{Records}
use Rattle.project_spec.specs.declared.blocks.Resolved.{Resolved}
use Rattle.project_spec.specs.Reading.{File, blocks_in}
use Rattle.project_spec.specs.Refusals.{IsAccepted, IsProgram, TellsChecked}
use Rattle.project_spec.specs.Resolving.{resolved_targets}
use Rattle.project_spec.specs.Trees.{program}
use Rattle.block_table.specs.Table.{Numbered}

-- the ids of the blocks of each target, each at the number of its block
abbrev pub ids_in : File → List (List (List ℕ))
ids_in f = map (λ t. map (λ o. o.id) t.origins) f.tables

-- what each block names, where a truth for each block says whether it is checked: a loose block names nothing
pub record IsResolved (f : File) (names : List (List (List Resolved))) : Type 0 where
  pub checked : ℕ → ℕ → Bool
  pub tells : TellsChecked (blocks_in f) checked
  pub is : names ≡ (resolved_targets checked 0 (blocks_in f) f.records).what

-- the bytes are those of a file that is accepted, which tells the records, the blocks with their ids, and what they name
pub record IsTold (bytes : List ℕ) (found : Records) (held : List Numbered) (refs : List (List (List Resolved))) : Type 0 where
  pub file : File
  pub accepted : IsAccepted bytes file
  pub tables : map (λ t. t.blocks) held ≡ blocks_in file
  pub ids : map (λ t. t.ids) held ≡ ids_in file
  pub program : IsProgram file (program (map (λ t. t.blocks) held) (record { records = found; what = refs }))
  pub names : IsResolved file refs

-- some bytes, fewer than 2^32, are those of such a file
abbrev pub IsToldBySome : Records → List Numbered → List (List (List Resolved)) → Type 0
IsToldBySome found held refs = (bytes : List ℕ) × (length bytes < 2 ^ 32) × IsTold bytes found held refs
