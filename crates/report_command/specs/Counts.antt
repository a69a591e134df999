-- What an accepted project has.
use Rattle.std.specs.Prelude.{◌≡◌, ℕ, Bool, List, length, not}
use Rattle.std.specs.List.{AllZip, count_by, sum_by}
use Rattle.project_spec.specs.declared.blocks.Block.{Block}
use Rattle.project_spec.specs.Linked.{is_head}
use Rattle.project_check.specs.Counts.{block_count}
use Rattle.block_checks.specs.Kept.{AreChecked}
use Rattle.report_command.specs.declared.counts.Counts.{Counts}

-- as many scripts as heads: hats and definitions at the tops of stacks
abbrev pub script_count : List (List Block) → ℕ
script_count tables = sum_by (count_by is_head) tables

-- the blocks in no script, by a truth for each block of each target: whether it is in one
abbrev pub loose_count : List (List Bool) → ℕ
loose_count flags = sum_by (count_by not) flags

abbrev pub counts_of : List (List Block) → List (List Bool) → Counts
counts_of tables flags = record {
  targets = length tables;
  scripts = script_count tables;
  blocks = block_count tables;
  loose = loose_count flags;
}

-- a block is in a script where it is checked: a head, or what links lead to from one
pub record AreCounts (tables : List (List Block)) (c : Counts) : Type 0 where
  pub flags : List (List Bool)
  pub checked : AllZip AreChecked tables flags
  pub is : c ≡ counts_of tables flags
