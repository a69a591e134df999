-- How many variables and lists a target may come to have.
use Rattle.std.specs.Prelude.{ℕ, ◌+◌, ◌<◌, ◌^◌, List, length, slice_get, unwrap_or, []}
use Rattle.std.specs.List.{sum_by}
use Rattle.machine_spec.specs.declared.records.TargetRecord.{TargetRecord}
use Rattle.machine_spec.specs.Program.{Records, record_at}
use Rattle.project_spec.specs.declared.blocks.Block.{Block}

-- the variables and lists of a target
abbrev pub holdings : TargetRecord → ℕ
holdings t = length t.variables + length t.lists

-- the fields and inputs of a block, each of which names at most one
abbrev pub parts : Block → ℕ
parts b = length b.fields + length b.inputs

-- each target's variables and lists, and the fields and inputs of its blocks, are fewer than 2^32 together
abbrev pub HasRoom : Records → List (List Block) → Type 0
HasRoom records tables = (t : ℕ) → t < length tables → holdings (record_at t records) + sum_by parts (unwrap_or (slice_get tables t) []) < 2 ^ 32
