-- The block of a number, as executions need it; the contracts of private functions alone cite these.
use Rattle.std.specs.Prelude.{◌≡◌, ℕ, Bool, true, Some, slice_get}
use Rattle.opcode_table.specs.Kinds.{kind}
use Rattle.opcode_table.specs.declared.kinds.Kind.{Kind}
use Rattle.cached_blocks.specs.declared.block.CachedBlock.{CachedBlock}
use Rattle.cached_blocks.specs.Cached.{cached_blocks}
use Rattle.project_check.specs.declared.project.Project.{Project}
use Rattle.executions.specs.Seen.{sheets}

-- block k of a target is this
abbrev pub IsBlock : Project → (target k : ℕ) → CachedBlock → Type 0
IsBlock p target k b = slice_get (cached_blocks (sheets p target)) k ≡ Some b

-- where block k of a target is there, its kind is one of these
abbrev pub HasKind : Project → (target k : ℕ) → (Kind → Bool) → Type 0
HasKind p target k holds = (b : CachedBlock) → IsBlock p target k b → holds (kind b.op) ≡ true
