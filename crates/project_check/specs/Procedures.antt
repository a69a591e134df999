-- The definitions of procedures, by number, and what they say of them.
use Rattle.std.specs.Prelude.{ℕ, Bool, false, List, [], Option, None, Some, bytes_eq, slice_get, if◌then◌else◌}
use Rattle.opcode_table.specs.declared.shape.Role.TheVariants as role
use Rattle.machine_spec.specs.Program.{Procedure}
use Rattle.project_spec.specs.declared.blocks.Prototype.{Prototype}
use Rattle.project_spec.specs.declared.blocks.Block.{Block}
use Rattle.project_spec.specs.Linked.{has_role, named, custom_block}
use Rattle.project_spec.specs.Trees.{Sheet, linked_prototype, script}
use Rattle.project_check.specs.declared.procedures.Callee.{Callee}

-- blocks alone
abbrev pub bare : List Block → Sheet
bare blocks = record { target = 0; blocks = blocks; refs = [] }

-- the prototype of a block that is a definition
abbrev pub defined : List Block → Block → Option Prototype
defined blocks b = if has_role role.Definition b.code then linked_prototype (bare blocks) (named custom_block b.inputs) else None

abbrev pub defined_by : List Block → Option Block → Option Prototype
defined_by blocks None = None
defined_by blocks (Some b) = defined blocks b

abbrev pub defined_at : List Block → ℕ → Option Prototype
defined_at blocks k = defined_by blocks (slice_get blocks k)

abbrev pub has_code : List ℕ → Option Prototype → Bool
has_code code None = false
has_code code (Some q) = bytes_eq q.code code

-- whether a block is a definition of the code
abbrev pub defines_at : List Block → List ℕ → ℕ → Bool
defines_at blocks code k = has_code code (defined_at blocks k)

-- a definition with its prototype
abbrev pub callee_by : ℕ → Option Prototype → Option (ℕ × Prototype)
callee_by k None = None
callee_by k (Some q) = Some (k, q)

abbrev pub callee_at : List Block → Option ℕ → Option (ℕ × Prototype)
callee_at blocks None = None
callee_at blocks (Some k) = callee_by k (defined_at blocks k)

abbrev pub callee_in : Callee → ℕ × Prototype
callee_in c = (c.definition, c.prototype.now)

-- the procedure that they tell
abbrev pub procedure_in : Sheet → ℕ × Prototype → Procedure
procedure_in sheet (k, q) = record { code = q.code; ids = q.ids; names = q.names; defaults = q.defaults; warp = q.warp; body = script sheet (Some k) }
