-- What a statement leads into: its branches, or the procedure that it calls.
use Rattle.std.specs.Prelude.{ℕ, List, [], ◌∷◌, Bool, ◌||◌, Option, Some, None}
use Rattle.opcode_table.specs.declared.kinds.Kind.{Kind}
use Rattle.opcode_table.specs.declared.kinds.Kind.TheVariants.{Calls}
use Rattle.opcode_table.specs.Kinds.{kind}
use Rattle.machine_spec.specs.Script.{Script, Statement, Branches, NoBranch, AndBranch, place_of, command_of, op_of, branches_of}
use Rattle.machine_spec.specs.Program.{Program, Procedure, procedure}

abbrev pub called_by : Kind → Program → ℕ → List ℕ → Option Procedure
called_by Calls p target code = procedure target code p
called_by _ p target code = None

-- the procedure that a statement calls, if any: found by code in its target
abbrev pub called : Program → Statement → Option Procedure
called p s = called_by (kind (op_of s)) p (place_of s).target (command_of s).code

abbrev pub branch_scripts : Branches → List Script
branch_scripts NoBranch = []
branch_scripts (AndBranch name branch more) = branch ∷ branch_scripts more

abbrev pub scripts_in : Option Procedure → List Script → List Script
scripts_in None branches = branches
scripts_in (Some q) branches = q.body ∷ []

-- the scripts that stand over a statement: its branches, or the body of the procedure that it calls
abbrev pub scripts_over : Program → Statement → List Script
scripts_over p s = scripts_in (called p s) (branch_scripts (branches_of s))

abbrev pub warp_in : Option Procedure → Bool → Bool
warp_in None w = w
warp_in (Some q) w = w || q.warp

-- the warp flag over a statement that was executed at a flag
abbrev pub warp_over : Program → Statement → Bool → Bool
warp_over p s w = warp_in (called p s) w
