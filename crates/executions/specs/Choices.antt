-- Blocks that only choose where their thread goes, by their inputs alone: they keep nothing from one execution to the next. It
-- restates rows of the reference machine; the contracts of private functions alone cite it.
use Rattle.std.specs.Prelude.{◌≡◌, Bool, true, false, codes, if◌then◌else◌, not, Option, Some, None}
use Rattle.opcode_table.specs.declared.kinds.Kind.{Kind}
use Rattle.opcode_table.specs.declared.opcode.Opcode.{Opcode}
use Rattle.opcode_table.specs.declared.opcode.Opcode.TheVariants.{ControlForever, ControlRepeatUntil, ControlIf, ControlIfElse}
use Rattle.scratch_values.specs.Named.{Arguments}
use Rattle.machine_spec.specs.ControlRows.{branch_if}
use Rattle.machine_spec.specs.Keeping.{top_fits}
use Rattle.machine_spec.specs.View.{truth_at}
use Rattle.machine_spec.specs.declared.threads.Context.{Context}
use Rattle.machine_spec.specs.declared.threads.Context.TheVariants.{Fresh}
use Rattle.machine_spec.specs.declared.threads.Control.{Control}
use Rattle.machine_spec.specs.declared.threads.Control.TheVariants.{Branch, Next}
use Rattle.executions.specs.declared.choices.Choice.{Choice}
use Rattle.executions.specs.declared.choices.Choice.TheVariants.{Enter, Pass}

-- the control of such a block; None of all others
abbrev pub chosen : Opcode → Arguments → Option Control
chosen ControlForever a = Some (Branch 1 true)
chosen ControlRepeatUntil a = Some (branch_if (not (truth_at (codes "CONDITION") a)) true)
chosen ControlIf a = Some (branch_if (truth_at (codes "CONDITION") a) false)
chosen ControlIfElse a = Some (Branch (if truth_at (codes "CONDITION") a then 1 else 2) false)
chosen op a = None

-- some arguments make a block of this opcode choose this
pub record IsChosen (op : Opcode) (control : Control) : Type 0 where
  pub args : Arguments
  pub is : chosen op args ≡ Some control

abbrev pub control_of : Choice → Control
control_of (Enter number is_loop) = Branch number is_loop
control_of Pass = Next

-- what a block of this kind keeps at the top of its thread
abbrev pub KeepsNothing : Kind → Type 0
KeepsNothing k = (c : Context) (is_loop : Bool) → top_fits c is_loop k ≡ true → c ≡ Fresh
