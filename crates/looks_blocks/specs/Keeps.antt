-- What a row keeps; private functions alone cite it.
use Rattle.std.specs.Prelude.{◌≡◌, true, false}
use Rattle.opcode_table.specs.declared.kinds.Kind.{Kind}
use Rattle.machine_spec.specs.declared.threads.Context.{Context}
use Rattle.machine_spec.specs.declared.threads.Context.TheVariants.{Fresh}
use Rattle.machine_spec.specs.declared.threads.Control.{Control}
use Rattle.machine_spec.specs.Keeping.{control_fits}
use Rattle.machine_spec.specs.Laws.{is_own}
use Rattle.block_arguments.specs.Afresh.{was_afresh}
use Rattle.looks_blocks.specs.Controls.{is_own_or_start}

-- what is kept fits the control of a block of this kind; behind hats that are started nothing is kept, and nothing was
pub record KeepsWell (k : Kind) (old new : Context) (control : Control) : Type 0 where
  pub fits : control_fits control k new ≡ true
  pub others : is_own control ≡ false → new ≡ Fresh
  pub afresh : is_own control ≡ false → was_afresh k old ≡ true
  pub starts : is_own_or_start control ≡ true
