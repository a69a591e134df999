-- A row that leaves the instances and devices of a run as they are, and what a row keeps; private functions alone cite it.
use Rattle.std.specs.Prelude.{◌≡◌, Bool, true, false}
use Rattle.opcode_table.specs.declared.kinds.Kind.{Kind}
use Rattle.machine_spec.specs.declared.threads.Context.{Context}
use Rattle.machine_spec.specs.declared.threads.Context.TheVariants.{Fresh}
use Rattle.machine_spec.specs.declared.threads.Control.{Control}
use Rattle.machine_spec.specs.Keeping.{control_fits}
use Rattle.machine_spec.specs.Laws.{is_own}
use Rattle.machine_spec.specs.ControlRows.{only}
use Rattle.machine_spec.specs.Parts.{Scene}
use Rattle.machine_spec.specs.View.{Row}
use Rattle.control_blocks.specs.Afresh.{acts_on_others}

-- whatever the scene is, the row goes with this context and control, leaves the scene and requests no redraw
abbrev pub IsOnly : (Scene → Row Scene) → Context → Control → Type 0
IsOnly row c control = (s : Scene) → row s ≡ only c control s

-- what is kept fits the control of a block of this kind; behind a control that acts on other threads nothing is kept
pub record KeepsWell (k : Kind) (c : Context) (control : Control) : Type 0 where
  pub fits : control_fits control k c ≡ true
  pub others : is_own control ≡ false → c ≡ Fresh
  pub acts : is_own control ≡ false → acts_on_others k ≡ true
  pub alone : acts_on_others k ≡ false → is_own control ≡ true
