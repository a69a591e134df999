-- What a change makes of an instance; private functions alone cite it.
use Rattle.machine_spec.specs.declared.instance.Instance.{Instance}
use Rattle.machine_spec.specs.Effects.{effect_place, no_effects}
use Rattle.machine_spec.specs.Motion.{facing, at_point}
use Rattle.machine_spec.specs.Looks.{with_effect, with_size, with_costume}
use Rattle.machine_spec.specs.Costume.{costume_index}
use Rattle.targets.specs.declared.changes.Change.{Change}
use Rattle.targets.specs.declared.changes.Change.TheVariants.{Place, Direction, Size, Costume, Effect, NoEffects, Visible, Style}

abbrev pub changed_by : Change → Instance → Instance
changed_by (Place x y) i = at_point (record { x = x; y = y }) i
changed_by (Direction d) i = facing d i
changed_by (Size n) i = with_size n i
changed_by (Costume index costumes) i = with_costume (costume_index costumes index) i
changed_by (Effect e n) i = with_effect (effect_place e) n i
changed_by NoEffects i = record i { effects = no_effects }
changed_by (Visible v) i = record i { visible = v }
changed_by (Style s) i = record i { style = s }
