-- The instances that a filter speaks of; private functions alone cite this file.
use Rattle.std.specs.Prelude.{◌==◌, Bool, true}
use Rattle.machine_spec.specs.declared.instance.Instance.{Instance}
use Rattle.machine_spec.specs.declared.threads.Filter.{Filter}
use Rattle.machine_spec.specs.declared.threads.Filter.TheVariants.{CloneStart, Clicked}

-- the filter speaks of the instance
abbrev pub is_meant : Filter → Instance → Bool
is_meant (CloneStart clone) i = i.number == clone
is_meant (Clicked instance) i = i.number == instance
is_meant _ i = true
