-- Where an instance is put in the executable order.
use Rattle.std.specs.Prelude.{ℕ, pos, ◌+ℤ◌}
use Rattle.machine_spec.specs.Looks.{layer_kept}
use Rattle.targets.specs.declared.layers.Place.{Place}
use Rattle.targets.specs.declared.layers.Place.TheVariants.{Front, Back, By}

-- the place of an instance that stands at a place, the last place being `last`
abbrev pub layer_to : Place → (place last : ℕ) → ℕ
layer_to Front place last = last
layer_to Back place last = 1
layer_to (By steps) place last = layer_kept (pos place +ℤ steps) last
