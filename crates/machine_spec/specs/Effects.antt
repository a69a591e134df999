-- The graphic effects (scratch-vm, blocks/scratch3_looks.js): their names and their order.
pub use Rattle.machine_spec.specs.declared.effects.Effect.{Effect}
pub use Rattle.machine_spec.specs.declared.effects.Effect.TheVariants.{Color, Fisheye, Whirl, Pixelate, Mosaic, Brightness, Ghost}
use Rattle.std.specs.Prelude.{ℕ, List, [], ◌∷◌, codes, replicate}
use Rattle.scratch_number.specs.declared.number.Num.{Num}
use Rattle.scratch_values.specs.Casts.{zero_number}

-- the place of an effect among the seven numbers of an instance
abbrev pub effect_place : Effect → ℕ
effect_place Color = 0
effect_place Fisheye = 1
effect_place Whirl = 2
effect_place Pixelate = 3
effect_place Mosaic = 4
effect_place Brightness = 5
effect_place Ghost = 6

abbrev pub effect_names : List (List ℕ)
effect_names = codes "color" ∷ codes "fisheye" ∷ codes "whirl" ∷ codes "pixelate" ∷ codes "mosaic" ∷ codes "brightness" ∷ codes "ghost" ∷ []

-- all are 0
abbrev pub no_effects : List Num
no_effects = replicate 7 zero_number
