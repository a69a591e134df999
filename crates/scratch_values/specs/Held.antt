-- Values that are lent or owned, and inputs as pairs of a name and a value.
use Rattle.std.specs.Prelude.{ℕ, List}
use Rattle.scratch_values.specs.declared.value.Value.{Value}
use Rattle.scratch_values.specs.declared.argument_values.Held.{Held}
use Rattle.scratch_values.specs.declared.argument_values.Held.TheVariants.{Lent, Own}
use Rattle.scratch_values.specs.declared.argument_values.Arg.{Arg}

-- the value
abbrev pub held : Held → Value
held (Lent v) = v.now
held (Own v) = v

-- an input as its name and its value
abbrev pub pair_of : Arg → List ℕ × Value
pair_of a = (a.name.now, held a.value)
