-- What a value asks for, as the reference machine tells it, and the costume that is picked; private functions alone cite it.
use Rattle.std.specs.Prelude.{ℕ}
use Rattle.machine_spec.specs.Costume as machine
use Rattle.looks_blocks.specs.declared.choices.Choice.{Choice}
use Rattle.looks_blocks.specs.declared.choices.Choice.TheVariants.{Stays, To, Another}
use Rattle.looks_blocks.specs.declared.costume_choice.Pick.{Pick}

abbrev pub choice_in : Choice → machine.Choice
choice_in Stays = machine.Stays
choice_in (To n) = machine.To n
choice_in Another = machine.Another

-- the place of the costume
abbrev pub place_in : Pick → ℕ
place_in p = machine.costume_index p.costumes p.index
