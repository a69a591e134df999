use Rattle.laws_of_worlds.proofs.Lines.{last_legal}
use Rattle.laws_of_worlds.proofs.laws.the_last_world_is_legal.Goals as goal

pub returns : goal.returns
returns c = last_legal
