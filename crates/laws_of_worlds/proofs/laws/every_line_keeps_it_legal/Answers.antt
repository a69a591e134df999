use Rattle.laws_of_worlds.proofs.Lines.{line_keeps_legal}
use Rattle.laws_of_worlds.proofs.laws.every_line_keeps_it_legal.Goals as goal

pub returns : goal.returns
returns c = line_keeps_legal
