use Rattle.laws_of_resuming.proofs.Texts.{lines_join}
use Rattle.laws_of_resuming.proofs.laws.lines_of_texts_join.Goals as goal

pub returns : goal.returns
returns c a b h = lines_join a b h
