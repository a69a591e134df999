use Rattle.laws_of_saving.proofs.Files.{file_good}
use Rattle.laws_of_saving.proofs.laws.every_accepted_file_is_playable.Goals as goal

pub returns : goal.returns
returns c = file_good
