use Rattle.saved_spec.proofs.Spelled.{written_as_read}
use Rattle.saved_spec.proofs.laws.an_accepted_text_is_what_is_written.Goals as goal

pub returns : goal.returns
returns c b digest bytes t told = written_as_read b digest bytes told.0 t told.2
