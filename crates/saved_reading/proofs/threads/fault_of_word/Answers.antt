use Rattle.saved_reading.proofs.Words.{zeroth}
use Rattle.saved_reading.proofs.threads.fault_of_word.Goals as goal

pub returns : goal.returns
returns c = zeroth c.args.place.now _ (rw c.item.ensures at c.fault.ensures)
