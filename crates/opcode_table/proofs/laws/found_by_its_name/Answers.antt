use Rattle.opcode_table.proofs.Finding.{found_by_name}
use Rattle.opcode_table.proofs.laws.found_by_its_name.Goals as goal

pub returns : goal.returns
returns c = found_by_name
