use Rattle.opcode_table.proofs.Finding.{each_found}
use Rattle.opcode_table.proofs.laws.each_name_is_found.Goals as goal

pub returns : goal.returns
returns c = each_found
