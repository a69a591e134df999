use Rattle.opcode_table.proofs.Finding.{distinct}
use Rattle.opcode_table.proofs.laws.names_are_distinct.Goals as goal

pub returns : goal.returns
returns c = distinct
