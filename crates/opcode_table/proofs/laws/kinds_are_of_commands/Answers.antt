use Rattle.opcode_table.proofs.Roles.{kind_command}
use Rattle.opcode_table.proofs.laws.kinds_are_of_commands.Goals as goal

pub returns : goal.returns
returns c = kind_command
