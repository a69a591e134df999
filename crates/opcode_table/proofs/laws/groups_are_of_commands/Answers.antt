use Rattle.opcode_table.proofs.Roles.{group_command}
use Rattle.opcode_table.proofs.laws.groups_are_of_commands.Goals as goal

pub returns : goal.returns
returns c = group_command
