use Rattle.opcode_table.proofs.Roles.{hat_known, hat_only}
use Rattle.opcode_table.proofs.laws.every_hat_is_of_a_kind.Goals as goal

pub returns-clause-known : goal.returns-clause-known
returns-clause-known c = hat_known

pub returns-clause-only : goal.returns-clause-only
returns-clause-only c = hat_only
