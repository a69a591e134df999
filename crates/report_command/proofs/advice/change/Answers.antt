use Rattle.std.proofs.Common.{ap, sym, ◌∙◌}
use Rattle.opcode_table.specs.Table.{of_name}
use Rattle.report_command.specs.Advice.{change, change_misfit}
use Rattle.report_command.proofs.advice.change.Goals as goal

pub returns-in-Opcode : goal.returns-in-Opcode
returns-in-Opcode c = c.change_misfit.ensures ∙ ap (λ n. change_misfit (of_name n)) c.as_str.ensures ∙ ap change (sym c.in-Opcode.is)
