use Rattle.std.proofs.Common.{ap, sym, ◌∙◌}
use Rattle.opcode_table.specs.Table.{of_name}
use Rattle.report_command.specs.Advice.{why, why_misfit}
use Rattle.report_command.proofs.advice.why.Goals as goal

pub returns-in-Opcode : goal.returns-in-Opcode
returns-in-Opcode c = c.why_misfit.ensures ∙ ap (λ n. why_misfit (of_name n)) c.as_str.ensures ∙ ap why (sym c.in-Opcode.is)
