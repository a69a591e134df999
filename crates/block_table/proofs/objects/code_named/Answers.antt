use Rattle.std.proofs.Common.{sym, ◌∙◌, ap}
use Rattle.opcode_table.specs.Table.{of_name}
use Rattle.project_spec.specs.declared.blocks.Code.TheVariants.{Other}
use Rattle.block_table.proofs.Saying.{code_named-Known, code_named-Other}
use Rattle.block_table.proofs.objects.code_named.Goals as goal

pub returns-in-Some : goal.returns-in-Some
returns-in-Some c = sym (code_named-Known c.args.name.now c.in-Some.op (ap of_name (sym c.as_str.ensures) ∙ sym c.of_name.ensures ∙ c.in-Some.is))

pub returns-in_ok-clone-in-None : goal.returns-in_ok-clone-in-None
returns-in_ok-clone-in-None c =
    ap Other c.in_ok-clone-in-None.ensures.cases ∙ sym (code_named-Other c.args.name.now (ap of_name (sym c.as_str.ensures) ∙ sym c.of_name.ensures ∙ c.in-None.is))
