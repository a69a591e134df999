-- An edge hat is found by the number of its block.
use Rattle.std.proofs.Common.{Bool, false, Option, ◌&&◌, ap, sym, ◌∙◌}
use Rattle.std.specs.Option.{option_map_or}
use Rattle.opcode_table.specs.Kinds.{hat_kind}
use Rattle.opcode_table.specs.declared.shape.Role.TheVariants as role
use Rattle.project_spec.specs.declared.blocks.Block.{Block}
use Rattle.project_spec.specs.Linked.{has_role, is_head}
use Rattle.project_spec.specs.Trees.{op_by}
use Rattle.machine_spec.specs.Frame.{is_edge_hat}
use Rattle.saved_checks.proofs.HatsOfTargets.{edge-told}
use Rattle.saved_checks.proofs.project_parts.is_edge.Goals as goal

abbrev tested : Option Block → Bool
tested o = option_map_or (λ b. is_head b && (has_role role.Hat b.code && is_edge_hat (hat_kind (op_by b.code)))) o false

pub returns-in-Some : goal.returns-in-Some
returns-in-Some c = c.heads_edge_script.ensures ∙ ap tested c.in-Some.ensures ∙ sym (edge-told c.args.project.now c.args.target c.args.number)

pub returns-in-None : goal.returns-in-None
returns-in-None c = ap tested c.in-None.ensures ∙ sym (edge-told c.args.project.now c.args.target c.args.number)
