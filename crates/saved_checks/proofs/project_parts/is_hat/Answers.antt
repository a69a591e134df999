-- A hat is found by the number of its block.
use Rattle.std.proofs.Common.{Bool, false, Option, ◌&&◌, ap, sym, ◌∙◌}
use Rattle.std.specs.Option.{option_map_or}
use Rattle.opcode_table.specs.declared.shape.Role.TheVariants as role
use Rattle.project_spec.specs.declared.blocks.Block.{Block}
use Rattle.project_spec.specs.Linked.{has_role, is_head}
use Rattle.saved_checks.proofs.HatsOfTargets.{hat-told}
use Rattle.saved_checks.proofs.project_parts.is_hat.Goals as goal

abbrev tested : Option Block → Bool
tested o = option_map_or (λ b. is_head b && has_role role.Hat b.code) o false

pub returns-in-Some : goal.returns-in-Some
returns-in-Some c = c.is_hat.ensures ∙ ap tested c.in-Some.ensures ∙ sym (hat-told c.args.project.now c.args.target c.args.number)

pub returns-in-None : goal.returns-in-None
returns-in-None c = ap tested c.in-None.ensures ∙ sym (hat-told c.args.project.now c.args.target c.args.number)
