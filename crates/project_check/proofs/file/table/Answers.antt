use Rattle.std.proofs.Common.{map, arith}
use Rattle.std.proofs.lemmas.List.{length-map}
use Rattle.project_json.specs.View.{tree, field}
use Rattle.project_check.proofs.Room.{few_members}
use Rattle.project_check.proofs.file.table.Goals as goal

pub read_table-requires : goal.read_table-requires
read_table-requires c = omega (arith, few_members c.args.place.now (tree c.args.target.now) (map field c.in_ok-members.members.now) (map field c.in_ok-blocks.blocks.now) c.in_ok-members.ensures c.in_ok-blocks.ensures, length-map c.in_ok-blocks.blocks.now field, c.requires)
