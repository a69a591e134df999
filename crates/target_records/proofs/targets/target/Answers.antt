use Rattle.std.proofs.Common.{map, arith}
use Rattle.project_json.specs.View.{tree, field}
use Rattle.target_records.proofs.Sizes.{members-size}
use Rattle.target_records.proofs.targets.target.Goals as goal

pub target_by-requires : goal.target_by-requires
target_by-requires c = omega (arith, members-size c.args.place.now (tree c.args.json.now) (map field c.in_ok-members.members.now) c.in_ok-members.ensures, c.requires)
