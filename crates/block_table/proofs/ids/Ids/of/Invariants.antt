use Rattle.std.proofs.Common.{◌≡◌, take, map}
use Rattle.project_json.specs.View.{field}
use Rattle.block_table.specs.Places.{AreFirst}
use Rattle.block_table.proofs.ids.Ids.of.Given as goal

-- the ids so far, each at its first place
abbrev pub invariant-loop-member : goal.invariant-loop-member
invariant-loop-member l = (l.ids ≡ map (λ m. m.0) (map field (take l.member-index l.members))) × AreFirst l.places l.ids
