use Rattle.std.proofs.Common.{◌≡◌, take, map}
use Rattle.project_json.specs.View.{field}
use Rattle.block_table.specs.Parts.{is_list}
use Rattle.block_table.proofs.objects.are_lists.Given as goal

-- those so far
abbrev pub invariant-loop-member : goal.invariant-loop-member
invariant-loop-member l = l.lists ≡ map is_list (map field (take l.member-index l.members))
