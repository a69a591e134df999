use Rattle.std.proofs.Common.{◌≡◌, drop, map}
use Rattle.project_json.specs.View.{field}
use Rattle.project_json.specs.Parts.{value_named}
use Rattle.project_json.proofs.parts.value_named.Given as goal

-- no member before has the name
abbrev pub invariant-loop-member : goal.invariant-loop-member
invariant-loop-member l = value_named l.name (map field (drop l.member-index l.members)) ≡ value_named l.name (map field l.members)
