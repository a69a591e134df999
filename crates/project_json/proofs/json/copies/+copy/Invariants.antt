use Rattle.std.proofs.Common.{◌≡◌, ◌++◌, drop, map}
use Rattle.project_json.specs.View.{tree, field}
use Rattle.project_json.proofs.json.copies.+copy.Given as goal

-- the copies so far, and the items that are left
abbrev pub invariant-ItemsClone::clone-loop-item : goal.invariant-ItemsClone::clone-loop-item
invariant-ItemsClone::clone-loop-item l = map tree l.items.items ++ map tree (drop l.item-index l.item-items) ≡ map tree l.item-items

-- the copies so far, and the members that are left
abbrev pub invariant-MembersClone::clone-loop-member : goal.invariant-MembersClone::clone-loop-member
invariant-MembersClone::clone-loop-member l = map field l.members.items ++ map field (drop l.member-index l.member-items) ≡ map field l.member-items
