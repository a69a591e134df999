use Rattle.std.proofs.Common.{◌≡◌, ◌+◌, ◌-◌, ◌*◌, length, map, []}
use Rattle.project_json.specs.View.{tree, field}
use Rattle.project_json.specs.Reading.{Utf8, value_at, items_at, members_at, with_items}
use Rattle.project_json.proofs.reader.+value.Given as goal

abbrev pub decreases-items : goal.decreases-items
decreases-items l = 4 * l.depth + 4

abbrev pub decreases-list : goal.decreases-list
decreases-list l = 4 * l.depth + 1

abbrev pub decreases-members : goal.decreases-members
decreases-members l = 4 * l.depth + 4

abbrev pub decreases-object : goal.decreases-object
decreases-object l = 4 * l.depth + 1

abbrev pub decreases-value : goal.decreases-value
decreases-value l = 4 * l.depth + 2

-- the items so far, and then what is left
abbrev pub invariant-items-loop : goal.invariant-items-loop
invariant-items-loop l = record {
  utf8 : Utf8 l.rest;
  read : with_items (map tree l.items.items) (items_at (value_at l.depth) (length l.bytes - l.counter) l.rest) ≡ items_at (value_at l.depth) (length l.bytes) l.bytes;
}

abbrev pub invariant-members-loop : goal.invariant-members-loop
invariant-members-loop l = record {
  utf8 : Utf8 l.rest;
  read : members_at (value_at l.depth) (length l.bytes - l.counter) (map field l.list.members.items) l.rest ≡ members_at (value_at l.depth) (length l.bytes) [] l.bytes;
}

abbrev pub decreases-item : goal.decreases-item
decreases-item l = 4 * l.depth + 3

abbrev pub decreases-member : goal.decreases-member
decreases-member l = 4 * l.depth + 3
