-- The threads of a saved run (docs/formats.md, section 5), by what they have still to do. The first item is the top level,
-- and each marker behind it a level under that: what follows the statement of a level up to the next marker is not written.
use Rattle.std.specs.Prelude.{List, [], ◌∷◌, filter, map, reverse, Bool, true, false}
use Rattle.serde_json.specs.Data.{Data, null}
use Rattle.machine_spec.specs.Script.{Statement, place_of}
use Rattle.machine_spec.specs.declared.threads.Context.TheVariants.{Called}
use Rattle.machine_spec.specs.Pending.{Item, Do, Held, Returned, Branch, Again, Back}
use Rattle.machine_spec.specs.Tasks.{Task}
use Rattle.saved_spec.specs.Rows.{whole, row}
use Rattle.saved_spec.specs.Contexts.{context}
use Rattle.saved_spec.specs.Threads.{thread_of}

-- a level at a statement
abbrev pub level_at : Statement → Data → Data
level_at s kept = row (whole (place_of s).block ∷ kept ∷ [])

abbrev pub level : Item → Data
level (Do s) = level_at s null
level (Held s c) = level_at s (context true [] c)
level (Returned s params) = level_at s (context false params Called)
level (Branch s warp) = level_at s null
level (Again s c warp) = level_at s (context true [] c)
level (Back s params warp) = level_at s (context false params Called)

abbrev pub is_marker : Item → Bool
is_marker (Do s) = false
is_marker (Held s c) = false
is_marker (Returned s params) = false
is_marker (Branch s warp) = true
is_marker (Again s c warp) = true
is_marker (Back s params warp) = true

-- the levels from the top; where nothing is left there is one, without a block
abbrev pub levels : List Item → List Data
levels [] = row (null ∷ null ∷ []) ∷ []
levels (x ∷ rest) = level x ∷ map level (filter is_marker rest)

abbrev pub task : Task → Data
task t = thread_of t.hat t.serial t.of t.status (row (reverse (levels t.items)))
