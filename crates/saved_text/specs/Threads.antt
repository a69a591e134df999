-- The threads of a saved run (docs/formats.md, section 5), by their levels. The loop mark of a level is not written but by
-- what its block keeps, and its warp flag is not written at all.
use Rattle.std.specs.Prelude.{List, [], ◌∷◌, reverse}
use Rattle.serde_json.specs.Data.{Data}
use Rattle.thread_frames.specs.declared.level.Level.{Level}
use Rattle.thread_frames.specs.Reading.{params_in}
use Rattle.thread_frames.specs.Threads.{Thread}
use Rattle.saved_spec.specs.Rows.{row, each}
use Rattle.saved_spec.specs.Contexts.{context}
use Rattle.saved_spec.specs.Threads.{block, thread_of}

abbrev pub level : Level → Data
level l = row (block l.block ∷ context l.is_loop (params_in l) l.context ∷ [])

-- the levels of a thread, the top one first, stand from the bottom
abbrev pub levels : List Level → Data
levels ls = each level (reverse ls)

abbrev pub thread : Thread → Data
thread t = thread_of t.hat t.serial t.of t.status (levels t.levels)
