-- The hats that a filter starts, as an index gives them (after scratch-vm, engine/runtime.js, startHats and allScriptsByOpcodeDo).
use Rattle.std.specs.Prelude.{◌≡◌, ℕ, List, [], ◌++◌, map, flat_map, reverse, unwrap_or}
use Rattle.std.specs.List.{All}
use Rattle.std.specs.Option.{option_map_or}
use Rattle.opcode_table.specs.declared.opcode.Opcode.{Opcode}
use Rattle.opcode_table.specs.Kinds.{hat_kind}
use Rattle.machine_spec.specs.declared.instance.Instance.{Instance}
use Rattle.machine_spec.specs.declared.threads.Filter.{Filter}
use Rattle.machine_spec.specs.Starting.{restarts, meant, starts}
use Rattle.project_spec.specs.Trees.{Sheet}
use Rattle.hat_index.specs.declared.index.HatIndex.{HatIndex}
use Rattle.hat_index.specs.ByIndex.{Asked, first_asked, second_asked}
use Rattle.hat_index.specs.Hats.{Index}
use Rattle.hat_index.specs.Index.{found}
use Rattle.hat_index.specs.Starts.{Start}
use Rattle.project_check.specs.declared.project.Project.{Project}
use Rattle.project_check.specs.Hats.{IsIndexOf}
use Rattle.project_check.specs.Loaded.{program_of, sheet_at}
use Rattle.thread_frames.specs.Fit.{IsHeld}
use Rattle.hats.specs.declared.hat_threads.Hat.{Hat}
use Rattle.hats.specs.Started.{hat_in}

-- Hats

-- a hat of an instance that is found under an opcode
abbrev pub hat_by : Opcode → Instance → Start → Hat
hat_by op i s = record { of = i.number; target = i.of; block = s.0; first = s.1; restarts = restarts (hat_kind op) }

-- those of an instance that have what is asked, in block order
abbrev pub hats_of : Index → Asked → Instance → List Hat
hats_of index a i = map (hat_by a.opcode i) (unwrap_or (index i.of a.opcode a.folded) [])

-- from the last instance to the first
abbrev pub hats_among : Index → Asked → List Instance → List Hat
hats_among index a is = flat_map (hats_of index a) (reverse is)

-- the hats of a filter; of those for a click the stage's come last
abbrev pub hats_for : Index → Filter → List Instance → List Hat
hats_for index f is = hats_among index (first_asked f) (meant f is) ++ option_map_or (λ a. hats_among index a (meant f is)) (second_asked f) []

-- The blocks under hats

-- each is a block of the target, or there is none
abbrev pub AreAllHeld : Sheet → List Start → Type 0
AreAllHeld sheet starts = All (λ s. IsHeld sheet s.1) starts

-- so are all of an index
abbrev pub AreHeld : (ℕ → Sheet) → Index → Type 0
AreHeld sheets index = (t : ℕ) (op : Opcode) (text : List ℕ) → AreAllHeld (sheets t) (unwrap_or (index t op text) [])

-- Laws

-- an index of a project gives the hats that the machine starts, in its order
abbrev pub IndexGivesStarts : Type 0
IndexGivesStarts = (p : Project) (index : HatIndex) (f : Filter) (is : List Instance) → IsIndexOf p index → map hat_in (starts (program_of p) f is) ≡ hats_for (found index) f is

-- the blocks under its hats are there
abbrev pub IndexGivesHeld : Type 0
IndexGivesHeld = (p : Project) (index : HatIndex) → IsIndexOf p index → AreHeld (λ t. sheet_at t p) (found index)
