-- What levels that were made stand for, as the rules have it; for private functions.
use Rattle.std.specs.Prelude.{◌≡◌, ◌⊎◌, ℕ, Bool, true, false, List, [], ◌∷◌, ◌++◌, Option, Some, None, option_and_then, if◌then◌else◌, length, reverse}
use Rattle.std.specs.List.{list_all}
use Rattle.std.specs.Option.{option_map_or}
use Rattle.opcode_table.specs.declared.kinds.Kind.{Kind}
use Rattle.machine_spec.specs.declared.threads.Status.{Status}
use Rattle.machine_spec.specs.Called.{scripts_over, warp_over}
use Rattle.machine_spec.specs.Legal.{scripts_on, warp_on}
use Rattle.machine_spec.specs.Pending.{Item}
use Rattle.machine_spec.specs.Program.{Program, Procedure}
use Rattle.machine_spec.specs.Script.{Script, Statement}
use Rattle.machine_spec.specs.Stores.{Devices}
use Rattle.project_check.specs.Loaded.{program_of, sheet_at}
use Rattle.project_spec.specs.Trees.{Sheet, script}
use Rattle.thread_frames.specs.declared.level.Level.{Level}
use Rattle.thread_frames.specs.Levels.{warp_flag}
use Rattle.thread_frames.specs.Fit.{kind_of, IsUnder, AllUnder, IsTop, IsAtRest}
use Rattle.thread_frames.specs.Reading.{marker, first_item, items_at, beneath, pending}
use Rattle.saved_spec.specs.Kept.{Kept, SavedLevel}
use Rattle.saved_spec.specs.Levels.{script_among, level_on, marker_on, top_item, items_of}
use Rattle.saved_spec.specs.ThreadRules.{marker_fits, items_fit, stands_well}
use Rattle.saved_levels.specs.declared.floors.Floor.{Floor}
use Rattle.saved_levels.specs.declared.floors.Site.{Site}
use Rattle.saved_levels.specs.declared.waiting_threads.Waiting.{Waiting}
use Rattle.saved_levels.specs.Found.{IsFound, room_scripts}
use Rattle.saved_levels.specs.Making.{called_at}
use Rattle.saved_levels.specs.Waits.{TellsOf}

-- items of which each under another fits
abbrev pub fitting : Program → List Item → Option (List Item)
fitting p items = if list_all (marker_fits p) items then Some items else None

-- a level under another on what stands under it
abbrev pub fit_on : Program → Script → SavedLevel → List Item → Option (List Item)
fit_on p hat l under = option_and_then (fitting p) (marker_on p hat l.kept l.block under)

-- levels under another, the bottom one first, on what stands under them
abbrev pub fit_from : Program → Script → List SavedLevel → Option (List Item) → Option (List Item)
fit_from p hat [] under = under
fit_from p hat (l ∷ ls) under = fit_from p hat ls (option_and_then (fit_on p hat l) under)

-- items whose first one fits too
abbrev pub fitting_first : Program → (clock : ℕ) → List Item → Option (List Item)
fitting_first p clock items = if items_fit p clock items then Some items else None

-- a top level that has a block, on what stands under it
abbrev pub first_on : Program → (clock : ℕ) → Script → Kept → ℕ → List Item → Option (List Item)
first_on p clock hat k block under = option_and_then (fitting_first p clock) (level_on p hat (λ s. Some (top_item k s)) block under)

-- The target of a thread, and the script under its hat

abbrev pub sheet_of : Site → Sheet
sheet_of x = sheet_at x.target x.project.now

abbrev pub program_in : Site → Program
program_in x = program_of x.project.now

abbrev pub hat_of : Site → Script
hat_of x = script (sheet_of x) x.first

-- a floor on items: the scripts in which a level on them can stand, and the flag of that place
pub record IsFloor (sheet : Sheet) (p : Program) (hat : Script) (items : List Item) (f : Floor) : Type 0 where
  pub scripts : room_scripts sheet f.room ≡ scripts_on p hat items
  pub warp_is : f.warp ≡ warp_on p hat items

-- and over a statement
pub record IsOver (sheet : Sheet) (p : Program) (s : Statement) (w : Bool) (f : Floor) : Type 0 where
  pub scripts : room_scripts sheet f.room ≡ scripts_over p s
  pub warp_is : f.warp ≡ warp_over p s w

-- A block on a floor

abbrev pub script_on : Site → Floor → ℕ → Option Script
script_on x f wanted = script_among wanted (room_scripts (sheet_of x) f.room)

abbrev pub Found : Site → Floor → ℕ → ℕ → Type 0
Found x f wanted id = IsFound (sheet_of x) wanted (script_on x f wanted) id

-- the test of its kind and of what it calls
abbrev pub keeps_by : (Kind → Option Procedure → Bool) → (x : Site) (f : Floor) (wanted id : ℕ) → Found x f wanted id → Bool
keeps_by test x f wanted id b = test (kind_of b.block) (called_at (program_in x) x.target b.block)

-- one that passes the test; or there is none, or that does not pass
abbrev pub FindsKept : (Kind → Option Procedure → Bool) → Site → Floor → ℕ → Option ℕ → Type 0
FindsKept test x f wanted None = (script_on x f wanted ≡ None) ⊎ ((id : ℕ) × (b : Found x f wanted id) × (keeps_by test x f wanted id b ≡ false))
FindsKept test x f wanted (Some id) = (b : Found x f wanted id) × (keeps_by test x f wanted id b ≡ true)

-- Levels under another

-- a level that was made, or it can't stand there
abbrev pub Stacks : Site → SavedLevel → List Item → Option Level → Type 0
Stacks x l under None = fit_on (program_in x) (hat_of x) l under ≡ None
Stacks x l under (Some level) = (fit_on (program_in x) (hat_of x) l under ≡ Some (items_at (sheet_of x) (marker level) level.block ++ under)) × IsUnder (sheet_of x) level

-- levels, the bottom one first, that were made of these
pub record AreStacked (x : Site) (ls : List SavedLevel) (made : List Level) : Type 0 where
  pub items : fit_from (program_in x) (hat_of x) ls (Some []) ≡ Some (beneath (sheet_of x) (reverse made))
  pub fits : list_all (marker_fits (program_in x)) (beneath (sheet_of x) (reverse made)) ≡ true
  pub under : AllUnder (sheet_of x) (reverse made)
  pub count : length made ≡ length ls

abbrev pub StacksAll : Site → List SavedLevel → Option (List Level) → Type 0
StacksAll x ls None = fit_from (program_in x) (hat_of x) ls (Some []) ≡ None
StacksAll x ls (Some made) = AreStacked x ls made

-- The top level

-- one that was made with a block
pub record IsFirst (x : Site) (clock : ℕ) (k : Kept) (wanted : ℕ) (under : List Item) (level : Level) : Type 0 where
  pub items : first_on (program_in x) clock (hat_of x) k wanted under ≡ Some (items_at (sheet_of x) (first_item level) level.block ++ under)
  pub top : IsTop (sheet_of x) level
  pub id : ℕ
  pub holds : level.block ≡ Some id
  pub warp_is : level.warp ≡ warp_on (program_in x) (hat_of x) (items_at (sheet_of x) (first_item level) level.block ++ under)

abbrev pub Tops : Site → (clock : ℕ) → Kept → ℕ → List Item → Option Level → Type 0
Tops x clock k wanted under None = first_on (program_in x) clock (hat_of x) k wanted under ≡ None
Tops x clock k wanted under (Some level) = IsFirst x clock k wanted under level

-- what levels whose top one has a block stand for
abbrev pub whole_of : Site → (clock : ℕ) → Kept → ℕ → List SavedLevel → Option (List Item)
whole_of x clock k wanted ls = option_and_then (first_on (program_in x) clock (hat_of x) k wanted) (fit_from (program_in x) (hat_of x) ls (Some []))

-- levels that were made so
pub record AreWhole (x : Site) (count : ℕ) (items : Option (List Item)) (levels : List Level) : Type 0 where
  pub items_are : items ≡ Some (pending (sheet_of x) levels)
  pub rest : IsAtRest (sheet_of x) levels
  pub as_many : length levels ≡ count
  pub warp_is : warp_flag levels ≡ warp_on (program_in x) (hat_of x) (pending (sheet_of x) levels)

abbrev pub Wholes : Site → ℕ → Option (List Item) → Option (List Level) → Type 0
Wholes x count items None = items ≡ None
Wholes x count items (Some levels) = AreWhole x count items levels

-- A thread, by its levels from the top

abbrev pub is_well : Site → Devices → (serial : ℕ) → Status → List SavedLevel → Bool
is_well x d serial status ls = option_map_or (stands_well (program_in x) d serial status) (items_of (program_in x) (hat_of x) ls) false

pub record IsPlaced (x : Site) (w : Waiting) (serial : ℕ) (status : Status) (ls : List SavedLevel) (levels : List Level) : Type 0 where
  pub whole : AreWhole x (length ls) (items_of (program_in x) (hat_of x) ls) levels
  pub well : (d : Devices) → TellsOf w d → is_well x d serial status ls ≡ true

abbrev pub Places : Site → Waiting → (serial : ℕ) → Status → List SavedLevel → Option (List Level) → Type 0
Places x w serial status ls None = (d : Devices) → TellsOf w d → is_well x d serial status ls ≡ false
Places x w serial status ls (Some levels) = IsPlaced x w serial status ls levels
