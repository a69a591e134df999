-- The hats that a filter starts, read from an index: what is asked of it, and the laws that it gives what the machine starts.
use Rattle.std.specs.Prelude.{◌≡◌, ℕ, ◌<◌, ◌&&◌, not, List, [], filter, slice_get, bytes_eq, Option, None, Some, if◌then◌else◌}
use Rattle.std.specs.List.{filter_map, enumerate_from}
use Rattle.std.specs.Option.{option_map_or}
use Rattle.opcode_table.specs.declared.opcode.Opcode.{Opcode}
use Rattle.opcode_table.specs.declared.opcode.Opcode.TheVariants.{EventWhenFlagClicked, EventWhenThisSpriteClicked, EventWhenStageClicked, EventWhenBroadcastReceived, EventWhenBackdropSwitchesTo, EventWhenKeyPressed, ControlStartAsClone}
use Rattle.scratch_values.specs.Folding.{folded}
use Rattle.machine_spec.specs.Program.{Head}
use Rattle.machine_spec.specs.declared.threads.Filter.{Filter}
use Rattle.machine_spec.specs.declared.threads.Filter.TheVariants.{Broadcast, Backdrop, Key, Flag, CloneStart, Clicked}
use Rattle.machine_spec.specs.Starting.{same_folded, fits_hat, is_stage_hat_of}
use Rattle.project_spec.specs.declared.blocks.Block.{Block}
use Rattle.project_spec.specs.Linked.{is_head}
use Rattle.project_spec.specs.Trees.{Sheet, statement, script, heads_of}
use Rattle.hat_index.specs.Starts.{Start}
use Rattle.hat_index.specs.Hats.{row_of, hats_in, starts_for}

-- What a filter asks

-- an opcode and a folded text
pub record Asked : Type 0 where
  pub opcode : Opcode
  pub folded : List ℕ

-- its hats; of a click those that are not the stage's
abbrev pub first_asked : Filter → Asked
first_asked (Broadcast message) = record { opcode = EventWhenBroadcastReceived; folded = folded message }
first_asked (Backdrop costume) = record { opcode = EventWhenBackdropSwitchesTo; folded = folded costume }
first_asked (Key name) = record { opcode = EventWhenKeyPressed; folded = folded name }
first_asked Flag = record { opcode = EventWhenFlagClicked; folded = [] }
first_asked (CloneStart clone) = record { opcode = ControlStartAsClone; folded = [] }
first_asked (Clicked instance) = record { opcode = EventWhenThisSpriteClicked; folded = [] }

-- the stage's hats for a click, which start behind the others
abbrev pub second_asked : Filter → Option Asked
second_asked (Clicked instance) = Some (record { opcode = EventWhenStageClicked; folded = [] })
second_asked _ = None

-- What is given

abbrev pub head_number : ℕ × Block → Option ℕ
head_number (k, b) = if is_head b then Some k else None

-- the numbers of the heads of a target, in block order
abbrev pub head_numbers : List Block → List ℕ
head_numbers blocks = filter_map head_number (enumerate_from 0 blocks)

abbrev pub head_by : Sheet → Start → Option Block → Option Head
head_by sheet s None = None
head_by sheet s (Some b) = Some (record { hat = statement sheet s.0 b; script = script sheet s.1 })

-- a head as the machine sees it
abbrev pub head_at : Sheet → Start → Option Head
head_at sheet s = head_by sheet s (slice_get sheet.blocks s.0)

-- the heads of a target that have what is asked
abbrev pub given : Sheet → Asked → List Head
given sheet a = filter_map (head_at sheet) (starts_for a.opcode a.folded (hats_in sheet.blocks (head_numbers sheet.blocks)))

-- Laws

abbrev pub EachKindHasOneOpcode : Type 0
EachKindHasOneOpcode = (a b : Opcode) → row_of a < 8 → row_of a ≡ row_of b → a ≡ b

abbrev pub SameFolded : Type 0
SameFolded = (a b : List ℕ) → same_folded a b ≡ bytes_eq (folded a) (folded b)

-- of the first round of a start: all hats that fit but the stage-clicked ones
abbrev pub FirstByKey : Type 0
FirstByKey = (sheet : Sheet) (f : Filter) → filter (λ h. fits_hat f h.hat && not (is_stage_hat_of h.hat)) (heads_of sheet) ≡ given sheet (first_asked f)

-- of the second: the stage-clicked ones
abbrev pub SecondByKey : Type 0
SecondByKey = (sheet : Sheet) (f : Filter) → filter (λ h. fits_hat f h.hat && is_stage_hat_of h.hat) (heads_of sheet) ≡ option_map_or (given sheet) (second_asked f) []
