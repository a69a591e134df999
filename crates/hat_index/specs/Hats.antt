-- The hats of a target, and the map from an opcode and a folded text to those that have them (after scratch-vm,
-- engine/blocks-runtime-cache.js, getScripts, and engine/runtime.js, allScriptsByOpcodeDo and startHats).
use Rattle.std.specs.Prelude.{◌≡◌, ℕ, ◌==◌, ◌&&◌, Bool, List, [], ◌∷◌, length, map, filter, slice_get, bytes_eq, unwrap_or, Option, None, Some, if◌then◌else◌, nat_lt}
use Rattle.std.specs.List.{filter_map}
use Rattle.opcode_table.specs.declared.opcode.Opcode.{Opcode}
use Rattle.opcode_table.specs.declared.hats.HatKind.{HatKind}
use Rattle.opcode_table.specs.declared.hats.HatKind.TheVariants.{FlagHat, SpriteHat, StageHat, MessageHat, BackdropHat, KeyHat, CloneHat, EdgeHat, NoHat}
use Rattle.opcode_table.specs.Kinds.{hat_kind}
use Rattle.opcode_table.specs.Table.{row}
use Rattle.scratch_values.specs.Folding.{folded}
use Rattle.scratch_values.specs.Named.{item_named}
use Rattle.machine_spec.specs.Script.{Fields}
use Rattle.project_spec.specs.declared.blocks.Block.{Block}
use Rattle.project_spec.specs.Trees.{op_by, fields_of, target_of_link}
use Rattle.hat_index.specs.declared.target_hats.TargetHats.{TargetHats}
use Rattle.hat_index.specs.declared.text_starts.TextStarts.{TextStarts}
use Rattle.hat_index.specs.Starts.{Start, starts_at}

-- The text by which a hat is found

abbrev pub first_name : List (List ℕ) → Option (List ℕ)
first_name [] = None
first_name (name ∷ names) = Some name

abbrev pub folded_field : Option (List ℕ) → Fields → List ℕ
folded_field None fields = []
folded_field (Some name) fields = folded (unwrap_or (item_named name fields) [])

-- the folded text of the field of a hat; empty where the table gives its opcode none
abbrev pub key_text : Opcode → Fields → List ℕ
key_text op fields = folded_field (first_name (row op).fields) fields

-- Hats

-- each opcode of a hat is the only one of its kind; what is no hat comes behind all
abbrev pub kind_number : HatKind → ℕ
kind_number FlagHat = 0
kind_number SpriteHat = 1
kind_number StageHat = 2
kind_number MessageHat = 3
kind_number BackdropHat = 4
kind_number KeyHat = 5
kind_number CloneHat = 6
kind_number EdgeHat = 7
kind_number NoHat = 8

abbrev pub row_of : Opcode → ℕ
row_of op = kind_number (hat_kind op)

-- a head that is a hat: its opcode, the text by which it is found, its block, and the block under it
pub record Hat : Type 0 where
  pub opcode : Opcode
  pub folded : List ℕ
  pub block : ℕ
  pub next : Option ℕ

-- a block as a hat; a definition is none
abbrev pub hat_of : Opcode → ℕ → Block → Option Hat
hat_of op k b =
    if nat_lt (row_of op) 8 then Some (record { opcode = op; folded = key_text op (fields_of b); block = k; next = target_of_link b.next }) else None

abbrev pub hat_by : ℕ → Option Block → Option Hat
hat_by k None = None
hat_by k (Some b) = hat_of (op_by b.code) k b

abbrev pub hat_at : List Block → ℕ → Option Hat
hat_at blocks k = hat_by k (slice_get blocks k)

-- the hats among the heads of a target, in their order
abbrev pub hats_in : (blocks : List Block) (heads : List ℕ) → List Hat
hats_in blocks heads = filter_map (hat_at blocks) heads

-- What an index gives

-- a finite map: the hats of a target, an opcode and a folded text
abbrev pub Index : Type 0
Index = (target : ℕ) → Opcode → (folded : List ℕ) → Option (List Start)

-- the hat has the opcode and the text
abbrev pub is_for : Opcode → List ℕ → Hat → Bool
is_for op text h = row_of h.opcode == row_of op && bytes_eq h.folded text

abbrev pub start_of : Hat → Start
start_of h = (h.block, h.next)

-- the hats of an opcode and a text, in block order
abbrev pub starts_for : Opcode → List ℕ → List Hat → List Start
starts_for op text hats = map start_of (filter (is_for op text) hats)

abbrev pub some_unless_empty : {A : Type 0} → List A → Option (List A)
some_unless_empty [] = None
some_unless_empty (a ∷ more) = Some (a ∷ more)

-- no entry where there is none
abbrev pub entry : Opcode → List ℕ → List Hat → Option (List Start)
entry op text hats = some_unless_empty (starts_for op text hats)

-- The rows of a target; private functions alone cite what follows

abbrev pub found_by : Option TextStarts → List ℕ → Option (List Start)
found_by None text = None
found_by (Some row) text = starts_at row text

abbrev pub found_in : TargetHats → Opcode → List ℕ → Option (List Start)
found_in hats op text = found_by (slice_get hats.rows.items (row_of op)) text

-- all hats of a target are found, and no others
pub record IsTarget (hats : TargetHats) (all : List Hat) : Type 0 where
  pub rows : length hats.rows.items ≡ 8
  pub each : (op : Opcode) (text : List ℕ) → found_in hats op text ≡ entry op text all
