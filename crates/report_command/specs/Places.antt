-- Where a block stands in a project file, by the document of the file: its sprite, its id, its opcode.
--
-- A block has the number of its target among `targets`, and its own number among the target's `blocks`, both from 0. What a
-- document lacks is told as the empty text.
use Rattle.std.specs.Prelude.{ℕ, List, [], Bool, false, if◌then◌else◌, codes, slice_get, unwrap_or, Option, option_map}
use Rattle.std.specs.Option.{option_and_then}
use Rattle.project_json.specs.Tree.{Tree}
use Rattle.project_json.specs.Parts.{member_of, members_in, items_in, text_in, truth_in}

-- Values that may not be there

abbrev pub member_at : List ℕ → Option Tree → Option Tree
member_at name t = option_and_then (λ u. member_of u name) t

abbrev pub items_at : Option Tree → List Tree
items_at t = unwrap_or (option_and_then items_in t) []

abbrev pub members_at : Option Tree → List (List ℕ × Tree)
members_at t = unwrap_or (option_and_then members_in t) []

abbrev pub text_at : Option Tree → List ℕ
text_at t = unwrap_or (option_and_then text_in t) []

abbrev pub truth_at : Option Tree → Bool
truth_at t = unwrap_or (option_and_then truth_in t) false

-- Targets

abbrev pub targets_in : Option Tree → List Tree
targets_in document = items_at (member_at (codes "targets") document)

-- a target by its number
abbrev pub target_at : ℕ → Option Tree → Option Tree
target_at target document = slice_get (targets_in document) target

-- the word for a target: the stage, or a sprite
abbrev pub kind_of : Option Tree → List ℕ
kind_of target = if truth_at (member_at (codes "isStage") target) then codes "stage" else codes "sprite"

abbrev pub name_of : Option Tree → List ℕ
name_of target = text_at (member_at (codes "name") target)

-- Blocks

-- a block of a target by its number: its id, and what tells it
abbrev pub block_at : ℕ → Option Tree → Option (List ℕ × Tree)
block_at block target = slice_get (members_at (member_at (codes "blocks") target)) block

abbrev pub id_of : Option (List ℕ × Tree) → List ℕ
id_of block = unwrap_or (option_map (λ b. b.0) block) []

abbrev pub opcode_of : Option (List ℕ × Tree) → List ℕ
opcode_of block = text_at (member_at (codes "opcode") (option_map (λ b. b.1) block))
