-- Laws of compact JSON texts, as statements that public functions with empty bodies prove.
use Rattle.std.specs.Prelude.{◌≡◌, ◌≤◌, Some, IsUtf8}
use Rattle.serde_json.specs.Data.{Data, depth}
use Rattle.serde_json.specs.Read.{read, max_depth}
use Rattle.serde_json.specs.Written.{compact_text}
use Rattle.laws_of_json.specs.Plain.{IsPlain, HasUtf8}

-- the compact text of a plain value that nests at most 127 deep is read back as that value
abbrev pub ReadsBack : Type 0
ReadsBack = (d : Data) → IsPlain d → depth d ≤ max_depth → read (compact_text d) ≡ Some d

-- the compact text of a plain value whose texts and names are UTF-8 is UTF-8
abbrev pub IsWrittenInUtf8 : Type 0
IsWrittenInUtf8 = (d : Data) → IsPlain d → HasUtf8 d → IsUtf8 (compact_text d)
