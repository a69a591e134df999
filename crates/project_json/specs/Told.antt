-- The message of a refusal: its fault and its place, in bytes.
use Rattle.std.specs.Prelude.{ℕ, List, ◌++◌, codes}
use Rattle.std.specs.Fmt.{decimal}
use Rattle.project_json.specs.declared.refusal.JsonRefusal.{JsonRefusal}
use Rattle.project_json.specs.declared.refusal.JsonRefusal.TheVariants.{NotUtf8, Syntax, TooDeep, NoMemory}

abbrev pub message : JsonRefusal → List ℕ
message (NotUtf8 at) = codes "not UTF-8 at byte " ++ decimal at
message (Syntax at) = codes "no JSON text goes on so at byte " ++ decimal at
message (TooDeep at) = codes "nested deeper than 256 at byte " ++ decimal at
message NoMemory = codes "out of memory"
