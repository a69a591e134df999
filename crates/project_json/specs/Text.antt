-- JSON texts in UTF-8 (RFC 8259 section 8.1), and the bytes that begin one.
use Rattle.std.specs.Prelude.{ℕ, List, ◌++◌}
use Rattle.std.specs.Str.{IsUtf8}
use Rattle.project_json.specs.Tree.{Tree}
use Rattle.project_json.specs.Grammar.{IsJson}

-- how deep brackets and braces may nest in a document that is read
abbrev pub max_depth : ℕ
max_depth = 256

-- the bytes are UTF-8 (RFC 3629) and a JSON text that stands for the tree, nested at most n deep
abbrev pub IsText : ℕ → List ℕ → Tree → Type 0
IsText n bytes t = IsUtf8 bytes × IsJson n bytes t

-- some continuation of the bytes is a JSON text, nested at most n deep
abbrev pub BeginsWithin : ℕ → List ℕ → Type 0
BeginsWithin n bytes = (more : List ℕ) × (t : Tree) × IsText n (bytes ++ more) t

-- some continuation of the bytes is a JSON text, of any depth
abbrev pub Begins : List ℕ → Type 0
Begins bytes = (n : ℕ) × BeginsWithin n bytes
