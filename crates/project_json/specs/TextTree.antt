-- The tree of a JSON text, as a function. The law `each_text_has_its_tree` says that it is the tree of the grammar.
use Rattle.std.specs.Prelude.{ℕ, List, Option, None, Some, if◌then◌else◌, Result, Ok, Err}
use Rattle.std.specs.Str.{is_utf8}
use Rattle.project_json.specs.Tree.{Tree}
use Rattle.project_json.specs.Text.{max_depth}
use Rattle.project_json.specs.Reading.{Fault, text_of}

abbrev pub tree_or_none : Result Tree Fault → Option Tree
tree_or_none (Ok t) = Some t
tree_or_none (Err fault) = None

-- bytes that are no JSON text in UTF-8, nested at most as deep as is read, have none
unfoldable pub tree_of : List ℕ → Option Tree
tree_of bs = if is_utf8 bs then tree_or_none (text_of max_depth bs) else None
