-- The tree of a JSON text as a function is that of the grammar.
use Rattle.std.proofs.Common.{◌≡◌, ℕ, Bool, true, false, List, refl, cond}
use Rattle.std.specs.Prelude.{Option, None, Some, Result, Ok, Err}
use Rattle.std.specs.Str.{is_utf8}
use Rattle.std.proofs.lemmas.Str.{IsUtf8-from_is_utf8, is_utf8-from_IsUtf8}
use Rattle.project_json.specs.Tree.{Tree}
use Rattle.project_json.specs.Text.{max_depth, IsText}
use Rattle.project_json.specs.Reading.{Fault, text_of}
use Rattle.project_json.specs.TextTree.{tree_or_none, tree_of}
use Rattle.project_json.proofs.Sound.{text_is}
use Rattle.project_json.proofs.Complete.{text_again}

from_some : (r : Result Tree Fault) (t : Tree) → tree_or_none r ≡ Some t → r ≡ Ok t
from_some (Ok u) t e = cc e
from_some (Err fault) t e = absurd (cc e)

from_choice : (b : Bool) (o : Option Tree) (t : Tree) → cond b o None ≡ Some t → (b ≡ true) × (o ≡ Some t)
from_choice true o t e = (refl, e)
from_choice false o t e = absurd (cc e)

pub tree_of-text : (bs : List ℕ) (t : Tree) → tree_of bs ≡ Some t → IsText max_depth bs t
unfolding tree_of
tree_of-text bs t e =
    let parts = from_choice (is_utf8 bs) (tree_or_none (text_of max_depth bs)) t e
    in (IsUtf8-from_is_utf8 bs parts.0, text_is max_depth bs t (from_some (text_of max_depth bs) t parts.1))

pub text-tree_of : (bs : List ℕ) (t : Tree) → IsText max_depth bs t → tree_of bs ≡ Some t
unfolding tree_of
text-tree_of bs t is = rw (is_utf8-from_IsUtf8 bs is.0) (rw (text_again max_depth bs t is.1) refl)
