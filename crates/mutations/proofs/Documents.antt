-- Texts that are read as JSON, and those that are not.
use Rattle.std.proofs.Common.{◌≡◌, ℕ, List, Option, None, Some, Err, refl}
use Rattle.project_json.specs.Tree.{Tree}
use Rattle.project_json.specs.Text.{max_depth, IsText}
use Rattle.project_json.specs.TextTree.{tree_of}
use Rattle.project_json.specs.View.{tree}
use Rattle.project_json.specs.declared.refusal.JsonRefusal.{JsonRefusal}
use Rattle.project_json.specs.declared.refusal.JsonRefusal.TheVariants as json
use Rattle.project_json.proofs.TextTrees.{tree_of-text}
use Rattle.project_spec.specs.Mutation.{or_refuse}
use Rattle.project_spec.specs.declared.refusals.MutationRefusal.TheVariants.{BadText}
use Rattle.mutations.specs.Says.{Says, of_json}

-- a text that is refused has no tree, unless memory ran out
pub refused : (bytes : List ℕ) (r : JsonRefusal) → ((t : Tree) → IsText max_depth bytes t → r ≡ json.NoMemory) → Says tree (Err (of_json r)) (or_refuse BadText (tree_of bytes))
refused bytes r only = by r (tree_of bytes) (λ t e. only t (tree_of-text bytes t e))
  where
    by : (r : JsonRefusal) (o : Option Tree) → ((t : Tree) → o ≡ Some t → r ≡ json.NoMemory) → Says tree (Err (of_json r)) (or_refuse BadText o)
    by json.NoMemory o no_tree = tt
    by (json.NotUtf8 at) None no_tree = refl
    by (json.NotUtf8 at) (Some t) no_tree = absurd (cc (no_tree t refl))
    by (json.Syntax at) None no_tree = refl
    by (json.Syntax at) (Some t) no_tree = absurd (cc (no_tree t refl))
    by (json.TooDeep at) None no_tree = refl
    by (json.TooDeep at) (Some t) no_tree = absurd (cc (no_tree t refl))
