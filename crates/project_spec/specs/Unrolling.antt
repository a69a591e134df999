-- What the expressions and scripts at blocks are made of, where a rank falls along every link: then no limit on links counts.
use Rattle.std.specs.Prelude.{◌≡◌, ℕ, ◌<◌, List, length, slice_get, Option, None, Some}
use Rattle.machine_spec.specs.Script.{End, Then, branches_of}
use Rattle.project_spec.specs.Blocks.{Block}
use Rattle.project_spec.specs.Linked.{IsClosed, AreRanks}
use Rattle.project_spec.specs.Trees.{Sheet, branches, expression_by, expression, branches_by, target_of_link, script, statement}
use Rattle.project_spec.specs.TreeAt.{IsScript}

-- the expression at a block is the block, with the expressions at its links
abbrev pub ExpressionUnrolls : Type 0
ExpressionUnrolls = (sheet : Sheet) (ranks : List ℕ) (k : ℕ) (b : Block) → AreRanks sheet.blocks ranks → slice_get sheet.blocks k ≡ Some b → expression sheet k ≡ expression_by b.code sheet k b (expression sheet)

-- the script at no link is empty
abbrev pub NoLinkIsEmpty : Type 0
NoLinkIsEmpty = (sheet : Sheet) → script sheet None ≡ End

-- the script at a block is its statement, then the script at its next link
abbrev pub ScriptUnrolls : Type 0
ScriptUnrolls = (sheet : Sheet) (ranks : List ℕ) (k : ℕ) (b : Block) → AreRanks sheet.blocks ranks → slice_get sheet.blocks k ≡ Some b → script sheet (Some k) ≡ Then (statement sheet k b) (script sheet (target_of_link b.next))

-- a branch of a statement is the script at its link
abbrev pub BranchesAreScripts : Type 0
BranchesAreScripts = (sheet : Sheet) (k : ℕ) (b : Block) → branches_of (statement sheet k b) ≡ branches_by (script sheet) (branches b)

-- no link, or one to a block
abbrev pub IsWithin : List Block → Option ℕ → Type 0
IsWithin blocks None = Unit {0}
IsWithin blocks (Some k) = k < length blocks

-- a link among blocks with ranks has its script
abbrev pub HasScript : Type 0
HasScript = (sheet : Sheet) (ranks : List ℕ) (o : Option ℕ) → AreRanks sheet.blocks ranks → IsClosed sheet.blocks → IsWithin sheet.blocks o → IsScript sheet o (script sheet o)
