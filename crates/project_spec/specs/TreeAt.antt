-- Which tree is read at a block, as a relation on the tree: no limit on links stands in it.
use Rattle.std.specs.Prelude.{◌≡◌, ℕ, List, [], ◌∷◌, Option, None, Some, slice_get}
use Rattle.scratch_values.specs.declared.value.Value.{Value}
use Rattle.scratch_values.specs.declared.value.Value.TheVariants.{Text}
use Rattle.machine_spec.specs.Script.{Expression, Constant, Variable, Contents, Operator, Expressions, NoInput, AndInput, Script, End, Then, Statement, Does, Branches, NoBranch, AndBranch}
use Rattle.project_spec.specs.Blocks.{Code, Block}
use Rattle.project_spec.specs.declared.blocks.Code.TheVariants.{Known, Other}
use Rattle.project_spec.specs.Trees.{Sheet, Operand, Holds, OfVariable, OfList, OfBlock, operands, branches, fields_of, refs_from, menu_text, command_by, target_of_link}

-- a block whose opcode is not known stands for the text of its field
abbrev pub IsMenuText : Code → Block → Value → Type 0
IsMenuText (Known op) b v = ⊥
IsMenuText (Other name) b v = v ≡ Text (menu_text b.fields)

abbrev mutual
  -- the expression of an operand
  pub IsOperand : Sheet → Operand → Expression → Type 0
  IsOperand sheet (Holds v) e = e ≡ Constant v
  IsOperand sheet (OfVariable ref) e = e ≡ Variable ref
  IsOperand sheet (OfList ref) e = e ≡ Contents ref
  IsOperand sheet (OfBlock k) (Constant v) = (b : Block) × (slice_get sheet.blocks k ≡ Some b) × IsMenuText b.code b v
  IsOperand sheet (OfBlock k) (Variable ref) = ⊥
  IsOperand sheet (OfBlock k) (Contents ref) = ⊥
  IsOperand sheet (OfBlock k) (Operator op fields refs inputs) =
      (b : Block) × (slice_get sheet.blocks k ≡ Some b) × (b.code ≡ Known op) × (fields ≡ fields_of b) × (refs ≡ refs_from sheet k b.fields) × AreInputs sheet (operands sheet k b) inputs

  pub AreInputs : Sheet → List (List ℕ × Operand) → Expressions → Type 0
  AreInputs sheet [] NoInput = Unit {0}
  AreInputs sheet [] (AndInput name e rest) = ⊥
  AreInputs sheet (x ∷ xs) NoInput = ⊥
  AreInputs sheet (x ∷ xs) (AndInput name e rest) = (name ≡ x.0) × IsOperand sheet x.1 e × AreInputs sheet xs rest

abbrev mutual
  -- the script that begins at a link
  pub IsScript : Sheet → Option ℕ → Script → Type 0
  IsScript sheet o End = o ≡ None
  IsScript sheet o (Then s rest) = (k : ℕ) × (o ≡ Some k) × ((b : Block) × (slice_get sheet.blocks k ≡ Some b) × IsStatement sheet k b s × IsScript sheet (target_of_link b.next) rest)

  -- the statement of a block
  pub IsStatement : Sheet → ℕ → Block → Statement → Type 0
  IsStatement sheet k b (Does place command inputs under) =
      (place ≡ record { target = sheet.target; block = k }) × (command ≡ command_by sheet k b) × AreInputs sheet (operands sheet k b) inputs × AreBranches sheet (branches b) under

  pub AreBranches : Sheet → List (List ℕ × Option ℕ) → Branches → Type 0
  AreBranches sheet [] NoBranch = Unit {0}
  AreBranches sheet [] (AndBranch name t more) = ⊥
  AreBranches sheet (x ∷ xs) NoBranch = ⊥
  AreBranches sheet (x ∷ xs) (AndBranch name t more) = (name ≡ x.0) × IsScript sheet x.1 t × AreBranches sheet xs more

-- a link has one script
abbrev pub OneScript : Type 0
OneScript = (sheet : Sheet) (o : Option ℕ) (t u : Script) → IsScript sheet o t → IsScript sheet o u → t ≡ u
