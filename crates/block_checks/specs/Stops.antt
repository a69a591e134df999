-- Where a test stops, for private functions: no clause of a public function cites this file.
use Rattle.std.specs.Prelude.{◌≡◌, ℕ, ◌<◌, List, slice_get, Some}
use Rattle.project_spec.specs.declared.blocks.Block.{Block}
use Rattle.project_spec.specs.declared.refusals.At.{At}
use Rattle.project_spec.specs.declared.refusals.Refusal.{Refusal}
use Rattle.project_spec.specs.declared.refusals.Refusal.TheVariants as refusal
use Rattle.project_spec.specs.Linked.{missing_input, unfit_field}
use Rattle.project_spec.specs.Refusals.{Test, Fails, FailsAt, IsFirst, IsFirstOf, opcode_name}
use Rattle.project_spec.specs.Refusals as file
use Rattle.block_checks.specs.declared.stop.Stop.{Stop}
use Rattle.block_checks.specs.declared.stop.Stop.TheVariants.{Refused, NoMemory}
use Rattle.block_checks.specs.declared.test_order.LooseTest.{LooseTest}
use Rattle.block_checks.specs.declared.test_order.LooseTest.TheVariants as loose
use Rattle.block_checks.specs.declared.test_order.LinkedTest.{LinkedTest}
use Rattle.block_checks.specs.declared.test_order.LinkedTest.TheVariants as linked

-- that refusal, or want of memory
abbrev pub Tells : Refusal → Stop → Type 0
Tells r (Refused other) = other ≡ r
Tells r NoMemory = Unit {0}

abbrev pub loose_test : LooseTest → Test
loose_test loose.Mutations = file.Mutations
loose_test loose.Links = file.Links

abbrev pub linked_test : LinkedTest → Test
linked_test linked.Places = file.Places
linked_test linked.Inputs = file.Inputs
linked_test linked.Fields = file.Fields
linked_test linked.Depth = file.Depth

-- One block

-- a test that asks of a block itself alone
abbrev pub FailsAlone : Test → At → Block → Refusal → Type 0
FailsAlone test at b r = (blocks : List Block) → Fails test blocks at b r

abbrev pub PassesAlone : Test → At → Block → Type 0
PassesAlone test at b = (blocks : List Block) (r : Refusal) → Fails test blocks at b r → ⊥

abbrev pub StopsAlone : Test → At → Block → Stop → Type 0
StopsAlone test at b (Refused r) = FailsAlone test at b r
StopsAlone test at b NoMemory = Unit {0}

-- a block that lacks an input, has a field that is unfit, or does not fit its place

abbrev pub StopsMissing : At → Block → Stop → Type 0
StopsMissing at b (Refused r) = (name : List ℕ) × (missing_input b ≡ Some name) × (r ≡ refusal.MissingInput at name)
StopsMissing at b NoMemory = Unit {0}

abbrev pub StopsUnfit : At → Block → Stop → Type 0
StopsUnfit at b (Refused r) = (name : List ℕ) × (unfit_field b ≡ Some name) × (r ≡ refusal.Field at name)
StopsUnfit at b NoMemory = Unit {0}

abbrev pub StopsMisplaced : At → Block → Stop → Type 0
StopsMisplaced at b s = Tells (refusal.Opcode at (opcode_name b.code)) s

-- The blocks of a target

abbrev pub at_place : ℕ → ℕ → At
at_place target block = record { target = target; block = block }

-- none of so many blocks fails the test
abbrev pub PassesBelow : ℕ → List Block → Test → ℕ → Type 0
PassesBelow target blocks test n = (k : ℕ) (b : Block) (r : Refusal) → k < n → slice_get blocks k ≡ Some b → Fails test blocks (at_place target k) b r → ⊥

-- no block fails it
abbrev pub PassesIn : ℕ → List Block → Test → Type 0
PassesIn target blocks test = (k : ℕ) (b : Block) (r : Refusal) → slice_get blocks k ≡ Some b → Fails test blocks (at_place target k) b r → ⊥

-- the first block of the target that fails it, and what it is told
pub record IsFirstIn (target : ℕ) (blocks : List Block) (test : Test) (r : Refusal) : Type 0 where
  pub place : ℕ
  pub block : Block
  pub held : slice_get blocks place ≡ Some block
  pub fails : Fails test blocks (at_place target place) block r
  pub first : PassesBelow target blocks test place

abbrev pub StopsIn : ℕ → List Block → Test → Stop → Type 0
StopsIn target blocks test (Refused r) = IsFirstIn target blocks test r
StopsIn target blocks test NoMemory = Unit {0}

-- All targets

-- no block of so many targets fails the test
abbrev pub PassesBefore : List (List Block) → Test → ℕ → Type 0
PassesBefore tables test n = (at : At) (r : Refusal) → at.target < n → FailsAt tables test at r → ⊥

abbrev pub StopsAt : List (List Block) → Test → Stop → Type 0
StopsAt tables test (Refused r) = IsFirst tables test r
StopsAt tables test NoMemory = Unit {0}

abbrev pub StopsAtOneOf : List (List Block) → List Test → Stop → Type 0
StopsAtOneOf tables tests (Refused r) = IsFirstOf tables tests r
StopsAtOneOf tables tests NoMemory = Unit {0}
