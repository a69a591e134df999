-- What the scripts of an accepted file have.
use Rattle.std.proofs.Common.{◌≡◌, ℕ, List, length, map, refl, sym, subst, arith}
use Rattle.std.specs.Prelude.{slice_get, Some}
use Rattle.project_spec.specs.declared.blocks.Block.{Block}
use Rattle.project_spec.specs.Linked.{Chain, one, more, IsCyclic}
use Rattle.project_spec.specs.Reading.{File, blocks_in}
use Rattle.project_spec.specs.Refusals as file
use Rattle.laws_of_threads.specs.Scripts.{IsProgram}
use Rattle.laws_of_programs.specs.Laws.{ScriptsAreLegal, BlocksAreTold, BlocksAreInOrder}
use Rattle.laws_of_programs.specs.Scripts.{BlocksTell, IsInOrder}
use Rattle.laws_of_programs.proofs.Prototypes.{blocks_even}
use Rattle.laws_of_programs.proofs.Standing.{program_legal}
use Rattle.laws_of_programs.proofs.BlocksBegin.{program_tells}
use Rattle.laws_of_programs.proofs.InOrder.{program_in_order}

-- the block where a chain of links begins is there
begins_at : (blocks : List Block) {i j : ℕ} → Chain blocks i j → (b : Block) × (slice_get blocks i ≡ Some b)
begins_at blocks (one l) = (l.block, l.held)
begins_at blocks (more l r) = (l.block, l.held)

no_cycle : (bytes : List ℕ) (f : File) → file.IsAccepted bytes f → (t k : ℕ) (blocks : List Block) → slice_get (blocks_in f) t ≡ Some blocks → IsCyclic blocks k → ⊥
no_cycle bytes f a t k blocks e c =
    let passes : file.Passes (blocks_in f) file.Cycles = a.well.blocks 2 file.Cycles (omega arith) in
    let start = begins_at blocks c in
    passes (record { target = t; block = k }) _ (record { blocks = blocks; block = start.0; target = e; held = start.1; fails = (c, refl) })

pub scripts_legal : ScriptsAreLegal
scripts_legal bytes f p l a is = subst IsProgram (sym is.is) (program_legal (blocks_in f) _ (blocks_even bytes f a))

pub blocks_tell : BlocksAreTold
blocks_tell bytes f p l a is = subst BlocksTell (sym is.is) (program_tells (blocks_in f) _ (no_cycle bytes f a))

pub blocks_in_order : BlocksAreInOrder
blocks_in_order bytes f p l a is = subst (IsInOrder (map length (blocks_in f))) (sym is.is) (program_in_order (blocks_in f) _)
