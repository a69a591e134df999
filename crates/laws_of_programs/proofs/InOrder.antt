-- The heads of a target stand in the order of their blocks, and statements at blocks.
use Rattle.std.proofs.Common.{◌≡◌, ℕ, ◌+◌, ◌<◌, Bool, true, false, cond, List, [], ◌∷◌, length, map, sym, subst, arith, ◌∙◌, ap}
use Rattle.std.specs.Prelude.{slice_get, unwrap_or, option_map, None, Some}
use Rattle.std.specs.List.{enumerate_from, cons_option, filter_map}
use Rattle.std.proofs.lemmas.Option.{slice_get-map, slice_get_within}
use Rattle.opcode_table.specs.declared.shape.Role.TheVariants as role
use Rattle.machine_spec.specs.Program.{hat_block}
use Rattle.project_spec.specs.declared.blocks.Block.{Block}
use Rattle.project_spec.specs.declared.blocks.Resolved.{Resolved}
use Rattle.project_spec.specs.Linked.{is_head, has_role}
use Rattle.project_spec.specs.Resolving.{Found}
use Rattle.project_spec.specs.Trees.{Sheet, head_of, hat_at, heads_of, sheet_of, program}
use Rattle.laws_of_threads.specs.Lists.{RiseAbove, Rise}
use Rattle.laws_of_programs.specs.Scripts.{IsInBlocks, IsInOrder}
use Rattle.laws_of_programs.proofs.Reached.{scripts_have, everywhere}

-- Heads

module _ (sheet : Sheet) where
  rise_by : (n i : ℕ) (b : Block) (c d : Bool) (bs : List (ℕ × Block)) → n < i → RiseAbove n (map hat_block (filter_map (hat_at sheet) bs)) → RiseAbove i (map hat_block (filter_map (hat_at sheet) bs))
      → RiseAbove n (map hat_block (cons_option (cond c (cond d (Some (head_of sheet i b)) None) None) (filter_map (hat_at sheet) bs)))
  rise_by n i b true true bs l without behind = (l, behind)
  rise_by n i b true false bs l without behind = without
  rise_by n i b false d bs l without behind = without

  rise_above : (n i : ℕ) (bs : List Block) → n < i → RiseAbove n (map hat_block (filter_map (hat_at sheet) (enumerate_from i bs)))
  rise_above n i [] l = tt
  rise_above n i (b ∷ bs) l = rise_by n i b (is_head b) (has_role role.Hat b.code) (enumerate_from (i + 1) bs) l (rise_above n (i + 1) bs (omega arith)) (rise_above i (i + 1) bs (omega arith))

  first_by : (i : ℕ) (b : Block) (c d : Bool) (bs : List (ℕ × Block)) → Rise (map hat_block (filter_map (hat_at sheet) bs)) → RiseAbove i (map hat_block (filter_map (hat_at sheet) bs))
      → Rise (map hat_block (cons_option (cond c (cond d (Some (head_of sheet i b)) None) None) (filter_map (hat_at sheet) bs)))
  first_by i b true true bs without behind = behind
  first_by i b true false bs without behind = without
  first_by i b false d bs without behind = without

  rise_from : (i : ℕ) (bs : List Block) → Rise (map hat_block (filter_map (hat_at sheet) (enumerate_from i bs)))
  rise_from i [] = tt
  rise_from i (b ∷ bs) = first_by i b (is_head b) (has_role role.Hat b.code) (enumerate_from (i + 1) bs) (rise_from (i + 1) bs) (rise_above i (i + 1) bs (omega arith))

  heads_rise : Rise (map hat_block (heads_of sheet))
  heads_rise = rise_from 0 sheet.blocks

-- Programs

-- how many blocks a target has
counted : (tables : List (List Block)) (t : ℕ) (blocks : List Block) → slice_get tables t ≡ Some blocks → unwrap_or (slice_get (map length tables) t) 0 ≡ length blocks
counted tables t blocks e = ap (λ o. unwrap_or o 0) (slice_get-map length tables t ∙ ap (option_map length) e)

pub program_in_order : (tables : List (List Block)) (f : Found (List (List (List Resolved)))) → IsInOrder (map length tables) (program tables f)
program_in_order tables f = record {
  hats = λ t. scripts_have tables f (λ s. Rise (map hat_block s.heads)) t tt (λ blocks e. heads_rise (sheet_of f.what (t, blocks)));
  placed = everywhere tables f (IsInBlocks (map length tables)) (λ t k blocks b go e c g. subst (λ n. k < n) (sym (counted tables t blocks e)) (slice_get_within blocks k b g));
}
