-- How many blocks there are of a kind, target by target.
use Rattle.std.proofs.Common.{◌≡◌, ℕ, zero, suc, ◌+◌, ◌<◌, ◌≤◌, Bool, List, [], ◌∷◌, ◌++◌, length, map, take, get_or, not, Vec, refl, sym, ap, ◌∙◌, subst, arith}
use Rattle.std.specs.Prelude.{slice_get, unwrap_or}
use Rattle.std.specs.List.{AllZip, count_by, sum_by}
use Rattle.std.specs.declared.alloc.Global.{Global}
use Rattle.std.proofs.lemmas.List.{take_more, map_push}
use Rattle.std.proofs.lemmas.List.Sums.{sum_by-cons, sum_by_more, sum_by_more_le_part, count_by-le-length}
use Rattle.project_spec.specs.Linked.{is_head}
use Rattle.block_checks.proofs.Lists.{zip_push}
use Rattle.project_spec.specs.declared.blocks.Block.{Block}
use Rattle.project_check.specs.Counts.{block_count}
use Rattle.block_checks.specs.Kept.{AreChecked}
use Rattle.report_command.specs.Counts.{loose_count}

-- no more blocks are loose than there are
pub few_loose : (tables : List (List Block)) (flags : List (List Bool)) → AllZip AreChecked tables flags → loose_count flags ≤ block_count tables
few_loose [] [] z = omega arith
few_loose [] (f ∷ flags) z = absurd z
few_loose (t ∷ tables) [] z = absurd z
few_loose (t ∷ tables) (f ∷ flags) z =
    let each = z.0.each in
    omega (arith, few_loose tables flags z.1, count_by-le-length not f, sum_by-cons (count_by not) f flags, sum_by-cons length t tables, each)

-- the loose blocks, counted in vectors
pub loose_in : (all : List (Vec Bool Global)) → sum_by (λ f. count_by not f.items) all ≡ loose_count (map (λ f. f.items) all)
loose_in [] = refl
loose_in (f ∷ all) =
    sum_by-cons (λ (f : Vec Bool Global). count_by not f.items) f all
    ∙ ap (λ n. count_by not f.items + n) (loose_in all)
    ∙ sym (sum_by-cons (count_by not) f.items (map (λ f. f.items) all))

-- One more target

at_place : (tables : List (List Block)) (t : ℕ) → unwrap_or (slice_get tables t) [] ≡ get_or tables t []
at_place [] zero = refl
at_place [] (suc t) = refl
at_place (x ∷ tables) zero = refl
at_place (x ∷ tables) (suc t) = at_place tables t

module _ (tables : List (List Block)) (t : ℕ) (blocks : List Block) (within : t < length tables) (is : blocks ≡ unwrap_or (slice_get tables t) []) where
  read : blocks ≡ get_or tables t []
  read = is ∙ at_place tables t

  pub more_heads : (n total : ℕ) → n ≡ count_by is_head blocks → total ≡ sum_by (count_by is_head) (take t tables) → total + n ≡ sum_by (count_by is_head) (take (t + 1) tables)
  more_heads n total e so_far =
      let one = e ∙ ap (count_by is_head) read in
      omega (arith, one, so_far, sum_by_more (count_by is_head) tables t [] within)

  pub few_heads : (n total : ℕ) → n ≤ length blocks → total ≡ sum_by (count_by is_head) (take t tables) → total + n ≤ block_count tables
  few_heads n total e so_far =
      let one = ap length read in
      omega (arith, e, one, so_far, sum_by_more_le_part (count_by is_head) length tables t [] within (λ bs. count_by-le-length is_head bs))

  pub more_flags : (all new : List (Vec Bool Global)) (flags : Vec Bool Global) → AreChecked blocks flags.items → new ≡ all ++ flags ∷ [] → AllZip AreChecked (take t tables) (map (λ f. f.items) all)
      → AllZip AreChecked (take (t + 1) tables) (map (λ f. f.items) new)
  more_flags all new flags one e so_far =
      subst (λ fs. AllZip AreChecked (take (t + 1) tables) fs) (sym (ap (map (λ (f : Vec Bool Global). f.items)) e ∙ map_push (λ (f : Vec Bool Global). f.items) all flags))
      (subst (λ bs. AllZip AreChecked bs (map (λ (f : Vec Bool Global). f.items) all ++ flags.items ∷ [])) (sym (take_more tables t [] within))
      (zip_push AreChecked (take t tables) (map (λ (f : Vec Bool Global). f.items) all) (get_or tables t []) flags.items so_far (subst (λ bs. AreChecked bs flags.items) read one)))
