-- Tables of blocks, and what tells the blocks.
use Rattle.std.proofs.Common.{◌≡◌, ℕ, suc, None, ◌<◌, ◌^◌, Bool, List, [], ◌∷◌, length, map, Ok, refl, sym, ◌∙◌, ap, subst, arith}
use Rattle.std.proofs.lemmas.List.{length-map}
use Rattle.project_json.specs.Tree.{Tree}
use Rattle.json_shapes.specs.Shapes.{each_member}
use Rattle.project_spec.specs.declared.blocks.Block.{Block}
use Rattle.project_spec.specs.Blocks.{block_of}
use Rattle.project_spec.specs.Linked.{IsClosed}
use Rattle.project_spec.specs.Reading.{Origin, origin_of, table_of}
use Rattle.block_table.specs.Parts.{is_list}
use Rattle.block_table.specs.Table.{origins, IsTable, IsNumbered, Numbered}
use Rattle.project_spec.specs.Limits.{first_too_many, table_measures}
use Rattle.block_table.specs.Short.{HaveShortFields}
use Rattle.block_table.proofs.Short.{short_blocks}
use Rattle.block_table.proofs.Closed.{closed, of_blocks, length-blocks}

-- of the members of an object
pub origins-members : (ms : List (List ℕ × Tree)) → origins (map (λ m. m.0) ms) (map is_list ms) ≡ map origin_of ms
origins-members [] = refl
origins-members ((id, t) ∷ ms) = ap (λ os. origin_of (id, t) ∷ os) (origins-members ms)

-- the ids, where each block is told to be a list or not
pub ids-origins : (ids : List (List ℕ)) (lists : List Bool) → length lists ≡ length ids → map (λ (o : Origin). o.id) (origins ids lists) ≡ ids
ids-origins [] lists same = refl
ids-origins (id ∷ ids) [] same = absurd (omega arith)
ids-origins (id ∷ ids) (b ∷ lists) same = ap (λ more. id ∷ more) (ids-origins ids lists (omega arith))

length-origins : (ids : List (List ℕ)) (lists : List Bool) → length lists ≡ length ids → length (origins ids lists) ≡ length ids
length-origins [] lists same = refl
length-origins (id ∷ ids) [] same = absurd (omega arith)
length-origins (id ∷ ids) (b ∷ lists) same = ap suc (length-origins ids lists (omega arith))

-- What is read of the members of an object

module _ (at : List (List ℕ)) (ms : List (List ℕ × Tree)) (ids : List (List ℕ)) (lists : List Bool) (blocks : List Block)
    (are_ids : ids ≡ map (λ m. m.0) ms) (are_lists : lists ≡ map is_list ms) where
  -- is a table
  pub read_is_table : length ms < 2 ^ 32 → each_member (block_of ids) at ms ≡ Ok blocks → IsTable ids lists blocks
  read_is_table few told =
      let ids_each : length ids ≡ length ms = ap length are_ids ∙ length-map ms (λ m. m.0) in
      let lists_each : length lists ≡ length ms = ap length are_lists ∙ length-map ms is_list in
      let blocks_each : length blocks ≡ length ms = length-blocks ids at ms blocks told in
      record {
        kinds = lists_each ∙ sym ids_each;
        each = blocks_each ∙ sym ids_each;
        few = subst (λ n. n < 2 ^ 32) (sym ids_each) few;
        closed = closed (length ids) blocks (blocks_each ∙ sym ids_each) (of_blocks ids at ms blocks told);
      }

  -- that the members tell
  pub read_tells : each_member (block_of ids) at ms ≡ Ok blocks → table_of at ms ≡ Ok (record { origins = origins ids lists; blocks = blocks })
  read_tells told =
      let same : each_member (block_of (map (λ m. m.0) ms)) at ms ≡ Ok blocks = subst (λ is. each_member (block_of is) at ms ≡ Ok blocks) are_ids told in
      let tells : origins ids lists ≡ map origin_of ms = (λ i. origins (are_ids i) (are_lists i)) ∙ origins-members ms in
      rw same (ap (λ os. Ok (record { origins = os; blocks = blocks })) (sym tells))

-- What is read, where no text is too long

module _ (ids : List (List ℕ)) (lists : List Bool) (blocks short : List Block) (is : IsTable ids lists blocks) (same : short ≡ blocks) where
  pub bounded_is_numbered : (at : List (List ℕ)) → first_too_many (table_measures at (record { origins = origins ids lists; blocks = blocks })) ≡ None → IsNumbered ids short
  bounded_is_numbered at none = record {
    each = ap length same ∙ is.each;
    few = is.few;
    closed = subst IsClosed (sym same) is.closed;
    short = subst HaveShortFields (sym same) (short_blocks at (origins ids lists) blocks (is.each ∙ sym (length-origins ids lists is.kinds)) none);
  }

  pub bounded_shows : (let shown : Numbered = record { ids = ids; blocks = short } in shown) ≡ record { ids = map (λ (o : Origin). o.id) (origins ids lists); blocks = blocks }
  bounded_shows = λ i. record { ids = sym (ids-origins ids lists is.kinds) i; blocks = same i }
