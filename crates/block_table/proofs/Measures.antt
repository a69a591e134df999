-- The first that is too much in what is measured, part after part.
use Rattle.std.proofs.Common.{◌≡◌, ℕ, ◌+◌, Bool, true, false, cond, List, [], ◌∷◌, ◌++◌, drop, map, flat_map, append_assoc, find, None, Some, option_map, refl, sym, ◌∙◌, ap}
use Rattle.json_shapes.specs.Places.{path}
use Rattle.project_spec.specs.Limits.{Measure, is_too_many, first_too_many}
use Rattle.block_table.specs.declared.refusal.BlockRefusal.{BlockRefusal}
use Rattle.block_table.specs.declared.refusal.BlockRefusal.TheVariants.{Shape, TooLong, NoMemory}
use Rattle.std.specs.List.{zip}
use Rattle.project_spec.specs.declared.blocks.Block.{Block}
use Rattle.project_spec.specs.Limits.{block_measures}
use Rattle.block_table.specs.Measured.{measured_block}
use Rattle.block_table.specs.Table.{origins}
use Rattle.block_table.specs.Refused.{Refuses}

-- where a part has one, it is the first
pub too_many-front : (xs ys : List Measure) (p : List ℕ) → first_too_many xs ≡ Some p → first_too_many (xs ++ ys) ≡ Some p
too_many-front [] ys p e = absurd (cc e)
too_many-front (x ∷ xs) ys p e = by (is_too_many x) (too_many-front xs ys p) e
  where
    by : (b : Bool) → (first_too_many xs ≡ Some p → first_too_many (xs ++ ys) ≡ Some p) → option_map (λ m. path m.at) (cond b (Some x) (find is_too_many xs)) ≡ Some p → option_map (λ m. path m.at) (cond b (Some x) (find is_too_many (xs ++ ys))) ≡ Some p
    by true rest e = e
    by false rest e = rest e

-- where it has none, the first is that of what follows
pub too_many-behind : (xs ys : List Measure) → first_too_many xs ≡ None → first_too_many (xs ++ ys) ≡ first_too_many ys
too_many-behind [] ys e = refl
too_many-behind (x ∷ xs) ys e = by (is_too_many x) (too_many-behind xs ys) e
  where
    by : (b : Bool) → (first_too_many xs ≡ None → first_too_many (xs ++ ys) ≡ first_too_many ys) → option_map (λ m. path m.at) (cond b (Some x) (find is_too_many xs)) ≡ None → option_map (λ m. path m.at) (cond b (Some x) (find is_too_many (xs ++ ys))) ≡ first_too_many ys
    by true rest e = absurd (cc e)
    by false rest e = rest e

pub refuses-front : (refusal : BlockRefusal) (xs ys : List Measure) → Refuses refusal xs → Refuses refusal (xs ++ ys)
refuses-front (TooLong p) xs ys h = too_many-front xs ys p h
refuses-front (Shape p) xs ys h = h
refuses-front NoMemory xs ys h = tt

pub refuses-same : (refusal : BlockRefusal) (xs ys : List Measure) → first_too_many xs ≡ first_too_many ys → Refuses refusal xs → Refuses refusal ys
refuses-same (TooLong p) xs ys same h = sym same ∙ h
refuses-same (Shape p) xs ys same h = h
refuses-same NoMemory xs ys same h = tt

pub refuses-behind : (refusal : BlockRefusal) (xs ys : List Measure) → first_too_many xs ≡ None → Refuses refusal ys → Refuses refusal (xs ++ ys)
refuses-behind refusal xs ys none h = refuses-same refusal ys (xs ++ ys) (sym (too_many-behind xs ys none)) h

-- a part that is refused, among parts of which those before have none
pub refuses-part : (refusal : BlockRefusal) (xs ys whole : List Measure) → first_too_many (xs ++ ys) ≡ first_too_many whole → Refuses refusal xs → Refuses refusal whole
refuses-part refusal xs ys whole same h = refuses-same refusal (xs ++ ys) whole same (refuses-front refusal xs ys h)

-- what is left behind a part that has none
pub too_many-rest : (xs ys whole : List Measure) → first_too_many (xs ++ ys) ≡ first_too_many whole → first_too_many xs ≡ None → first_too_many ys ≡ first_too_many whole
too_many-rest xs ys whole same none = sym (too_many-behind xs ys none) ∙ same

-- where two parts have none, both together have none
pub too_many-both : (xs ys : List Measure) → first_too_many xs ≡ None → first_too_many ys ≡ None → first_too_many (xs ++ ys) ≡ None
too_many-both xs ys none other = too_many-behind xs ys none ∙ other

-- Blocks, each with what tells it

module _ (at : List (List ℕ)) (ids : List (List ℕ)) (lists : List Bool) (n : ℕ) (id : List ℕ) (is_list : Bool) (b : Block) (bs : List Block) (whole : List Measure)
    (ids_go : drop n ids ≡ id ∷ drop (n + 1) ids) (lists_go : drop n lists ≡ is_list ∷ drop (n + 1) lists)
    (same : first_too_many (flat_map (block_measures at) (zip (origins (drop n ids) (drop n lists)) (b ∷ bs))) ≡ first_too_many whole) where
  apart : first_too_many (measured_block is_list (id ∷ at) b ++ flat_map (block_measures at) (zip (origins (drop (n + 1) ids) (drop (n + 1) lists)) bs)) ≡ first_too_many whole
  apart = sym (ap (λ (p : List (List ℕ) × List Bool). first_too_many (flat_map (block_measures at) (zip (origins p.0 p.1) (b ∷ bs)))) (λ i. (ids_go i, lists_go i))) ∙ same

  -- what is left behind a block that has none
  pub too_many-row : first_too_many (measured_block is_list (id ∷ at) b) ≡ None → first_too_many (flat_map (block_measures at) (zip (origins (drop (n + 1) ids) (drop (n + 1) lists)) bs)) ≡ first_too_many whole
  too_many-row = too_many-rest (measured_block is_list (id ∷ at) b) _ whole apart

  -- a block that is refused
  pub refuses-row : (refusal : BlockRefusal) → Refuses refusal (measured_block is_list (id ∷ at) b) → Refuses refusal whole
  refuses-row refusal = refuses-part refusal (measured_block is_list (id ∷ at) b) _ whole apart

-- a block more, in a list that is read so far and a list that is left
pub next_row : {A B : Type 0} (view : A → B) (short new rest_whole : List B) (b : B) (a : A) (xs rest : List A)
    → new ≡ short ++ b ∷ [] → b ≡ view a → xs ≡ a ∷ rest → short ++ map view xs ≡ rest_whole → new ++ map view rest ≡ rest_whole
next_row view short new rest_whole b a xs rest pushed shown steps same =
    ap (λ l. l ++ map view rest) pushed ∙ append_assoc short (b ∷ []) (map view rest)
    ∙ ap (λ x. short ++ x ∷ map view rest) shown ∙ ap (λ l. short ++ map view l) (sym steps) ∙ same
