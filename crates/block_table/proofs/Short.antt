-- The texts of fields are short where nothing that is measured of blocks is too much.
use Rattle.std.proofs.Common.{◌≡◌, ℕ, suc, ◌≤◌, arith, Bool, true, false, cond, List, [], ◌∷◌, ◌++◌, length, flat_map, find, None, Some, option_map, refl, sym, ◌∙◌, ap, codes}
use Rattle.std.specs.List.{All, zip}
use Rattle.std.proofs.lemmas.Bool.{ltb-false}
use Rattle.std.proofs.lemmas.List.Elements.{All-cons}
use Rattle.scratch_values.specs.Longest.{longest}
use Rattle.scratch_values.specs.declared.names.VarName.{VarName}
use Rattle.json_shapes.specs.Places.{path}
use Rattle.project_spec.specs.declared.blocks.Block.{Block}
use Rattle.project_spec.specs.Reading.{Origin}
use Rattle.project_spec.specs.Limits.{Measure, measure, is_too_many, first_too_many, field_place, input_measures, default_measures, block_measures, table_measures}
use Rattle.block_table.specs.Short.{AreShort, HaveShortFields}

module _ (ys : List Measure) where
  -- where nothing is too much, nothing is in a part
  pub none-front : (xs : List Measure) → first_too_many (xs ++ ys) ≡ None → first_too_many xs ≡ None
  none-front [] e = refl
  none-front (x ∷ xs) e = by (is_too_many x) (none-front xs) e
    where
      by : (b : Bool) → (first_too_many (xs ++ ys) ≡ None → first_too_many xs ≡ None) → option_map (λ m. path m.at) (cond b (Some x) (find is_too_many (xs ++ ys))) ≡ None → option_map (λ m. path m.at) (cond b (Some x) (find is_too_many xs)) ≡ None
      by true rest h = absurd (cc h)
      by false rest h = rest h

  pub none-behind : (xs : List Measure) → first_too_many (xs ++ ys) ≡ None → first_too_many ys ≡ None
  none-behind [] e = e
  none-behind (x ∷ xs) e = by (is_too_many x) (none-behind xs) e
    where
      by : (b : Bool) → (first_too_many (xs ++ ys) ≡ None → first_too_many ys ≡ None) → option_map (λ m. path m.at) (cond b (Some x) (find is_too_many (xs ++ ys))) ≡ None → first_too_many ys ≡ None
      by true rest h = absurd (cc h)
      by false rest h = rest h

one-short : (at : List (List ℕ)) (n : ℕ) → first_too_many (measure at n longest ∷ []) ≡ None → n ≤ longest
one-short at n e = by (is_too_many (measure at n longest)) refl e
  where
    by : (b : Bool) → is_too_many (measure at n longest) ≡ b → option_map (λ m. path m.at) (cond b (Some (measure at n longest)) None) ≡ None → n ≤ longest
    by true is h = absurd (cc h)
    by false is h = ltb-false longest n is

short-fields : (is_list : Bool) (at : List (List ℕ)) (fs : List (List ℕ × VarName)) → first_too_many (flat_map (λ f. measure (field_place is_list f.0 at) (length f.1.name) longest ∷ []) fs) ≡ None → AreShort fs
short-fields is_list at [] e = λ k d l. absurd (omega (arith, l))
short-fields is_list at (f ∷ fs) e =
    let rest = flat_map (λ (g : List ℕ × VarName). measure (field_place is_list g.0 at) (length g.1.name) longest ∷ []) fs in
    let here = measure (field_place is_list f.0 at) (length f.1.name) longest ∷ [] in
    All-cons (λ (g : List ℕ × VarName). length g.1.name ≤ longest) f fs (one-short _ _ (none-front rest here e)) (short-fields is_list at fs (none-behind rest here e))

short-block : (at : List (List ℕ)) (o : Origin) (b : Block) → first_too_many (block_measures at (o, b)) ≡ None → AreShort b.fields
short-block at o b e =
    let here = o.id ∷ at in
    let inputs = flat_map (input_measures (codes "inputs" ∷ here)) b.inputs in
    let fields = flat_map (λ (f : List ℕ × VarName). measure (field_place o.is_list f.0 here) (length f.1.name) longest ∷ []) b.fields in
    let defaults = default_measures here b.mutation in
    short-fields o.is_list here b.fields (none-front defaults fields (none-behind (fields ++ defaults) inputs e))

pub short_blocks : (at : List (List ℕ)) (os : List Origin) (bs : List Block) → length bs ≡ length os → first_too_many (flat_map (block_measures at) (zip os bs)) ≡ None → HaveShortFields bs
short_blocks at [] [] same e = λ k d l. absurd (omega (arith, l))
short_blocks at [] (b ∷ bs) same e = absurd (omega (arith, same))
short_blocks at (o ∷ os) [] same e = λ k d l. absurd (omega (arith, l))
short_blocks at (o ∷ os) (b ∷ bs) same e =
    let rest = flat_map (block_measures at) (zip os bs) in
    let here = block_measures at (o, b) in
    All-cons (λ (c : Block). AreShort c.fields) b bs (short-block at o b (none-front rest here e)) (short_blocks at os bs (omega (arith, same)) (none-behind rest here e))
