-- The misfits that a block leads to, one link after another.
use Rattle.std.proofs.Common.{◌≡◌, ℕ, List, [], ◌∷◌, ◌++◌, Option, None, Some, refl, ap, ◌∙◌}
use Rattle.std.specs.Prelude.{flat_map}
use Rattle.std.proofs.lemmas.List.{append-nil}
use Rattle.std.proofs.lemmas.List.Concat.{flat_map-append}
use Rattle.project_spec.specs.declared.blocks.Link.{Link}
use Rattle.project_spec.specs.declared.blocks.Link.TheVariants.{To, Unknown}
use Rattle.project_spec.specs.declared.blocks.Input.{Input}
use Rattle.project_spec.specs.declared.blocks.Input.TheVariants as input
use Rattle.project_spec.specs.declared.blocks.Block.{Block}
use Rattle.project_spec.specs.Linked.{Place, Behind, In, next_link, input_link, input_links, known_block, misfit, misfits}
use Rattle.block_checks.specs.Rows.{known, link_in}
use Rattle.block_checks.specs.Marks.{misfits_by, misfits_in}

-- misfits

pub misfits_more : (blocks : List Block) (b : Block) (name : List ℕ) (i : Input) (xs : List (List ℕ × Input)) → misfits_in blocks b ((name, i) ∷ xs) ≡ misfits_by blocks b (In name) (known (link_in i)) ++ misfits_in blocks b xs
misfits_more blocks b name (input.Literal v) xs = refl
misfits_more blocks b name (input.Reporter (To k)) xs = refl
misfits_more blocks b name (input.Reporter (Unknown id)) xs = refl
misfits_more blocks b name (input.Variable v) xs = refl
misfits_more blocks b name (input.List v) xs = refl
misfits_more blocks b name input.Absent xs = refl

misfits_append : (blocks : List Block) (b : Block) (xs ys : List (List ℕ × Input)) → misfits_in blocks b (xs ++ ys) ≡ misfits_in blocks b xs ++ misfits_in blocks b ys
misfits_append blocks b xs ys =
    ap (λ l. flat_map (misfit blocks b) (flat_map known_block l)) (flat_map-append input_link xs ys)
    ∙ ap (flat_map (misfit blocks b)) (flat_map-append known_block (flat_map input_link xs) (flat_map input_link ys))
    ∙ flat_map-append (misfit blocks b) (flat_map known_block (flat_map input_link xs)) (flat_map known_block (flat_map input_link ys))

pub misfits_push : (blocks : List Block) (b : Block) (xs : List (List ℕ × Input)) (name : List ℕ) (i : Input) → misfits_in blocks b (xs ++ (name, i) ∷ []) ≡ misfits_in blocks b xs ++ misfits_by blocks b (In name) (known (link_in i))
misfits_push blocks b xs name i =
    misfits_append blocks b xs ((name, i) ∷ [])
    ∙ ap (λ l. misfits_in blocks b xs ++ l) (misfits_more blocks b name i [] ∙ append-nil (misfits_by blocks b (In name) (known (link_in i))))

misfits_next : (blocks : List Block) (b : Block) (n : Option Link) (xs : List (Place × Link)) → flat_map (misfit blocks b) (flat_map known_block (next_link n ++ xs)) ≡ misfits_by blocks b Behind (known n) ++ flat_map (misfit blocks b) (flat_map known_block xs)
misfits_next blocks b None xs = refl
misfits_next blocks b (Some (To k)) xs = refl
misfits_next blocks b (Some (Unknown id)) xs = refl

pub misfits_are : (blocks : List Block) (b : Block) → misfits blocks b ≡ misfits_by blocks b Behind (known b.next) ++ misfits_in blocks b b.inputs
misfits_are blocks b = misfits_next blocks b b.next (input_links b)
