-- Worked rows, computed by the definitions.
use Rattle.std.specs.Prelude.{◌≡◌, ℕ, List, [], ◌∷◌, true, false, Ok, Err, Some, codes, refl}
use Rattle.project_json.specs.Tree.{null, number, text}
use Rattle.scratch_values.specs.declared.value.Value.TheVariants.{Number}
use Rattle.scratch_values.specs.declared.names.VarRef.TheVariants.{Own, Stage}
use Rattle.scratch_values.specs.declared.names.VarName.{VarName}
use Rattle.scratch_values.specs.Casts.{zero_number}
use Rattle.project_spec.specs.declared.refusals.MutationRefusal.TheVariants.{BadText}
use Rattle.project_spec.specs.Values.{value, field_text}
use Rattle.project_spec.specs.Mutation.{warp_of}
use Rattle.project_spec.specs.Blocks.{blocks_of}
use Rattle.project_spec.specs.Linked.{is_branch}
use Rattle.project_spec.specs.Resolving.{found_in}

-- null is the number 0 as a value, and the empty text as a field

row-null_value : value [] null ≡ Ok (Number zero_number)
row-null_value = refl

row-null_field : field_text [] null ≡ Ok []
row-null_field = refl

-- the warp of a prototype

row-warp_text : warp_of (Some (text (codes "true"))) ≡ Ok true
row-warp_text = refl

row-warp_null : warp_of (Some (text (codes "null"))) ≡ Ok false
row-warp_null = refl

row-warp_number : warp_of (Some (number (codes "1"))) ≡ Err BadText
row-warp_number = refl

-- a block is an object or a list: the path tells its place

row-path : blocks_of (codes "blocks" ∷ []) ((codes "a", number (codes "11")) ∷ []) ≡ Err (codes "blocks/a")
row-path = refl

row-branch : is_branch (codes "SUBSTACK2") ≡ true
row-branch = refl

-- by id in the stage counts before by name in the own target

a-name : List ℕ → List ℕ → VarName
a-name name id = record { name = name; id = Some id }

row-id_before_name : found_in (a-name (codes "n") (codes "1") ∷ []) (a-name (codes "m") (codes "2") ∷ []) (a-name (codes "n") (codes "2")) ≡ Some (Stage 0)
unfolding a-name
row-id_before_name = refl

row-name : found_in (a-name (codes "n") (codes "1") ∷ []) (a-name (codes "m") (codes "2") ∷ []) (a-name (codes "n") (codes "3")) ≡ Some (Own 0)
unfolding a-name
row-name = refl
