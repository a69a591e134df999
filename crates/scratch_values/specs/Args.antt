-- The arguments that some inputs and the fields of a block make.
use Rattle.std.specs.Prelude.{ℕ, List, map, option_map}
use Rattle.std.specs.List.{filter_map}
use Rattle.scratch_values.specs.declared.value.Value.{Value}
use Rattle.scratch_values.specs.declared.names.VarRef.{VarRef}
use Rattle.scratch_values.specs.declared.names.ResolvedField.{ResolvedField}
use Rattle.scratch_values.specs.Named.{Arguments}

-- each field's name and text
abbrev pub field_texts : List ResolvedField → List (List ℕ × List ℕ)
field_texts fields = map (λ f. (f.name, f.text)) fields

-- the name and the variable or list of each field that leads to one
abbrev pub field_variables : List ResolvedField → List (List ℕ × VarRef)
field_variables fields = filter_map (λ f. option_map (λ v. (f.name, v)) f.variable) fields

-- the arguments of these inputs and fields
abbrev pub arguments : List (List ℕ × Value) → List ResolvedField → Arguments
arguments inputs fields = record { values = inputs; fields = field_texts fields; variables = field_variables fields }
