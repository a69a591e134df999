-- Why a project is refused, and what to change, in one sentence each. docs/refusals.md has an example of each rule.
use Rattle.std.specs.Prelude.{ℕ, List, [], codes, Option, None, Some}
use Rattle.opcode_table.specs.declared.opcode.Opcode.{Opcode}
use Rattle.opcode_table.specs.Table.{of_name}
use Rattle.project_json.specs.declared.refusal.JsonRefusal.TheVariants as json_refusal
use Rattle.project_spec.specs.declared.refusals.MutationRefusal.TheVariants as mutation_refusal
use Rattle.project_spec.specs.declared.refusals.Refusal.{Refusal}
use Rattle.project_spec.specs.declared.refusals.Refusal.TheVariants as refusal

-- a block of a script that is not known, or stands in a wrong place

abbrev pub why_misfit : Option Opcode → List ℕ
why_misfit None = codes "The player does not know the block."
why_misfit (Some op) = codes "The block does not fit its place."

abbrev pub change_misfit : Option Opcode → List ℕ
change_misfit None = codes "Take the block out of the script; where it lies loose it does no harm."
change_misfit (Some op) = codes "Take the block away, and put it where it belongs."

-- why
abbrev pub why : Refusal → List ℕ
why (refusal.Json (json_refusal.NotUtf8 at)) = codes "From that byte on the file is no UTF-8."
why (refusal.Json (json_refusal.Syntax at)) = codes "From that byte on the file is no JSON text."
why (refusal.Json (json_refusal.TooDeep at)) = codes "The bracket at that byte opens a nesting of more than 256."
why (refusal.Json json_refusal.NoMemory) = []
why (refusal.Shape path) = codes "The value at that path has not the shape that a project file has there."
why (refusal.StageCount n) = codes "A project has exactly one stage."
why (refusal.TooMany path) = codes "A number or a length at that path is above its limit."
why (refusal.Mutation at mutation_refusal.Missing) = codes "The own block lacks its mutation or a text in it."
why (refusal.Mutation at mutation_refusal.BadText) = codes "A text in the mutation of the own block is not of its kind."
why (refusal.Mutation at mutation_refusal.LengthsDiffer) = codes "The mutation of the own block has not as many names and defaults as inputs."
why (refusal.Mutation at mutation_refusal.NoMemory) = []
why (refusal.Dangling at to) = codes "The block leads to an id that no block there has."
why (refusal.Cyclic at) = codes "The links from the block lead back to it."
why (refusal.Opcode at name) = why_misfit (of_name name)
why (refusal.MissingInput at input) = codes "The block needs that input, and it is empty."
why (refusal.Field at field) = codes "The block lacks that field, or has an entry in it that the player does not know."
why (refusal.TooDeep at) = codes "More than 256 blocks that give values nest in each other from there."
why refusal.NoMemory = []

-- what to change
abbrev pub change : Refusal → List ℕ
change (refusal.Json (json_refusal.NotUtf8 at)) = codes "Take project.json out of the archive, or save the file as UTF-8."
change (refusal.Json (json_refusal.Syntax at)) = codes "Take project.json out of the archive again, or mend the text at that byte."
change (refusal.Json (json_refusal.TooDeep at)) = codes "Remove what nests so deep."
change (refusal.Json json_refusal.NoMemory) = []
change (refusal.Shape path) = codes "Save the project anew in the editor, or write that value as the editor writes it."
change (refusal.StageCount n) = codes "Let exactly one target have isStage true, as a rule the first."
change (refusal.TooMany path) = codes "Make what stands at that path shorter."
change (refusal.Mutation at mutation_refusal.Missing) = codes "Make the own block and its calls anew in the editor."
change (refusal.Mutation at mutation_refusal.BadText) = codes "Make the own block and its calls anew in the editor."
change (refusal.Mutation at mutation_refusal.LengthsDiffer) = codes "Make the own block and its calls anew in the editor."
change (refusal.Mutation at mutation_refusal.NoMemory) = []
change (refusal.Dangling at to) = codes "Take away what stands below the block and in it, and put it there again."
change (refusal.Cyclic at) = codes "Cut the link, and build the loop by a forever or a repeat."
change (refusal.Opcode at name) = change_misfit (of_name name)
change (refusal.MissingInput at input) = codes "Write a value into that input."
change (refusal.Field at field) = codes "Choose another entry in that field, or another block."
change (refusal.TooDeep at) = codes "Cut the expression in two, and keep one half in a variable."
change refusal.NoMemory = []
