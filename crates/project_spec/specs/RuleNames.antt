-- The names of the rules of which a project breaks the first. docs/refusals.md has an example of each.
use Rattle.std.specs.Prelude.{ℕ, List, codes, Option, None, Some}
use Rattle.project_json.specs.declared.refusal.JsonRefusal.TheVariants as json_refusal
use Rattle.project_spec.specs.declared.refusals.MutationRefusal.TheVariants as mutation_refusal
use Rattle.project_spec.specs.declared.refusals.Refusal.{Refusal}
use Rattle.project_spec.specs.declared.refusals.Refusal.TheVariants as refusal

-- the rule that is broken; want of memory breaks none
abbrev pub project_rule : Refusal → Option (List ℕ)
project_rule (refusal.Json (json_refusal.NotUtf8 at)) = Some (codes "P1")
project_rule (refusal.Json (json_refusal.Syntax at)) = Some (codes "P1")
project_rule (refusal.Json (json_refusal.TooDeep at)) = Some (codes "P1")
project_rule (refusal.Json json_refusal.NoMemory) = None
project_rule (refusal.Shape path) = Some (codes "P2")
project_rule (refusal.StageCount n) = Some (codes "P3")
project_rule (refusal.TooMany path) = Some (codes "P4")
project_rule (refusal.Mutation at mutation_refusal.Missing) = Some (codes "P11")
project_rule (refusal.Mutation at mutation_refusal.BadText) = Some (codes "P11")
project_rule (refusal.Mutation at mutation_refusal.LengthsDiffer) = Some (codes "P11")
project_rule (refusal.Mutation at mutation_refusal.NoMemory) = None
project_rule (refusal.Dangling at to) = Some (codes "P6")
project_rule (refusal.Cyclic at) = Some (codes "P7")
project_rule (refusal.Opcode at name) = Some (codes "P5")
project_rule (refusal.MissingInput at input) = Some (codes "P8")
project_rule (refusal.Field at field) = Some (codes "P9")
project_rule (refusal.TooDeep at) = Some (codes "P10")
project_rule refusal.NoMemory = None
