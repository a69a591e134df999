-- What is said of a file.
use Rattle.std.proofs.Common.{ℕ, List, Err, subst}
use Rattle.std.specs.Prelude.{IsSome}
use Rattle.project_json.specs.Refusal.{IsFault}
use Rattle.project_json.specs.Text.{IsText, max_depth}
use Rattle.project_json.specs.Tree.{Tree}
use Rattle.project_json.specs.declared.refusal.JsonRefusal.{JsonRefusal}
use Rattle.project_json.proofs.Results.{text_no_fault}
use Rattle.project_spec.specs.declared.refusals.Refusal.{Refusal}
use Rattle.project_spec.specs.declared.refusals.Refusal.TheVariants as refusal
use Rattle.project_spec.specs.Refusals.{IsRefusal}
use Rattle.project_check.specs.Loaded.{Loads, IsLoaded as IsLoadedProject, tables_of}
use Rattle.project_check.specs.declared.project.Project.{Project}
use Rattle.project_spec.specs.RuleNames.{project_rule}
use Rattle.report_command.specs.Counts.{AreCounts}
use Rattle.report_command.specs.Verdict.{IsCounted}
use Rattle.report_command.specs.declared.counts.Counts.{Counts}

-- a refusal of the loader that is no want of memory
pub cause : (bytes : List ℕ) (r : Refusal) → Loads bytes (Err r) → IsSome (project_rule r) → IsRefusal bytes r
cause bytes (refusal.Json f) h k = h
cause bytes (refusal.Shape path) h k = h
cause bytes (refusal.StageCount n) h k = h
cause bytes (refusal.TooMany path) h k = h
cause bytes (refusal.Mutation at why) h k = h
cause bytes (refusal.Dangling at to) h k = h
cause bytes (refusal.Cyclic at) h k = h
cause bytes (refusal.Opcode at name) h k = h
cause bytes (refusal.MissingInput at input) h k = h
cause bytes (refusal.Field at field) h k = h
cause bytes (refusal.TooDeep at) h k = h
cause bytes refusal.NoMemory h k = cc k

-- what an accepted project has is what its file has
pub counted : (bytes : List ℕ) (p : Project) (c : Counts) → IsLoadedProject bytes p → AreCounts (tables_of p) c → IsCounted bytes c
counted bytes p c is counts = (is.file, is.accepted, subst (λ tables. AreCounts tables c) is.tables counts)

-- bytes with a fault are no JSON text
pub no_text : (bytes : List ℕ) (r : JsonRefusal) → IsFault max_depth bytes r → (t : Tree) → IsText max_depth bytes t → ⊥
no_text bytes r f t h = text_no_fault max_depth bytes t r h f
