use Rattle.std.proofs.Common.{ap, sym, ◌∙◌}
use Rattle.project_json.proofs.TextTrees.{text-tree_of}
use Rattle.project_spec.specs.Mutation.{or_refuse}
use Rattle.project_spec.specs.declared.refusals.MutationRefusal.TheVariants.{BadText}
use Rattle.mutations.proofs.Documents.{refused}
use Rattle.mutations.proofs.parts.document.Goals as goal

pub returns-in-Ok : goal.returns-in-Ok
returns-in-Ok c = rw (sym c.as_str.ensures ∙ sym c.as_bytes.ensures.value) (ap (or_refuse BadText) (text-tree_of _ _ c.in-Ok.ensures.found))

pub returns-in-Err : goal.returns-in-Err
returns-in-Err c = rw c.refusal_of.ensures (rw (sym c.as_str.ensures ∙ sym c.as_bytes.ensures.value) (refused _ _ c.in-Err.ensures.only))
