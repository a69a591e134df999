use Rattle.std.proofs.Common.{◌≡◌, drop, map}
use Rattle.project_json.specs.Parts.{text_in}
use Rattle.project_json.specs.View.{tree}
use Rattle.project_spec.specs.Mutation.{all_some}
use Rattle.mutations.proofs.Joined.{joined}
use Rattle.mutations.proofs.parts.item_texts.Given as goal

-- the texts so far, and those that are left
abbrev pub invariant-loop-item : goal.invariant-loop-item
invariant-loop-item l = joined l.texts (all_some (map text_in (map tree (drop l.item-index l.items)))) ≡ all_some (map text_in (map tree l.items))
