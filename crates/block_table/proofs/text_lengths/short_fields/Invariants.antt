use Rattle.std.proofs.Common.{◌≡◌, drop, flat_map}
use Rattle.project_spec.specs.Limits.{first_too_many}
use Rattle.block_table.specs.Measured.{field_measures}
use Rattle.block_table.proofs.text_lengths.short_fields.Given as goal

-- none so far is too long
abbrev pub invariant-loop-field : goal.invariant-loop-field
invariant-loop-field l =
    first_too_many (flat_map (field_measures l.is_list l.place) (drop l.field-index l.fn.fields)) ≡ first_too_many (flat_map (field_measures l.is_list l.place) l.fn.fields)
