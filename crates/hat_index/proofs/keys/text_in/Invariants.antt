use Rattle.std.proofs.Common.{◌≡◌, drop, map}
use Rattle.scratch_values.specs.Named.{item_named}
use Rattle.hat_index.proofs.keys.text_in.Given as goal

-- the field is sought among those that are left
abbrev pub invariant-loop-field : goal.invariant-loop-field
invariant-loop-field l = item_named l.name (map (λ f. (f.0, f.1.name)) (drop l.field-index l.fields)) ≡ item_named l.name (map (λ f. (f.0, f.1.name)) l.fields)
