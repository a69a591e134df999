-- The names of the rules of which a saved run breaks the first. docs/refusals.md tells them.
use Rattle.std.specs.Prelude.{ℕ, List, codes, Option, None, Some}
use Rattle.saved_spec.specs.declared.refusals.SaveRefusal.{SaveRefusal}
use Rattle.saved_spec.specs.declared.refusals.SaveRefusal.TheVariants as refusal

-- the rule that is broken; want of memory breaks none
abbrev pub saved_rule : SaveRefusal → Option (List ℕ)
saved_rule refusal.Json = Some (codes "S1")
saved_rule (refusal.Shape path) = Some (codes "S2")
saved_rule (refusal.Version n) = Some (codes "S3")
saved_rule (refusal.OtherProject kept given) = Some (codes "S4")
saved_rule (refusal.BadReference path) = Some (codes "S5")
saved_rule (refusal.BadThread serial) = Some (codes "S6")
saved_rule (refusal.Spelling at) = Some (codes "S7")
saved_rule refusal.NoMemory = None
