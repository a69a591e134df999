-- The monitors of a saved run that blocks added (docs/formats.md, section 5).
use Rattle.std.specs.Prelude.{◌∷◌, [], codes, Bool}
use Rattle.serde_json.specs.Data.{Data, boolean, string}
use Rattle.machine_spec.specs.declared.variables.Made.{Made}
use Rattle.machine_spec.specs.declared.variables.Shown.{Shown}
use Rattle.machine_spec.specs.declared.variables.Shown.TheVariants.{Variable, List as Items}
use Rattle.saved_spec.specs.Rows.{whole, row}

abbrev pub shown : Shown → Bool → Data
shown (Variable target index) visible = row (string (codes "variable") ∷ whole target ∷ whole index ∷ boolean visible ∷ [])
shown (Items target index) visible = row (string (codes "list") ∷ whole target ∷ whole index ∷ boolean visible ∷ [])

-- the variable or list that it shows, and whether it is visible
abbrev pub made : Made → Data
made m = shown m.what m.visible
