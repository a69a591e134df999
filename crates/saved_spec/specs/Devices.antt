-- Keys, questions and bubble timers of a saved run (docs/formats.md, section 5).
use Rattle.std.specs.Prelude.{◌∷◌, []}
use Rattle.serde_json.specs.Data.{Data, boolean, string}
use Rattle.machine_spec.specs.Line.{key_name}
use Rattle.machine_spec.specs.declared.devices.Key.{Key}
use Rattle.machine_spec.specs.declared.devices.Question.{Question}
use Rattle.machine_spec.specs.declared.devices.BubbleTimer.{BubbleTimer}
use Rattle.machine_spec.specs.Stores.{Devices}
use Rattle.saved_spec.specs.Rows.{whole, signed, row}
use Rattle.saved_spec.specs.Values.{num}

abbrev pub key : Key → Data
key k = string (key_name k)

abbrev pub question : Question → Data
question q = row (whole q.of ∷ whole q.thread ∷ string q.text ∷ boolean q.bubble ∷ [])

abbrev pub timer : BubbleTimer → Data
timer t = row (num t.due ∷ whole t.of ∷ whole t.thread ∷ whole t.usage ∷ [])

abbrev pub mouse : Devices → Data
mouse d = row (signed d.mouse_x ∷ signed d.mouse_y ∷ boolean d.button ∷ [])
