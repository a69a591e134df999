-- The parts of a run that a block of looks may change, and what a row leaves; private functions alone cite the latter.
use Rattle.std.specs.Prelude.{List, Bool}
use Rattle.rand_core.specs.Stream.{Stream}
use Rattle.script_words.specs.declared.counter.Counted.{Counted}
use Rattle.speech_bubbles.specs.Scenes.{scene_in}
use Rattle.machine_spec.specs.declared.instance.Instance.{Instance}
use Rattle.machine_spec.specs.declared.threads.Context.{Context}
use Rattle.machine_spec.specs.declared.threads.Control.{Control}
use Rattle.machine_spec.specs.Words.{Words, seen_words}
use Rattle.machine_spec.specs.Parts.{LooksParts}
use Rattle.machine_spec.specs.Stores.{Devices}
use Rattle.machine_spec.specs.View.{Row}

-- the parts of the world that a block of looks may change, as the code holds them
abbrev pub parts_of : {R : Type 0} → (R → Stream) → List Instance → Devices → Counted R → LooksParts
parts_of stream targets devices words = record { scene = scene_in targets devices; words = seen_words stream words }

-- the same, the words as the machine sees them
abbrev pub parts : List Instance → Devices → Words → LooksParts
parts targets devices words = record { scene = scene_in targets devices; words = words }

-- these parts are left, with what is kept and what the thread does
abbrev pub leaves : LooksParts → Context → Control → Bool → Row LooksParts
leaves p context control redraw = record { parts = p; context = context; control = control; redraw = redraw }
