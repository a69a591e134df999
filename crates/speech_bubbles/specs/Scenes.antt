-- The instances and the devices of a run together.
use Rattle.std.specs.Prelude.{ℕ, List, [], ◌∷◌, Option, None, Some, if◌then◌else◌}
use Rattle.machine_spec.specs.declared.instance.Instance.{Instance}
use Rattle.machine_spec.specs.declared.devices.Question.{Question}
use Rattle.machine_spec.specs.Stores.{Devices}
use Rattle.machine_spec.specs.Parts.{Scene}
use Rattle.machine_spec.specs.BubbleText.{cut}
use Rattle.speech_bubbles.specs.declared.questions.Shown.{Shown}

abbrev pub scene_in : List Instance → Devices → Scene
scene_in targets devices = record { targets = targets; devices = devices }

-- the bubble of the first question, where it is shown as one; a private function alone cites it
abbrev pub first_shown : List Question → Option Shown
first_shown [] = None
first_shown (q ∷ qs) = if q.bubble then Some (record { of = q.of; text = cut q.text }) else None
