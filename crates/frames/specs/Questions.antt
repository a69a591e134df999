-- What follows where the first question was taken away; private functions alone cite it.
use Rattle.machine_spec.specs.declared.devices.Question.{Question}
use Rattle.machine_spec.specs.Outcome.{Outcome, Goes, then_do}
use Rattle.machine_spec.specs.Stopping.{scene_of, with_scene, first_taken}
use Rattle.machine_spec.specs.Tasks.{Task, resumed}
use Rattle.machine_spec.specs.World.{World}

-- its bubble is emptied where it was shown as one, the next question is shown, and its thread is resumed
abbrev pub question_ended : Question → World Task → Outcome (World Task)
question_ended q w = then_do (first_taken q.bubble q.of (scene_of w)) (λ s. Goes (resumed q.thread (with_scene w s)))
