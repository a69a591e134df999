-- A question that was answered.
use Rattle.std.proofs.Common.{◌≡◌, ℕ, List, [], ◌∷◌, drop, Some, refl, sym, ap, ◌∙◌}
use Rattle.std.specs.Prelude.{slice_get}
use Rattle.rand_core.specs.Stream.{Stream}
use Rattle.machine_spec.specs.declared.devices.Question.{Question}
use Rattle.machine_spec.specs.Line.{answered, with_answer}
use Rattle.machine_spec.specs.Outcome.{Goes, then_do}
use Rattle.machine_spec.specs.Stopping.{with_scene, first_taken}
use Rattle.machine_spec.specs.Stores.{Devices}
use Rattle.machine_spec.specs.Tasks.{resumed}
use Rattle.speech_bubbles.specs.Scenes.{scene_in}
use Rattle.project_check.specs.declared.project.Project.{Project}
use Rattle.executions.specs.declared.state.State.{State}
use Rattle.executions.specs.Seen.{seen}
use Rattle.frames.specs.Questions.{question_ended}

module _ {R : Type 0} (stream : R → Stream) (p : Project) (w : State R) where
  module _ (text : List ℕ) (devices : Devices) (devices_is : devices ≡ record w.devices { answer = text; questions = drop 1 w.devices.questions }) where
    some_by : (q : Question) (qs : List Question) → w.devices.questions ≡ qs → Some q ≡ slice_get qs 0 → answered qs (with_answer text (seen stream p w)) ≡ question_ended q (seen stream p (record w { devices = devices }))
    some_by q [] e h = absurd (cc h)
    some_by q (x ∷ qs) e h =
        let same : x ≡ q = cc h in
        let rest : record w.devices { answer = text; questions = qs } ≡ devices = ap (λ l. record w.devices { answer = text; questions = drop 1 l }) (sym e) ∙ sym devices_is in
        ap (λ d. then_do (first_taken x.bubble x.of (scene_in w.targets d)) (λ s. Goes (resumed x.thread (with_scene (seen stream p w) s)))) rest
        ∙ ap (λ y. question_ended y (seen stream p (record w { devices = devices }))) same

    module _ (q : Question) (h : Some q ≡ slice_get w.devices.questions 0) where
      pub some_asked : answered w.devices.questions (with_answer text (seen stream p w)) ≡ question_ended q (seen stream p (record w { devices = devices }))
      some_asked = some_by q w.devices.questions refl h
