-- Updates of bubbles keep the instances of a scene legal.
use Rattle.std.proofs.Common.{ℕ, ◌+◌, Bool, true, false, if◌then◌else◌, List, [], ◌∷◌, is_some, refl, arith}
use Rattle.script_words.specs.declared.stops.CounterKind.TheVariants as counter
use Rattle.machine_spec.specs.declared.bubble.Say.{Say}
use Rattle.machine_spec.specs.declared.bubble.Say.TheVariants as say
use Rattle.machine_spec.specs.declared.devices.Question.{Question}
use Rattle.machine_spec.specs.BubbleText.{cut, IsShort}
use Rattle.machine_spec.specs.ControlRows.{question_shown}
use Rattle.machine_spec.specs.Outcome.{Goes, IfGoes, with_number}
use Rattle.machine_spec.specs.Parts.{Scene, bubble_set, bubble_updated}
use Rattle.machine_spec.specs.Program.{Program}
use Rattle.machine_spec.specs.Stopping.{bubble_emptied, first_taken, is_first_of, without_questions, questions_dropped}
use Rattle.machine_spec.specs.Stores.{live, instance_at}
use Rattle.laws_of_threads.proofs.Calm.{number_goes}
use Rattle.laws_of_threads.proofs.RowFits.{goes_then}
use Rattle.laws_of_instances.proofs.Casts.{IsCast, cast_later, cast_changed}
use Rattle.laws_of_instances.proofs.Looks.{said, none_short, cut_short}

module _ (p : Program) where
  -- the instances of a scene
  abbrev pub IsSceneCast : Scene → Type 0
  IsSceneCast s = IsCast p s.devices.usage s.targets

  pub set_cast : (n : ℕ) (kind : Say) (text : List ℕ) (s : Scene) → IsShort text → IsSceneCast s → IsSceneCast (bubble_set n kind text s)
  set_cast n kind text s short h =
      cast_changed p (s.devices.usage + 1) n (λ i. record i { bubble = record { kind = kind; text = text; usage = s.devices.usage } }) s.targets (λ i. record { number = refl; of = refl })
      (λ i e g. said p (s.devices.usage + 1) i g (record { kind = kind; text = text; usage = s.devices.usage }) (omega arith) short)
      (cast_later p s.devices.usage (s.devices.usage + 1) s.targets (omega arith) h)

  updated_by : (c : Bool) (n : ℕ) (kind : Say) (text : List ℕ) (s : Scene) → IsShort text → IsSceneCast s → IfGoes (if c then with_number counter.Bubble s.devices.usage (Goes (bubble_set n kind text s)) else Goes s) IsSceneCast
  updated_by true n kind text s short h = number_goes counter.Bubble s.devices.usage (Goes (bubble_set n kind text s)) IsSceneCast (set_cast n kind text s short h)
  updated_by false n kind text s short h = h

  pub updated_cast : (n : ℕ) (kind : Say) (text : List ℕ) (s : Scene) → IsShort text → IsSceneCast s → IfGoes (bubble_updated n kind text s) IsSceneCast
  updated_cast n kind text s short h = updated_by (is_some (live n s.targets)) n kind text s short h

  shown_by : (c : Bool) (q : Question) (s : Scene) → IsSceneCast s → IfGoes (if c then bubble_updated q.of say.Say (cut q.text) s else Goes s) IsSceneCast
  shown_by true q s h = updated_cast q.of say.Say (cut q.text) s (cut_short q.text) h
  shown_by false q s h = h

  pub shown_cast : (qs : List Question) (s : Scene) → IsSceneCast s → IfGoes (question_shown qs s) IsSceneCast
  shown_cast [] s h = h
  shown_cast (q ∷ qs) s h = shown_by q.bubble q s h

  pub emptied_cast : (n : ℕ) (s : Scene) → IsSceneCast s → IfGoes (bubble_emptied n s) IsSceneCast
  emptied_cast n s h = updated_cast n (instance_at n s.targets).bubble.kind [] s none_short h

  taken_by : (c : Bool) (n : ℕ) (s : Scene) → IsSceneCast s → IfGoes (if c then bubble_emptied n s else Goes s) IsSceneCast
  taken_by true n s h = emptied_cast n s h
  taken_by false n s h = h

  pub taken_cast : (c : Bool) (n : ℕ) (s : Scene) → IsSceneCast s → IfGoes (first_taken c n s) IsSceneCast
  taken_cast c n s h = goes_then (if c then bubble_emptied n s else Goes s) (λ v. question_shown v.devices.questions v) IsSceneCast IsSceneCast (taken_by c n s h) (λ v g. shown_cast v.devices.questions v g)

  dropped_by : (c : Bool) (n : ℕ) (s : Scene) → IsSceneCast s → IfGoes (if c then first_taken true n (without_questions n s) else Goes (without_questions n s)) IsSceneCast
  dropped_by true n s h = taken_cast true n (without_questions n s) h
  dropped_by false n s h = h

  pub dropped_cast : (n : ℕ) (s : Scene) → IsSceneCast s → IfGoes (questions_dropped n s) IsSceneCast
  dropped_cast n s h = dropped_by (is_first_of n s.devices.questions) n s h
