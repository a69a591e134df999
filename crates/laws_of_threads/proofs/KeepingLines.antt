-- What every single change of a world keeps, every line keeps.
use Rattle.std.proofs.Common.{◌≡◌, ℕ, List, [], ◌∷◌, Option, Some, None, refl}
use Rattle.std.specs.Prelude.{codes, slice_get}
use Rattle.machine_spec.specs.declared.instance.Instance.{Instance}
use Rattle.machine_spec.specs.declared.devices.Key.{Key}
use Rattle.machine_spec.specs.declared.devices.Question.{Question}
use Rattle.machine_spec.specs.declared.threads.Filter.{Filter}
use Rattle.machine_spec.specs.declared.threads.Filter.TheVariants.{Key as KeyHats, Flag, Clicked}
use Rattle.machine_spec.specs.declared.lines.Line.{Line}
use Rattle.machine_spec.specs.declared.lines.Line.TheVariants as line
use Rattle.machine_spec.specs.Outcome.{IfGoes}
use Rattle.machine_spec.specs.Program.{Program}
use Rattle.machine_spec.specs.Script.{Statement}
use Rattle.machine_spec.specs.Stopping.{scene_of, with_scene, first_taken, all_stopped}
use Rattle.machine_spec.specs.Tasks.{Task, begin}
use Rattle.machine_spec.specs.World.{World}
use Rattle.machine_spec.specs.Frame.{at_clock}
use Rattle.machine_spec.specs.Line.{started, key_name, key_down, reset, clicked, with_answer, answered, after}
use Rattle.laws_of_threads.specs.GoodLines.{IsNamedKey, IsGoodLine}
use Rattle.laws_of_threads.specs.Scripts.{IsProgram}
use Rattle.laws_of_threads.specs.Statements.{Everywhere}
use Rattle.laws_of_threads.specs.Worlds.{IsLegalWorld}
use Rattle.laws_of_threads.proofs.RowFits.{goes_then}
use Rattle.laws_of_threads.proofs.Keeping.{KeepsAtClock, Keeps, while_clock_stands}
use Rattle.laws_of_threads.proofs.KeepingStarts.{begin_keeps}
use Rattle.laws_of_threads.proofs.KeepingFrames.{resumed_keeps, frame_keeps}

-- the world whose clock is set, where the line does
abbrev pub timed : Line → World Task → World Task
timed (line.Frame b) w = at_clock b.clock w
timed _ w = w

module _ (p : Program) (P : ℕ → Statement → Type 0) (Q : World Task → Type 0) (keeps : KeepsAtClock p P Q) where
  started_keeps : (f : Filter) (w : World Task) → Q w → IfGoes (started p f w) Q
  started_keeps f w h = goes_then (begin p None f w) _ (λ b. Q b.world) Q (begin_keeps p P Q keeps None f w h) (λ b g. g)

  key_down_keeps : (key : Key) (w : World Task) → IsNamedKey key → Q w → IfGoes (key_down p key w) Q
  key_down_keeps key w is h = goes_then (started p (KeyHats (key_name key)) w) _ Q Q (started_keeps (KeyHats (key_name key)) w h)
      (λ x g. goes_then (started p (KeyHats (codes "any")) x) _ Q Q (started_keeps (KeyHats (codes "any")) x g) (λ y k. keeps.key_held y key is k))

  clicked_keeps : (o : Option Instance) (w : World Task) → Q w → IfGoes (clicked p o w) Q
  clicked_keeps None w h = h
  clicked_keeps (Some i) w h = started_keeps (Clicked i.number) w h

  answered_keeps : (qs : List Question) (w : World Task) → w.devices.questions ≡ qs → Q w → IfGoes (answered qs w) Q
  answered_keeps [] w e h = h
  answered_keeps (q ∷ qs) w e h = goes_then (first_taken q.bubble q.of (record (scene_of w) { devices = record w.devices { questions = qs } })) _ (λ s. Q (with_scene w s)) Q
      (keeps.answers w q qs e h) (λ s g. resumed_keeps p P Q keeps q.thread (with_scene w s) g)

  pub each_line_keeps : IsProgram p → Everywhere P p → (l : Line) (w : World Task) → IsGoodLine w.devices.clock l → IsLegalWorld p w → Q (timed l w) → IfGoes (after p l w) Q
  each_line_keeps good every line.Nothing w b l h = h
  each_line_keeps good every line.Flag w b l h = started_keeps Flag (reset p.records w) (keeps.renews (all_stopped p.records w) (keeps.stops w l.sound.inhabited h))
  each_line_keeps good every line.Stop w b l h = keeps.stops w l.sound.inhabited h
  each_line_keeps good every (line.KeyDown key) w b l h = key_down_keeps key w b h
  each_line_keeps good every (line.KeyUp key) w b l h = keeps.key_free w key h
  each_line_keeps good every (line.Mouse x y) w b l h = keeps.mouse w x y b.0 b.1 h
  each_line_keeps good every (line.Button down) w b l h = keeps.button w down h
  each_line_keeps good every (line.Click place) w b l h = clicked_keeps (slice_get w.targets place) w h
  each_line_keeps good every (line.Answer text) w b l h = answered_keeps w.devices.questions (with_answer text w) refl (keeps.answer w text b h)
  each_line_keeps good every (line.Turbo on) w b l h = keeps.turbo w on h
  each_line_keeps good every (line.Frame budget) w b l h = frame_keeps p P Q keeps good every budget w b.0 l h

timed_keeps : (p : Program) (P : ℕ → Statement → Type 0) (Q : World Task → Type 0) → Keeps p P Q → (l : Line) (w : World Task) → IsGoodLine w.devices.clock l → Q w → Q (timed l w)
timed_keeps p P Q keeps (line.Frame budget) w b h = keeps.clock w budget.clock b.0 b.1 h
timed_keeps p P Q keeps _ w b h = h

pub line_keeps : (p : Program) (P : ℕ → Statement → Type 0) (Q : World Task → Type 0) → IsProgram p → Everywhere P p → Keeps p P Q
    → (l : Line) (w : World Task) → IsGoodLine w.devices.clock l → IsLegalWorld p w → Q w → IfGoes (after p l w) Q
line_keeps p P Q good everywhere keeps l w b legal h = each_line_keeps p P Q (while_clock_stands p P Q keeps) good everywhere l w b legal (timed_keeps p P Q keeps l w b h)
