-- How a line stops: where a thread or an update of a bubble has no number, or no level is left for a thread.
use Rattle.std.proofs.Common.{◌≡◌, ℕ, Bool, true, false, if◌then◌else◌, List, [], ◌∷◌, Option, Some, None, refl}
use Rattle.std.specs.Prelude.{codes, is_some, slice_get, Result, IfErr}
use Rattle.script_words.specs.declared.stops.CounterKind.TheVariants as counter
use Rattle.script_words.specs.declared.stops.Stop.{Stop}
use Rattle.machine_spec.specs.declared.bubble.Say.{Say}
use Rattle.machine_spec.specs.declared.instance.Instance.{Instance}
use Rattle.machine_spec.specs.declared.devices.Question.{Question}
use Rattle.machine_spec.specs.declared.threads.Filter.{Filter}
use Rattle.machine_spec.specs.declared.threads.Filter.TheVariants.{Key as KeyHats, Flag, Clicked}
use Rattle.machine_spec.specs.declared.devices.Key.{Key}
use Rattle.machine_spec.specs.declared.lines.Line.{Line}
use Rattle.machine_spec.specs.declared.lines.Line.TheVariants as line
use Rattle.machine_spec.specs.ControlRows.{question_shown}
use Rattle.machine_spec.specs.Line.{started, key_down, key_name, clicked, answered, reset, with_answer, after}
use Rattle.machine_spec.specs.Outcome.{Outcome, Goes, StopIs, with_number}
use Rattle.machine_spec.specs.Parts.{Scene, bubble_set, bubble_updated}
use Rattle.machine_spec.specs.Program.{Program}
use Rattle.machine_spec.specs.Starting.{starts}
use Rattle.machine_spec.specs.Stopping.{scene_of, bubble_emptied, first_taken}
use Rattle.machine_spec.specs.Stores.{live}
use Rattle.machine_spec.specs.Tasks.{Task, tasks, begin}
use Rattle.machine_spec.specs.World.{World}
use Rattle.hats.proofs.Stopping.{Meets, stop_of, then_meets, number_meets, all_meets}
use Rattle.sequencer.specs.Frames.{is_frame}
use Rattle.sequencer.specs.Stops.{IsOfLinesOrMemory}

abbrev MeetsLines : {A : Type 0} → Outcome A → Type 0
MeetsLines o = Meets IsOfLinesOrMemory o

begun_meets : (p : Program) (f : Filter) (w : World Task) → MeetsLines (begin p None f w)
begun_meets p f w = then_meets IsOfLinesOrMemory _ _ (all_meets IsOfLinesOrMemory tt tt tasks None (starts p f w.targets) _) (λ c. tt)

started_meets : (p : Program) (f : Filter) (w : World Task) → MeetsLines (started p f w)
started_meets p f w = then_meets IsOfLinesOrMemory (begin p None f w) _ (begun_meets p f w) (λ b. tt)

key_meets : (p : Program) (key : Key) (w : World Task) → MeetsLines (key_down p key w)
key_meets p key w =
    then_meets IsOfLinesOrMemory (started p (KeyHats (key_name key)) w) _ (started_meets p (KeyHats (key_name key)) w)
    (λ x. then_meets IsOfLinesOrMemory (started p (KeyHats (codes "any")) x) _ (started_meets p (KeyHats (codes "any")) x) (λ y. tt))

clicked_meets : (p : Program) (i : Option Instance) (w : World Task) → MeetsLines (clicked p i w)
clicked_meets p None w = tt
clicked_meets p (Some i) w = started_meets p (Clicked i.number) w

updated_by : (b : Bool) (usage : ℕ) (s t : Scene) → MeetsLines (if b then with_number counter.Bubble usage (Goes t) else Goes s)
updated_by true usage s t = number_meets IsOfLinesOrMemory counter.Bubble usage (Goes t) tt tt
updated_by false usage s t = tt

updated_meets : (of : ℕ) (kind : Say) (text : List ℕ) (s : Scene) → MeetsLines (bubble_updated of kind text s)
updated_meets of kind text s = updated_by (is_some (live of s.targets)) s.devices.usage s (bubble_set of kind text s)

shown_by : (b : Bool) (o : Outcome Scene) (s : Scene) → MeetsLines o → MeetsLines (if b then o else Goes s)
shown_by true o s h = h
shown_by false o s h = tt

shown_meets : (qs : List Question) (s : Scene) → MeetsLines (question_shown qs s)
shown_meets [] s = tt
shown_meets (q ∷ qs) s = shown_by q.bubble _ s (updated_meets q.of _ _ s)

taken_meets : (emptied : Bool) (of : ℕ) (s : Scene) → MeetsLines (first_taken emptied of s)
taken_meets emptied of s =
    then_meets IsOfLinesOrMemory (if emptied then bubble_emptied of s else Goes s) _ (shown_by emptied (bubble_emptied of s) s (updated_meets of _ _ s)) (λ v. shown_meets v.devices.questions v)

answered_meets : (qs : List Question) (w : World Task) → MeetsLines (answered qs w)
answered_meets [] w = tt
answered_meets (q ∷ qs) w = then_meets IsOfLinesOrMemory _ _ (taken_meets q.bubble q.of _) (λ s. tt)

after_meets : (p : Program) (l : Line) (w : World Task) → is_frame l ≡ false → MeetsLines (after p l w)
after_meets p line.Nothing w h = tt
after_meets p line.Flag w h = started_meets p Flag (reset p.records w)
after_meets p line.Stop w h = tt
after_meets p (line.KeyDown key) w h = key_meets p key w
after_meets p (line.KeyUp key) w h = tt
after_meets p (line.Mouse x y) w h = tt
after_meets p (line.Button down) w h = tt
after_meets p (line.Click place) w h = clicked_meets p (slice_get w.targets place) w
after_meets p (line.Answer text) w h = answered_meets w.devices.questions (with_answer text w)
after_meets p (line.Turbo on) w h = tt
after_meets p (line.Frame b) w h = absurd (cc h)

pub line_stops : {T : Type 0} (r : Result T Stop) (p : Program) (l : Line) (w : World Task) → is_frame l ≡ false → StopIs r (after p l w) → IfErr r IsOfLinesOrMemory
line_stops r p l w h s = stop_of IsOfLinesOrMemory r (after p l w) tt (after_meets p l w h) s
