-- A line that is no frame leaves the clock and the number of frames.
use Rattle.std.proofs.Common.{◌≡◌, ℕ, Bool, true, false, List, [], ◌∷◌, Option, Some, None, refl, sym, ap, ◌∙◌, subst}
use Rattle.std.specs.Prelude.{is_some, slice_get, codes, if◌then◌else◌, ◌==◌}
use Rattle.script_words.specs.declared.stops.CounterKind.TheVariants as counter
use Rattle.machine_spec.specs.BubbleText.{cut}
use Rattle.machine_spec.specs.declared.bubble.Say.TheVariants as say
use Rattle.machine_spec.specs.declared.lines.Line.{Line}
use Rattle.machine_spec.specs.declared.lines.Line.TheVariants as line
use Rattle.machine_spec.specs.Outcome.{Outcome, Goes, Full, TooLong, Spent, then_do, IfGoes, with_number, last_number}
use Rattle.machine_spec.specs.Parts.{Scene, bubble_set, bubble_updated}
use Rattle.machine_spec.specs.ControlRows.{question_shown}
use Rattle.machine_spec.specs.Program.{Program}
use Rattle.machine_spec.specs.Starting.{Crowd, start_all, starts}
use Rattle.machine_spec.specs.Stopping.{bubble_emptied, first_taken, scene_of, with_scene}
use Rattle.machine_spec.specs.declared.bubble.Say.{Say}
use Rattle.machine_spec.specs.declared.devices.Key.{Key}
use Rattle.machine_spec.specs.declared.devices.Question.{Question}
use Rattle.machine_spec.specs.declared.instance.Instance.{Instance}
use Rattle.machine_spec.specs.Stores.{live, instance_at}
use Rattle.machine_spec.specs.Tasks.{Task, begun, tasks, resumed}
use Rattle.machine_spec.specs.declared.threads.Filter.{Filter}
use Rattle.machine_spec.specs.declared.threads.Filter.TheVariants.{Key as KeyHats, Flag, Clicked}
use Rattle.machine_spec.specs.Line.{started, key_name, with_key, with_keys, key_down, reset, clicked, with_answer, answered, after}
use Rattle.machine_spec.specs.World.{World}
use Rattle.sequencer.specs.Frames.{is_frame}
use Rattle.script_words.specs.declared.stops.CounterKind.{CounterKind}

-- Outcomes

then_goes : {A B : Type 0} (o : Outcome A) (m : A → Outcome B) (R : B → Type 0) → IfGoes o (λ x. IfGoes (m x) R) → IfGoes (then_do o m) R
then_goes (Goes x) m R h = h
then_goes Full m R h = tt
then_goes (TooLong n) m R h = tt
then_goes (Spent which) m R h = tt

goes_map : {A : Type 0} (o : Outcome A) (Q R : A → Type 0) → ((x : A) → Q x → R x) → IfGoes o Q → IfGoes o R
goes_map (Goes x) Q R g h = g x h
goes_map Full Q R g h = tt
goes_map (TooLong n) Q R g h = tt
goes_map (Spent which) Q R g h = tt

number_by : {A : Type 0} (R : A → Type 0) (b : Bool) (which : CounterKind) (o : Outcome A) → IfGoes o R → IfGoes (if b then Spent which else o) R
number_by R true which o h = tt
number_by R false which o h = h

number_goes : {A : Type 0} (R : A → Type 0) (which : CounterKind) (n : ℕ) (o : Outcome A) → IfGoes o R → IfGoes (with_number which n o) R
number_goes R which n o h = number_by R (n == last_number) which o h

-- Worlds

-- the clock and the number of frames stay
pub record Stays (w v : World Task) : Type 0 where
  pub frame : v.frame ≡ w.frame
  pub clock : v.devices.clock ≡ w.devices.clock

started_by : (w : World Task) (o : Outcome (Crowd Task)) → IfGoes (then_do (then_do o (λ c. Goes (begun w c))) (λ b. Goes b.world)) (Stays w)
started_by w (Goes c) = record { frame = refl; clock = refl }
started_by w Full = tt
started_by w (TooLong n) = tt
started_by w (Spent which) = tt

started_stays : (p : Program) (f : Filter) (w : World Task) → IfGoes (started p f w) (Stays w)
started_stays p f w = started_by w (start_all tasks None (starts p f w.targets) (record { threads = w.threads; next = w.next_thread; serials = [] }))

more : (w x v : World Task) → Stays w x → Stays x v → Stays w v
more w x v a b = record { frame = b.frame ∙ a.frame; clock = b.clock ∙ a.clock }

key_stays : (p : Program) (key : Key) (w : World Task) → IfGoes (key_down p key w) (Stays w)
key_stays p key w =
    then_goes (started p (KeyHats (key_name key)) w) (λ x. then_do (started p (KeyHats (codes "any")) x) (λ y. Goes (with_keys (with_key key) y))) (Stays w)
    (goes_map (started p (KeyHats (key_name key)) w) (Stays w) (λ x. IfGoes (then_do (started p (KeyHats (codes "any")) x) (λ y. Goes (with_keys (with_key key) y))) (Stays w))
    (λ x a. then_goes (started p (KeyHats (codes "any")) x) (λ y. Goes (with_keys (with_key key) y)) (Stays w)
    (goes_map (started p (KeyHats (codes "any")) x) (Stays x) (λ y. Stays w (with_keys (with_key key) y)) (λ y b. more w x (with_keys (with_key key) y) a (record { frame = b.frame; clock = b.clock })) (started_stays p (KeyHats (codes "any")) x)))
    (started_stays p (KeyHats (key_name key)) w))

-- Scenes

abbrev SameClock : Scene → Scene → Type 0
SameClock s v = v.devices.clock ≡ s.devices.clock

updated_by : (b : Bool) (here : ℕ) (kind : Say) (text : List ℕ) (s : Scene) → IfGoes (if b then with_number counter.Bubble s.devices.usage (Goes (bubble_set here kind text s)) else Goes s) (SameClock s)
updated_by true here kind text s = number_goes (SameClock s) counter.Bubble s.devices.usage (Goes (bubble_set here kind text s)) refl
updated_by false here kind text s = refl

updated_clock : (here : ℕ) (kind : Say) (text : List ℕ) (s : Scene) → IfGoes (bubble_updated here kind text s) (SameClock s)
updated_clock here kind text s = updated_by (is_some (live here s.targets)) here kind text s

shown_by : (b : Bool) (q : Question) (s : Scene) → IfGoes (if b then bubble_updated q.of say.Say (cut q.text) s else Goes s) (SameClock s)
shown_by true q s = updated_clock q.of say.Say (cut q.text) s
shown_by false q s = refl

shown_clock : (qs : List Question) (s : Scene) → IfGoes (question_shown qs s) (SameClock s)
shown_clock [] s = refl
shown_clock (q ∷ qs) s = shown_by q.bubble q s

emptied_by : (b : Bool) (of : ℕ) (s : Scene) → IfGoes (if b then bubble_emptied of s else Goes s) (SameClock s)
emptied_by true of s = updated_clock of (instance_at of s.targets).bubble.kind [] s
emptied_by false of s = refl

taken_clock : (b : Bool) (of : ℕ) (s : Scene) → IfGoes (first_taken b of s) (SameClock s)
taken_clock b of s =
    then_goes (if b then bubble_emptied of s else Goes s) (λ v. question_shown v.devices.questions v) (SameClock s)
    (goes_map (if b then bubble_emptied of s else Goes s) (SameClock s) (λ v. IfGoes (question_shown v.devices.questions v) (SameClock s))
    (λ v a. goes_map (question_shown v.devices.questions v) (SameClock v) (SameClock s) (λ x h. h ∙ a) (shown_clock v.devices.questions v))
    (emptied_by b of s))

answered_stays : (qs : List Question) (w : World Task) → IfGoes (answered qs w) (Stays w)
answered_stays [] w = record { frame = refl; clock = refl }
answered_stays (q ∷ qs) w =
    let s : Scene = record (scene_of w) { devices = record w.devices { questions = qs } } in
    then_goes (first_taken q.bubble q.of s) (λ v. Goes (resumed q.thread (with_scene w v))) (Stays w)
    (goes_map (first_taken q.bubble q.of s) (SameClock s) (λ v. Stays w (resumed q.thread (with_scene w v))) (λ v h. record { frame = refl; clock = h }) (taken_clock q.bubble q.of s))

clicked_stays : (p : Program) (o : Option Instance) (w : World Task) → IfGoes (clicked p o w) (Stays w)
clicked_stays p None w = record { frame = refl; clock = refl }
clicked_stays p (Some i) w = started_stays p (Clicked i.number) w

as_before : (p : Program) (w v : World Task) (f : Filter) → v.frame ≡ w.frame → v.devices.clock ≡ w.devices.clock → IfGoes (started p f v) (Stays w)
as_before p w v f e h = goes_map (started p f v) (Stays v) (Stays w) (λ x b. more w v x (record { frame = e; clock = h }) b) (started_stays p f v)

stays : (p : Program) (l : Line) (w : World Task) → is_frame l ≡ false → IfGoes (after p l w) (Stays w)
stays p line.Nothing w k = record { frame = refl; clock = refl }
stays p line.Flag w k = as_before p w (reset p.records w) Flag refl refl
stays p line.Stop w k = record { frame = refl; clock = refl }
stays p (line.KeyDown key) w k = key_stays p key w
stays p (line.KeyUp key) w k = record { frame = refl; clock = refl }
stays p (line.Mouse x y) w k = record { frame = refl; clock = refl }
stays p (line.Button down) w k = record { frame = refl; clock = refl }
stays p (line.Click place) w k = clicked_stays p (slice_get w.targets place) w
stays p (line.Answer text) w k =
    goes_map (answered w.devices.questions (with_answer text w)) (Stays (with_answer text w)) (Stays w) (λ v b. record { frame = b.frame; clock = b.clock }) (answered_stays w.devices.questions (with_answer text w))
stays p (line.Turbo on) w k = record { frame = refl; clock = refl }
stays p (line.Frame b) w k = absurd (cc k)

-- behind a line that is no frame
pub event_stays : (p : Program) (l : Line) (w v : World Task) → is_frame l ≡ false → after p l w ≡ Goes v → Stays w v
event_stays p l w v k e = subst (λ o. IfGoes o (Stays w)) e (stays p l w k)
