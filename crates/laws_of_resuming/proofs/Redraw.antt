-- A redraw request is carried along between frames, and a frame clears it before it is read.
use Rattle.std.proofs.Common.{◌≡◌, ℕ, zero, suc, ◌+◌, ◌&&◌, not, Bool, true, false, if◌then◌else◌, List, [], ◌∷◌, ◌++◌, length, Option, Some, None, refl, sym, ap, ◌∙◌, subst}
use Rattle.std.specs.Prelude.{codes, slice_get}
use Rattle.machine_spec.specs.declared.devices.BubbleTimer.{BubbleTimer}
use Rattle.machine_spec.specs.declared.devices.Key.{Key}
use Rattle.machine_spec.specs.declared.devices.Question.{Question}
use Rattle.machine_spec.specs.declared.instance.Instance.{Instance}
use Rattle.machine_spec.specs.declared.lines.Budget.{Budget}
use Rattle.machine_spec.specs.declared.lines.Line.{Line}
use Rattle.machine_spec.specs.declared.lines.Line.TheVariants as line
use Rattle.machine_spec.specs.declared.threads.Filter.{Filter}
use Rattle.machine_spec.specs.declared.threads.Filter.TheVariants.{Key as KeyHats, Flag, Clicked}
use Rattle.machine_spec.specs.Evaluate.{arguments_of, values}
use Rattle.machine_spec.specs.Frame.{Found, next_due, without_timer, still_fits, timer_ended, end_due, timers_ended, edges, edge_value, recorded, edges_of, edge_noted, edge_fired, edge_passed, edge_view, edge_one, edges_passed, passes, at_clock, numbered, frame}
use Rattle.machine_spec.specs.FrameText.{frame_text}
use Rattle.machine_spec.specs.Line.{started, key_name, with_key, with_keys, key_down, reset, clicked, with_answer, answered, after}
use Rattle.machine_spec.specs.Outcome.{Outcome, Goes, Full, TooLong, Spent, then_do}
use Rattle.machine_spec.specs.Output.{Ending, Whole, BadLine, Limited, Output, ends, written, played_line, played_reading, played}
use Rattle.machine_spec.specs.Program.{Program, hat_block}
use Rattle.machine_spec.specs.Script.{inputs_of}
use Rattle.machine_spec.specs.ScriptText.{Reading, Good, Refused, reading_of, clock_after}
use Rattle.machine_spec.specs.Starting.{Crowd, Pair, starts, start_all}
use Rattle.machine_spec.specs.Stopping.{scene_of, with_scene, bubble_emptied, first_taken}
use Rattle.machine_spec.specs.Stores.{live}
use Rattle.machine_spec.specs.Tasks.{Task, tasks, begun, begin_pairs, resumed}
use Rattle.machine_spec.specs.View.{number_at}
use Rattle.machine_spec.specs.World.{World}
use Rattle.laws_of_resuming.specs.Parts.{AlikeButRedraw, EndAlike, AreAlike}

module _ (b : Bool) where
  -- the world with this redraw request
  abbrev pub asking : World Task → World Task
  asking w = record w { redraw = b }

  abbrev pub asking_all : Outcome (World Task) → Outcome (World Task)
  asking_all o = then_do o (λ w. Goes (asking w))

  -- what does not read the request, and then what carries it along
  then_carries : {A : Type 0} (o : Outcome A) (f g : A → Outcome (World Task)) → ((x : A) → g x ≡ asking_all (f x)) → then_do o g ≡ asking_all (then_do o f)
  then_carries (Goes x) f g h = h x
  then_carries Full f g h = refl
  then_carries (TooLong n) f g h = refl
  then_carries (Spent which) f g h = refl

  -- what carries it along, and then what does too
  both_carry : (o q : Outcome (World Task)) (f : World Task → Outcome (World Task)) → q ≡ asking_all o → ((w : World Task) → f (asking w) ≡ asking_all (f w)) → then_do q f ≡ asking_all (then_do o f)
  both_carry (Goes w) q f e h = ap (λ x. then_do x f) e ∙ h w
  both_carry Full q f e h = ap (λ x. then_do x f) e
  both_carry (TooLong n) q f e h = ap (λ x. then_do x f) e
  both_carry (Spent which) q f e h = ap (λ x. then_do x f) e

  -- hats that are started
  begun_carries : (o : Outcome (Crowd Task)) (w : World Task)
      → then_do (then_do o (λ c. Goes (begun (asking w) c))) (λ d. Goes d.world) ≡ asking_all (then_do (then_do o (λ c. Goes (begun w c))) (λ d. Goes d.world))
  begun_carries (Goes c) w = refl
  begun_carries Full w = refl
  begun_carries (TooLong n) w = refl
  begun_carries (Spent which) w = refl

  pairs_carry : (xs : List Pair) (w : World Task) → then_do (begin_pairs None xs (asking w)) (λ d. Goes d.world) ≡ asking_all (then_do (begin_pairs None xs w) (λ d. Goes d.world))
  pairs_carry xs w = begun_carries (start_all tasks None xs (record { threads = w.threads; next = w.next_thread; serials = [] })) w

  started_carries : (p : Program) (f : Filter) (w : World Task) → started p f (asking w) ≡ asking_all (started p f w)
  started_carries p f w = pairs_carry (starts p f w.targets) w

  -- bubble timers
  timer_carries : (t : BubbleTimer) (w : World Task) → timer_ended t (asking w) ≡ asking_all (timer_ended t w)
  timer_carries t w = then_carries (if still_fits t (live t.of w.targets) then bubble_emptied t.of (scene_of w) else Goes (scene_of w))
      (λ s. Goes (resumed t.thread (with_scene w s))) (λ s. Goes (resumed t.thread (with_scene (asking w) s))) (λ s. refl)

  due_carries : (o : Option Found) (w : World Task) (rest : World Task → Outcome (World Task)) → ((v : World Task) → rest (asking v) ≡ asking_all (rest v)) → end_due o (asking w) rest ≡ asking_all (end_due o w rest)
  due_carries None w rest h = refl
  due_carries (Some x) w rest h = both_carry (timer_ended x.timer (without_timer x.at w)) (timer_ended x.timer (without_timer x.at (asking w))) rest (timer_carries x.timer (without_timer x.at w)) h

  timers_carry : (n : ℕ) (w : World Task) → timers_ended n (asking w) ≡ asking_all (timers_ended n w)
  unfolding timers_ended
  timers_carry zero w = refl
  timers_carry (suc n) w = due_carries (next_due w.devices.clock 0 w.devices.timers) w (timers_ended n) (timers_carry n)

  -- edge hats
  fired_carries : (c : Bool) (x : Pair) (w : World Task) → edge_fired c x (asking w) ≡ asking_all (edge_fired c x w)
  fired_carries true x w = pairs_carry (x ∷ []) w
  fired_carries false x w = refl

  passed_carries : (x : Pair) (v : Bool) (w : World Task) → edge_passed x v (asking w) ≡ asking_all (edge_passed x v w)
  passed_carries x v w = fired_carries (v && not (recorded (hat_block x.head) (edges_of (live x.of w.targets)))) x (edge_noted x v w)

  one_carries : (p : Program) (x : Pair) (w : World Task) → edge_one p x (asking w) ≡ asking_all (edge_one p x w)
  one_carries p x w = then_carries (values (edge_view p x.of w) (inputs_of x.head.hat) w.words) _ _
      (λ d. passed_carries x (edge_value x.head.hat (number_at (codes "VALUE") (arguments_of x.head.hat d.value)) w.devices) (record w { words = d.words }))

  edges_carry : (p : Program) (xs : List Pair) (w : World Task) → edges_passed p xs (asking w) ≡ asking_all (edges_passed p xs w)
  edges_carry p [] w = refl
  edges_carry p (x ∷ xs) w = both_carry (edge_one p x w) (edge_one p x (asking w)) (edges_passed p xs) (one_carries p x w) (edges_carry p xs)

  -- what carries it along, and then what does not read it
  dropped : {A : Type 0} (o q : Outcome (World Task)) (f : World Task → Outcome A) → q ≡ asking_all o → ((w : World Task) → f (asking w) ≡ f w) → then_do q f ≡ then_do o f
  dropped (Goes w) q f e h = ap (λ x. then_do x f) e ∙ h w
  dropped Full q f e h = ap (λ x. then_do x f) e
  dropped (TooLong n) q f e h = ap (λ x. then_do x f) e
  dropped (Spent which) q f e h = ap (λ x. then_do x f) e

  frame_drops : (p : Program) (budget : Budget) (w : World Task) → frame p budget (asking w) ≡ frame p budget w
  frame_drops p budget w =
      dropped (timers_ended (length w.devices.timers) (at_clock budget.clock w)) (timers_ended (length w.devices.timers) (at_clock budget.clock (asking w)))
      (λ x. then_do (edges_passed p (edges p x) x) (λ y. then_do (passes p budget.warp budget.passes true true (record y { redraw = false })) numbered))
      (timers_carry (length w.devices.timers) (at_clock budget.clock w))
      (λ x. dropped (edges_passed p (edges p x) x) (edges_passed p (edges p x) (asking x))
      (λ y. then_do (passes p budget.warp budget.passes true true (record y { redraw = false })) numbered)
      (edges_carry p (edges p x) x) (λ y. refl))

  -- the other lines
  key_carries : (p : Program) (key : Key) (w : World Task) → key_down p key (asking w) ≡ asking_all (key_down p key w)
  key_carries p key w =
      both_carry (started p (KeyHats (key_name key)) w) (started p (KeyHats (key_name key)) (asking w))
      (λ x. then_do (started p (KeyHats (codes "any")) x) (λ y. Goes (with_keys (with_key key) y)))
      (started_carries p (KeyHats (key_name key)) w)
      (λ x. both_carry (started p (KeyHats (codes "any")) x) (started p (KeyHats (codes "any")) (asking x)) (λ y. Goes (with_keys (with_key key) y))
      (started_carries p (KeyHats (codes "any")) x) (λ y. refl))

  clicked_carries : (p : Program) (o : Option Instance) (w : World Task) → clicked p o (asking w) ≡ asking_all (clicked p o w)
  clicked_carries p None w = refl
  clicked_carries p (Some i) w = started_carries p (Clicked i.number) w

  answered_carries : (qs : List Question) (w : World Task) → answered qs (asking w) ≡ asking_all (answered qs w)
  answered_carries [] w = refl
  answered_carries (q ∷ qs) w = then_carries (first_taken q.bubble q.of (record (scene_of w) { devices = record w.devices { questions = qs } }))
      (λ s. Goes (resumed q.thread (with_scene w s))) (λ s. Goes (resumed q.thread (with_scene (asking w) s))) (λ s. refl)

-- answers that differ in nothing but the redraw request of their world
abbrev pub AnswerAlike : Outcome (World Task) → Outcome (World Task) → Type 0
AnswerAlike (Goes w) (Goes v) = AlikeButRedraw w v
AnswerAlike o q = o ≡ q

answer_itself : (o : Outcome (World Task)) → AnswerAlike o o
answer_itself (Goes w) = refl
answer_itself Full = refl
answer_itself (TooLong n) = refl
answer_itself (Spent which) = refl

asking_alike : (b : Bool) (o : Outcome (World Task)) → AnswerAlike o (asking_all b o)
asking_alike b (Goes w) = refl
asking_alike b Full = refl
asking_alike b (TooLong n) = refl
asking_alike b (Spent which) = refl

carried : (b : Bool) (o q : Outcome (World Task)) → q ≡ asking_all b o → AnswerAlike o q
carried b o q e = subst (AnswerAlike o) (sym e) (asking_alike b o)

same : (o q : Outcome (World Task)) → q ≡ o → AnswerAlike o q
same o q e = subst (AnswerAlike o) (sym e) (answer_itself o)

-- a line from a world and from the same world with another request
line_asks : (b : Bool) (p : Program) (l : Line) (w : World Task) → AnswerAlike (after p l w) (after p l (asking b w))
line_asks b p line.Nothing w = refl
line_asks b p line.Flag w = carried b (started p Flag (reset p.records w)) _ (started_carries b p Flag (reset p.records w))
line_asks b p line.Stop w = refl
line_asks b p (line.KeyDown key) w = carried b (key_down p key w) _ (key_carries b p key w)
line_asks b p (line.KeyUp key) w = refl
line_asks b p (line.Mouse x y) w = refl
line_asks b p (line.Button down) w = refl
line_asks b p (line.Click place) w = carried b (clicked p (slice_get w.targets place) w) _ (clicked_carries b p (slice_get w.targets place) w)
line_asks b p (line.Answer text) w = carried b (answered w.devices.questions (with_answer text w)) _ (answered_carries b w.devices.questions (with_answer text w))
line_asks b p (line.Turbo on) w = refl
line_asks b p (line.Frame budget) w = same (frame p budget w) (frame p budget (asking b w)) (frame_drops b p budget w)

-- Worlds that are alike

alike_asks : (w v : World Task) → AlikeButRedraw w v → asking v.redraw w ≡ v
alike_asks w v e = ap (asking v.redraw) e

line_alike : (p : Program) (l : Line) (w v : World Task) → AlikeButRedraw w v → AnswerAlike (after p l w) (after p l v)
line_alike p l w v e = subst (λ x. AnswerAlike (after p l w) (after p l x)) (alike_asks w v e) (line_asks v.redraw p l w)

written_alike : (p : Program) (l : Line) (w v : World Task) → AlikeButRedraw w v → written p l w ≡ written p l v
written_alike p (line.Frame budget) w v e = ap (λ (x : World Task). frame_text p x ∷ []) e
written_alike p l w v e = refl

pub end_itself : (e : Ending) → EndAlike e e
end_itself (Whole w) = refl
end_itself (BadLine refusal) = refl
end_itself (Limited stop) = refl

pub itself : (o : Output) → AreAlike o o
itself o = record { writes = refl; ending = end_itself o.ending }

module _ (p : Program) where
  answer_played : (l : Line) (o q : Outcome (World Task)) (f g : World Task → Output) → AnswerAlike o q → ((w v : World Task) → AlikeButRedraw w v → AreAlike (f w) (g v))
      → AreAlike (played_line p l o f) (played_line p l q g)
  answer_played l (Goes w) (Goes v) f g e h =
      let k = h w v e in
      record { writes = ap (λ xs. xs ++ (f w).writes) (written_alike p l w v e) ∙ ap (λ ys. written p l v ++ ys) k.writes; ending = k.ending }
  answer_played l (Goes w) Full f g e h = absurd (cc e)
  answer_played l (Goes w) (TooLong n) f g e h = absurd (cc e)
  answer_played l (Goes w) (Spent which) f g e h = absurd (cc e)
  answer_played l Full q f g e h = subst (λ r. AreAlike (played_line p l Full f) (played_line p l r g)) e (itself (played_line p l Full f))
  answer_played l (TooLong n) q f g e h = subst (λ r. AreAlike (played_line p l (TooLong n) f) (played_line p l r g)) e (itself (played_line p l (TooLong n) f))
  answer_played l (Spent which) q f g e h = subst (λ r. AreAlike (played_line p l (Spent which) f) (played_line p l r g)) e (itself (played_line p l (Spent which) f))

  reading_played : (w v : World Task) (r : Reading) (f g : World Task → Output) → AlikeButRedraw w v → ((w v : World Task) → AlikeButRedraw w v → AreAlike (f w) (g v))
      → AreAlike (played_reading p w r f) (played_reading p v r g)
  reading_played w v (Good l) f g e h = answer_played l (after p l w) (after p l v) f g (line_alike p l w v e) h
  reading_played w v (Refused refusal) f g e h = itself (ends [] (BadLine refusal))

  pub lines_alike : (n last : ℕ) (w v : World Task) (lines : List (List ℕ)) → AlikeButRedraw w v → AreAlike (played p n last w lines) (played p n last v lines)
  lines_alike n last w v [] e = record { writes = refl; ending = e }
  lines_alike n last w v (bytes ∷ lines) e =
      let r = reading_of n last bytes in
      reading_played w v r (λ u. played p (n + 1) (clock_after last r) u lines) (λ u. played p (n + 1) (clock_after last r) u lines) e
      (λ x y a. lines_alike (n + 1) (clock_after last r) x y lines a)
