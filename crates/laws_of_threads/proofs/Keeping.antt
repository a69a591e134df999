-- What keeps a fact of worlds: each thing that can happen to a world in a line, whatever becomes of its threads.
use Rattle.std.proofs.Common.{◌≡◌, ℕ, Bool, true, false, List, ◌∷◌}
use Rattle.std.specs.Prelude.{◌≤◌, ◌+◌, unsigned_abs, ℤ, length}
use Rattle.opcode_table.specs.Kinds.{hat_kind}
use Rattle.scratch_values.specs.Longest.{longest}
use Rattle.scratch_values.specs.Named.{Arguments}
use Rattle.machine_spec.specs.declared.devices.Key.{Key}
use Rattle.machine_spec.specs.declared.devices.Question.{Question}
use Rattle.machine_spec.specs.declared.threads.Context.{Context}
use Rattle.machine_spec.specs.Evaluate.{values}
use Rattle.machine_spec.specs.Frame.{is_edge_hat, edge_noted, without_timer, at_clock}
use Rattle.machine_spec.specs.Line.{with_key, without_key, with_keys, renewed, with_answer}
use Rattle.machine_spec.specs.Outcome.{IfGoes, Goes, last_number}
use Rattle.machine_spec.specs.Places.{Places}
use Rattle.machine_spec.specs.Program.{Program, scripts_at}
use Rattle.machine_spec.specs.Script.{Expressions, Statement, command_of, op_of}
use Rattle.machine_spec.specs.ScriptText.{last_clock}
use Rattle.machine_spec.specs.Starting.{Pair}
use Rattle.machine_spec.specs.Step.{row, Applied}
use Rattle.machine_spec.specs.Stopping.{scene_of, with_scene, first_taken, bubble_emptied, questions_dropped, without_timers, disposed, is_clone, all_stopped, clone_added, placed_behind, has_no_room}
use Rattle.machine_spec.specs.Tasks.{Task}
use Rattle.machine_spec.specs.View.{View}
use Rattle.machine_spec.specs.World.{World}
use Rattle.laws_of_threads.specs.GoodLines.{IsNamedKey}
use Rattle.laws_of_threads.specs.Instances.{Hosts, Inhabited}
use Rattle.laws_of_threads.specs.Threads.{Holds}
use Rattle.laws_of_threads.proofs.Applies.{Applies}

-- P is a fact of the statements of each target, Q one of worlds
module _ (p : Program) (P : ℕ → Statement → Type 0) (Q : World Task → Type 0) where
  -- a statement that a thread is about to execute: its instance is live, and the statement is one of its target
  pub record Stands (w : World Task) (t : Task) (s : Statement) : Type 0 where
    pub target : ℕ
    pub hosted : Hosts t.of target w.targets
    pub holds : P target s
    pub inhabited : Inhabited p.records w.next_instance w.targets

  -- an edge hat of a live instance
  pub record IsEdge (w : World Task) (x : Pair) : Type 0 where
    pub target : ℕ
    pub hosted : Hosts x.of target w.targets
    pub head : Holds x.head (scripts_at target p).heads
    pub edge : is_edge_hat (hat_kind (op_of x.head.hat)) ≡ true

  -- what keeps Q while the clock stands
  pub record KeepsAtClock : Type 0 where
    -- threads and redraw requests come and go, and threads take numbers
    pub threads : (w : World Task) (ts : Places Task) → Q w → Q (record w { threads = ts })
    pub redraw : (w : World Task) (b : Bool) → Q w → Q (record w { redraw = b })
    pub given : (w : World Task) → (w.next_thread ≡ last_number → ⊥) → Q w → Q (record w { next_thread = w.next_thread + 1 })
    -- an execution: its inputs draw words, its row changes what its group may change
    pub evaluates : (w : World Task) (v : View) (inputs : Expressions) → Q w → IfGoes (values v inputs w.words) (λ d. Q (record w { words = d.words }))
    pub rows : (w : World Task) (t : Task) (s : Statement) (c : Context) (a : Arguments) (x : Applied) → Stands w t s → a.variables ≡ (command_of s).refs → Q w
        → row p (command_of s) a t.of t.serial c w ≡ Goes x → Applies p t.of t.serial (command_of s) w x → Q x.world
    -- what controls do beside
    pub drops : (w : World Task) (n : ℕ) → Q w → IfGoes (questions_dropped n (scene_of w)) (λ s. Q (with_scene w s))
    pub stops : (w : World Task) → Inhabited p.records w.next_instance w.targets → Q w → Q (all_stopped p.records w)
    pub disposes : (w : World Task) (n : ℕ) → Inhabited p.records w.next_instance w.targets → is_clone p.records n ≡ true → Q w → Q (disposed n w)
    pub untimed : (w : World Task) (n : ℕ) → Q w → Q (with_scene w (without_timers n (scene_of w)))
    pub clones : (w : World Task) (original target : ℕ) → Inhabited p.records w.next_instance w.targets → Hosts original target w.targets
        → has_no_room p.records original w ≡ false → (w.next_instance ≡ last_number → ⊥) → Q w
        → Q (record (clone_added original w) { targets = placed_behind w.next_instance original (clone_added original w).targets })
    -- a frame: due timers, edge hats, its number
    pub timer_gone : (w : World Task) (k : ℕ) → Q w → Q (without_timer k w)
    pub emptied : (w : World Task) (n : ℕ) → Q w → IfGoes (bubble_emptied n (scene_of w)) (λ s. Q (with_scene w s))
    pub noted : (w : World Task) (x : Pair) (v : Bool) → IsEdge w x → Inhabited p.records w.next_instance w.targets → Q w → Q (edge_noted x v w)
    pub counted : (w : World Task) → (w.frame ≡ last_number → ⊥) → Q w → Q (record w { frame = w.frame + 1 })
    -- other lines
    pub renews : (w : World Task) → Q w → Q (renewed w)
    pub key_held : (w : World Task) (k : Key) → IsNamedKey k → Q w → Q (with_keys (with_key k) w)
    pub key_free : (w : World Task) (k : Key) → Q w → Q (with_keys (without_key k) w)
    pub mouse : (w : World Task) (x y : ℤ) → unsigned_abs x ≤ 240 → unsigned_abs y ≤ 180 → Q w → Q (record w { devices = record w.devices { mouse_x = x; mouse_y = y } })
    pub button : (w : World Task) (down : Bool) → Q w → Q (record w { devices = record w.devices { button = down } })
    pub turbo : (w : World Task) (on : Bool) → Q w → Q (record w { devices = record w.devices { turbo = on } })
    pub answer : (w : World Task) (text : List ℕ) → length text ≤ longest → Q w → Q (with_answer text w)
    pub answers : (w : World Task) (q : Question) (qs : List Question) → w.devices.questions ≡ q ∷ qs → Q w
        → IfGoes (first_taken q.bubble q.of (record (scene_of w) { devices = record w.devices { questions = qs } })) (λ s. Q (with_scene w s))

  pub record Keeps : Type 0 where
    -- threads and redraw requests come and go, and threads take numbers
    pub threads : (w : World Task) (ts : Places Task) → Q w → Q (record w { threads = ts })
    pub redraw : (w : World Task) (b : Bool) → Q w → Q (record w { redraw = b })
    pub given : (w : World Task) → (w.next_thread ≡ last_number → ⊥) → Q w → Q (record w { next_thread = w.next_thread + 1 })
    -- an execution: its inputs draw words, its row changes what its group may change
    pub evaluates : (w : World Task) (v : View) (inputs : Expressions) → Q w → IfGoes (values v inputs w.words) (λ d. Q (record w { words = d.words }))
    pub rows : (w : World Task) (t : Task) (s : Statement) (c : Context) (a : Arguments) (x : Applied) → Stands w t s → a.variables ≡ (command_of s).refs → Q w
        → row p (command_of s) a t.of t.serial c w ≡ Goes x → Applies p t.of t.serial (command_of s) w x → Q x.world
    -- what controls do beside
    pub drops : (w : World Task) (n : ℕ) → Q w → IfGoes (questions_dropped n (scene_of w)) (λ s. Q (with_scene w s))
    pub stops : (w : World Task) → Inhabited p.records w.next_instance w.targets → Q w → Q (all_stopped p.records w)
    pub disposes : (w : World Task) (n : ℕ) → Inhabited p.records w.next_instance w.targets → is_clone p.records n ≡ true → Q w → Q (disposed n w)
    pub untimed : (w : World Task) (n : ℕ) → Q w → Q (with_scene w (without_timers n (scene_of w)))
    pub clones : (w : World Task) (original target : ℕ) → Inhabited p.records w.next_instance w.targets → Hosts original target w.targets
        → has_no_room p.records original w ≡ false → (w.next_instance ≡ last_number → ⊥) → Q w
        → Q (record (clone_added original w) { targets = placed_behind w.next_instance original (clone_added original w).targets })
    -- a frame: the clock, due timers, edge hats, its number
    pub clock : (w : World Task) (c : ℕ) → w.devices.clock ≤ c → c ≤ last_clock → Q w → Q (at_clock c w)
    pub timer_gone : (w : World Task) (k : ℕ) → Q w → Q (without_timer k w)
    pub emptied : (w : World Task) (n : ℕ) → Q w → IfGoes (bubble_emptied n (scene_of w)) (λ s. Q (with_scene w s))
    pub noted : (w : World Task) (x : Pair) (v : Bool) → IsEdge w x → Inhabited p.records w.next_instance w.targets → Q w → Q (edge_noted x v w)
    pub counted : (w : World Task) → (w.frame ≡ last_number → ⊥) → Q w → Q (record w { frame = w.frame + 1 })
    -- other lines
    pub renews : (w : World Task) → Q w → Q (renewed w)
    pub key_held : (w : World Task) (k : Key) → IsNamedKey k → Q w → Q (with_keys (with_key k) w)
    pub key_free : (w : World Task) (k : Key) → Q w → Q (with_keys (without_key k) w)
    pub mouse : (w : World Task) (x y : ℤ) → unsigned_abs x ≤ 240 → unsigned_abs y ≤ 180 → Q w → Q (record w { devices = record w.devices { mouse_x = x; mouse_y = y } })
    pub button : (w : World Task) (down : Bool) → Q w → Q (record w { devices = record w.devices { button = down } })
    pub turbo : (w : World Task) (on : Bool) → Q w → Q (record w { devices = record w.devices { turbo = on } })
    pub answer : (w : World Task) (text : List ℕ) → length text ≤ longest → Q w → Q (with_answer text w)
    pub answers : (w : World Task) (q : Question) (qs : List Question) → w.devices.questions ≡ q ∷ qs → Q w
        → IfGoes (first_taken q.bubble q.of (record (scene_of w) { devices = record w.devices { questions = qs } })) (λ s. Q (with_scene w s))

  pub while_clock_stands : Keeps → KeepsAtClock
  while_clock_stands k = record {
    threads = k.threads;
    redraw = k.redraw;
    given = k.given;
    evaluates = k.evaluates;
    rows = k.rows;
    drops = k.drops;
    stops = k.stops;
    disposes = k.disposes;
    untimed = k.untimed;
    clones = k.clones;
    timer_gone = k.timer_gone;
    emptied = k.emptied;
    noted = k.noted;
    counted = k.counted;
    renews = k.renews;
    key_held = k.key_held;
    key_free = k.key_free;
    mouse = k.mouse;
    button = k.button;
    turbo = k.turbo;
    answer = k.answer;
    answers = k.answers;
  }
