-- The shape of a saved run (docs/formats.md, section 5), member by member in the order of the table.
use Rattle.std.specs.Prelude.{ℕ, ◌==◌, ◌&&◌, nat_le, nat_lt, ℤ, List, [], ◌∷◌, map, filter_map, length, Bool, ◌||◌, Some, None, option_and_then, Ok, codes, if◌then◌else◌}
use Rattle.std.specs.List.{list_all}
use Rattle.serde_json.specs.Data.{Data}
use Rattle.serde_json.specs.Find.{as_str}
use Rattle.machine_spec.specs.declared.variables.Made.{Made}
use Rattle.machine_spec.specs.declared.variables.Shown.{Shown}
use Rattle.machine_spec.specs.declared.variables.Store.{Store}
use Rattle.machine_spec.specs.declared.devices.Question.{Question}
use Rattle.machine_spec.specs.declared.devices.BubbleTimer.{BubbleTimer}
use Rattle.machine_spec.specs.declared.variables.Shown.TheVariants.{Variable, List as Items}
use Rattle.machine_spec.specs.ScriptText.{key_of_rest}
use Rattle.json_shapes.specs.Shapes.{Reader, found, ◌>>=◌}
use Rattle.saved_spec.specs.Saved.{Snapshot}
use Rattle.saved_spec.specs.Kept.{SavedThread}
use Rattle.saved_spec.specs.Shapes.{whole, signed, truth, text, word, num, each, row, part, table, member}
use Rattle.saved_spec.specs.InstanceShapes.{instance}
use Rattle.saved_spec.specs.ThreadShapes.{thread}

-- Parts

abbrev pub question : Reader Data Question
question at d =
    row 4 at d >>= (λ ds. part 0 whole at ds >>= (λ of. part 1 whole at ds >>= (λ thread. part 2 text at ds >>= (λ t. part 3 truth at ds >>= (λ bubble.
    Ok (record { of = of; thread = thread; text = t; bubble = bubble }))))))

abbrev pub timer : Reader Data BubbleTimer
timer at d =
    row 4 at d >>= (λ ds. part 0 num at ds >>= (λ due. part 1 whole at ds >>= (λ of. part 2 whole at ds >>= (λ thread. part 3 whole at ds >>= (λ usage.
    Ok (record { due = due; of = of; thread = thread; usage = usage }))))))

abbrev pub shown : Reader Data (ℕ → ℕ → Shown)
shown = word ((codes "variable", Variable) ∷ (codes "list", Items) ∷ [])

abbrev pub made : Reader Data Made
made at d =
    row 4 at d >>= (λ ds. part 0 shown at ds >>= (λ what. part 1 whole at ds >>= (λ target. part 2 whole at ds >>= (λ index. part 3 truth at ds >>= (λ visible.
    Ok (record { what = what target index; visible = visible }))))))

-- the mouse: its place, and whether its button is down
pub record Mouse : Type 0 where
  pub x : ℤ
  pub y : ℤ
  pub down : Bool

abbrev pub mouse : Reader Data Mouse
mouse at d =
    row 3 at d >>= (λ ds. part 0 signed at ds >>= (λ x. part 1 signed at ds >>= (λ y. part 2 truth at ds >>= (λ down.
    Ok (record { x = x; y = y; down = down })))))

-- the numbers that are given next
pub record Next : Type 0 where
  pub thread : ℕ
  pub instance : ℕ
  pub usage : ℕ

abbrev pub next : Reader Data Next
next at d =
    row 3 at d >>= (λ ds. part 0 whole at ds >>= (λ thread. part 1 whole at ds >>= (λ instance. part 2 whole at ds >>= (λ usage.
    Ok (record { thread = thread; instance = instance; usage = usage })))))

-- a hexadecimal digit, a letter in lower case
abbrev pub is_digit : ℕ → Bool
is_digit c = nat_le 48 c && nat_le c 57 || nat_le 97 c && nat_le c 102

abbrev pub is_digest : List ℕ → Bool
is_digest t = (length t == 64) && list_all is_digit t

-- the digest of a project file: 64 digits
abbrev pub digest : Reader Data (List ℕ)
digest at d = found at (option_and_then (λ t. if is_digest t then Some t else None) (as_str d))

-- The stores stand by the numbers of their instances

abbrev pub store_among : Store → List Store → List Store
store_among s [] = s ∷ []
store_among s (t ∷ ts) = if nat_lt t.of s.of then t ∷ store_among s ts else s ∷ t ∷ ts

abbrev pub stores_in_order : List Store → List Store
stores_in_order [] = []
stores_in_order (s ∷ ss) = store_among s (stores_in_order ss)

-- A run

-- what a text tells: a run, and the names of the keys that are held, which may be no keys
pub record Told : Type 0 where
  pub run : Snapshot SavedThread
  pub keys : List (List ℕ)

abbrev pub run : Reader Data Told
run at d =
    table at d >>= (λ _. member (codes "answer") text at d >>= (λ answer. member (codes "clock") whole at d >>= (λ clock.
    member (codes "drawn") whole at d >>= (λ drawn. member (codes "frame") whole at d >>= (λ frame. member (codes "seed") whole at d >>= (λ seed.
    member (codes "timer") whole at d >>= (λ reset. member (codes "instances") (each instance) at d >>= (λ instances.
    member (codes "keys") (each text) at d >>= (λ keys. member (codes "made") (each made) at d >>= (λ monitors_made.
    member (codes "monitors") (each truth) at d >>= (λ file_monitors. member (codes "mouse") mouse at d >>= (λ m.
    member (codes "next") next at d >>= (λ n. member (codes "project") digest at d >>= (λ project.
    member (codes "questions") (each question) at d >>= (λ questions. member (codes "threads") (each thread) at d >>= (λ threads.
    member (codes "timers") (each timer) at d >>= (λ timers. member (codes "turbo") truth at d >>= (λ turbo. member (codes "version") whole at d >>= (λ _.
    Ok (record {
      run = record {
        project = project;
        seed = seed;
        drawn = drawn;
        frame = frame;
        next_thread = n.thread;
        next_instance = n.instance;
        targets = map (λ s. s.instance) instances;
        variables = record { stores = stores_in_order (map (λ s. s.store) instances); file_monitors = file_monitors; made = monitors_made };
        devices = record {
          answer = answer;
          clock = clock;
          timer = reset;
          keys = filter_map key_of_rest keys;
          mouse_x = m.x;
          mouse_y = m.y;
          button = m.down;
          questions = questions;
          timers = timers;
          turbo = turbo;
          usage = n.usage;
        };
        threads = threads;
      };
      keys = keys;
    }))))))))))))))))))))
