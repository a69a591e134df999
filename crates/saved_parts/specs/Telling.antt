-- What the parts of a text tell, as the rules of saved runs see it.
use Rattle.std.specs.Prelude.{ℕ, Bool, true, false, List, map, filter_map, reverse}
use Rattle.machine_spec.specs.declared.bubble.Bubble.{Bubble}
use Rattle.machine_spec.specs.declared.instance.Instance.{Instance}
use Rattle.machine_spec.specs.declared.devices.Question.{Question}
use Rattle.machine_spec.specs.declared.variables.Made.{Made}
use Rattle.machine_spec.specs.declared.variables.Shown.{Shown}
use Rattle.machine_spec.specs.declared.variables.Shown.TheVariants.{Variable, List as Items}
use Rattle.machine_spec.specs.declared.variables.Store.{Store}
use Rattle.machine_spec.specs.ScriptText.{key_of_rest}
use Rattle.scratch_values.specs.declared.value.Value.{Value}
use Rattle.scratch_values.specs.declared.value.Value.TheVariants as value
use Rattle.saved_spec.specs.Kept as kept
use Rattle.saved_spec.specs.InstanceShapes.{Standing}
use Rattle.saved_spec.specs.RunShapes.{Told, Mouse, Next, stores_in_order}
use Rattle.saved_parts.specs.declared.values.ToldValue.{ToldValue}
use Rattle.saved_parts.specs.declared.values.ToldValue.TheVariants.{Number, Truth, Text}
use Rattle.saved_parts.specs.declared.instances.ToldBubble.{ToldBubble}
use Rattle.saved_parts.specs.declared.instances.ToldInstance.{ToldInstance}
use Rattle.saved_parts.specs.declared.threads.ToldParam.{ToldParam}
use Rattle.saved_parts.specs.declared.threads.ToldKept.{ToldKept}
use Rattle.saved_parts.specs.declared.threads.ToldKept.TheVariants.{Nothing, Loop, Repeat, Wait, Glide, Started, Asked, Spoken, Call}
use Rattle.saved_parts.specs.declared.threads.ToldLevel.{ToldLevel}
use Rattle.saved_parts.specs.declared.threads.ToldThread.{ToldThread}
use Rattle.saved_parts.specs.declared.run.ToldMade.{ToldMade}
use Rattle.saved_parts.specs.declared.run.ToldQuestion.{ToldQuestion}
use Rattle.saved_parts.specs.declared.run.ToldMouse.{ToldMouse}
use Rattle.saved_parts.specs.declared.run.ToldNext.{ToldNext}
use Rattle.saved_parts.specs.declared.run.ToldRun.{ToldRun}

abbrev pub value_of : ToldValue → Value
value_of (Number n) = value.Number n
value_of (Truth b) = value.Truth b
value_of (Text t) = value.Text t

abbrev pub bubble_of : ToldBubble → Bubble
bubble_of b = record { kind = b.kind; text = b.text; usage = b.usage }

abbrev pub instance_of : ToldInstance → Instance
instance_of i = record {
  number = i.number;
  of = i.of;
  x = i.x;
  y = i.y;
  direction = i.direction;
  size = i.size;
  visible = i.visible;
  costume = i.costume;
  style = i.style;
  effects = i.effects;
  bubble = bubble_of i.bubble;
  edges = i.edges;
}

-- the variables and lists of an instance
abbrev pub store_of : ToldInstance → Store
store_of i = record { of = i.number; values = map value_of i.values; lists = map (map value_of) i.lists }

abbrev pub standing_of : ToldInstance → Standing
standing_of i = record { instance = instance_of i; store = store_of i }

-- Threads

abbrev pub param_of : ToldParam → List ℕ × Value
param_of p = (p.name, value_of p.value)

abbrev pub kept_of : ToldKept → kept.Kept
kept_of Nothing = kept.Nothing
kept_of Loop = kept.Loop
kept_of (Repeat turns) = kept.Repeat turns
kept_of (Wait state) = kept.Wait state
kept_of (Glide state) = kept.Glide state
kept_of (Started serials) = kept.Started serials
kept_of Asked = kept.Asked
kept_of Spoken = kept.Spoken
kept_of (Call params) = kept.Call (map param_of params)

abbrev pub level_of : ToldLevel → kept.SavedLevel
level_of l = record { block = l.block; kept = kept_of l.kept }

-- its levels are written from the bottom
abbrev pub thread_of : ToldThread → kept.SavedThread
thread_of t = record { serial = t.serial; of = t.of; hat = t.hat; status = t.status; levels = reverse (map level_of t.levels) }

-- The run

abbrev pub shown_of : (is_list : Bool) → (target index : ℕ) → Shown
shown_of true target index = Items target index
shown_of false target index = Variable target index

abbrev pub made_of : ToldMade → Made
made_of m = record { what = shown_of m.is_list m.target m.index; visible = m.visible }

abbrev pub question_of : ToldQuestion → Question
question_of q = record { of = q.of; thread = q.thread; text = q.text; bubble = q.bubble }

abbrev pub mouse_of : ToldMouse → Mouse
mouse_of m = record { x = m.x; y = m.y; down = m.down }

abbrev pub next_of : ToldNext → Next
next_of n = record { thread = n.thread; instance = n.instance; usage = n.usage }

abbrev pub told_of : ToldRun → Told
told_of r = record {
  run = record {
    project = r.project;
    seed = r.seed;
    drawn = r.drawn;
    frame = r.frame;
    next_thread = r.next.thread;
    next_instance = r.next.instance;
    targets = map instance_of r.instances;
    variables = record { stores = stores_in_order (map store_of r.instances); file_monitors = r.monitors; made = map made_of r.made };
    devices = record {
      answer = r.answer;
      clock = r.clock;
      timer = r.timer;
      keys = filter_map key_of_rest r.keys;
      mouse_x = r.mouse.x;
      mouse_y = r.mouse.y;
      button = r.mouse.down;
      questions = map question_of r.questions;
      timers = r.timers;
      turbo = r.turbo;
      usage = r.next.usage;
    };
    threads = map thread_of r.threads;
  };
  keys = r.keys;
}
