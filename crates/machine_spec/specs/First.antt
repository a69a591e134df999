-- The first world of a run.
use Rattle.std.specs.Prelude.{ℕ, pos, List, [], ◌∷◌, map, length, false, ◌||◌, None, if◌then◌else◌}
use Rattle.std.specs.List.{enumerate_from}
use Rattle.machine_spec.specs.Words.{Words}
use Rattle.machine_spec.specs.Program.{Program, TargetRecord}
use Rattle.machine_spec.specs.Stores.{Devices, Instance, Store, no_bubble, less}
use Rattle.machine_spec.specs.Effects.{no_effects}
use Rattle.machine_spec.specs.Tasks.{Task}
use Rattle.machine_spec.specs.World.{World}

-- the original of a target
abbrev pub original : ℕ → TargetRecord → Instance
original n t = record {
  number = n;
  of = n;
  x = t.x;
  y = t.y;
  direction = t.direction;
  size = t.size;
  visible = t.visible;
  costume = t.costume;
  style = t.style;
  effects = no_effects;
  bubble = no_bubble;
  edges = [];
}

-- a target put before those of higher layer order and before equals; the stage before all
abbrev pub layered : (ℕ × TargetRecord) → List (ℕ × TargetRecord) → List (ℕ × TargetRecord)
layered t [] = t ∷ []
layered t (x ∷ xs) =
    if t.1.is_stage then t ∷ x ∷ xs
    else (if x.1.is_stage || less x.1.layer_order t.1.layer_order then x ∷ layered t xs else t ∷ x ∷ xs)

-- the executable order: the stage, then the sprites by layer order, equals in file order
abbrev pub in_order : List (ℕ × TargetRecord) → List (ℕ × TargetRecord)
in_order [] = []
in_order (t ∷ ts) = layered t (in_order ts)

abbrev pub store : ℕ → TargetRecord → Store
store n t = record { of = n; values = map (λ v. v.value) t.variables; lists = map (λ l. l.items) t.lists }

-- the devices of a run that begins: nothing is held or asked, all clocks stand at 0, and the first bubble update has the number 1
abbrev pub first_devices : Devices
first_devices = record {
  answer = [];
  clock = 0;
  timer = 0;
  keys = [];
  mouse_x = pos 0;
  mouse_y = pos 0;
  button = false;
  questions = [];
  timers = [];
  turbo = false;
  usage = 1;
}

abbrev pub first_world : Program → Words → World Task
first_world p words = record {
  frame = 0;
  words = words;
  next_thread = 1;
  next_instance = length p.records.targets;
  redraw = false;
  targets = map (λ x. original x.0 x.1) (in_order (enumerate_from 0 p.records.targets));
  variables = record {
    stores = map (λ x. store x.0 x.1) (enumerate_from 0 p.records.targets);
    file_monitors = map (λ m. m.visible) p.records.monitors;
    made = [];
  };
  devices = first_devices;
  threads = record { list = []; detached = None };
}
