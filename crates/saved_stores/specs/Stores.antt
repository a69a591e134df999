-- The stores that the parts of a text tell.
use Rattle.std.specs.Prelude.{◌≡◌, List, map, filter_map, None}
use Rattle.machine_spec.specs.ScriptText.{key_of_rest}
use Rattle.machine_spec.specs.Stores.{Variables, Devices}
use Rattle.machine_spec.specs.declared.instance.Instance.{Instance}
use Rattle.saved_parts.specs.declared.run.ToldRun.{ToldRun}
use Rattle.saved_parts.specs.Telling.{instance_of, store_of, made_of, question_of, told_of}
use Rattle.project_spec.specs.Basis.{Basis}
use Rattle.saved_spec.specs.RunShapes.{stores_in_order}
use Rattle.saved_spec.specs.Rules.{broken}
use Rattle.saved_stores.specs.declared.told_parts.ToldDevices.{ToldDevices}
use Rattle.saved_stores.specs.declared.told_parts.ToldStores.{ToldStores}

-- the instances in executable order
abbrev pub targets_in : ToldStores → List Instance
targets_in s = map instance_of s.instances

-- the variables and lists by instance, and the monitors
abbrev pub variables_in : ToldStores → Variables
variables_in s = record { stores = stores_in_order (map store_of s.instances); file_monitors = s.monitors; made = map made_of s.made }

abbrev pub devices_of : ToldDevices → Devices
devices_of d = record {
  answer = d.answer;
  clock = d.clock;
  timer = d.timer;
  keys = filter_map key_of_rest d.keys;
  mouse_x = d.mouse.x;
  mouse_y = d.mouse.y;
  button = d.mouse.down;
  questions = map question_of d.questions;
  timers = d.timers;
  turbo = d.turbo;
  usage = d.usage;
}

abbrev pub devices_in : ToldStores → Devices
devices_in s = devices_of s.devices

-- the parts of a run that its stores are made of
abbrev pub parts_of : ToldRun → ToldStores
parts_of r = record {
  instances = r.instances;
  monitors = r.monitors;
  made = r.made;
  devices = record {
    answer = r.answer;
    clock = r.clock;
    timer = r.timer;
    keys = r.keys;
    mouse = r.mouse;
    questions = r.questions;
    timers = r.timers;
    turbo = r.turbo;
    usage = r.next.usage;
  };
}

-- they are the parts of a run that keeps all rules
abbrev pub KeepRules : Basis → ToldStores → Type 0
KeepRules b s = (r : ToldRun) × (s ≡ parts_of r) × (broken b (told_of r) ≡ None)
