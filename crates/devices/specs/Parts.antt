-- Devices that are made again from their parts.
use Rattle.std.specs.Prelude.{◌<◌, ◌^◌}
use Rattle.machine_spec.specs.Stores.{Devices}
use Rattle.devices.specs.declared.parts.DeviceParts.{DeviceParts}

-- the devices that hold these parts
abbrev pub devices_of : DeviceParts → Devices
devices_of p = record {
  answer = p.answer;
  clock = p.clock;
  timer = p.timer;
  keys = p.keys;
  mouse_x = p.mouse_x;
  mouse_y = p.mouse_y;
  button = p.button;
  questions = p.questions;
  timers = p.timers;
  turbo = p.turbo;
  usage = p.usage;
}

-- the number that the next bubble update gets is one that the counter can have
abbrev pub HasUsage : DeviceParts → Type 0
HasUsage p = p.usage < 2 ^ 62
