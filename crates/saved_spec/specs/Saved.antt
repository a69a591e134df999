-- The saved run, version 1 (docs/formats.md, section 5): its value, and its text.
use Rattle.std.specs.Prelude.{ℕ, ◌*◌, ◌^◌, List, [], ◌∷◌, codes}
use Rattle.hex.specs.Hex.{encode_lower}
use Rattle.serde_json.specs.Data.{Data, boolean, string}
use Rattle.serde_json.specs.Written.{compact_text}
use Rattle.machine_spec.specs.declared.instance.Instance.{Instance}
use Rattle.machine_spec.specs.Stores.{Devices, Variables}
use Rattle.machine_spec.specs.World.{World}
use Rattle.saved_spec.specs.Rows.{whole, row, table, each}
use Rattle.saved_spec.specs.Instances.{instance}
use Rattle.saved_spec.specs.Monitors.{made}
use Rattle.saved_spec.specs.Devices.{key, question, timer, mouse}

-- the version of the format
abbrev pub version : ℕ
version = 1

-- what is saved: a world, whatever a thread is, but for its redraw request and a detached thread, which last no longer than
-- a frame; of its random words the seed and how many were drawn; and the digest of its project file in hexadecimal digits
pub record Snapshot (T : Type 0) : Type 0 where
  pub project : List ℕ
  pub seed : ℕ
  pub drawn : ℕ
  pub frame : ℕ
  pub next_thread : ℕ
  pub next_instance : ℕ
  pub targets : List Instance
  pub variables : Variables
  pub devices : Devices
  pub threads : List T

abbrev pub snapshot : {T : Type 0} → (digest : List ℕ) → (seed : ℕ) → World T → Snapshot T
snapshot digest seed w = record {
  project = encode_lower digest;
  seed = seed;
  drawn = w.words.drawn;
  frame = w.frame;
  next_thread = w.next_thread;
  next_instance = w.next_instance;
  targets = w.targets;
  variables = w.variables;
  devices = w.devices;
  threads = w.threads.list;
}

-- the numbers that are given next: of a thread, of an instance, of an update of a bubble
abbrev pub next : {T : Type 0} → Snapshot T → Data
next s = row (whole s.next_thread ∷ whole s.next_instance ∷ whole s.devices.usage ∷ [])

-- the value of a saved run whose threads have the values that f gives
unfoldable pub saved : {T : Type 0} → (f : T → Data) → Snapshot T → Data
saved f s = table (
    (codes "answer", string s.devices.answer)
    ∷ (codes "clock", whole s.devices.clock)
    ∷ (codes "drawn", whole s.drawn)
    ∷ (codes "frame", whole s.frame)
    ∷ (codes "instances", each (instance s.variables.stores) s.targets)
    ∷ (codes "keys", each key s.devices.keys)
    ∷ (codes "made", each made s.variables.made)
    ∷ (codes "monitors", each boolean s.variables.file_monitors)
    ∷ (codes "mouse", mouse s.devices)
    ∷ (codes "next", next s)
    ∷ (codes "project", string s.project)
    ∷ (codes "questions", each question s.devices.questions)
    ∷ (codes "seed", whole s.seed)
    ∷ (codes "threads", each f s.threads)
    ∷ (codes "timer", whole s.devices.timer)
    ∷ (codes "timers", each timer s.devices.timers)
    ∷ (codes "turbo", boolean s.devices.turbo)
    ∷ (codes "version", whole version)
    ∷ [])

-- its text, without white space
unfoldable pub saved_text : {T : Type 0} → (f : T → Data) → Snapshot T → List ℕ
saved_text f s = compact_text (saved f s)

-- the most bytes of a saved run: 128 MiB
abbrev pub saved_limit : ℕ
saved_limit = 128 * 2 ^ 20
