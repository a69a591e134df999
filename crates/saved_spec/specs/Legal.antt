-- What the text of a run tells, and which threads of the machine its threads stand for.
use Rattle.std.specs.Prelude.{◌≡◌, ℕ, List, [], ◌∷◌, map, Bool, true, false, Some}
use Rattle.machine_spec.specs.Legal.{EndOfOne, Stands, script_of, scripts_on}
use Rattle.machine_spec.specs.Line.{key_name}
use Rattle.machine_spec.specs.Pending.{Item, Do, Held, Returned, Branch, Again, Back}
use Rattle.machine_spec.specs.Program.{Program}
use Rattle.machine_spec.specs.Script.{Script, Then, Statement, place_of}
use Rattle.machine_spec.specs.declared.instance.Instance.{Instance}
use Rattle.machine_spec.specs.Stores.{Devices, instance_at}
use Rattle.machine_spec.specs.Tasks.{Task}
use Rattle.saved_spec.specs.Saved.{Snapshot}
use Rattle.project_spec.specs.Basis.{Basis, script_under}
use Rattle.saved_spec.specs.Kept.{thread_told}
use Rattle.saved_spec.specs.RunShapes.{Told}
use Rattle.saved_spec.specs.ThreadRules.{stands_well}

-- the same run with other threads
abbrev pub with_threads : {A B : Type 0} → List B → Snapshot A → Snapshot B
with_threads threads s = record {
  project = s.project;
  seed = s.seed;
  drawn = s.drawn;
  frame = s.frame;
  next_thread = s.next_thread;
  next_instance = s.next_instance;
  targets = s.targets;
  variables = s.variables;
  devices = s.devices;
  threads = threads;
}

-- what the text of a run of the machine tells
abbrev pub told : Snapshot Task → Told
told s = record { run = with_threads (map thread_told s.threads) s; keys = map key_name s.devices.keys }

-- Where the items of a pending list stand, given the script under the hat

-- the level of a marker holds the end of a chain that may stand there, and the marker restores the flag of its place
abbrev pub StandsUnder : Program → Script → Item → List Item → Type 0
StandsUnder p hat (Do s) rest = Unit {0}
StandsUnder p hat (Held s c) rest = ⊥
StandsUnder p hat (Returned s params) rest = ⊥
StandsUnder p hat (Branch s warp) rest = Stands p hat (Then s (script_of rest)) rest warp
StandsUnder p hat (Again s c warp) rest = Stands p hat (Then s (script_of rest)) rest warp
StandsUnder p hat (Back s params warp) rest = Stands p hat (Then s (script_of rest)) rest warp

abbrev pub AllStand : Program → Script → List Item → Type 0
AllStand p hat [] = Unit {0}
AllStand p hat (x ∷ rest) = StandsUnder p hat x rest × AllStand p hat rest

-- the first item stands so too; the flag of a thread that has nothing to do is false
abbrev pub StandsFirst : Program → Script → Item → List Item → (warp : Bool) → Type 0
StandsFirst p hat (Do s) rest warp = Stands p hat (Then s (script_of rest)) rest warp
StandsFirst p hat (Held s c) rest warp = Stands p hat (Then s (script_of rest)) rest warp
StandsFirst p hat (Returned s params) rest warp = Stands p hat (Then s (script_of rest)) rest warp
StandsFirst p hat x rest warp = ⊥

abbrev pub StandsIn : Program → Script → List Item → (warp : Bool) → Type 0
StandsIn p hat [] warp = warp ≡ false
StandsIn p hat (x ∷ rest) warp = StandsFirst p hat x rest warp × AllStand p hat rest

-- a thread, among these instances and devices: the script under its hat, its levels in their places, and the rules on what
-- it has still to do
pub record IsLegalThread (b : Basis) (targets : List Instance) (d : Devices) (t : Task) : Type 0 where
  pub hat : Script
  pub under : script_under (instance_at t.of targets).of t.hat b ≡ Some hat
  pub stands : StandsIn b.program hat t.items t.warp
  pub well : stands_well b.program d t.serial t.status t.items ≡ true

-- A block begins one script, wherever levels over the script under the hat may hold it. So it is in a project, where the
-- script at a block is told by the block.
pub record BlocksAgree (p : Program) (hat : Script) : Type 0 where
  pub script_at : ℕ → Script
  pub agree : (under : List Item) (s : Statement) (rest : Script) → AllStand p hat under → EndOfOne (Then s rest) (scripts_on p hat under) → Then s rest ≡ script_at (place_of s).block
