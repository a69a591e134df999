-- What the types of the program say of all that a saved run tells: whole numbers fit their types, numbers are within their
-- limit, texts are UTF-8, and those of values are short.
use Rattle.std.specs.Prelude.{◌≡◌, ℕ, ◌<◌, ◌≤◌, ◌^◌, ℤ, pos, negsuc, List, [], ◌∷◌, length, Option, None, Some, IsUtf8}
use Rattle.std.specs.Char.{IsScalar}
use Rattle.std.specs.List.{All}
use Rattle.scratch_number.specs.declared.number.Num.{Num}
use Rattle.scratch_number.specs.Number.{IsWithin}
use Rattle.scratch_values.specs.Longest.{longest}
use Rattle.scratch_values.specs.declared.value.Value.{Value}
use Rattle.scratch_values.specs.declared.value.Value.TheVariants.{Number, Truth, Text}
use Rattle.machine_spec.specs.declared.bubble.Bubble.{Bubble}
use Rattle.machine_spec.specs.declared.devices.BubbleTimer.{BubbleTimer}
use Rattle.machine_spec.specs.declared.devices.Key.{Key}
use Rattle.machine_spec.specs.declared.devices.Key.TheVariants.{Space, Enter, Left, Right, Up, Down, One}
use Rattle.machine_spec.specs.declared.devices.Question.{Question}
use Rattle.machine_spec.specs.declared.instance.Instance.{Instance}
use Rattle.machine_spec.specs.declared.threads.Context.{Context}
use Rattle.machine_spec.specs.declared.threads.Context.TheVariants.{Fresh, Repeat, Wait, Glide, Started, Asked, Spoken, Called}
use Rattle.machine_spec.specs.declared.threads.Count.{Count}
use Rattle.machine_spec.specs.declared.threads.Count.TheVariants.{Whole, Infinite}
use Rattle.machine_spec.specs.declared.threads.GlideState.{GlideState}
use Rattle.machine_spec.specs.declared.threads.WaitState.{WaitState}
use Rattle.machine_spec.specs.declared.variables.Made.{Made}
use Rattle.machine_spec.specs.declared.variables.Shown.{Shown}
use Rattle.machine_spec.specs.declared.variables.Shown.TheVariants.{Variable, List as Items}
use Rattle.machine_spec.specs.declared.variables.Store.{Store}
use Rattle.machine_spec.specs.Pending.{Item, Do, Held, Returned, Branch, Again, Back}
use Rattle.machine_spec.specs.Script.{Statement, place_of}
use Rattle.machine_spec.specs.Stores.{Devices, store_at}
use Rattle.machine_spec.specs.Tasks.{Task}
use Rattle.machine_spec.specs.Threads.{Params}
use Rattle.saved_spec.specs.Saved.{Snapshot}

-- a whole number fits 64 bits, without or with a sign
abbrev pub IsWhole : ℕ → Type 0
IsWhole n = n < 2 ^ 64

abbrev pub IsSigned : ℤ → Type 0
IsSigned (pos n) = n < 2 ^ 63
IsSigned (negsuc n) = n < 2 ^ 63

-- a text that a run can use as a value
abbrev pub IsText : List ℕ → Type 0
IsText t = IsUtf8 t × (length t ≤ longest)

abbrev pub IsValue : Value → Type 0
IsValue (Number n) = IsWithin n
IsValue (Truth b) = Unit {0}
IsValue (Text t) = IsText t

-- Instances and their variables

pub record IsBubble (b : Bubble) : Type 0 where
  pub utf8 : IsUtf8 b.text
  pub usage : IsWhole b.usage

-- there are seven effects
pub record AreEffects (effects : List Num) : Type 0 where
  pub seven : length effects ≡ 7
  pub within : All IsWithin effects

pub record IsInstance (i : Instance) : Type 0 where
  pub number : IsWhole i.number
  pub of : IsWhole i.of
  pub x : IsWithin i.x
  pub y : IsWithin i.y
  pub direction : IsWithin i.direction
  pub size : IsWithin i.size
  pub costume : IsWhole i.costume
  pub effects : AreEffects i.effects
  pub bubble : IsBubble i.bubble
  pub edges : All (λ e. IsWhole e.0) i.edges

-- an instance with these values and lists
pub record HasInstance (i : Instance) (values : List Value) (lists : List (List Value)) : Type 0 where
  pub itself : IsInstance i
  pub its_values : All IsValue values
  pub its_lists : All (All IsValue) lists

-- an instance with its store among these
abbrev pub IsStanding : List Store → Instance → Type 0
IsStanding stores i = HasInstance i (store_at i.number stores).values (store_at i.number stores).lists

abbrev pub IsShown : Shown → Type 0
IsShown (Variable target index) = IsWhole target × IsWhole index
IsShown (Items target index) = IsWhole target × IsWhole index

-- Devices

abbrev pub IsKey : Key → Type 0
IsKey (One c) = IsScalar c
IsKey key = Unit {0}

pub record IsQuestion (q : Question) : Type 0 where
  pub of : IsWhole q.of
  pub thread : IsWhole q.thread
  pub text : IsText q.text

pub record IsTimer (t : BubbleTimer) : Type 0 where
  pub due : IsWithin t.due
  pub of : IsWhole t.of
  pub thread : IsWhole t.thread
  pub usage : IsWhole t.usage

pub record AreDevices (d : Devices) : Type 0 where
  pub answer : IsText d.answer
  pub clock : IsWhole d.clock
  pub timer : IsWhole d.timer
  pub keys : All IsKey d.keys
  pub mouse_x : IsSigned d.mouse_x
  pub mouse_y : IsSigned d.mouse_y
  pub questions : All IsQuestion d.questions
  pub timers : All IsTimer d.timers
  pub usage : IsWhole d.usage

-- What blocks keep

abbrev pub IsCount : Count → Type 0
IsCount (Whole turns) = IsSigned turns
IsCount Infinite = Unit {0}

pub record IsWait (w : WaitState) : Type 0 where
  pub start : IsWhole w.start
  pub duration : IsWithin w.duration

pub record IsGlide (g : GlideState) : Type 0 where
  pub start : IsWhole g.start
  pub duration : IsWithin g.duration
  pub x0 : IsWithin g.x0
  pub y0 : IsWithin g.y0
  pub x1 : IsWithin g.x1
  pub y1 : IsWithin g.y1

abbrev pub IsContext : Context → Type 0
IsContext Fresh = Unit {0}
IsContext (Repeat turns) = IsCount turns
IsContext (Wait state) = IsWait state
IsContext (Glide state) = IsGlide state
IsContext (Started serials) = All IsWhole serials
IsContext Asked = Unit {0}
IsContext Spoken = Unit {0}
IsContext Called = Unit {0}

abbrev pub IsParam : List ℕ × Value → Type 0
IsParam p = IsUtf8 p.0 × IsValue p.1

abbrev pub AreParams : Params → Type 0
AreParams params = All IsParam params

-- the block of a level
abbrev pub IsBlock : Option ℕ → Type 0
IsBlock None = Unit {0}
IsBlock (Some k) = IsWhole k

-- what a level keeps: where its block has called, the parameters
abbrev pub IsKept : Params → Context → Type 0
IsKept params Called = AreParams params
IsKept params c = IsContext c

-- Threads, by what they have still to do: what stands for levels, the first item and the markers

abbrev pub IsPlace : Statement → Type 0
IsPlace s = IsWhole (place_of s).block

abbrev pub IsMarker : Item → Type 0
IsMarker (Do s) = Unit {0}
IsMarker (Held s c) = IsPlace s × IsContext c
IsMarker (Returned s params) = IsPlace s × AreParams params
IsMarker (Branch s warp) = IsPlace s
IsMarker (Again s c warp) = IsPlace s × IsContext c
IsMarker (Back s params warp) = IsPlace s × AreParams params

abbrev pub IsFirst : Item → Type 0
IsFirst (Do s) = IsPlace s
IsFirst x = IsMarker x

abbrev pub AreItems : List Item → Type 0
AreItems [] = Unit {0}
AreItems (x ∷ rest) = IsFirst x × All IsMarker rest

pub record IsTask (t : Task) : Type 0 where
  pub serial : IsWhole t.serial
  pub of : IsWhole t.of
  pub hat : IsWhole t.hat
  pub items : AreItems t.items

-- Runs, whatever a thread is

pub record IsRun {T : Type 0} (thread : T → Type 0) (s : Snapshot T) : Type 0 where
  pub seed : IsWhole s.seed
  pub drawn : IsWhole s.drawn
  pub frame : IsWhole s.frame
  pub next_thread : IsWhole s.next_thread
  pub next_instance : IsWhole s.next_instance
  pub targets : All (IsStanding s.variables.stores) s.targets
  pub made : All (λ m. IsShown m.what) s.variables.made
  pub devices : AreDevices s.devices
  pub threads : All thread s.threads
