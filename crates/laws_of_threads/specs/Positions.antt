-- Where an execution leaves its own thread, and what a row must say so that this is legal.
use Rattle.std.specs.Prelude.{◌≡◌, ℕ, ◌<◌, Bool, true, false, List, ◌∷◌, Option, Some, None}
use Rattle.opcode_table.specs.declared.kinds.Kind.{Kind}
use Rattle.opcode_table.specs.declared.kinds.Kind.TheVariants.{Choice, Calls, Starts}
use Rattle.machine_spec.specs.Script.{Script}
use Rattle.machine_spec.specs.Program.{Program, Procedure}
use Rattle.machine_spec.specs.declared.threads.Context.{Context}
use Rattle.machine_spec.specs.declared.threads.Context.TheVariants.{Fresh, Wait, Started, Asked, Spoken, Called}
use Rattle.machine_spec.specs.declared.threads.Control.{Control}
use Rattle.machine_spec.specs.declared.threads.Control.TheVariants.{Next, Branch, Yield, YieldTick, Promise, Call, Start}
use Rattle.machine_spec.specs.Pending.{Item, Held, Position}
use Rattle.machine_spec.specs.Keeping.{is_started}
use Rattle.machine_spec.specs.Stores.{from_zero}
use Rattle.machine_spec.specs.Tasks.{status_after}
use Rattle.machine_spec.specs.Legal.{Keeps, KeepsAgain, Fits, Legal, StatusFits}
use Rattle.laws_of_threads.specs.Lists.{Each}
use Rattle.laws_of_threads.specs.Scripts.{IsThen}

-- a wait that is kept lasts no less than nothing, and its time is a number; started threads have numbers that were given
abbrev pub KeptWell : (next : ℕ) → Context → Type 0
KeptWell next (Wait c) = from_zero c.duration ≡ c.duration
KeptWell next (Started serials) = Each (λ n. n < next) serials
KeptWell next _ = Unit {0}

-- so is what the first item keeps
abbrev pub FirstKeptWell : (next : ℕ) → List Item → Type 0
FirstKeptWell next (Held s c ∷ r) = KeptWell next c
FirstKeptWell next _ = Unit {0}

-- what is left to do is legal, and the status that follows fits it
pub record Sits (p : Program) (hat : Script) (clock next : ℕ) (x : Position) : Type 0 where
  pub legal : Legal p hat clock x.items x.warp
  pub status : StatusFits (status_after x.report) x.items
  pub kept : FirstKeptWell next x.items

-- it waits for an answer or the end of a bubble
abbrev pub is_promise : Context → Bool
is_promise Asked = true
is_promise Spoken = true
is_promise _ = false

-- what a statement can bring to its next execution
abbrev pub Brings : (clock : ℕ) → Kind → Context → Type 0
Brings clock k Fresh = Unit {0}
Brings clock k Called = k ≡ Calls
Brings clock k c = Keeps clock k c

-- what a statement that yields can keep
abbrev pub KeptFits : (clock : ℕ) → Kind → Context → Type 0
KeptFits clock k Fresh = Unit {0}
KeptFits clock k c = Keeps clock k c

-- under a branch stand a loop with what it keeps, or a choice
abbrev pub BranchFits : (is_loop : Bool) → Kind → Context → Type 0
BranchFits true k c = KeepsAgain k c
BranchFits false k c = k ≡ Choice

-- only some commands wait for the threads that they start
abbrev pub StartFits : (wait : Bool) → Kind → Type 0
StartFits true k = k ≡ Starts
StartFits false k = Unit {0}

-- the control of a command of this kind, which keeps the context then; `q` is the procedure of its code
abbrev pub ControlFits : (clock next : ℕ) → Kind → (q : Option Procedure) → Context → Control → Type 0
ControlFits clock next k q c Next = Unit {0}
ControlFits clock next k q c (Branch n is_loop) = BranchFits is_loop k c
ControlFits clock next k q c Yield = KeptFits clock k c × (is_promise c ≡ false) × KeptWell next c
ControlFits clock next k q c YieldTick = Keeps clock k c × (is_started c ≡ true) × KeptWell next c
ControlFits clock next k q c Promise = Keeps clock k c × (is_promise c ≡ true)
ControlFits clock next k q c (Call definition params) = (k ≡ Calls) × Fits params q
ControlFits clock next k q c (Start hats wait) = StartFits wait k
ControlFits clock next k q c _ = Unit {0}

-- a procedure that is entered has something to do
abbrev pub Begins : Option Procedure → Type 0
Begins None = Unit {0}
Begins (Some q) = IsThen q.body
