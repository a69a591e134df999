-- What a thread that is not done can have to do between executions.
use Rattle.std.specs.Prelude.{◌≡◌, ℕ, ◌<◌, ◌≤◌, pos, Bool, true, false, List, [], ◌∷◌, ◌⊎◌, Option, Some, None, ◌++◌, map, length, bytes_eq, if◌then◌else◌}
use Rattle.std.specs.List.{list_any}
use Rattle.opcode_table.specs.declared.kinds.Kind.{Kind}
use Rattle.opcode_table.specs.declared.kinds.Kind.TheVariants.{Choice, Endless, Counted, Waits, Glides, Starts, Asks, Speaks}
use Rattle.opcode_table.specs.Kinds.{kind}
use Rattle.scratch_values.specs.Casts.{zero_number}
use Rattle.machine_spec.specs.Script.{Script, End, Then, op_of}
use Rattle.machine_spec.specs.Program.{Program, Procedure}
use Rattle.machine_spec.specs.Threads.{Params, Whole, Infinite, Context, Fresh, Repeat, Wait, Glide, Started, Asked, Spoken, Called, Status, Running, Ticking, Waiting, Done}
use Rattle.machine_spec.specs.Stores.{less}
use Rattle.machine_spec.specs.Called.{called, scripts_over, warp_over}
use Rattle.machine_spec.specs.Pending.{Item, Do, Held, Returned, Branch, Again, Back}

-- the script is the other one, or what is left of it behind some statements
abbrev pub EndOf : Script → Script → Type 0
EndOf t End = t ≡ End
EndOf t (Then s rest) = (t ≡ Then s rest) ⊎ EndOf t rest

abbrev pub EndOfOne : Script → List Script → Type 0
EndOfOne t [] = ⊥
EndOfOne t (s ∷ ss) = EndOf t s ⊎ EndOfOne t ss

-- what is to do up to the next marker
abbrev pub script_of : List Item → Script
script_of (Do s ∷ r) = Then s (script_of r)
script_of _ = End

-- each name once, at its first place
abbrev pub with_name : List ℕ → List (List ℕ) → List (List ℕ)
with_name name before = if list_any (λ n. bytes_eq n name) before then before else before ++ name ∷ []

abbrev pub distinct_after : List (List ℕ) → List (List ℕ) → List (List ℕ)
distinct_after before [] = before
distinct_after before (n ∷ ns) = distinct_after (with_name n before) ns

abbrev pub distinct : List (List ℕ) → List (List ℕ)
distinct names = distinct_after [] names

-- the names of the parameters are those of the called prototype, each once, in order
abbrev pub HasNames : List (List ℕ) → Option Procedure → Type 0
HasNames names None = ⊥
HasNames names (Some q) = names ≡ distinct q.names

abbrev pub Fits : Params → Option Procedure → Type 0
Fits params q = HasNames (map (λ x. x.0) params) q

-- a loop is executed again with this
abbrev pub KeepsAgain : Kind → Context → Type 0
KeepsAgain k Fresh = k ≡ Endless
KeepsAgain k (Repeat (Whole (pos n))) = k ≡ Counted
KeepsAgain k (Repeat Infinite) = k ≡ Counted
KeepsAgain k _ = ⊥

-- a statement that was executed keeps this
abbrev pub Keeps : (clock : ℕ) → Kind → Context → Type 0
Keeps clock k (Wait c) = (k ≡ Waits) × (c.start ≤ clock) × (less c.duration zero_number ≡ false)
Keeps clock k (Glide c) = (k ≡ Glides) × (c.start ≤ clock) × (less zero_number c.duration ≡ true)
Keeps clock k (Started serials) = (k ≡ Starts) × (0 < length serials)
Keeps clock k Asked = k ≡ Asks
Keeps clock k Spoken = k ≡ Speaks
Keeps clock k Called = ⊥
Keeps clock k c = KeepsAgain k c

-- `hat` is the script under the thread's hat
module _ (p : Program) (hat : Script) where
  -- the scripts in which the level on these items stands, and its warp flag
  abbrev pub scripts_on : List Item → List Script
  scripts_on [] = hat ∷ []
  scripts_on (Do s ∷ r) = scripts_on r
  scripts_on (Held s c ∷ r) = scripts_on r
  scripts_on (Returned s params ∷ r) = scripts_on r
  scripts_on (Branch s w ∷ r) = scripts_over p s
  scripts_on (Again s c w ∷ r) = scripts_over p s
  scripts_on (Back s params w ∷ r) = scripts_over p s

  abbrev pub warp_on : List Item → Bool
  warp_on [] = false
  warp_on (Do s ∷ r) = warp_on r
  warp_on (Held s c ∷ r) = warp_on r
  warp_on (Returned s params ∷ r) = warp_on r
  warp_on (Branch s w ∷ r) = warp_over p s w
  warp_on (Again s c w ∷ r) = warp_over p s w
  warp_on (Back s params w ∷ r) = warp_over p s w

  -- a level holds the end of a script that may stand there, and has the warp flag of its place
  pub record Stands (t : Script) (r : List Item) (w : Bool) : Type 0 where
    pub ends : EndOfOne t (scripts_on r)
    pub warp : w ≡ warp_on r

  -- the levels under another: a choice, a loop or a call, each at its place
  abbrev pub Markers : List Item → Type 0
  Markers [] = Unit {0}
  Markers (Do s ∷ r) = Markers r
  Markers (Held s c ∷ r) = ⊥
  Markers (Returned s params ∷ r) = ⊥
  Markers (Branch s w ∷ r) = (kind (op_of s) ≡ Choice) × Stands (Then s (script_of r)) r w × Markers r
  Markers (Again s c w ∷ r) = KeepsAgain (kind (op_of s)) c × Stands (Then s (script_of r)) r w × Markers r
  Markers (Back s params w ∷ r) = Fits params (called p s) × Stands (Then s (script_of r)) r w × Markers r

  -- a pending list with its warp flag
  abbrev pub Legal : (clock : ℕ) → List Item → Bool → Type 0
  Legal clock [] w = w ≡ false
  Legal clock (Do s ∷ r) w = Stands (Then s (script_of r)) r w × Markers r
  Legal clock (Held s c ∷ r) w = Keeps clock (kind (op_of s)) c × Stands (Then s (script_of r)) r w × Markers r
  Legal clock (Returned s params ∷ r) w = Fits params (called p s) × Stands (Then s (script_of r)) r w × Markers r
  Legal clock (Branch s v ∷ r) w = ⊥
  Legal clock (Again s c v ∷ r) w = ⊥
  Legal clock (Back s params v ∷ r) w = ⊥

abbrev pub waits_for_promise : List Item → Bool
waits_for_promise (Held s Asked ∷ r) = true
waits_for_promise (Held s Spoken ∷ r) = true
waits_for_promise _ = false

abbrev pub waits_for_started : List Item → Bool
waits_for_started (Held s (Started serials) ∷ r) = true
waits_for_started _ = false

-- what the status says of the first item
abbrev pub StatusFits : Status → List Item → Type 0
StatusFits Running items = waits_for_promise items ≡ false
StatusFits Ticking items = waits_for_started items ≡ true
StatusFits Waiting items = waits_for_promise items ≡ true
StatusFits Done items = items ≡ []
