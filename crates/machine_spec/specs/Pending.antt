-- What a thread has still to do, first things first: the stack of scratch-vm (engine/thread.js) as one flat list.
pub use Rattle.machine_spec.specs.declared.threads.Report.{Report}
pub use Rattle.machine_spec.specs.declared.threads.Report.TheVariants.{Go, Uncovered, Yielded, Ticked, Waits, Ended}
use Rattle.std.specs.Prelude.{ℕ, zero, suc, ◌+◌, Bool, true, false, not, ◌||◌, ◌&&◌, if◌then◌else◌, List, [], ◌∷◌, ◌++◌, bytes_eq}
use Rattle.machine_spec.specs.Script.{Script, End, Then, Statement, command_of}
use Rattle.machine_spec.specs.Program.{Procedure}
use Rattle.machine_spec.specs.Threads.{Params, Context, Fresh}

-- Do: still to be done. Held: was executed and keeps a context. Returned: a call whose procedure was left, which is
-- executed once more and still sees its parameters. The others are markers, each with the warp flag to restore: a branch
-- ends here; a loop is executed again with a context; a call returns here, with its parameters.
pub data Item : Type 0 where
  Do : (s : Statement) → Item
  Held : (s : Statement) (c : Context) → Item
  Returned : (s : Statement) (params : Params) → Item
  Branch : (s : Statement) (warp : Bool) → Item
  Again : (s : Statement) (c : Context) (warp : Bool) → Item
  Back : (s : Statement) (params : Params) (warp : Bool) → Item

-- each statement of a script is to be done
abbrev pub dos : Script → List Item
dos End = []
dos (Then s rest) = Do s ∷ dos rest

-- where a thread stands after an execution
pub record Position : Type 0 where
  pub items : List Item
  pub warp : Bool
  pub report : Report

-- nothing is left
abbrev pub gone : Position
gone = record { items = []; warp = false; report = Ended }

abbrev pub going : List Item → Bool → Position
going items w = record { items = items; warp = w; report = Go }

-- drops the markers in front; a loop is to be executed again
abbrev pub settle : List Item → Bool → Position
settle [] w = gone
settle (Do s ∷ r) w = going (Do s ∷ r) w
settle (Held s c ∷ r) w = going (Held s c ∷ r) w
settle (Returned s ps ∷ r) w = going (Returned s ps ∷ r) w
settle (Branch s v ∷ r) w = settle r v
settle (Back s ps v ∷ r) w = settle r v
settle (Again s c v ∷ r) w = record { items = Held s c ∷ r; warp = v; report = Uncovered }

-- drops everything before the innermost call, which is executed once more
abbrev pub unwind : List Item → Position
unwind [] = gone
unwind (Do s ∷ r) = unwind r
unwind (Held s c ∷ r) = unwind r
unwind (Returned s ps ∷ r) = unwind r
unwind (Branch s v ∷ r) = unwind r
unwind (Again s c v ∷ r) = unwind r
unwind (Back s ps v ∷ r) = going (Returned s ps ∷ r) v

-- the statement with what it keeps for its next execution
abbrev pub kept : Statement → Context → Item
kept s Fresh = Do s
kept s c = Held s c

-- the marker under a branch
abbrev pub branch_marker : (is_loop : Bool) → Statement → Context → Bool → Item
branch_marker true s c w = Again s c w
branch_marker false s c w = Branch s w

-- how many markers there are
abbrev pub markers : List Item → ℕ
markers [] = 0
markers (Do s ∷ r) = markers r
markers (Held s c ∷ r) = markers r
markers (Returned s ps ∷ r) = markers r
markers (Branch s w ∷ r) = markers r + 1
markers (Again s c w ∷ r) = markers r + 1
markers (Back s ps w ∷ r) = markers r + 1

-- the parameters of the innermost call: those that the first statement sees
abbrev pub params_in : List Item → Params
params_in [] = []
params_in (Do s ∷ r) = params_in r
params_in (Held s c ∷ r) = params_in r
params_in (Returned s ps ∷ r) = ps
params_in (Branch s w ∷ r) = params_in r
params_in (Again s c w ∷ r) = params_in r
params_in (Back s ps w ∷ r) = ps

-- one of the first n markers is a call of this code (scratch-vm, engine/thread.js, isRecursiveCall)
abbrev pub is_recursive : List ℕ → ℕ → List Item → Bool
is_recursive code n [] = false
is_recursive code n (Do s ∷ r) = is_recursive code n r
is_recursive code n (Held s c ∷ r) = is_recursive code n r
is_recursive code n (Returned s ps ∷ r) = is_recursive code n r
is_recursive code zero (Branch s w ∷ r) = false
is_recursive code zero (Again s c w ∷ r) = false
is_recursive code zero (Back s ps w ∷ r) = false
is_recursive code (suc n) (Branch s w ∷ r) = is_recursive code n r
is_recursive code (suc n) (Again s c w ∷ r) = is_recursive code n r
is_recursive code (suc n) (Back s ps w ∷ r) = bytes_eq (command_of s).code code || is_recursive code n r

-- how many levels a call looks at
abbrev pub levels_looked_at : ℕ
levels_looked_at = 6

-- a call yields where warp time has passed at a warp flag, or where it is recursive and not warp
abbrev pub call_report : (warp late is_warp recursive : Bool) → Report
call_report warp late is_warp recursive = if warp && late || not is_warp && recursive then Yielded else Go

-- a procedure is entered: its body, then the marker of the call
abbrev pub entered : (late warp : Bool) → Statement → List Item → Procedure → Params → Position
entered late warp s r q params = record {
  items = dos q.body ++ Back s params warp ∷ r;
  warp = warp || q.warp;
  report = call_report warp late q.warp (is_recursive q.code levels_looked_at r);
}
