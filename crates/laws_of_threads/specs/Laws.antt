-- Laws of legal threads, as statements that public functions with empty bodies prove.
use Rattle.std.specs.Prelude.{◌≡◌, ℕ, ◌≤◌, Bool, List, ◌∷◌}
use Rattle.opcode_table.specs.Kinds.{kind}
use Rattle.machine_spec.specs.declared.lines.Budget.{Budget}
use Rattle.machine_spec.specs.declared.lines.Line.{Line}
use Rattle.machine_spec.specs.declared.lines.Line.TheVariants as line
use Rattle.machine_spec.specs.declared.threads.Context.{Context}
use Rattle.machine_spec.specs.declared.threads.Control.{Control}
use Rattle.machine_spec.specs.Words.{Words}
use Rattle.machine_spec.specs.Outcome.{Goes}
use Rattle.machine_spec.specs.Script.{Script, Statement, op_of}
use Rattle.machine_spec.specs.Program.{Program}
use Rattle.machine_spec.specs.Pending.{Item, Do}
use Rattle.machine_spec.specs.Called.{called}
use Rattle.machine_spec.specs.Legal.{Legal}
use Rattle.machine_spec.specs.World.{World}
use Rattle.machine_spec.specs.Tasks.{Task}
use Rattle.machine_spec.specs.Step.{position}
use Rattle.machine_spec.specs.Slice.{slice}
use Rattle.machine_spec.specs.Frame.{frame}
use Rattle.machine_spec.specs.Line.{after}
use Rattle.machine_spec.specs.First.{first_world}
use Rattle.laws_of_threads.specs.Scripts.{IsProgram}
use Rattle.laws_of_threads.specs.Positions.{Sits, ControlFits, Begins}
use Rattle.laws_of_threads.specs.Frames.{IsLegalInFrame, MayRun}
use Rattle.laws_of_threads.specs.Worlds.{IsLegalWorld}

-- each control leaves its thread legal, where the row said what fits the statement
abbrev pub ControlsKeep : Type 0
ControlsKeep =
    (p : Program) (hat : Script) (clock next : ℕ) (late warp : Bool) (s : Statement) (r : List Item) (control : Control) (c : Context)
    → Legal p hat clock (Do s ∷ r) warp → ControlFits clock next (kind (op_of s)) (called p s) c control → Begins (called p s)
    → Sits p hat clock next (position p late warp s r control c)

-- the first world is legal
abbrev pub FirstIsLegal : Type 0
FirstIsLegal = (p : Program) (words : Words) → IsLegalWorld p (first_world p words)

-- a slice of executions that reaches no limit keeps a world legal during a frame, wherever it is cut
abbrev pub SlicesKeep : Type 0
SlicesKeep =
    (p : Program) (budget i n m : ℕ) (w v : World Task) → IsProgram p → MayRun i w → IsLegalInFrame p w → slice p budget i n m w ≡ Goes v
    → IsLegalInFrame p v

-- a frame that reaches no limit keeps a legal world legal, where its clock does not go back
abbrev pub FramesKeep : Type 0
FramesKeep =
    (p : Program) (b : Budget) (w v : World Task) → IsProgram p → w.devices.clock ≤ b.clock → IsLegalWorld p w → frame p b w ≡ Goes v
    → IsLegalWorld p v

-- the clock does not go back with this line
abbrev pub NotBack : Line → World Task → Type 0
NotBack (line.Frame b) w = w.devices.clock ≤ b.clock
NotBack _ w = Unit {0}

-- every line that reaches no limit keeps a legal world legal
abbrev pub LinesKeep : Type 0
LinesKeep =
    (p : Program) (l : Line) (w v : World Task) → IsProgram p → NotBack l w → IsLegalWorld p w → after p l w ≡ Goes v → IsLegalWorld p v
