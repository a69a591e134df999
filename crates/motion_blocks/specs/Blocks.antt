-- The parts of a run that a block of motion may change, which blocks only move or turn, and what a row leaves.
use Rattle.std.specs.Prelude.{List, Bool, true, false}
use Rattle.rand_core.specs.Stream.{Stream}
use Rattle.script_words.specs.declared.counter.Counted.{Counted}
use Rattle.opcode_table.specs.declared.opcode.Opcode.{Opcode}
use Rattle.opcode_table.specs.declared.opcode.Opcode.TheVariants.{MotionMoveSteps, MotionTurnRight, MotionTurnLeft, MotionPointInDirection, MotionGoToXY, MotionChangeXBy, MotionSetX, MotionChangeYBy, MotionSetY}
use Rattle.machine_spec.specs.declared.instance.Instance.{Instance}
use Rattle.machine_spec.specs.declared.threads.Context.{Context}
use Rattle.machine_spec.specs.declared.threads.Context.TheVariants.{Fresh}
use Rattle.machine_spec.specs.declared.threads.Control.{Control}
use Rattle.machine_spec.specs.declared.threads.Control.TheVariants.{Next}
use Rattle.machine_spec.specs.Words.{Words, seen_words}
use Rattle.machine_spec.specs.Parts.{MotionParts}
use Rattle.machine_spec.specs.View.{Row}

-- the parts of the world that a block of motion may change, as the code holds them
abbrev pub parts_of : {R : Type 0} → (R → Stream) → List Instance → Counted R → MotionParts
parts_of stream targets words = record { targets = targets; words = seen_words stream words }

-- a block that only moves or turns its instance
abbrev pub is_step : Opcode → Bool
is_step MotionMoveSteps = true
is_step MotionTurnRight = true
is_step MotionTurnLeft = true
is_step MotionPointInDirection = true
is_step MotionGoToXY = true
is_step MotionChangeXBy = true
is_step MotionSetX = true
is_step MotionChangeYBy = true
is_step MotionSetY = true
is_step op = false

-- these instances and words are left, with what is kept and what the thread does
abbrev pub leaves : List Instance → Words → Context → Control → Bool → Row MotionParts
leaves targets words context control redraw = record { parts = record { targets = targets; words = words }; context = context; control = control; redraw = redraw }

-- the same, the thread goes on, and nothing is kept
abbrev pub goes_on : List Instance → Words → Bool → Row MotionParts
goes_on targets words redraw = leaves targets words Fresh Next redraw
