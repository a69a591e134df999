-- Which blocks act on other threads or on instances.
use Rattle.std.specs.Prelude.{Bool, true, false}
use Rattle.opcode_table.specs.declared.opcode.Opcode.{Opcode}
use Rattle.opcode_table.specs.declared.opcode.Opcode.TheVariants.{ControlStop, ControlCreateCloneOf, ControlDeleteThisClone, EventBroadcast, EventBroadcastAndWait}
use Rattle.opcode_table.specs.declared.kinds.Kind.{Kind}
use Rattle.opcode_table.specs.declared.kinds.Kind.TheVariants.{Starts, Plain}

-- kinds whose blocks may act on other threads
abbrev pub acts_on_others : Kind → Bool
acts_on_others Starts = true
acts_on_others Plain = true
acts_on_others _ = false

-- whether a block acts on its own thread alone: it stops no other script, makes and deletes no clone and sends no message
abbrev pub acts_alone : Opcode → Bool
acts_alone ControlStop = false
acts_alone ControlCreateCloneOf = false
acts_alone ControlDeleteThisClone = false
acts_alone EventBroadcast = false
acts_alone EventBroadcastAndWait = false
acts_alone _ = true
