-- What a block that starts other threads can have kept then: nothing.
use Rattle.std.specs.Prelude.{Bool, true, false}
use Rattle.opcode_table.specs.declared.kinds.Kind.{Kind}
use Rattle.opcode_table.specs.declared.kinds.Kind.TheVariants.{Starts, Plain}
use Rattle.machine_spec.specs.declared.threads.Context.{Context}
use Rattle.machine_spec.specs.declared.threads.Context.TheVariants.{Started}

-- kinds whose blocks may start other threads, and what they had kept then
abbrev pub was_afresh : Kind → Context → Bool
was_afresh Starts (Started serials) = false
was_afresh Starts _ = true
was_afresh Plain _ = true
was_afresh _ _ = false
