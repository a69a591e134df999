-- What a data block does to the variables and words of a run; it restates the rows of the reference machine for this crate's
-- functions.
use Rattle.std.specs.Prelude.{ℕ, List, codes}
use Rattle.rand_core.specs.Stream.{Stream}
use Rattle.script_words.specs.declared.counter.Counted.{Counted}
use Rattle.opcode_table.specs.declared.opcode.Opcode.{Opcode}
use Rattle.scratch_values.specs.Named.{Arguments}
use Rattle.machine_spec.specs.Outcome.{Outcome}
use Rattle.machine_spec.specs.Program.{Records}
use Rattle.machine_spec.specs.declared.instance.Instance.{Instance}
use Rattle.machine_spec.specs.Stores.{Variables}
use Rattle.machine_spec.specs.Words.{seen_words}
use Rattle.machine_spec.specs.Parts.{DataParts}
use Rattle.machine_spec.specs.DataRows.{named, data_by}

-- the parts of the world that a data block may change, as the code holds them
abbrev pub parts_of : {R : Type 0} → (R → Stream) → Variables → Counted R → DataParts
parts_of stream variables words = record { variables = variables; words = seen_words stream words }

-- what a block of an instance does to these parts
abbrev pub row : Opcode → Arguments → (here : ℕ) → Records → List Instance → DataParts → Outcome DataParts
row op args here records targets parts =
    data_by (named (codes "VARIABLE") args here records) (named (codes "LIST") args here records) targets op args parts
