-- Targets whose costumes can be counted.
use Rattle.std.specs.Prelude.{◌<◌, ◌^◌, length}
use Rattle.machine_spec.specs.declared.records.TargetRecord.{TargetRecord}

-- a target has a costume, and fewer than 2^32 of them
abbrev pub IsDressed : TargetRecord → Type 0
IsDressed t = (0 < length t.costumes) × (length t.costumes < 2 ^ 32)
