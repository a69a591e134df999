-- Instances whose costumes can be counted.
use Rattle.machine_spec.specs.declared.instance.Instance.{Instance}
use Rattle.machine_spec.specs.Program.{Records}
use Rattle.machine_spec.specs.Stores.{record_of}
use Rattle.target_records.specs.Costumes.{IsDressed}

-- the target of an instance has a costume, and fewer than 2^32
abbrev pub HasCostumes : Records → Instance → Type 0
HasCostumes records i = IsDressed (record_of i records)
