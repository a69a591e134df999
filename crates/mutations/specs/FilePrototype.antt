-- A prototype as a project file has it, whose defaults may be longer than the values of a run.
use Rattle.std.specs.Prelude.{map}
use Rattle.project_spec.specs.FileValues.{value_in}
use Rattle.project_spec.specs.declared.blocks.Prototype.{Prototype}
use Rattle.mutations.specs.declared.prototype.FilePrototype.{FilePrototype}

-- the prototype
abbrev pub prototype_of : FilePrototype → Prototype
prototype_of q = record { code = q.code; ids = q.ids; names = q.names; defaults = map value_in q.defaults; warp = q.warp }
