-- Names in blocks, as the definitions see them.
use Rattle.std.specs.Prelude.{List, [], ◌∷◌, Option, None, Some}
use Rattle.project_spec.specs.Resolving as told
use Rattle.name_resolving.specs.declared.field_names.Naming.{Naming}
use Rattle.name_resolving.specs.Directory.{sort_in}

abbrev pub naming_in : Naming → told.Naming
naming_in n = record { in_input = n.in_input; part = n.part.now; sort = sort_in n.sort; name = n.name.now }

-- none or one
abbrev pub listed : Option Naming → List told.Naming
listed None = []
listed (Some n) = naming_in n ∷ []
