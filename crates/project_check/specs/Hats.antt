-- The hats of a project, as its index gives them.
use Rattle.std.specs.Prelude.{map}
use Rattle.hat_index.specs.declared.index.HatIndex.{HatIndex}
use Rattle.hat_index.specs.Index.{found, IsIndex}
use Rattle.project_check.specs.declared.project.Project.{Project}
use Rattle.project_check.specs.Heads.{head_numbers}
use Rattle.project_check.specs.Loaded.{tables_of}

-- the index has exactly the heads of the project that are hats, each under its target, its opcode and the folded text of its
-- field, in block order
abbrev pub IsIndexOf : Project → HatIndex → Type 0
IsIndexOf p index = IsIndex (found index) (tables_of p) (map head_numbers (tables_of p))
