-- The blocks of a target: every link that names a block leads to one, and a rank falls along it.
use Rattle.std.specs.Prelude.{ℕ, List}
use Rattle.project_spec.specs.Linked.{IsClosed, AreRanks}
use Rattle.project_spec.specs.Trees.{Sheet}

pub record IsRanked (sheet : Sheet) : Type 0 where
  pub ranks : List ℕ
  pub falls : AreRanks sheet.blocks ranks
  pub closed : IsClosed sheet.blocks
