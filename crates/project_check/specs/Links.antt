-- What links the blocks of a project have.
use Rattle.std.specs.Prelude.{ℕ}
use Rattle.project_spec.specs.Linked.{IsClosed, AreRanks}
use Rattle.project_check.specs.declared.project.Project.{Project}
use Rattle.project_check.specs.Loaded.{blocks_at, ranks_at}

-- in every target of every project each link that names a block leads to one of the target's, and a rank falls along it
abbrev pub EachIsLinked : Type 0
EachIsLinked = (p : Project) (t : ℕ) → IsClosed (blocks_at t p) × AreRanks (blocks_at t p) (ranks_at t p)
