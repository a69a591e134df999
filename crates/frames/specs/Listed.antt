-- An edge hat of a live instance; the contracts of private functions alone cite this file.
use Rattle.std.specs.Prelude.{◌≡◌, List}
use Rattle.machine_spec.specs.declared.instance.Instance.{Instance}
use Rattle.machine_spec.specs.Starting.{Pair}
use Rattle.project_check.specs.declared.project.Project.{Project}
use Rattle.hats.specs.declared.edge_hats.EdgeHat.{EdgeHat}
use Rattle.hats.specs.Edges.{edge_of}
use Rattle.hats.specs.Heads.{IsHeadOf}

-- the edge hat is of a hat of one of these instances
pub record IsListed (p : Project) (is : List Instance) (edge : EdgeHat) : Type 0 where
  pub pair : Pair
  pub same : edge_of pair ≡ edge
  pub head : IsHeadOf p is pair
