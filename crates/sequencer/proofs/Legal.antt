-- What each line keeps, said of a call that applies one.
use Rattle.std.proofs.Common.{◌≡◌}
use Rattle.std.specs.Prelude.{Result, Ok, Err, IfOk, OnOk}
use Rattle.machine_spec.specs.declared.lines.Line.{Line}
use Rattle.machine_spec.specs.Line.{after}
use Rattle.machine_spec.specs.Outcome.{Goes}
use Rattle.machine_spec.specs.Program.{Program}
use Rattle.machine_spec.specs.Tasks.{Task}
use Rattle.machine_spec.specs.World.{World}
use Rattle.laws_of_worlds.specs.Laws.{LinesKeepLegal}
use Rattle.laws_of_worlds.specs.Runs.{KeepsLegal}

pub legal_behind : {A E : Type 0} (r : Result A E) (p : Program) (l : Line) (w v : World Task) → LinesKeepLegal → IfOk r (λ _. after p l w ≡ Goes v) → OnOk r (KeepsLegal p l w v)
legal_behind (Ok a) p l w v law h = law p l w v h
legal_behind (Err e) p l w v law h = tt
