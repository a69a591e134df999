-- What is asked of a program: its statements stand in their targets, and its procedures begin with a statement.
use Rattle.std.specs.Prelude.{◌≡◌, ℕ, length}
use Rattle.machine_spec.specs.Script.{Script, End, Then, Statement, Does, Branches, NoBranch, AndBranch}
use Rattle.machine_spec.specs.Program.{Program, Procedure, scripts_at}
use Rattle.laws_of_threads.specs.Lists.{Each}

-- every statement of a script stands in the target k
abbrev mutual
  pub Within : ℕ → Script → Type 0
  Within k End = Unit {0}
  Within k (Then s rest) = StatementWithin k s × Within k rest

  pub StatementWithin : ℕ → Statement → Type 0
  StatementWithin k (Does place command inputs branches) = (place.target ≡ k) × BranchesWithin k branches

  pub BranchesWithin : ℕ → Branches → Type 0
  BranchesWithin k NoBranch = Unit {0}
  BranchesWithin k (AndBranch name branch more) = Within k branch × BranchesWithin k more

-- it is not empty
abbrev pub IsThen : Script → Type 0
IsThen End = ⊥
IsThen (Then s rest) = Unit {0}

-- a procedure of the target k: its script is not empty, and each parameter has an id, a name and a default
pub record IsProcedure (k : ℕ) (q : Procedure) : Type 0 where
  pub within : Within k q.body
  pub begins : IsThen q.body
  pub named : length q.ids ≡ length q.names
  pub defaulted : length q.names ≡ length q.defaults

-- so it is in every target
pub record IsProgram (p : Program) : Type 0 where
  pub heads : (k : ℕ) → Each (λ h. Within k h.script) (scripts_at k p).heads
  pub procedures : (k : ℕ) → Each (IsProcedure k) (scripts_at k p).procedures
