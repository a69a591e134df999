-- A fact of every statement of a program, by the target in which it stands.
use Rattle.std.specs.Prelude.{ℕ}
use Rattle.machine_spec.specs.Script.{Script, End, Then, Statement, Does, Branches, NoBranch, AndBranch}
use Rattle.machine_spec.specs.Program.{Program, scripts_at}
use Rattle.laws_of_threads.specs.Lists.{Each}

-- every statement of a script has it, those of its branches too
abbrev mutual
  pub EachIn : (Statement → Type 0) → Script → Type 0
  EachIn P End = Unit {0}
  EachIn P (Then s rest) = P s × EachUnder P s × EachIn P rest

  pub EachUnder : (Statement → Type 0) → Statement → Type 0
  EachUnder P (Does place command inputs branches) = EachInOne P branches

  pub EachInOne : (Statement → Type 0) → Branches → Type 0
  EachInOne P NoBranch = Unit {0}
  EachInOne P (AndBranch name branch more) = EachIn P branch × EachInOne P more

-- so it is in every target, hats included
pub record Everywhere (P : ℕ → Statement → Type 0) (p : Program) : Type 0 where
  pub hats : (k : ℕ) → Each (λ h. P k h.hat) (scripts_at k p).heads
  pub heads : (k : ℕ) → Each (λ h. EachIn (P k) h.script) (scripts_at k p).heads
  pub procedures : (k : ℕ) → Each (λ q. EachIn (P k) q.body) (scripts_at k p).procedures
