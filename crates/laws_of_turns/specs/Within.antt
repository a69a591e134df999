-- The numbers that a run computes with are within the limit of numbers, and so are the turns that its loops have left.
use Rattle.std.specs.Prelude.{ℕ, ◌≤◌, unsigned_abs, IfSome}
use Rattle.scratch_number.specs.Number.{IsWithin}
use Rattle.scratch_values.specs.declared.value.Value.{Value}
use Rattle.scratch_values.specs.declared.value.Value.TheVariants.{Number, Truth, Text}
use Rattle.machine_spec.specs.declared.instance.Instance.{Instance}
use Rattle.machine_spec.specs.declared.records.TargetRecord.{TargetRecord}
use Rattle.machine_spec.specs.declared.threads.Context.{Context}
use Rattle.machine_spec.specs.declared.threads.Context.TheVariants.{Repeat, Glide}
use Rattle.machine_spec.specs.declared.threads.Count.{Count}
use Rattle.machine_spec.specs.declared.threads.Count.TheVariants.{Whole, Infinite}
use Rattle.machine_spec.specs.declared.variables.Store.{Store}
use Rattle.machine_spec.specs.Pending.{Item, Do, Held, Returned, Branch, Again, Back}
use Rattle.machine_spec.specs.Program.{Program, scripts_at}
use Rattle.machine_spec.specs.Script.{Expression, Constant, Variable, Contents, Operator, Expressions, NoInput, AndInput, Statement, inputs_of}
use Rattle.machine_spec.specs.Tasks.{Task}
use Rattle.machine_spec.specs.Threads.{Params, most_turns}
use Rattle.machine_spec.specs.World.{World}
use Rattle.laws_of_threads.specs.Lists.{Each}
use Rattle.laws_of_threads.specs.Statements.{Everywhere}

abbrev pub IsValueWithin : Value → Type 0
IsValueWithin (Number n) = IsWithin n
IsValueWithin (Truth b) = Unit {0}
IsValueWithin (Text t) = Unit {0}

-- the turns of a number of the profile
abbrev pub IsCountWithin : Count → Type 0
IsCountWithin (Whole turns) = unsigned_abs turns ≤ most_turns
IsCountWithin Infinite = Unit {0}

-- what is kept: the turns of a loop, and where a glide ends
abbrev pub IsContextWithin : Context → Type 0
IsContextWithin (Repeat turns) = IsCountWithin turns
IsContextWithin (Glide g) = IsWithin g.x1 × IsWithin g.y1
IsContextWithin c = Unit {0}

abbrev pub AreParamsWithin : Params → Type 0
AreParamsWithin params = Each (λ q. IsValueWithin q.1) params

abbrev pub IsItemWithin : Item → Type 0
IsItemWithin (Do s) = Unit {0}
IsItemWithin (Held s c) = IsContextWithin c
IsItemWithin (Returned s params) = AreParamsWithin params
IsItemWithin (Branch s warp) = Unit {0}
IsItemWithin (Again s c warp) = IsContextWithin c
IsItemWithin (Back s params warp) = AreParamsWithin params

abbrev pub IsTaskWithin : Task → Type 0
IsTaskWithin t = Each IsItemWithin t.items

pub record IsInstanceWithin (i : Instance) : Type 0 where
  pub x : IsWithin i.x
  pub y : IsWithin i.y
  pub direction : IsWithin i.direction
  pub size : IsWithin i.size

pub record IsStoreWithin (s : Store) : Type 0 where
  pub values : Each IsValueWithin s.values
  pub lists : Each (Each IsValueWithin) s.lists

pub record IsWorldWithin (w : World Task) : Type 0 where
  pub instances : Each IsInstanceWithin w.targets
  pub stores : Each IsStoreWithin w.variables.stores
  pub listed : Each IsTaskWithin w.threads.list
  pub detached : IfSome w.threads.detached IsTaskWithin

-- the constants of the inputs of a statement
abbrev mutual
  pub IsExpressionWithin : Expression → Type 0
  IsExpressionWithin (Constant v) = IsValueWithin v
  IsExpressionWithin (Variable ref) = Unit {0}
  IsExpressionWithin (Contents ref) = Unit {0}
  IsExpressionWithin (Operator op fields refs inputs) = AreInputsWithin inputs

  pub AreInputsWithin : Expressions → Type 0
  AreInputsWithin NoInput = Unit {0}
  AreInputsWithin (AndInput name e rest) = IsExpressionWithin e × AreInputsWithin rest

abbrev pub IsStatementWithin : (target : ℕ) → Statement → Type 0
IsStatementWithin target s = AreInputsWithin (inputs_of s)

-- where a target stands, its volume, its variables and lists
pub record IsTargetWithin (r : TargetRecord) : Type 0 where
  pub x : IsWithin r.x
  pub y : IsWithin r.y
  pub direction : IsWithin r.direction
  pub size : IsWithin r.size
  pub volume : IsWithin r.volume
  pub variables : Each (λ v. IsValueWithin v.value) r.variables
  pub lists : Each (λ l. Each IsValueWithin l.items) r.lists

pub record IsProgramWithin (p : Program) : Type 0 where
  pub targets : Each IsTargetWithin p.records.targets
  pub statements : Everywhere IsStatementWithin p
  pub defaults : (k : ℕ) → Each (λ q. Each IsValueWithin q.defaults) (scripts_at k p).procedures
