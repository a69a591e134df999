-- Laws of the machine, as statements that public functions with empty bodies prove.
use Rattle.std.specs.Prelude.{◌≡◌, ℕ, zero, suc, ◌+◌, Bool, true, false, List, [], ◌∷◌}
use Rattle.scratch_values.specs.Named.{Arguments}
use Rattle.machine_spec.specs.Outcome.{Outcome, Goes, IfGoes, then_do}
use Rattle.machine_spec.specs.Script.{Statement, Command}
use Rattle.machine_spec.specs.Program.{Program}
use Rattle.machine_spec.specs.Threads.{Context, Control, Next, Branch, Yield, YieldTick, Promise, Call, StopThis, StopOthers, StopAll, DeleteClone, Start, Clone, is_done}
use Rattle.machine_spec.specs.Pending.{Item, Do, Held, Returned, Branch as BranchEnd, Again, Back, settle}
use Rattle.machine_spec.specs.Places.{Everyone}
use Rattle.machine_spec.specs.World.{World}
use Rattle.machine_spec.specs.Tasks.{Task}
use Rattle.machine_spec.specs.Step.{row, act, moved, position}
use Rattle.machine_spec.specs.Slice.{Executing, is_late, counted_after, behind, executing, slice, without_done}

-- Settling

-- the statements that are left to do: markers of loops are executed again, other markers are not
abbrev pub left : List Item → List Statement
left [] = []
left (Do s ∷ r) = s ∷ left r
left (Held s c ∷ r) = s ∷ left r
left (Returned s params ∷ r) = s ∷ left r
left (BranchEnd s w ∷ r) = left r
left (Again s c w ∷ r) = s ∷ left r
left (Back s params w ∷ r) = left r

abbrev pub SettleKeeps : Type 0
SettleKeeps = (items : List Item) (w : Bool) → left (settle items w).items ≡ left items

-- The end of a pass

abbrev pub IsAlive : Task → Type 0
IsAlive t = is_done t.status ≡ false

abbrev pub PassLeaves : Type 0
PassLeaves = (w : World Task) → Everyone IsAlive (without_done w).threads

-- Other threads

abbrev pub RowsTouchNoThread : Type 0
RowsTouchNoThread =
    (p : Program) (d : Command) (a : Arguments) (here thread : ℕ) (c : Context) (w : World Task)
    → IfGoes (row p d a here thread c w) (λ x. x.world.threads ≡ w.threads)

-- a control that is of its own thread alone
abbrev pub is_own : Control → Bool
is_own Next = true
is_own (Branch n is_loop) = true
is_own Yield = true
is_own YieldTick = true
is_own Promise = true
is_own (Call definition params) = true
is_own StopThis = true
is_own StopOthers = false
is_own StopAll = false
is_own DeleteClone = false
is_own (Start hats wait) = false
is_own (Clone original) = false

-- then the running thread stands elsewhere, and nothing else has changed
abbrev pub OwnControlsMoveOne : Type 0
OwnControlsMoveOne =
    (p : Program) (i : ℕ) (late : Bool) (t : Task) (s : Statement) (r : List Item) (control : Control) (c : Context) (w : World Task)
    → is_own control ≡ true → IfGoes (act p i late t s r control c w) (λ m. m ≡ moved i (position p late t.warp s r control c) w)

-- Slices

-- at most n executions, and then what follows, which is given how many were counted
unfoldable pub executions : {W : Type 0} → Executing W → (budget n m : ℕ) → W → (ℕ → W → Outcome W) → Outcome W
executions e budget zero m w rest = rest m w
executions e budget (suc n) m w rest =
    then_do (e.execute (is_late budget m) w)
    (behind e budget (counted_after m (e.flag w)) (e.flag w) (λ v. executions e budget n (counted_after m (e.flag w)) v rest))

-- a slice of a thread is its executions and then nothing
abbrev pub SliceIsExecutions : Type 0
SliceIsExecutions =
    (p : Program) (budget i n m : ℕ) (w : World Task)
    → slice p budget i n m w ≡ executions (executing p i) budget n m w (λ k v. Goes v)

-- n and more executions are n, and then the others
abbrev pub ExecutionsJoin : Type 0
ExecutionsJoin =
    (p : Program) (budget i n more m : ℕ) (w : World Task) (rest : ℕ → World Task → Outcome (World Task))
    → executions (executing p i) budget (n + more) m w rest
    ≡ executions (executing p i) budget n m w (λ k v. executions (executing p i) budget more k v rest)
