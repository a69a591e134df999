-- A control of its own thread moves that thread alone.
use Rattle.std.proofs.Common.{◌≡◌, ℕ, nat_lt, Bool, true, false, if◌then◌else◌, List, refl}
use Rattle.machine_spec.specs.Outcome.{Goes, Full, IfGoes, with_room, most_levels}
use Rattle.machine_spec.specs.Script.{Statement}
use Rattle.machine_spec.specs.Program.{Program}
use Rattle.machine_spec.specs.Threads.{Context, Control, Next, Branch, Yield, YieldTick, Promise, Call, StopThis, StopOthers, StopAll, DeleteClone, Start, Clone}
use Rattle.machine_spec.specs.Pending.{Item}
use Rattle.machine_spec.specs.World.{World}
use Rattle.machine_spec.specs.Tasks.{Task, levels}
use Rattle.machine_spec.specs.Step.{act, moved, position}
use Rattle.machine_spec.specs.Laws.{is_own}

room_by : {A : Type 0} (b : Bool) (x : A) → IfGoes (if b then Goes x else Full) (λ y. y ≡ x)
room_by true x = refl
room_by false x = tt

room : {A : Type 0} (n : ℕ) (x : A) → IfGoes (with_room n x) (λ y. y ≡ x)
room n x = room_by (nat_lt n most_levels) x

pub act-position : (p : Program) (i : ℕ) (late : Bool) (t : Task) (s : Statement) (r : List Item) (control : Control) (c : Context) (w : World Task)
    → is_own control ≡ true → IfGoes (act p i late t s r control c w) (λ m. m ≡ moved i (position p late t.warp s r control c) w)
act-position p i late t s r Next c w own = refl
act-position p i late t s r (Branch n is_loop) c w own = room (levels w) _
act-position p i late t s r Yield c w own = refl
act-position p i late t s r YieldTick c w own = refl
act-position p i late t s r Promise c w own = refl
act-position p i late t s r (Call definition params) c w own = room (levels w) _
act-position p i late t s r StopThis c w own = refl
act-position p i late t s r StopOthers c w own = absurd (cc own)
act-position p i late t s r StopAll c w own = absurd (cc own)
act-position p i late t s r DeleteClone c w own = absurd (cc own)
act-position p i late t s r (Start hats wait) c w own = absurd (cc own)
act-position p i late t s r (Clone original) c w own = absurd (cc own)
